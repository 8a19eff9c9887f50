use Rattle.std.proofs.Common.{List, ℕ, subst}
use Rattle.std.proofs.lemmas.Result.{err_from_is_err_and}
use Rattle.bid_language.specs.Lines.{bids_in}
use Rattle.bid_language.specs.Sheets as sheets
use Rattle.whatif_commands.specs.AskingTexts.{view_asked}
use Rattle.whatif_commands.proofs.AskingEnds.{unasked_bids}
use Rattle.whatif_commands.proofs.question.other_month.Goals as goal

pub returns-in_err-bids-clause-unasked : goal.returns-in_err-bids-clause-unasked
returns-in_err-bids-clause-unasked c =
    let p = err_from_is_err_and c.from_residual.result c.from_residual.ensures.1 in
    rw (p.1, p.2) (λ name. unasked_bids name (view_asked c.args.texts.now) c.args.problem.now c.requires.names
    c.in_err-bids.field-0.0.code c.in_err-bids.field-0.0
    (subst (λ (b : List ℕ). sheets.FailsBy c.in_err-bids.field-0.0.code c.in_err-bids.field-0.0 (bids_in c.args.problem.now.base b)) c.deref.ensures.value c.in_err-bids.ensures.read))
