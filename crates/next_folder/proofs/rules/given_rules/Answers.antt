use Rattle.std.proofs.lemmas.Bool.{false≢true}
use Rattle.std.proofs.lemmas.Result.{err_from_is_err_and}
use Rattle.next_folder.specs.Texts.{view_theirs}
use Rattle.next_folder.proofs.Bars.{bars_other, bars_rules}
use Rattle.next_folder.proofs.rules.given_rules.Goals as goal

pub returns-in_err-rules-clause-cause : goal.returns-in_err-rules-clause-cause
returns-in_err-rules-clause-cause c = λ ours force roster month.
    let p = err_from_is_err_and c.from_residual.result c.from_residual.ensures.1 in
    rw (p.1, p.2) (bars_rules ours (view_theirs c.args.theirs.now) force c.args.problem.now roster month c.args.text.now c.requires.there c.in_err-rules.field-0.0 c.in_err-rules.ensures.value)

pub returns-then-not-follows-clause-cause : goal.returns-then-not-follows-clause-cause
returns-then-not-follows-clause-cause c = λ ours force roster month.
    bars_other ours (view_theirs c.args.theirs.now) force c.args.problem.now roster month c.args.text.now c.requires.there c.in_ok-rules.rules c.in_ok-rules.ensures.value (λ f. false≢true (c.if-not-follows.ensures.answer.1 f))
