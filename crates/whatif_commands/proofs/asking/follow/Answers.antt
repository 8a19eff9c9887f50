use Rattle.std.proofs.lemmas.Result.{err_from_is_err_and}
use Rattle.whatif_commands.specs.AskingTexts.{view_claimed}
use Rattle.whatif_commands.proofs.AskingLaws.{unread_claim, ends_claim, has_whatif, handed_claim, handed_whatif}
use Rattle.whatif_commands.proofs.asking.follow.Goals as goal

pub returns-in_err-claimed-clause-told : goal.returns-in_err-claimed-clause-told
returns-in_err-claimed-clause-told g c = λ files told name asked.
    let p = err_from_is_err_and c.from_residual.result c.from_residual.ensures.1 in
    rw (p.1, p.2) (unread_claim files name c.args.nodes c.args.question.now asked c.in_err-claimed.field-0.0 (c.in_err-claimed.ensures.told files told))

pub returns-in-Ok-clause-told : goal.returns-in-Ok-clause-told
returns-in-Ok-clause-told g c = λ files told name asked.
    c.write_again.ensures.told files name c.args.nodes
    (has_whatif files name c.args.nodes c.args.question.now asked (view_claimed c.in_ok-claimed.claimed) (c.in_ok-claimed.ensures.told files told) c.in-Ok.found c.in-Ok.ensures.end)

pub returns-in-Ok-clause-handed : goal.returns-in-Ok-clause-handed
returns-in-Ok-clause-handed g c = λ old name asked.
    c.write_again.ensures.handed old name c.args.nodes
    (handed_whatif old _ _ name c.args.nodes c.args.question.now asked (view_claimed c.in_ok-claimed.claimed) c.in_ok-claimed.ensures.logged c.in_ok-claimed.ensures.brief
    c.in-Ok.found c.in-Ok.ensures.end)

pub returns-clause-told : goal.returns-clause-told
returns-clause-told g c = λ files told name asked.
    ends_claim files name c.args.nodes c.args.question.now asked (view_claimed c.in_ok-claimed.claimed) (c.in_ok-claimed.ensures.told files told) c.in-Err.stop c.in-Err.ensures.end

pub returns-clause-handed : goal.returns-clause-handed
returns-clause-handed g c = λ old name asked.
    handed_claim old _ _ name c.args.nodes c.args.question.now asked (view_claimed c.in_ok-claimed.claimed) c.in_ok-claimed.ensures.logged c.in_ok-claimed.ensures.brief
    c.in-Err.stop c.in-Err.ensures.end
