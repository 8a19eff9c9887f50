use Rattle.std.proofs.Common.{refl}
use Rattle.std.proofs.lemmas.Result.{on_err_weaker}
use Rattle.bid_language.specs.Spelling.{atom_text, more_text}
use Rattle.field_text.proofs.Prefixes.{on_err_is, partly_front, partly_back}
use Rattle.bid_language.proofs.printing.put_filter.Goals as goal

pub returns-in_err-put_atom-clause-partly : goal.returns-in_err-put_atom-clause-partly
returns-in_err-put_atom-clause-partly c =
    let ps = c.args.pairings.now in
    rw c.in-Some.ensures.cases.0
    (on_err_is c.from_residual.result (partly_front c.args.out.now (atom_text ps c.in-Some.first.now) (more_text ps c.in-Some.others.now) c.put_atom.new.out c.in_err-put_atom.ensures.partly))

pub returns-clause-partly : goal.returns-clause-partly
returns-clause-partly c =
    let ps = c.args.pairings.now in
    rw c.in-Some.ensures.cases.0
    (on_err_weaker c.put_more.result
    (λ h. partly_back c.args.out.now (atom_text ps c.in-Some.first.now) (more_text ps c.in-Some.others.now) (more_text ps c.in-Some.others.now) c.put_atom.new.out c.put_more.new.out refl c.in_ok-put_atom.ensures.whole h)
    c.put_more.ensures.partly)
