use Rattle.std.proofs.Common.{refl}
use Rattle.std.proofs.lemmas.Result.{on_err_weaker}
use Rattle.std.specs.Prelude.{codes}
use Rattle.bid_language.specs.Spelling.{atom_text}
use Rattle.field_text.proofs.Prefixes.{partly_back}
use Rattle.field_text.proofs.Prefixes.{on_err_is, partly_front}
use Rattle.bid_language.proofs.printing.put_and.Goals as goal

pub returns-clause-partly : goal.returns-clause-partly
returns-clause-partly c =
    on_err_weaker c.put_atom.result
    (λ h. partly_back c.args.out.now (codes " and ") (atom_text c.args.pairings.now c.args.atom.now) (atom_text c.args.pairings.now c.args.atom.now) c.put_bytes.new.out c.put_atom.new.out refl c.in_ok-put_bytes.ensures.whole h)
    c.put_atom.ensures.partly

pub returns-in_err-put_bytes-clause-partly : goal.returns-in_err-put_bytes-clause-partly
returns-in_err-put_bytes-clause-partly c =
    on_err_is c.from_residual.result (partly_front c.args.out.now (codes " and ") (atom_text c.args.pairings.now c.args.atom.now) c.put_bytes.new.out c.in_err-put_bytes.ensures.partly)
