use Rattle.std.proofs.Common.{arith, ◌++◌}
use Rattle.std.specs.Prelude.{codes}
use Rattle.roster_model.specs.declared.bid.Atom.{Atom}
use Rattle.bid_language.specs.Spelling.{atom_text}
use Rattle.bid_language.proofs.Written.{partly_piece}
use Rattle.bid_language.proofs.printing.put_more.Goals as goal

pub returns-in-Err-clause-partly : goal.returns-in-Err-clause-partly
returns-in-Err-clause-partly c =
    partly_piece (λ (a : Atom). codes " and " ++ atom_text c.args.pairings.now a) c.args.atoms.now c.loop-atom.atom-index c.atom-item.result c.args.out.now c.loop-atom.out c.put_and.new.out
    (omega arith) c.atom-item.is c.loop-atom.invariant c.in-Err.ensures.partly
