use Rattle.std.proofs.Common.{◌<◌, ℕ, List, length, sym, subst}
use Rattle.std.specs.Prelude.{All}
use Rattle.weight_certificates.proofs.Lines.{decided_line-in_range}
use Rattle.weight_certificates.proofs.fixed.is_misfit.Goals as goal

pub serves-requires-clause-pairings : goal.serves-requires-clause-pairings
serves-requires-clause-pairings c =
    subst (λ (line : List ℕ). All (λ p. p < length c.args.problem.now.base.pairings) line) (sym c.in_ok-line.ensures.line) (decided_line-in_range c.args.problem.now c.args.node.now c.args.member)
