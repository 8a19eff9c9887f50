use Rattle.std.proofs.Common.{ℕ, ◌<◌, List, length, sym, subst}
use Rattle.std.specs.Prelude.{All}
use Rattle.open_time.proofs.Inserted.{with_pairing-within}
use Rattle.open_time.proofs.moves.line_with.Goals as goal

pub returns-clause-known : goal.returns-clause-known
returns-clause-known c =
    subst (λ (xs : List ℕ). All (λ p. p < length c.args.problem.now.base.pairings) xs) (sym c.in_ok-made.ensures.value)
    (with_pairing-within c.args.line.now c.args.pairing (length c.args.problem.now.base.pairings) c.requires.known c.requires.pairing)
