use Rattle.std.proofs.Common.{ℕ, ◌<◌, List, length, sym, subst}
use Rattle.std.specs.Prelude.{All}
use Rattle.open_time.proofs.Moving.{line_known}
use Rattle.open_time.proofs.moves.known_line.Goals as goal

pub returns-clause-known : goal.returns-clause-known
returns-clause-known c =
    subst (λ (xs : List ℕ). All (λ p. p < length c.args.problem.now.base.pairings) xs) (sym c.line_at.ensures.line)
    (line_known c.args.problem.now c.args.roster.now c.args.member c.requires.complete c.requires.member)
