use Rattle.open_time.specs.Moves.{IsSwept}
use Rattle.open_time.proofs.placing.sweep.Given as goal

abbrev pub invariant-loop-giver : goal.invariant-loop-giver
invariant-loop-giver l = IsSwept l.problem l.crew l.giver 0 l.fn.roster l.current.roster l.current.moves
