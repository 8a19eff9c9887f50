use Rattle.std.proofs.Common.{ℕ, List}
use Rattle.roster_model.specs.Rosters.{IsComplete}
use Rattle.open_time.specs.Moves.{IsSwept}
use Rattle.open_time.proofs.placing.sweep_line.Given as goal

abbrev pub invariant-loop-pairing : goal.invariant-loop-pairing
invariant-loop-pairing l = record {
  complete : IsComplete l.problem l.current.roster;
  swept :
      (first : List (List ℕ)) → IsSwept l.problem l.crew l.giver 0 first l.fn.swept.roster l.fn.swept.moves
      → IsSwept l.problem l.crew l.giver l.pairing first l.current.roster l.current.moves;
}
