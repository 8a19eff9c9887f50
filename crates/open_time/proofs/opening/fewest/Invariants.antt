use Rattle.open_time.proofs.Openings.{HasTried}
use Rattle.open_time.proofs.opening.fewest.Given as goal

abbrev pub invariant-loop-count : goal.invariant-loop-count
invariant-loop-count g l = goal.M-IsAlwaysCallable g l.make × HasTried l.problem l.ceiling l.nodes l.count l.none
