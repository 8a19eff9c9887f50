use Rattle.open_time.specs.Moves.{IsSettling}
use Rattle.open_time.proofs.settling.improved.Given as goal

abbrev pub invariant-loop-round : goal.invariant-loop-round
invariant-loop-round l = IsSettling l.problem l.crew l.fn.roster l.current
