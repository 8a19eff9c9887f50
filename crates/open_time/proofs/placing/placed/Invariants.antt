use Rattle.std.proofs.Common.{◌+◌, ◌≤◌}
use Rattle.open_time.specs.Moves.{IsKept, open_pairings}
use Rattle.open_time.proofs.placing.placed.Given as goal

abbrev pub invariant-loop-sweep : goal.invariant-loop-sweep
invariant-loop-sweep l = record {
  kept : IsKept l.problem l.crew l.fn.roster l.current;
  few : open_pairings l.problem l.crew l.current + l._sweep ≤ open_pairings l.problem l.crew l.fn.roster;
}
