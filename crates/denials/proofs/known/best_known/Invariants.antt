use Rattle.std.proofs.Common.{◌<◌, ◌≤◌, ◌+◌, length}
use Rattle.denials.specs.Known.{IsKnown}
use Rattle.denials.proofs.known.best_known.Given as goal

abbrev pub invariant-loop-at : goal.invariant-loop-at
invariant-loop-at l = record {
  within : l.place ≤ length l.problem.base.members + 1;
  best : 0 < l.place → IsKnown l.problem l.scores l.bid l.known l.best l.place;
}
