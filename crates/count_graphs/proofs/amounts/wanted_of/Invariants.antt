use Rattle.std.proofs.Common.{◌≡◌, ◌<◌, ℕ, get_or, length}
use Rattle.count_graphs.specs.Counts.{wanted_by}
use Rattle.count_graphs.proofs.amounts.wanted_of.Given as goal

abbrev pub invariant-loop-k : goal.invariant-loop-k
invariant-loop-k l = record {
  long : length l.wanted ≡ 8;
  each : (j : ℕ) → j < l.k → get_or l.wanted j 0 ≡ wanted_by l.problem l.member (get_or l.slots j 0);
}
