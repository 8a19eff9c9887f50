use Rattle.std.proofs.Common.{◌≡◌, ◌<◌, ℕ, get_or, length}
use Rattle.std.specs.Prelude.{if◌then◌else◌}
use Rattle.count_graphs.specs.Counts.{counts_for}
use Rattle.count_graphs.proofs.amounts.amounts_of.Given as goal

abbrev pub invariant-loop-k : goal.invariant-loop-k
invariant-loop-k l = record {
  long : length l.amounts ≡ 8;
  each : (j : ℕ) → j < l.k → get_or l.amounts j 0 ≡ (if counts_for l.problem l.member (get_or l.slots j 0) l.pairing then 1 else 0);
}
