use Rattle.std.proofs.Common.{◌≡◌, ◌≤◌, ◌<◌, ℕ, get_or, length}
use Rattle.term_lines.specs.Slacks.{free_before}
use Rattle.term_lines.proofs.slacks.counters_before.Given as goal

abbrev pub invariant-loop-k : goal.invariant-loop-k
invariant-loop-k g l = record {
  long : length l.least ≡ length l.here;
  within : (j : ℕ) → get_or l.least j 0 ≤ get_or l.here j 0;
  before : (j : ℕ) → j < l.k → get_or l.least j 0 ≤ free_before (get_or l.next j 0) (get_or l.step.caps j 0) (get_or l.step.amounts j 0);
}
