use Rattle.std.proofs.Common.{◌≡◌, ◌<◌, ℕ, ◌≤ℤ◌, ◌^◌, neg_ℤ, if◌then◌else◌, pos, get_or, length, true}
use Rattle.label_setter.specs.Meters.{IsBetween}
use Rattle.chain_search.proofs.table.sink_row.Given as goal

abbrev pub invariant-loop-state : goal.invariant-loop-state
invariant-loop-state g l = record {
  long : length l.row.items ≡ l.state;
  between : IsBetween 0 l.row.items;
  value : (state : ℕ) → state < l.state → get_or l.row.items state (pos 0) ≡ (if g.C.Coarse.ends l.coarse state then pos 0 else neg_ℤ (pos (2 ^ 60)));
  ends : (state : ℕ) → state < l.state → g.C.Coarse.ends l.coarse state ≡ true → pos 0 ≤ℤ get_or l.row.items state (pos 0);
}
