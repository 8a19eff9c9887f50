use Rattle.std.proofs.Common.{◌≡◌, ◌<◌, ◌^◌, ℕ, neg_ℤ, pos, get_or}
use Rattle.chain_search.proofs.table.clear.Given as goal

abbrev pub invariant-loop-state : goal.invariant-loop-state
invariant-loop-state l = (k : ℕ) → k < l.state → get_or l.row k (pos 0) ≡ neg_ℤ (pos (2 ^ 60))
