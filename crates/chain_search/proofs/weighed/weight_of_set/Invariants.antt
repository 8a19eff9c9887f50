use Rattle.std.proofs.Common.{◌≡◌, ◌+◌}
use Rattle.std.specs.Prelude.{slice_index}
use Rattle.chain_search.specs.BitLaws.{set_sum}
use Rattle.chain_search.proofs.weighed.weight_of_set.Given as goal

abbrev pub invariant-loop-left : goal.invariant-loop-left
invariant-loop-left l = l.total + set_sum l.left (slice_index l.weights) 64 ≡ set_sum l.bits (slice_index l.weights) 64

abbrev pub decreases-loop-left : goal.decreases-loop-left
decreases-loop-left l = set_sum l.left (λ place. 1) 64
