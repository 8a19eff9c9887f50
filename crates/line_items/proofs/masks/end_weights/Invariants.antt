use Rattle.std.proofs.Common.{◌≡◌, ◌<◌, ℕ, length}
use Rattle.std.specs.Prelude.{slice_index}
use Rattle.line_items.specs.Masks.{end_weight}
use Rattle.line_items.proofs.masks.end_weights.Given as goal

abbrev pub invariant-loop-bid : goal.invariant-loop-bid
invariant-loop-bid l = record {
  bits : length l.weights ≡ 64;
  weights : (b : ℕ) → b < l.bid → slice_index l.weights b ≡ end_weight l.bids l.asked b;
}
