-- The numbers of arcs in the order of the places to which they lead.
use Rattle.std.specs.List.Sorted.{IsNonDecreasingBy, IsPermutation}
use Rattle.std.specs.List.{range_with_len}
use Rattle.std.specs.Prelude.{◌≡◌, ◌<◌, ◌≤◌, ℕ, List, Some, length, slice_get}
use Rattle.label_setter.specs.Chains.{end_of}
use Rattle.label_setter.specs.declared.graph.Arc.{Arc}

pub record IsArcOrder {S : Type 0} (arcs : List (Arc S)) (order : List ℕ) : Type 0 where
  pub moved : IsPermutation (range_with_len 0 (length arcs)) order
  pub sorted : IsNonDecreasingBy (end_of arcs) order

-- the first so many arcs are those that lead to an earlier place
pub record IsUpTo {S : Type 0} (arcs : List (Arc S)) (order : List ℕ) (next place : ℕ) : Type 0 where
  pub within : next ≤ length order
  pub before : (k number : ℕ) → k < next → slice_get order k ≡ Some number → end_of arcs number < place
  pub after : (k number : ℕ) → next ≤ k → slice_get order k ≡ Some number → place ≤ end_of arcs number
