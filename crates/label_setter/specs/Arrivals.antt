-- The arcs that lead to a place.
use Rattle.std.specs.Prelude.{◌≡◌, ℕ, List, Some, All, Contains, slice_get}
use Rattle.label_setter.specs.declared.graph.Arc.{Arc}

-- the arc of this number leads to the place
pub record ArrivesAt {S : Type 0} (arcs : List (Arc S)) (place number : ℕ) : Type 0 where
  pub arc : Arc S
  pub is : slice_get arcs number ≡ Some arc
  pub to : arc.to ≡ place

-- the numbers are those of the arcs that lead to the place
pub record Arriving {S : Type 0} (arcs : List (Arc S)) (place : ℕ) (numbers : List ℕ) : Type 0 where
  pub listed : (number : ℕ) (arc : Arc S) → slice_get arcs number ≡ Some arc → arc.to ≡ place → Contains numbers number
  pub right : All (ArrivesAt arcs place) numbers
