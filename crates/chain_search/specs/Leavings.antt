-- The arcs by the places where they begin.
use Rattle.std.specs.Prelude.{◌≡◌, ℕ, List, Some, All, Contains, length, slice_get}
use Rattle.label_setter.specs.declared.graph.Arc.{Arc}

-- the arc of this number begins at the place
pub record LeavesFrom {S : Type 0} (arcs : List (Arc S)) (place number : ℕ) : Type 0 where
  pub arc : Arc S
  pub is : slice_get arcs number ≡ Some arc
  pub from : arc.from ≡ place

-- the numbers are those of the arcs that begin at the place
pub record Leaving {S : Type 0} (arcs : List (Arc S)) (place : ℕ) (numbers : List ℕ) : Type 0 where
  pub listed :
      (number : ℕ) (arc : Arc S) → slice_get arcs number ≡ Some arc → arc.from ≡ place → Contains numbers number
  pub right : All (LeavesFrom arcs place) numbers

-- for each place the numbers of the arcs that begin there
pub record AreWays {S : Type 0} (arcs : List (Arc S)) (places : ℕ) (ways : List (List ℕ)) : Type 0 where
  pub count : length ways ≡ places
  pub leaving : (place : ℕ) (numbers : List ℕ) → slice_get ways place ≡ Some numbers → Leaving arcs place numbers
