-- The labels at the place at hand, and the memory that is reserved for them.
use Rattle.std.specs.Prelude.{◌≡◌, ◌≤◌, ◌*◌, ◌++◌, ℕ, List, Some, Option, Bool, length, vec_capacity}
use Rattle.label_setter.specs.Buckets.{Bucketed}
use Rattle.label_setter.specs.Labels.{Apart}
use Rattle.label_setter.specs.Rooms.{IsWithin}
use Rattle.label_setter.specs.declared.labels.Label.{Label}
use Rattle.label_setter.specs.declared.spots.Spot.{Spot}
use Rattle.label_setter.specs.declared.table.Desk.{Desk}

-- those that are kept, and those that were found since
abbrev pub all_of : {R : Type 0} → Spot R → List (Label R)
all_of spot = spot.here.items ++ spot.found.items

-- those that are kept stand in buckets, none is dispensable by another, and they have room; few wait
pub record IsSpot {R : Type 0} (below : R → R → Bool) (rank : R → ℕ) (left : Option ℕ) (spot : Spot R) : Type 0 where
  pub bucketed : Bucketed below rank spot.here.items spot.buckets.items
  pub apart : Apart below spot.here.items
  pub within : IsWithin (length spot.here.items) left
  pub few : length spot.found.items ≤ spot.most
  pub some : 1 ≤ spot.most

-- there is memory for as many labels as have room, and for those that wait
pub record Serves {R : Type 0} (left : Option ℕ) (spot : Spot R) : Type 0 where
  pub room : ℕ
  pub is : left ≡ Some room
  pub labels : room ≤ vec_capacity spot.here
  pub groups : room ≤ vec_capacity spot.buckets * 16
  pub finds : spot.most ≤ vec_capacity spot.found
  pub some : 1 ≤ spot.most

-- there is memory for a graph of so many places and arcs, and for as many labels as have room
pub record IsReserved {R : Type 0} (room : Option ℕ) (places arcs : ℕ) (desk : Desk R) : Type 0 where
  pub serves : Serves room desk.spot
  pub labels : (most : ℕ) → room ≡ Some most → most ≤ vec_capacity desk.labels
  pub rows : places ≤ vec_capacity desk.rows
  pub order : arcs ≤ vec_capacity desk.order
