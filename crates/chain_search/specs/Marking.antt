-- Labels from which all ways were tried, place by place.
use Rattle.std.specs.Prelude.{◌≡◌, ◌&&◌, ◌⊎◌, ℕ, ℤ, List, Some, Bool, Contains, int_le, length, slice_get}
use Rattle.chain_search.specs.declared.marks.Mark.{Mark}

-- no less gain, and a resource that spares this one
abbrev pub dispenses : {R : Type 0} → (R → R → Bool) → Mark R → ℤ → R → Bool
dispenses spares mark gain resource = int_le gain mark.gain && spares mark.resource resource

-- the mark stands beside the place
pub record Stands {R : Type 0} (rows : List (List (Mark R))) (place : ℕ) (mark : Mark R) : Type 0 where
  pub row : List (Mark R)
  pub is : slice_get rows place ≡ Some row
  pub listed : Contains row mark

-- this mark stands there, and no other that was not there before
pub record HoldsMore {R : Type 0} (old : List (Mark R)) (mark : Mark R) (new : List (Mark R)) : Type 0 where
  pub holds : Contains new mark
  pub from : (x : Mark R) → Contains new x → Contains old x ⊎ (x ≡ mark)

-- beside the place stands this mark, and no other that did not stand there before
pub record KeepsMark {R : Type 0} (old : List (List (Mark R))) (place : ℕ) (mark : Mark R)
    (new : List (List (Mark R))) : Type 0 where
  pub count : length new ≡ length old
  pub stands : Stands new place mark
  pub from : (at : ℕ) (x : Mark R) → Stands new at x → Stands old at x ⊎ ((at ≡ place) × (x ≡ mark))
