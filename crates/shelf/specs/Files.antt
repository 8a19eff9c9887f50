-- What a shelf that tells its files holds: a finite map from names to bytes.
use Rattle.std.specs.Prelude.{ℕ, ◌≡◌, ◌≢◌, ◌<◌, List, length, Option, Some, None, is_some, Result, Ok, Err}
use Rattle.std.specs.Option.{option_map}
use Rattle.std.specs.Ordering.{nat_cmp}
use Rattle.std.specs.Cmp.Lexicographic.{slice_cmp}
use Rattle.std.specs.FinMap as map
use Rattle.std.specs.declared.vec.Vec.{Vec}
use Rattle.std.specs.declared.alloc.Global.{Global}
use Rattle.shelf.specs.declared.fault.ShelfFault.{ShelfFault}
use Rattle.shelf.specs.declared.fault.ShelfFault.TheVariants.{ReadFailed, WriteFailed, Missing, TooLong, NoMemory}

abbrev pub Files : Type 0
Files = map.FinMap (slice_cmp nat_cmp) (List ℕ)

-- the bytes of the file of this name, if there is one
abbrev pub file : Files → List ℕ → Option (List ℕ)
file files name = map.get files name

-- the same, where files may be untold
abbrev pub told_file : Option Files → List ℕ → Option (List ℕ)
told_file None name = None
told_file (Some files) name = file files name

-- the files after one of them was given these bytes
abbrev pub with_file : Option Files → List ℕ → List ℕ → Option Files
with_file told name bytes = option_map (λ files. map.insert files name bytes) told

-- whether files are told and what all of them hold is as before, but perhaps for this one
pub record SameButAt (name : List ℕ) (old new : Option Files) : Type 0 where
  pub tells : is_some new ≡ is_some old
  pub others : (other : List ℕ) → other ≢ name → told_file new other ≡ told_file old other

-- what a read of at most limit bytes answers, where it does not fail and memory is there
abbrev pub IsRead : Files → List ℕ → ℕ → Result (Vec ℕ Global) ShelfFault → Type 0
IsRead files name limit (Ok bytes) = file files name ≡ Some bytes.items
IsRead files name limit (Err Missing) = file files name ≡ None
IsRead files name limit (Err TooLong) = (bytes : List ℕ) × (file files name ≡ Some bytes) × (limit < length bytes)
IsRead files name limit (Err ReadFailed) = Unit {0}
IsRead files name limit (Err WriteFailed) = ⊥
IsRead files name limit (Err NoMemory) = Unit {0}
