-- Rows of what chains may still gain, while a table is made.
use Rattle.std.specs.Prelude.{◌≡◌, ◌⊎◌, ◌+◌, ◌-◌, ◌*◌, ◌^◌, ◌<◌, ◌≤ℤ◌, ◌+ℤ◌, neg_ℤ, pos, ℕ, ℤ, List, Option, Some, None, get_or, if◌then◌else◌, length, nat_lt, slice_get}
use Rattle.label_setter.specs.declared.graph.Arc.{Arc}
use Rattle.label_setter.specs.Meters.{IsBetween}

-- the number is what is gained before that of the state to which the move leads
pub record IsBack (moves : ℕ → Option ℕ) (there : List ℤ) (gain : ℤ) (state : ℕ) (number : ℤ) : Type 0 where
  pub next : ℕ
  pub move : moves state ≡ Some next
  pub value : number ≡ get_or there next (pos 0) +ℤ gain

-- no number fell; each was there before or comes back by the move; and each is at least what is gained before the number of the state that the move leads to
pub record RaisedBy (moves : ℕ → Option ℕ) (there : List ℤ) (gain : ℤ) (old new : List ℤ) : Type 0 where
  pub risen : (k : ℕ) → get_or old k (pos 0) ≤ℤ get_or new k (pos 0)
  pub over :
      (state next : ℕ) → state < length old → moves state ≡ Some next
      → (get_or there next (pos 0) +ℤ gain) ≤ℤ get_or new state (pos 0)
  pub from :
      (state : ℕ)
      → (get_or new state (pos 0) ≡ get_or old state (pos 0)) ⊎ IsBack moves there gain state (get_or new state (pos 0))
  pub between : (arcs : ℕ) → IsBetween arcs there → IsBetween (arcs + 1) old → IsBetween (arcs + 1) new

-- the lowest state, from so many first ones
abbrev pub none_from : ℕ → ℕ → Option ℕ
none_from below state = if nat_lt state below then Some 0 else None

-- the arc leads to the next place, gains nothing there and leaves each state as it is
pub record PassesOn {S : Type 0} (moves : S → ℕ → Option ℕ) (count place : ℕ) (arc : Arc S) : Type 0 where
  pub to : arc.to ≡ place + 1
  pub gain : arc.gain ≡ pos 0
  pub stays : (state : ℕ) → state < count → moves arc.step state ≡ Some state

-- the numbers of the row are at least what the arc gains before those of the place where it leads
abbrev pub GoesBack : {S : Type 0} → (S → ℕ → Option ℕ) → ℕ → ℕ → List ℤ → List ℤ → Arc S → Type 0
GoesBack moves count sink table row arc =
    (state next : ℕ) → state < count → moves arc.step state ≡ Some next → (get_or table ((sink - arc.to) * count + next) (pos 0) +ℤ arc.gain) ≤ℤ get_or row state (pos 0)

-- the number is what an arc from the place gains before that of the place where it leads
pub record ComesBack {S : Type 0} (moves : S → ℕ → Option ℕ) (count sink : ℕ) (arcs : List (Arc S)) (place : ℕ)
    (table : List ℤ) (state : ℕ) (number : ℤ) : Type 0 where
  pub index : ℕ
  pub arc : Arc S
  pub is : slice_get arcs index ≡ Some arc
  pub from : arc.from ≡ place
  pub next : ℕ
  pub move : moves arc.step state ≡ Some next
  pub value : number ≡ get_or table ((sink - arc.to) * count + next) (pos 0) +ℤ arc.gain

abbrev pub IsLowOrBack : {S : Type 0} → (S → ℕ → Option ℕ) → ℕ → ℕ → List (Arc S) → ℕ → List ℤ → ℕ → ℤ → Type 0
IsLowOrBack moves count sink arcs place table state number = (number ≡ neg_ℤ (pos (2 ^ 60))) ⊎ ComesBack moves count sink arcs place table state number
