-- Arcs between joined places.
use Rattle.std.specs.Prelude.{◌≡◌, ℕ, ℤ, ◌<◌, ◌⊎◌, Bool, true, List, Some, slice_get}
use Rattle.label_setter.specs.declared.graph.Arc.{Arc}

-- the arcs are those of the joined places of which so far was said
pub record AreArcsSo {S : Type 0} (joins : ℕ → ℕ → Bool) (gain : ℕ → ℕ → ℤ) (step : ℕ → ℕ → S) (far : ℕ → ℕ → Type 0) (arcs : List (Arc S)) : Type 0 where
  pub joined : (number : ℕ) (arc : Arc S) → slice_get arcs number ≡ Some arc → joins arc.from arc.to ≡ true
  pub gains : (number : ℕ) (arc : Arc S) → slice_get arcs number ≡ Some arc → arc.gain ≡ gain arc.from arc.to
  pub steps : (number : ℕ) (arc : Arc S) → slice_get arcs number ≡ Some arc → arc.step ≡ step arc.from arc.to
  pub listed : (i j : ℕ) → joins i j ≡ true → far i j → (number : ℕ) × (arc : Arc S) × (slice_get arcs number ≡ Some arc) × (arc.from ≡ i) × (arc.to ≡ j)

-- all rows before, and this one as far as it has come
abbrev pub SoFar : ℕ → ℕ → ℕ → ℕ → Type 0
SoFar from to i j = (i < from) ⊎ ((i ≡ from) × (j < to))

-- the arcs are those of the joined places, each with its gain and step
pub record AreArcs {S : Type 0} (joins : ℕ → ℕ → Bool) (gain : ℕ → ℕ → ℤ) (step : ℕ → ℕ → S) (arcs : List (Arc S)) : Type 0 where
  pub joined : (number : ℕ) (arc : Arc S) → slice_get arcs number ≡ Some arc → joins arc.from arc.to ≡ true
  pub gains : (number : ℕ) (arc : Arc S) → slice_get arcs number ≡ Some arc → arc.gain ≡ gain arc.from arc.to
  pub steps : (number : ℕ) (arc : Arc S) → slice_get arcs number ≡ Some arc → arc.step ≡ step arc.from arc.to
  pub listed : (i j : ℕ) → joins i j ≡ true → (number : ℕ) × (arc : Arc S) × (slice_get arcs number ≡ Some arc) × (arc.from ≡ i) × (arc.to ≡ j)
