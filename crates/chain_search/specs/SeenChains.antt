-- Chains as a coarse view sees them.
use Rattle.std.specs.Prelude.{◌≡◌, ◌+ℤ◌, ◌≤ℤ◌, ◌^◌, ◌⊎◌, neg_ℤ, pos, ℕ, ℤ, List, [], ◌∷◌, Bool, true, Option, Some, slice_get}
use Rattle.label_setter.specs.declared.graph.Arc.{Arc}

-- the chain leads from the place and state to the sink and a state that may be done, and gains so much
abbrev pub LeadsDown : {S : Type 0} → (S → ℕ → Option ℕ) → (ℕ → Bool) → List (Arc S) → ℕ → ℕ → ℕ → List ℕ → ℤ → Type 0
LeadsDown moves ends arcs sink place state [] gain = (place ≡ sink) × (ends state ≡ true) × (gain ≡ pos 0)
LeadsDown {S} moves ends arcs sink place state (number ∷ chain) gain =
    (arc : Arc S) × (next : ℕ) × (after : ℤ) × (slice_get arcs number ≡ Some arc) × (arc.from ≡ place) × (moves arc.step state ≡ Some next) × (gain ≡ after +ℤ arc.gain) × LeadsDown moves ends arcs sink arc.to next chain after

-- some chain that the view sees from there gains just this number
pub record IsSeen {S : Type 0} (moves : S → ℕ → Option ℕ) (ends : ℕ → Bool) (arcs : List (Arc S))
    (sink place state : ℕ) (number : ℤ) : Type 0 where
  pub chain : List ℕ
  pub leads : LeadsDown moves ends arcs sink place state chain number

-- or the number is far below all that chains gain
abbrev pub IsSeenOrLow : {S : Type 0} → (S → ℕ → Option ℕ) → (ℕ → Bool) → List (Arc S) → ℕ → ℕ → ℕ → ℤ → Type 0
IsSeenOrLow moves ends arcs sink place state number = IsSeen moves ends arcs sink place state number ⊎ (number ≤ℤ neg_ℤ (pos (2 ^ 59)))
