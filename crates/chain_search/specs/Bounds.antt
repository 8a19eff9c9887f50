-- Bounds on what chains may still gain.
use Rattle.std.specs.Prelude.{◌≡◌, ◌-◌, ◌+ℤ◌, ◌≤ℤ◌, ℕ, ℤ, List, Bool, true, Option}
use Rattle.label_setter.specs.Chains.{GraphOf, Leads, Reached}

-- no chain on from a label to a done end at the sink comes to more than the label gained and the bound
abbrev pub IsBound : {R S E : Type 0} → (R → S → Option R) → (R → E → Bool) → GraphOf R S E → (ℕ → R → ℤ) → Type 0
IsBound {R} extend done graph rest =
    (label : Reached R) (chain : List ℕ) (gain : ℤ) (last : R)
    → Leads extend graph.arcs label chain (record { place = graph.places - 1; gain = gain; resource = last })
    → done last graph.end ≡ true
    → gain ≤ℤ (label.gain +ℤ rest label.place label.resource)
