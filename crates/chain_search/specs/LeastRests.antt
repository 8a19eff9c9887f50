-- The least of two bounds.
use Rattle.std.specs.Prelude.{ℕ, ℤ}
use Rattle.std.specs.Int.{int_min}

abbrev pub least_of : {R : Type 0} → (ℕ → R → ℤ) → (ℕ → R → ℤ) → ℕ → R → ℤ
least_of a b place resource = int_min (a place resource) (b place resource)
