-- Rows of integers, one for each pairing.
use Rattle.std.specs.Prelude.{ℕ, ◌<◌, ◌≤◌, ℤ, ◌*ℤ◌, unsigned_abs, List, length}
use Rattle.roster_model.specs.Weights.{weight_at, sum_below}

-- each of them at most so far from zero
abbrev pub AreWithin : ℕ → List ℤ → Type 0
AreWithin bound row = (k : ℕ) → k < length row → unsigned_abs (weight_at row k) ≤ bound

-- the inner product
abbrev pub product_of : List ℤ → List ℤ → ℤ
product_of xs ys = sum_below (λ k. weight_at xs k *ℤ weight_at ys k) (length xs)
