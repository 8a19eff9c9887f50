-- Numbers that are days of the month.
use Rattle.std.proofs.Common.{◌≡◌, ℕ, ℤ, pos, refl}
use Rattle.bid_language.specs.Days.{one_of}

pub one_of_same : (d e n : ℕ) (z : ℤ) → d ≡ e → z ≡ pos n → one_of d (pos n) ≡ one_of e z
one_of_same d e n z f g = rw (f, g) refl
