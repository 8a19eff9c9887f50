-- Days and offsets of two months.
use Rattle.std.proofs.Common.{◌≡◌, ℕ, ◌+◌, ◌-◌, ◌*◌, ◌≤◌, ℤ, pos, ◌+ℤ◌, ◌-ℤ◌, ◌*ℤ◌, arith}
use Rattle.std.specs.Prelude.{IsTrue, nat_eq}
use Rattle.std.proofs.lemmas.Bool.Decides.{nat_tests}
use Rattle.jiff_core.proofs.SignedLemmas.{signed_arith}

module _ (first second days month : ℕ) (this next : ℤ) (a : pos first ≡ this +ℤ pos (365 + days + 4371587)) (b : pos second ≡ next +ℤ pos (365 + 4371587)) (same : days ≡ month) where
  pub follows_yes : IsTrue (nat_eq first second) → next ≡ this +ℤ pos month
  follows_yes t = let equal : first ≡ second = grind (arith, nat_tests, t) in omega (arith, signed_arith, equal, a, b, same)

  pub follows_no : next ≡ this +ℤ pos month → IsTrue (nat_eq first second)
  follows_no f = let equal : first ≡ second = omega (arith, signed_arith, f, a, b, same) in grind (arith, nat_tests, equal)

module _ (days month ahead behind : ℕ) (this next here there : ℤ) (same : days ≡ month) (a : pos ahead ≡ here +ℤ pos 840) (b : pos behind ≡ there +ℤ pos 840) (few : behind ≤ 1680) (long : 28 ≤ days)
    (follows : next ≡ this +ℤ pos month) where
  pub lagged : (day : ℤ) (minute : ℕ) → (day -ℤ this) *ℤ pos 1440 +ℤ pos minute +ℤ here ≡ (day -ℤ next) *ℤ pos 1440 +ℤ pos minute +ℤ there +ℤ pos (1440 * days + ahead - behind)
  lagged day minute = omega (arith, signed_arith, same, a, b, few, long, follows)
