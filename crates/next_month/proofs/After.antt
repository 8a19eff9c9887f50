-- The month of the calendar after a month begins on the day after its last.
use Rattle.std.proofs.Common.{◌≡◌, ℕ, ◌+◌, ◌≤◌, ℤ, pos, neg_ℤ, ◌+ℤ◌, ◌-ℤ◌, ◌≤ℤ◌, sym, subst, arith}
use Rattle.duty_calendar.specs.declared.horizon.Horizon.{Horizon}
use Rattle.next_month.specs.Lags.{Follows}
use Rattle.jiff_core.specs.Calendar.{days_from_civil, days_in_month}
use Rattle.jiff_core.proofs.CalendarLemmas.{day_count-day, day_count-last_of_year, day_count-next_month, day_count-next_year}
use Rattle.jiff_core.proofs.SignedLemmas.{signed_arith}

abbrev Comes : ℤ → ℕ → ℤ → ℕ → Type 0
Comes y m next n = days_from_civil next n 1 -ℤ pos 365 ≡ days_from_civil y m 1 -ℤ pos 365 +ℤ pos (days_in_month y m)

january : (y next : ℤ) → neg_ℤ (pos 10000) ≤ℤ y → next ≡ y +ℤ pos 1 → Comes y 12 next 1
unfolding days_from_civil
january y next low is =
    let last = day_count-last_of_year y in
    let first = day_count-next_year y next low is in
    let days = day_count-day y 12 31 1 (omega arith) (omega arith) in
    omega (arith, signed_arith, last, first, days)

other_month : (y : ℤ) (m : ℕ) → 1 ≤ m → Comes y m y (m + 1)
unfolding days_from_civil
other_month y m low = let first = day_count-next_month y m low in omega (arith, signed_arith, first)

pub january_follows : (this next : Horizon) → this.month ≡ 12 → next.year ≡ this.year +ℤ pos 1 → next.month ≡ 1 → Follows this next
january_follows this next is_m is is_n =
    let low : neg_ℤ (pos 10000) ≤ℤ this.year = let from = this.year_in.0 in omega (arith, signed_arith, from) in
    subst (λ (k : ℕ). Comes this.year k next.year next.month) (sym is_m) (subst (λ (k : ℕ). Comes this.year 12 next.year k) (sym is_n) (january this.year next.year low is))

pub month_follows : (this next : Horizon) → next.year ≡ this.year → next.month ≡ this.month + 1 → Follows this next
month_follows this next is is_n =
    subst (λ (z : ℤ). Comes this.year this.month z next.month) (sym is) (subst (λ (k : ℕ). Comes this.year this.month this.year k) (sym is_n) (other_month this.year this.month this.month_in.0))
