-- The days of the month by their dates.
use Rattle.std.proofs.Common.{◌≡◌, ℕ, ◌+◌, ◌-◌, ◌<◌, ◌≤◌, true, Some, Ok, ℤ, pos, ◌-ℤ◌, refl, ap, sym, subst, ◌∙◌, arith}
use Rattle.std.specs.Prelude.{◌&&◌, nat_le, nat_lt, unsigned_abs}
use Rattle.std.proofs.lemmas.Bool.Decides.{nat_tests}
use Rattle.jiff_core.specs.Calendar.{days_from_civil, day_count, IsCivilDate}
use Rattle.jiff_core.proofs.CalendarLemmas.{days_from_civil-day_count, days_in_month_bounds}
use Rattle.jiff_core.proofs.SignedLemmas.{signed_arith}
use Rattle.duty_calendar.specs.declared.horizon.Horizon.{Horizon}
use Rattle.duty_calendar.specs.Calendar.{day_zero, month_days}
use Rattle.field_text.specs.Fields.{day_field, is_day}
use Rattle.field_text.proofs.Days.{pos-abs, day-from_civil, day-again}
use Rattle.bid_language.specs.Days.{one_of, day_in}
use Rattle.bid_language.specs.Spelling.{day_word}

-- where a number lies
pub one_of_same : (d e n : ℕ) (z : ℤ) → d ≡ e → z ≡ pos n → one_of d (pos n) ≡ one_of e z
one_of_same d e n z f g = rw (f, g) refl

pub one_of_at : (days n : ℕ) (z : ℤ) → z ≡ pos n → 365 ≤ n → n < 365 + days → one_of days z ≡ Some n
one_of_at days n z e least most =
    let t : (nat_le 365 n && nat_lt n (365 + days)) ≡ true = grind (arith, nat_tests) in
    rw (e, t) refl

-- a later day of the same month
count-day : (y : ℤ) (m d : ℕ) → 1 ≤ d → day_count y m d + 1 ≡ day_count y m 1 + d
unfolding day_count
count-day y m d h = omega arith

later-day : (y : ℤ) (m d : ℕ) → 1 ≤ d → days_from_civil y m d -ℤ (days_from_civil y m 1 -ℤ pos 365) ≡ pos (364 + d)
later-day y m d h = omega (arith, signed_arith, days_from_civil-day_count y m d, days_from_civil-day_count y m 1, count-day y m d h)

-- the parts of a date of the month
pub month_parts : (h : Horizon) (d : ℕ) → 365 ≤ d → d < 365 + month_days h → (unsigned_abs h.year < 10000) × (h.month < 100) × (d - 364 < 100)
month_parts h d begins ends =
    let year : h.year ≡ pos (unsigned_abs h.year) = pos-abs h.year (omega (arith, signed_arith, h.year_in)) in
    (omega (arith, signed_arith, h.year_in, year), omega (arith, h.month_in), omega (arith, (days_in_month_bounds h.year h.month).0, (days_in_month_bounds h.year h.month).1))

is_month_day : (h : Horizon) (d : ℕ) → h.year ≡ pos (unsigned_abs h.year) → 365 ≤ d → d < 365 + month_days h → IsCivilDate (pos (unsigned_abs h.year)) h.month (d - 364)
is_month_day h d year begins ends =
    let real : IsCivilDate h.year h.month (d - 364) = (omega (arith, signed_arith, h.year_in), h.month_in, (omega arith, omega arith)) in
    subst (λ (z : ℤ). IsCivilDate z h.month (d - 364)) year real

-- the text of a day of the month is read as that day
pub days-again : (h : Horizon) (d : ℕ) → 365 ≤ d → d < 365 + month_days h → day_in h (day_field (day_word h d)) ≡ Some d
days-again h d begins ends =
    let y : ℕ = unsigned_abs h.year in
    let year : h.year ≡ pos (unsigned_abs h.year) = pos-abs h.year (omega (arith, signed_arith, h.year_in)) in
    let parts = month_parts h d begins ends in
    let exists' : is_day (unsigned_abs h.year) h.month (d - 364) ≡ true = day-from_civil (unsigned_abs h.year) h.month (d - 364) (is_month_day h d year begins ends) in
    let read : day_field (day_word h d) ≡ Ok (days_from_civil (pos (unsigned_abs h.year)) h.month (d - 364)) =
    day-again (unsigned_abs h.year) h.month (d - 364) parts.0 parts.1 parts.2 exists' in
    let back : days_from_civil h.year h.month (d - 364) ≡ days_from_civil (pos (unsigned_abs h.year)) h.month (d - 364) = ap (λ (z : ℤ). days_from_civil z h.month (d - 364)) year in
    let number : days_from_civil h.year h.month (d - 364) -ℤ day_zero h ≡ pos (364 + (d - 364)) = later-day h.year h.month (d - 364) (omega arith) in
    let same : 364 + (d - 364) ≡ d = omega arith in
    ap (day_in h) (read ∙ ap Ok (sym back)) ∙ one_of_at (month_days h) d (days_from_civil h.year h.month (d - 364) -ℤ day_zero h) (number ∙ ap pos same) begins ends
