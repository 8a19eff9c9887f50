-- The dates of the calendar are those of jiff.
use Rattle.std.proofs.Common.{◌≡◌, ℕ, zero, suc, ◌+◌, ◌*◌, ◌<◌, ◌≤◌, Bool, true, false, refl, arith, ap, sym, ◌∙◌, pos, neg_ℤ, ◌+ℤ◌, ◌≤ℤ◌}
use Rattle.std.proofs.lemmas.Bool.Decides.{nat_tests}
use Rattle.std.specs.Prelude.{nat_lt, if◌then◌else◌}
use Rattle.std.specs.Int.{IsInRange}
use Rattle.jiff_core.specs.Calendar.{days_from_civil, days_in_month, days_of_years, day_count, IsCivilDate}
use Rattle.jiff_core.specs.Date.{epoch_day}
use Rattle.jiff_core.specs.declared.civil.date.Date.{Date}
use Rattle.jiff_core.proofs.SignedLemmas.{signed_arith}
use Rattle.jiff_core.proofs.CalendarLemmas.{days_from_civil-day_count, days_in_month_bounds, days_in_year_bounds, day_of_year_bound}
use Rattle.jiff_core.proofs.DateLemmas.{days_from_civil-day, days_from_civil-next_month, days_from_civil-next_year, epoch_day_injective}
use Rattle.field_text.specs.Dates.{Civil, civil, next_day}

-- a date with its number
pub record Numbered (c : Civil) (n : ℕ) : Type 0 where
  pub month : IsInRange 1 12 c.month
  pub day : IsInRange 1 (days_in_month (pos c.year) c.month) c.day
  pub number : days_from_civil (pos c.year) c.month c.day ≡ pos n

next_in_month : (c : Civil) (n : ℕ) → Numbered c n → c.day < days_in_month (pos c.year) c.month → Numbered (record { year = c.year; month = c.month; day = c.day + 1 }) (suc n)
next_in_month c n h l = record {
  month = h.month;
  day = (omega arith, omega arith);
  number = omega (arith, signed_arith, h.number, days_from_civil-day (pos c.year) c.month (c.day + 1) c.day (omega arith) h.day.0);
}

next_month : (c : Civil) (n : ℕ) → Numbered c n → c.day ≡ days_in_month (pos c.year) c.month → c.month < 12 → Numbered (record { year = c.year; month = c.month + 1; day = 1 }) (suc n)
next_month c n h e l = record {
  month = (omega arith, omega arith);
  day = (omega arith, omega (arith, (days_in_month_bounds (pos c.year) (c.month + 1)).1));
  number = omega (arith, signed_arith, h.number, days_from_civil-next_month (pos c.year) c.month c.day h.month.0 e);
}

next_year : (c : Civil) (n : ℕ) → Numbered c n → c.day ≡ days_in_month (pos c.year) c.month → c.month ≡ 12 → Numbered (record { year = c.year + 1; month = 1; day = 1 }) (suc n)
next_year c n h e l =
    let last : c.day ≡ 31 = e ∙ ap (λ m. days_in_month (pos c.year) m) l in
    let number : days_from_civil (pos c.year) 12 31 ≡ pos n = rw (l, last) at h.number in
    record {
      month = (omega arith, omega arith);
      day = (omega arith, omega (arith, (days_in_month_bounds (pos (c.year + 1)) 1).1));
      number = omega (arith, signed_arith, number, days_from_civil-next_year (pos c.year) (pos (c.year + 1)) (omega (arith, signed_arith)) refl);
    }

next_numbered : (c : Civil) (n : ℕ) → Numbered c n → Numbered (next_day c) (suc n)
next_numbered c n h = go (nat_lt c.day (days_in_month (pos c.year) c.month)) refl (nat_lt c.month 12) refl
  where
    go : (a : Bool) → nat_lt c.day (days_in_month (pos c.year) c.month) ≡ a → (b : Bool) → nat_lt c.month 12 ≡ b
        → Numbered (if a then record { year = c.year; month = c.month; day = c.day + 1 } else (if b then record { year = c.year; month = c.month + 1; day = 1 } else record { year = c.year + 1; month = 1; day = 1 })) (suc n)
    go true p b q = next_in_month c n h (grind (arith, nat_tests))
    go false p true q = next_month c n h (grind (arith, nat_tests, h.day)) (grind (arith, nat_tests))
    go false p false q = next_year c n h (grind (arith, nat_tests, h.day)) (grind (arith, nat_tests, h.month))

pub civil_numbered : (n : ℕ) → Numbered (civil n) n
unfolding civil days_from_civil
civil_numbered zero = record { month = (omega arith, omega arith); day = (omega arith, omega arith); number = omega (arith, signed_arith) }
civil_numbered (suc n) = next_numbered (civil n) n (civil_numbered n)

-- the years of the numbers of days
years_bounds : (n : ℕ) → (365 * n ≤ days_of_years n) × (days_of_years n ≤ 366 * n)
unfolding days_of_years
years_bounds zero = (omega arith, omega arith)
years_bounds (suc n) = let h = years_bounds n in let b = days_in_year_bounds (pos n +ℤ neg_ℤ (pos 10000)) in (omega (arith, h.0, b.1), omega (arith, h.1, b.0))

pub year-low : (y m d n : ℕ) → days_from_civil (pos y) m d ≡ pos n → 365 * (y + 10000) ≤ n + 4_371_953
unfolding day_count
year-low y m d n h =
    let c = days_from_civil-day_count (pos y) m d in
    let b = (years_bounds (y + 10000)).0 in
    omega (arith, signed_arith, c, h, b)

-- the date of a day of these years is the one so many days after 1 January 1970
pub civil_of : (date : Date) (n : ℕ) → epoch_day date ≡ pos n → n ≤ 60000 → (date.year ≡ pos (civil n).year) × (date.month ≡ (civil n).month) × (date.day ≡ (civil n).day)
civil_of date n h l =
    let c = civil_numbered n in
    let low = year-low (civil n).year (civil n).month (civil n).day n c.number in
    let made : Date = record {
      year = pos (civil n).year;
      month = (civil n).month;
      day = (civil n).day;
      year_in = (omega (arith, signed_arith), omega (arith, signed_arith, low));
      month_in = c.month;
      day_in = c.day;
    } in
    epoch_day_injective date made (h ∙ sym c.number)

pub civil-year : (n : ℕ) → n ≤ 60000 → (civil n).year ≤ 9999
civil-year n l = let c = civil_numbered n in omega (arith, year-low (civil n).year (civil n).month (civil n).day n c.number)

-- where the months of this century begin
pub month_bounds : (y m : ℕ) → IsInRange 2000 2099 y → IsInRange 1 12 m → (pos 8000 ≤ℤ days_from_civil (pos y) m 1) × (days_from_civil (pos y) m 1 ≤ℤ pos 57000)
unfolding day_count
month_bounds y m h k =
    let c = days_from_civil-day_count (pos y) m 1 in
    let b = years_bounds (y + 10000) in
    let valid : IsCivilDate (pos y) m 1 = ((omega (arith, signed_arith), omega (arith, signed_arith)), k, (omega arith, omega (arith, (days_in_month_bounds (pos y) m).1))) in
    let place = day_of_year_bound (pos y) m 1 valid in
    let year = (days_in_year_bounds (pos y)).0 in
    (omega (arith, signed_arith, c, b.0), omega (arith, signed_arith, c, b.1, place, year))
