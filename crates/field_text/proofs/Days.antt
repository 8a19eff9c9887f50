-- The days of the calendar, and how they are read and spelt.
use Rattle.std.proofs.Common.{◌≡◌, ℕ, ◌+◌, ◌*◌, ◌/◌, ◌%◌, ◌<◌, ◌≤◌, List, length, Bool, true, false, Some, None, Ok, refl, arith, ap, sym, subst, ◌∙◌, ℤ, pos, negsuc, to_z, w8, w16, ◌≤ℤ◌}
use Rattle.std.proofs.lemmas.Bool.Decides.{nat_tests}
use Rattle.std.proofs.lemmas.Bool.{and_parts}
use Rattle.std.proofs.lemmas.Int.{to_z_pos}
use Rattle.std.specs.Prelude.{nat_lt, nat_le, ◌&&◌, unsigned_abs}
use Rattle.std.specs.Int.{IsInRange}
use Rattle.jiff_core.specs.Calendar.{days_from_civil, days_in_month, IsDate, IsCivilDate}
use Rattle.jiff_core.specs.Date.{epoch_day, IsYmd}
use Rattle.jiff_core.specs.declared.civil.date.Date.{Date}
use Rattle.jiff_core.proofs.SignedLemmas.{signed_arith}
use Rattle.jiff_core.proofs.CalendarLemmas.{days_in_month_bounds}
use Rattle.field_text.specs.declared.field_fault.FieldFault.TheVariants.{NoSuchDay, Range}
use Rattle.field_text.specs.Steps.{or_fault}
use Rattle.field_text.specs.Form.{row, IsRow}
use Rattle.field_text.specs.Fields.{clock, clock_value, clock_field, day, day_value, day_field, is_day, two_digits, four_digits}
use Rattle.field_text.specs.Spelling.{day_text, clock_text}
use Rattle.field_text.proofs.RowForms.{row_none}
use Rattle.field_text.proofs.Numbers.{digit_in}
use Rattle.field_text.proofs.Again.{field-of}

-- a number that is not below 0
pub pos-abs : (z : ℤ) → pos 0 ≤ℤ z → z ≡ pos (unsigned_abs z)
pos-abs (pos n) h = refl
pos-abs (negsuc n) h = absurd (omega (arith, signed_arith))

pub civil_at : (year : ℤ) (y m d : ℕ) → year ≡ pos y → IsCivilDate year m d → IsCivilDate (pos y) m d
civil_at year y m d e h = subst (λ (z : ℤ). IsCivilDate z m d) e h

-- the test for a day of the calendar
pub day-from_civil : (y m d : ℕ) → IsCivilDate (pos y) m d → is_day y m d ≡ true
day-from_civil y m d h =
    let a : nat_le 1 m ≡ true = grind (arith, nat_tests) in
    let b : nat_le m 12 ≡ true = grind (arith, nat_tests) in
    let e : nat_le 1 d ≡ true = grind (arith, nat_tests) in
    let f : nat_le d (days_in_month (pos y) m) ≡ true = grind (arith, nat_tests) in
    rw (a, b, e, f) refl

pub day-parts : (y m d : ℕ) → is_day y m d ≡ true → IsInRange 1 12 m × IsInRange 1 (days_in_month (pos y) m) d
day-parts y m d h =
    let p = and_parts (nat_le 1 m && nat_le m 12 && nat_le 1 d) (nat_le d (days_in_month (pos y) m)) h in
    let q = and_parts (nat_le 1 m && nat_le m 12) (nat_le 1 d) p.0 in
    let r = and_parts (nat_le 1 m) (nat_le m 12) q.0 in
    let a : nat_le 1 m ≡ true = r.0 in
    let b : nat_le m 12 ≡ true = r.1 in
    let e : nat_le 1 d ≡ true = q.1 in
    let f : nat_le d (days_in_month (pos y) m) ≡ true = p.1 in
    ((grind (arith, nat_tests), grind (arith, nat_tests)), (grind (arith, nat_tests), grind (arith, nat_tests)))

-- the value of a text of a day
pub day-of : (text : List ℕ) (y m d : ℕ) → y ≡ four_digits text 0 → m ≡ two_digits text 5 → d ≡ two_digits text 8 → is_day y m d ≡ true → day_value text ≡ Some (days_from_civil (pos y) m d)
day-of text y m d a b e h = rw (← a, ← b, ← e, h) refl

pub no_day-of : (text : List ℕ) (y m d : ℕ) → y ≡ four_digits text 0 → m ≡ two_digits text 5 → d ≡ two_digits text 8 → is_day y m d ≡ false → day_value text ≡ None
no_day-of text y m d a b e h = rw (← a, ← b, ← e, h) refl

-- the same of the date that a constructor made of them, or did not make
pub date-found : (text : List ℕ) (y m d : ℕ) (date : Date) → y ≡ four_digits text 0 → m ≡ two_digits text 5 → d ≡ two_digits text 8 → y < 10000 → m < 100 → d < 100
    → IsYmd (to_z w16 y) (to_z w8 m) (to_z w8 d) date → Some (epoch_day date) ≡ day_value text
date-found text y m d date a b e hy hm hd h =
    let year : date.year ≡ pos y = h.0 ∙ to_z_pos w16 y (omega arith) in
    let month : date.month ≡ m = omega (arith, signed_arith, h.1 ∙ to_z_pos w8 m (omega arith)) in
    let place : date.day ≡ d = omega (arith, signed_arith, h.2 ∙ to_z_pos w8 d (omega arith)) in
    let civil = civil_at date.year y date.month date.day year (date.year_in, date.month_in, date.day_in) in
    let valid : is_day y m d ≡ true = rw (← month, ← place) (day-from_civil y date.month date.day civil) in
    rw (year, month, place) (sym (day-of text y m d a b e valid))

pub date-missing : (text : List ℕ) (y m d : ℕ) → y ≡ four_digits text 0 → m ≡ two_digits text 5 → d ≡ two_digits text 8 → y < 10000 → m < 100 → d < 100
    → ¬ (IsDate (to_z w16 y) (to_z w8 m) (to_z w8 d)) → None ≡ day_value text
date-missing text y m d a b e hy hm hd h = go (is_day y m d) refl
  where
    there : is_day y m d ≡ true → IsDate (to_z w16 y) (to_z w8 m) (to_z w8 d)
    there t =
        let p = day-parts y m d t in
        rw (to_z_pos w16 y (omega arith), to_z_pos w8 m (omega arith), to_z_pos w8 d (omega arith))
        ((omega (arith, signed_arith), omega (arith, signed_arith)), (omega (arith, signed_arith, p.0.0), omega (arith, signed_arith, p.0.1)), (omega (arith, signed_arith, p.1.0), omega (arith, signed_arith, p.1.1)))

    go : (t : Bool) → is_day y m d ≡ t → None ≡ day_value text
    go true t = absurd (h (there t))
    go false t = sym (no_day-of text y m d a b e t)

-- a day that is spelt
pub day_text-row : (y m d : ℕ) → y < 10000 → m < 100 → d < 100 → IsRow day (day_text y m d)
unfolding day_text
day_text-row y m d hy hm hd = (
  digit_in (48 + y / 100 / 10) (omega arith) (omega arith),
  (
    digit_in (48 + y / 100 % 10) (omega arith) (omega arith),
    (
      digit_in (48 + y % 100 / 10) (omega arith) (omega arith),
      (
        digit_in (48 + y % 100 % 10) (omega arith) (omega arith),
        (
          refl,
          (
            digit_in (48 + m / 10) (omega arith) (omega arith),
            (
              digit_in (48 + m % 10) (omega arith) (omega arith),
              (
                refl,
                (
                  digit_in (48 + d / 10) (omega arith) (omega arith),
                  (
                    digit_in (48 + d % 10) (omega arith) (omega arith),
                    tt,
                  ),
                ),
              ),
            ),
          ),
        ),
      ),
    ),
  ),
)

pub day_text-value : (y m d : ℕ) → y < 10000 → m < 100 → d < 100 → is_day y m d ≡ true → day_value (day_text y m d) ≡ Some (days_from_civil (pos y) m d)
unfolding day_text
day_text-value y m d hy hm hd h = day-of (day_text y m d) y m d (omega arith) (omega arith) (omega arith) h

day_text-length : (y m d : ℕ) → length (day_text y m d) ≡ 10
unfolding day_text
day_text-length y m d = refl

pub day-again : (y m d : ℕ) → y < 10000 → m < 100 → d < 100 → is_day y m d ≡ true → day_field (day_text y m d) ≡ Ok (days_from_civil (pos y) m d)
day-again y m d hy hm hd h =
    field-of (row day) (λ text. or_fault NoSuchDay (day_value text)) (day_text y m d) (omega (arith, day_text-length y m d)) (row_none 1 day (day_text y m d) (day_text-row y m d hy hm hd))
    ∙ ap (or_fault NoSuchDay) (day_text-value y m d hy hm hd h)

-- the same of a date
pub date-again : (date : Date) (y : ℕ) → date.year ≡ pos y → y ≤ 9999 → day_field (day_text (unsigned_abs date.year) date.month date.day) ≡ Ok (epoch_day date)
date-again date y e h =
    let civil = civil_at date.year y date.month date.day e (date.year_in, date.month_in, date.day_in) in
    rw e (day-again y date.month date.day (omega arith) (omega arith) (omega (arith, civil.2.1, (days_in_month_bounds (pos y) date.month).0)) (day-from_civil y date.month date.day civil))

-- a clock that is spelt
pub clock_text-row : (n : ℕ) → n < 1440 → IsRow clock (clock_text n)
unfolding clock_text
clock_text-row n h = (
  digit_in (48 + n / 60 / 10) (omega arith) (omega arith),
  (
    digit_in (48 + n / 60 % 10) (omega arith) (omega arith),
    (
      refl,
      (
        digit_in (48 + n % 60 / 10) (omega arith) (omega arith),
        (
          digit_in (48 + n % 60 % 10) (omega arith) (omega arith),
          tt,
        ),
      ),
    ),
  ),
)

clock-of : (text : List ℕ) (h m : ℕ) → h ≡ two_digits text 0 → m ≡ two_digits text 3 → h < 24 → m < 60 → clock_value text ≡ Some (60 * h + m)
clock-of text h m a b p q =
    let hours : nat_lt h 24 ≡ true = grind (arith, nat_tests) in
    let minutes : nat_lt m 60 ≡ true = grind (arith, nat_tests) in
    rw (← a, ← b, hours, minutes) refl

pub clock_text-value : (n : ℕ) → n < 1440 → clock_value (clock_text n) ≡ Some n
unfolding clock_text
clock_text-value n h =
    let same : 60 * (n / 60) + n % 60 ≡ n = omega arith in
    clock-of (clock_text n) (n / 60) (n % 60) (omega arith) (omega arith) (omega arith) (omega arith) ∙ ap Some same

clock_text-length : (n : ℕ) → length (clock_text n) ≡ 5
unfolding clock_text
clock_text-length n = refl

pub clock-again : (n : ℕ) → n < 1440 → clock_field (clock_text n) ≡ Ok n
clock-again n h =
    field-of (row clock) (λ text. or_fault Range (clock_value text)) (clock_text n) (omega (arith, clock_text-length n)) (row_none 1 clock (clock_text n) (clock_text-row n h))
    ∙ ap (or_fault Range) (clock_text-value n h)
