-- A moment that is spelt is read as its minute.
use Rattle.std.proofs.Common.{◌≡◌, ℕ, ◌/◌, ◌%◌, ◌<◌, ◌≤◌, ◌∷◌, ◌++◌, [], Bool, true, Some, None, Ok, refl, arith, ap, sym, ◌∙◌, cond, ℤ, pos, ◌+ℤ◌, ◌-ℤ◌, ◌*ℤ◌}
use Rattle.std.proofs.lemmas.Bool.Decides.{nat_tests}
use Rattle.std.specs.Prelude.{nat_le, unsigned_abs}
use Rattle.jiff_core.specs.Calendar.{days_from_civil, IsCivilDate}
use Rattle.jiff_core.proofs.SignedLemmas.{signed_arith}
use Rattle.jiff_core.proofs.CalendarLemmas.{days_in_month_bounds}
use Rattle.duty_calendar.specs.Calendar.{up_to, day_zero, horizon_end, local_minute_on, minute_on}
use Rattle.duty_calendar.specs.declared.horizon.Horizon.{Horizon}
use Rattle.field_text.specs.declared.form.Class.TheVariants.{Byte}
use Rattle.field_text.specs.declared.field_fault.FieldFault.TheVariants.{OutsideHorizon}
use Rattle.field_text.specs.Steps.{or_fault}
use Rattle.field_text.specs.Fields.{clock, day, moment, moment_field}
use Rattle.field_text.specs.Dates.{Civil, civil}
use Rattle.field_text.specs.Spelling.{day_text, clock_text, moment_end, moment_text, utc_minute}
use Rattle.field_text.proofs.RowForms.{row_none, row-join}
use Rattle.field_text.proofs.Days.{pos-abs, day-from_civil, day_text-row, day_text-value, clock_text-row, clock_text-value}
use Rattle.field_text.proofs.Moments.{moment-on}
use Rattle.field_text.proofs.Utc.{day_part-of, clock_part-of, long-of}
use Rattle.field_text.proofs.Walk.{Numbered, civil_numbered, civil-year, month_bounds}

up_to-pos : (limit n : ℕ) (z : ℤ) → z ≡ pos n → n ≤ limit → up_to limit z ≡ Some n
up_to-pos limit n z e h =
    let fits : nat_le n limit ≡ true = grind (arith, nat_tests) in
    ap (up_to limit) e ∙ ap (λ (b : Bool). cond b (Some n) None) fits

-- the minute in UTC, and what bounds it
record IsUtc (h : Horizon) (minute : ℕ) : Type 0 where
  same : day_zero h *ℤ pos 1440 +ℤ pos minute -ℤ h.offset ≡ pos (utc_minute h minute)
  early : utc_minute h minute / 1440 ≤ 60000

utc-is : (h : Horizon) (minute : ℕ) → minute ≤ horizon_end h → IsUtc h minute
unfolding utc_minute
utc-is h minute w =
    let y = pos-abs h.year (omega (arith, signed_arith, h.year_in.0)) in
    let b = month_bounds (unsigned_abs h.year) h.month (omega (arith, signed_arith, y, h.year_in.0), omega (arith, signed_arith, y, h.year_in.1)) h.month_in in
    let first : days_from_civil h.year h.month 1 ≡ days_from_civil (pos (unsigned_abs h.year)) h.month 1 = ap (λ (z : ℤ). days_from_civil z h.month 1) y in
    let total = pos-abs (day_zero h *ℤ pos 1440 +ℤ pos minute -ℤ h.offset) (omega (arith, signed_arith, first, b.0, h.offset_in.0, h.offset_in.1)) in
    record {
      same = total;
      early = omega (arith, signed_arith, total, w, first, b.1, h.offset_in.0, h.offset_in.1, (days_in_month_bounds h.year h.month).0);
    }

-- a day and a clock that are spelt, by their numbers
spelt-on : (h : Horizon) (c : Civil) (n r : ℕ) → Numbered c n → c.year ≤ 9999 → r < 1440 → moment_field h (day_text c.year c.month c.day ++ moment_end r) ≡ or_fault OutsideHorizon (minute_on h (pos n) r)
spelt-on h c n r k low l =
    let days : c.day < 100 = omega (arith, k.day.1, (days_in_month_bounds (pos c.year) c.month).0) in
    let valid : IsCivilDate (pos c.year) c.month c.day = ((omega (arith, signed_arith), omega (arith, signed_arith, low)), k.month, k.day) in
    let text = day_text c.year c.month c.day ++ moment_end r in
    let form = row-join day (Byte 84 ∷ clock ++ Byte 90 ∷ []) (day_text c.year c.month c.day) (moment_end r)
    (day_text-row c.year c.month c.day (omega (arith, low)) (omega (arith, k.month.1)) days)
    (refl, row-join clock (Byte 90 ∷ []) (clock_text r) (90 ∷ []) (clock_text-row r l) (refl, tt)) in
    let found = day_text-value c.year c.month c.day (omega (arith, low)) (omega (arith, k.month.1)) days (day-from_civil c.year c.month c.day valid) in
    moment-on h text (clock_text r) (day_text c.year c.month c.day) r (pos n)
    (omega (arith, long-of c.year c.month c.day r)) (row_none 1 moment text form)
    (sym (clock_part-of c.year c.month c.day r)) (sym (day_part-of c.year c.month c.day r))
    (clock_text-value r l) (found ∙ ap Some k.number)

-- for each minute of the horizon
pub moment-read : (h : Horizon) (minute : ℕ) → minute ≤ horizon_end h → moment_field h (moment_text h minute) ≡ Ok minute
unfolding moment_text
moment-read h minute w =
    let u = utc-is h minute w in
    let total = u.same in
    let n : ℕ = utc_minute h minute / 1440 in
    let r : ℕ = utc_minute h minute % 1440 in
    let local : local_minute_on h (pos n) r ≡ pos minute = omega (arith, signed_arith, total) in
    spelt-on h (civil n) n r (civil_numbered n) (civil-year n u.early) (omega arith)
    ∙ ap (or_fault OutsideHorizon) (up_to-pos (horizon_end h) minute (local_minute_on h (pos n) r) local w)
