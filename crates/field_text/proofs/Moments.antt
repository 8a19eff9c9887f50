-- How moments are read.
use Rattle.std.proofs.Common.{◌≡◌, ℕ, ◌<◌, List, [], ◌∷◌, ◌++◌, drop, length, Some, None, Err, refl, ap, sym, ◌∙◌, ℤ}
use Rattle.std.specs.Prelude.{slice_range}
use Rattle.duty_calendar.specs.Calendar.{minute_on}
use Rattle.duty_calendar.specs.declared.horizon.Horizon.{Horizon}
use Rattle.field_text.specs.declared.form.Class.TheVariants.{Byte}
use Rattle.field_text.specs.declared.field_fault.FieldFault.TheVariants.{NoSuchDay, OutsideHorizon, Range}
use Rattle.field_text.specs.Steps.{or_fault}
use Rattle.field_text.specs.Form.{row, fault_from, IsRow}
use Rattle.field_text.specs.Fields.{clock, clock_value, day, day_value, moment, moment_value, moment_field}
use Rattle.field_text.proofs.RowForms.{row-parts}
use Rattle.field_text.proofs.Again.{field-of}

-- the day and the clock of a moment
pub moment-day : (text part : List ℕ) → IsRow moment text → part ≡ slice_range text 0 10 → IsRow day part
moment-day text part h e = rw e (row-parts day (Byte 84 ∷ clock ++ Byte 90 ∷ []) text h).0

pub moment-clock : (text part : List ℕ) → IsRow moment text → part ≡ slice_range text 11 16 → IsRow clock part
moment-clock text part h e =
    let behind = (row-parts (day ++ Byte 84 ∷ []) (clock ++ Byte 90 ∷ []) text h).1 in
    rw e (row-parts clock (Byte 90 ∷ []) (drop 11 text) behind).0

-- the field of a text of the form, by what its parts say
pub moment-no_clock : (h : Horizon) (text clock day : List ℕ) → 0 < length text → fault_from 1 (row moment) text ≡ None → clock ≡ slice_range text 11 16 → clock_value clock ≡ None
    → moment_field h text ≡ Err Range
moment-no_clock h text clock day l f p a =
    let c : clock_value (slice_range text 11 16) ≡ None = ap clock_value (sym p) ∙ a in
    field-of (row moment) (moment_value h) text l f ∙ rw c refl

pub moment-no_day : (h : Horizon) (text clock day : List ℕ) (minute : ℕ) → 0 < length text → fault_from 1 (row moment) text ≡ None → clock ≡ slice_range text 11 16 → day ≡ slice_range text 0 10
    → clock_value clock ≡ Some minute → day_value day ≡ None → moment_field h text ≡ Err NoSuchDay
moment-no_day h text clock day minute l f p q a b =
    let c : clock_value (slice_range text 11 16) ≡ Some minute = ap clock_value (sym p) ∙ a in
    let d : day_value (slice_range text 0 10) ≡ None = ap day_value (sym q) ∙ b in
    field-of (row moment) (moment_value h) text l f ∙ rw (c, d) refl

pub moment-on : (h : Horizon) (text clock day : List ℕ) (minute : ℕ) (n : ℤ) → 0 < length text → fault_from 1 (row moment) text ≡ None → clock ≡ slice_range text 11 16 → day ≡ slice_range text 0 10
    → clock_value clock ≡ Some minute → day_value day ≡ Some n → moment_field h text ≡ or_fault OutsideHorizon (minute_on h n minute)
moment-on h text clock day minute n l f p q a b =
    let c : clock_value (slice_range text 11 16) ≡ Some minute = ap clock_value (sym p) ∙ a in
    let d : day_value (slice_range text 0 10) ≡ Some n = ap day_value (sym q) ∙ b in
    field-of (row moment) (moment_value h) text l f ∙ rw (c, d) refl
