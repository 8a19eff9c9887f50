-- What is wrong with a row beside the rows before it.
use Rattle.std.specs.Prelude.{ℕ, suc, zero, ◌+◌, ◌-◌, Bool, false, not, ◌&&◌, ◌||◌, List, length, nat_le, nat_lt, slice_get, Option, Some, None, ◌==◌, if◌then◌else◌}
use Rattle.std.specs.List.{list_any}
use Rattle.std.specs.Option.{option_map_or}
use Rattle.duty_calendar.specs.Calendar.{month_end}
use Rattle.duty_calendar.specs.declared.horizon.Horizon.{Horizon}
use Rattle.duty_calendar.specs.declared.pairing.Duty.{Duty}
use Rattle.duty_calendar.specs.declared.pairing.Leg.{Leg}
use Rattle.duty_calendar.specs.declared.pairing.Pairing.{Pairing}
use Rattle.field_text.specs.declared.file_fault.FileCode.{FileCode}
use Rattle.field_text.specs.declared.file_fault.FileCode.TheVariants.{Duplicate, Order, OutsideMonth, InnerRest, Limit}
use Rattle.pairing_files.specs.Drafts.{is_called}
use Rattle.pairing_files.specs.Limits.{most_pairings, most_duties, most_legs, most_need, most_credit, pairings_limit, duties_limit, legs_limit, need_limit, credit_limit}

abbrev pub last_of : {A : Type 0} → List A → Option A
last_of xs = slice_get xs (length xs - 1)

-- the pairing stood before, is one too many, or passes a limit
abbrev pub pairing_fault : List Pairing → Pairing → Option FileCode
pairing_fault before p =
    if list_any (is_called p.name) before then Some Duplicate else
    (if nat_le most_pairings (length before) then Some (Limit pairings_limit) else
    (if nat_lt p.need 1 || nat_lt most_need p.need then Some (Limit need_limit) else
    (if nat_lt most_credit p.credit then Some (Limit credit_limit) else None)))

-- the duty lasts, and is parked in between
abbrev pub is_duty_in_order : Duty → Bool
is_duty_in_order d =
    nat_le d.report d.parked && nat_le d.parked d.release && nat_lt d.report d.release

-- the report lies in the month
abbrev pub is_in_month : Horizon → ℕ → Bool
is_in_month h minute = nat_le 525600 minute && nat_lt minute (month_end h)

-- a pairing's first duty reports in the month
abbrev pub month_fault : Horizon → ℕ → Option FileCode
month_fault h report = if is_in_month h report then None else Some OutsideMonth

-- before any other duty lie ten hours of rest
abbrev pub rest_fault : Duty → ℕ → Option FileCode
rest_fault e report =
    if nat_lt report e.release then Some Order else
    (if nat_lt report (e.release + 600) then Some InnerRest else None)

abbrev pub report_fault : Horizon → Option Duty → ℕ → Option FileCode
report_fault h None report = month_fault h report
report_fault h (Some e) report = rest_fault e report

abbrev pub too_many : {A : Type 0} → ℕ → ℕ → List A → Option FileCode
too_many most number xs = if nat_le most (length xs) then Some (Limit number) else None

-- the first of two faults
abbrev pub first_fault : {E : Type 0} → Option E → Option E → Option E
first_fault None e = e
first_fault (Some c) e = Some c

-- the duty is not the pairing's next, or does not fit behind its last one
abbrev pub duty_fault : Horizon → Pairing → ℕ → Duty → Option FileCode
duty_fault h p number d =
    if not (number == length p.duties + 1) then Some Order else
    (if not (is_duty_in_order d) then Some Order else
    first_fault (report_fault h (last_of p.duties) d.report)
    (too_many most_duties duties_limit p.duties))

-- the leg flies within the duty
abbrev pub is_leg_within : Duty → Leg → Bool
is_leg_within d l =
    nat_le d.report l.flown.out_at
    && nat_lt l.flown.out_at l.flown.in_at && nat_le l.flown.in_at d.parked

abbrev pub is_before_last : List Leg → Leg → Bool
is_before_last legs l =
    option_map_or (λ k. nat_lt l.flown.out_at k.flown.in_at) (last_of legs) false

-- the leg does not fit into the duty behind its last one
abbrev pub leg_fault : Duty → Leg → Option FileCode
leg_fault d l =
    if not (is_leg_within d l) then Some Order else
    (if is_before_last d.legs l then Some Order else too_many most_legs legs_limit d.legs)

-- the element of a number that counts from 1
abbrev pub numbered : {A : Type 0} → List A → ℕ → Option A
numbered xs zero = None
numbered xs (suc k) = slice_get xs k
