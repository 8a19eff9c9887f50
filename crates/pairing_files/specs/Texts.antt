-- How pairings are written: a header, and a line for each row.
use Rattle.std.specs.Prelude.{ℕ, ◌+◌, ◌≤◌, List, [], ◌∷◌, ◌++◌, Option, Some, None, All}
use Rattle.duty_calendar.specs.Calendar.{horizon_end}
use Rattle.duty_calendar.specs.declared.horizon.Horizon.{Horizon}
use Rattle.duty_calendar.specs.declared.pairing.Duty.{Duty}
use Rattle.duty_calendar.specs.declared.pairing.Leg.{Leg}
use Rattle.duty_calendar.specs.declared.pairing.Pairing.{Pairing}
use Rattle.field_text.specs.Rows.{line}
use Rattle.field_text.specs.Spelling.{number_text, minutes_text, moment_text}
use Rattle.pairing_files.specs.Columns.{pairings_header, duties_header, legs_header}

unfoldable pub lines : List (List (List ℕ)) → List ℕ
lines [] = []
lines (r ∷ rs) = line r ++ lines rs

abbrev pub layover_text : Option (List ℕ) → List ℕ
layover_text None = []
layover_text (Some station) = station

abbrev pub pairing_fields : Pairing → List (List ℕ)
pairing_fields p = p.name ∷ number_text p.need ∷ minutes_text p.credit ∷ []

-- of the pairing of this name, and the duty's number in it
abbrev pub duty_fields : Horizon → List ℕ → ℕ → Duty → List (List ℕ)
duty_fields h name number d =
    name ∷ number_text number
    ∷ moment_text h d.report ∷ moment_text h d.parked ∷ moment_text h d.release
    ∷ layover_text d.layover ∷ []

abbrev pub leg_fields : Horizon → List ℕ → ℕ → Leg → List (List ℕ)
leg_fields h name number l =
    name ∷ number_text number ∷ l.from ∷ l.to
    ∷ moment_text h l.flown.out_at ∷ moment_text h l.flown.in_at ∷ []

unfoldable pub pairing_rows : List Pairing → List (List (List ℕ))
pairing_rows [] = []
pairing_rows (p ∷ ps) = pairing_fields p ∷ pairing_rows ps

-- the duties from this number on
unfoldable pub duty_rows : Horizon → List ℕ → ℕ → List Duty → List (List (List ℕ))
duty_rows h name number [] = []
duty_rows h name number (d ∷ ds) = duty_fields h name number d ∷ duty_rows h name (number + 1) ds

unfoldable pub all_duty_rows : Horizon → List Pairing → List (List (List ℕ))
all_duty_rows h [] = []
all_duty_rows h (p ∷ ps) = duty_rows h p.name 1 p.duties ++ all_duty_rows h ps

-- the legs of one duty
unfoldable pub leg_rows : Horizon → List ℕ → ℕ → List Leg → List (List (List ℕ))
leg_rows h name number [] = []
leg_rows h name number (l ∷ ls) = leg_fields h name number l ∷ leg_rows h name number ls

-- and of the duties from this number on
unfoldable pub duties_leg_rows : Horizon → List ℕ → ℕ → List Duty → List (List (List ℕ))
duties_leg_rows h name number [] = []
duties_leg_rows h name number (d ∷ ds) =
    leg_rows h name number d.legs ++ duties_leg_rows h name (number + 1) ds

unfoldable pub all_leg_rows : Horizon → List Pairing → List (List (List ℕ))
all_leg_rows h [] = []
all_leg_rows h (p ∷ ps) = duties_leg_rows h p.name 1 p.duties ++ all_leg_rows h ps

abbrev pub pairings_text : List Pairing → List ℕ
pairings_text list = line pairings_header ++ lines (pairing_rows list)

abbrev pub duties_text : Horizon → List Pairing → List ℕ
duties_text h list = line duties_header ++ lines (all_duty_rows h list)

abbrev pub legs_text : Horizon → List Pairing → List ℕ
legs_text h list = line legs_header ++ lines (all_leg_rows h list)

-- no minute is above the horizon's end
abbrev pub LegEndsWithin : Horizon → Leg → Type 0
LegEndsWithin h l = (l.flown.out_at ≤ horizon_end h) × (l.flown.in_at ≤ horizon_end h)

abbrev pub DutyEndsWithin : Horizon → Duty → Type 0
DutyEndsWithin h d =
    (d.report ≤ horizon_end h) × (d.parked ≤ horizon_end h) × (d.release ≤ horizon_end h)
    × All (LegEndsWithin h) d.legs

abbrev pub EndWithin : Horizon → List Pairing → Type 0
EndWithin h list = All (λ p. All (DutyEndsWithin h) p.duties) list
