-- How values are spelt in fields.
use Rattle.std.specs.Prelude.{◌≡◌, ℕ, ◌+◌, ◌/◌, ◌%◌, List, [], ◌∷◌, ◌++◌, take, codes, decimal, pos, unsigned_abs, ◌+ℤ◌, ◌-ℤ◌, ◌*ℤ◌}
use Rattle.jiff_core.specs.declared.civil.date.Date.{Date}
use Rattle.duty_calendar.specs.Calendar.{day_zero}
use Rattle.duty_calendar.specs.declared.event.Kind.{Kind}
use Rattle.duty_calendar.specs.declared.event.Kind.TheVariants.{Flight, Ground, Leave}
use Rattle.duty_calendar.specs.declared.horizon.Horizon.{Horizon}
use Rattle.field_text.specs.Dates.{Civil, civil}

-- a number below 100 in two digits, and one below 10,000 in four
abbrev pub two : ℕ → List ℕ
two n = (48 + n / 10) ∷ (48 + n % 10) ∷ []

abbrev pub four : ℕ → List ℕ
four n = two (n / 100) ++ two (n % 100)

abbrev pub number_text : ℕ → List ℕ
number_text value = decimal value

abbrev pub minutes_text : ℕ → List ℕ
minutes_text value = decimal (value / 60) ++ 58 ∷ two (value % 60)

unfoldable pub clock_text : ℕ → List ℕ
clock_text value = two (value / 60) ++ 58 ∷ two (value % 60)

-- a year, month and day; a date of the years 0 to 9999
unfoldable pub day_text : ℕ → ℕ → ℕ → List ℕ
day_text y m d = four y ++ 45 ∷ two m ++ 45 ∷ two d

abbrev pub date_text : Date → List ℕ
date_text date = day_text (unsigned_abs date.year) date.month date.day

-- the minutes from the begin of 1970 in UTC to a base-local minute of a horizon
unfoldable pub utc_minute : Horizon → ℕ → ℕ
utc_minute h minute = unsigned_abs (day_zero h *ℤ pos 1440 +ℤ pos minute -ℤ h.offset)

abbrev pub civil_text : Civil → List ℕ
civil_text c = day_text c.year c.month c.day

-- its UTC day, and then its clock between T and Z
abbrev pub moment_end : ℕ → List ℕ
moment_end of_day = 84 ∷ clock_text of_day ++ 90 ∷ []

unfoldable pub moment_text : Horizon → ℕ → List ℕ
moment_text h minute =
    civil_text (civil (utc_minute h minute / 1440)) ++ moment_end (utc_minute h minute % 1440)

-- the word of a kind of event
abbrev pub kind_text : Kind → List ℕ
kind_text Flight = codes "flight"
kind_text Ground = codes "ground"
kind_text Leave = codes "leave"

-- a list has gained a part of a text, from its begin
abbrev pub HasPartly : List ℕ → List ℕ → List ℕ → Type 0
HasPartly old text new = (k : ℕ) × (new ≡ old ++ take k text)
