-- How the fields of the month's files read.
use Rattle.std.specs.Prelude.{ℕ, Bool, ◌+◌, ◌*◌, ◌-◌, ◌^◌, List, [], ◌∷◌, ◌++◌, length, take, slice_range, ℤ, pos, Option, Some, None, Result, Ok, Err, nat_lt, nat_le, slice_index, ◌==◌, ◌&&◌, if◌then◌else◌}
use Rattle.std.specs.Str.{bytes_eq}
use Rattle.std.specs.Str.Parse.{digits_value}
use Rattle.jiff_core.specs.Calendar.{days_from_civil, days_in_month}
use Rattle.duty_calendar.specs.Calendar.{minute_on}
use Rattle.duty_calendar.specs.Forms.{is_station_code}
use Rattle.duty_calendar.specs.declared.event.Kind.{Kind}
use Rattle.duty_calendar.specs.declared.event.Kind.TheVariants.{Flight, Ground, Leave}
use Rattle.duty_calendar.specs.declared.horizon.Horizon.{Horizon}
use Rattle.field_text.specs.declared.form.Class.{Class}
use Rattle.field_text.specs.declared.form.Class.TheVariants.{Digit, NonZero, Capital, NameByte, Byte}
use Rattle.field_text.specs.declared.field_fault.FieldFault.{FieldFault}
use Rattle.field_text.specs.declared.field_fault.FieldFault.TheVariants.{Empty, Shape, Range, NoSuchDay, OutsideHorizon}
use Rattle.field_text.specs.Form.{Form, finished, one, many, up_to, either, row, fault_from}
use Rattle.field_text.specs.Spelling.{kind_text}
use Rattle.field_text.specs.Steps.{◌>>=◌, or_fault}

-- no fault, or one of shape
abbrev pub shaped : {A : Type 0} → Option ℕ → Result A FieldFault → Result A FieldFault
shaped None value = value
shaped (Some column) value = Err (Shape column)

-- an empty field, one that is not of the form, or what a text of the form says
abbrev pub field : {A : Type 0} → Form → (List ℕ → Result A FieldFault) → List ℕ
    → Result A FieldFault
field form value [] = Err Empty
field form value (b ∷ bs) = shaped (fault_from 1 form (b ∷ bs)) (value (b ∷ bs))

-- a number: 0, or digits that do not begin with 0
abbrev pub number : Form
number = either (Byte 48) finished (one NonZero (many Digit finished))

abbrev pub below : ℕ → ℕ → Option ℕ
below limit value = if nat_lt value limit then Some value else None

abbrev pub number_field : List ℕ → Result ℕ FieldFault
number_field = field number (λ text. or_fault Range (below (2 ^ 32) (digits_value 10 text)))

-- the number that two digits write, and four
abbrev pub two_digits : List ℕ → ℕ → ℕ
two_digits text i = 10 * (slice_index text i - 48) + (slice_index text (i + 1) - 48)

abbrev pub four_digits : List ℕ → ℕ → ℕ
four_digits text i = 100 * two_digits text i + two_digits text (i + 2)

-- minutes: hours of one to three digits, 0 alone or without a leading 0, a colon, two digits
abbrev pub minutes_end : List Class
minutes_end = Byte 58 ∷ Digit ∷ Digit ∷ []

abbrev pub minutes : Form
minutes = either (Byte 48) (row minutes_end) (one NonZero (up_to 2 Digit (row minutes_end)))

-- the minutes of a text whose hours are its first k bytes
abbrev pub minutes_value : List ℕ → ℕ → Option ℕ
minutes_value text k =
    let minute = two_digits text (k + 1) in
    if nat_lt minute 60 then Some (60 * digits_value 10 (take k text) + minute) else None

abbrev pub minutes_field : List ℕ → Result ℕ FieldFault
minutes_field = field minutes (λ text. or_fault Range (minutes_value text (length text - 3)))

-- a clock: two digits, a colon, two digits
abbrev pub clock : List Class
clock = Digit ∷ Digit ∷ Byte 58 ∷ Digit ∷ Digit ∷ []

abbrev pub clock_value : List ℕ → Option ℕ
clock_value text =
    let hour = two_digits text 0 in
    let minute = two_digits text 3 in
    if nat_lt hour 24 && nat_lt minute 60 then Some (60 * hour + minute) else None

abbrev pub clock_field : List ℕ → Result ℕ FieldFault
clock_field = field (row clock) (λ text. or_fault Range (clock_value text))

-- a day: four, two and two digits, joined by dashes
abbrev pub day : List Class
day = Digit ∷ Digit ∷ Digit ∷ Digit ∷ Byte 45 ∷ Digit ∷ Digit ∷ Byte 45 ∷ Digit ∷ Digit ∷ []

-- whether the calendar has the day
abbrev pub is_day : ℕ → ℕ → ℕ → Bool
is_day y m d = nat_le 1 m && nat_le m 12 && nat_le 1 d && nat_le d (days_in_month (pos y) m)

-- the number of a day, counted from 1 January 1970
abbrev pub day_value : List ℕ → Option ℤ
day_value text =
    let y = four_digits text 0 in let m = two_digits text 5 in let d = two_digits text 8 in
    if is_day y m d then Some (days_from_civil (pos y) m d) else None

abbrev pub day_field : List ℕ → Result ℤ FieldFault
day_field = field (row day) (λ text. or_fault NoSuchDay (day_value text))

-- a moment: a day, T, a clock, Z
abbrev pub moment : List Class
moment = day ++ Byte 84 ∷ clock ++ Byte 90 ∷ []

-- the base-local minute of a moment of the horizon
abbrev pub moment_value : Horizon → List ℕ → Result ℕ FieldFault
moment_value h text = do
  minute ← or_fault Range (clock_value (slice_range text 11 16))
  d ← or_fault NoSuchDay (day_value (slice_range text 0 10))
  or_fault OutsideHorizon (minute_on h d minute)

abbrev pub moment_field : Horizon → List ℕ → Result ℕ FieldFault
moment_field h = field (row moment) (moment_value h)

-- a name: 1 to 16 letters, digits, dashes and underscores
abbrev pub name : Form
name = one NameByte (up_to 15 NameByte finished)

abbrev pub name_field : List ℕ → Result (List ℕ) FieldFault
name_field = field name (λ text. Ok text)

-- a station: three capital letters
abbrev pub station : List Class
station = Capital ∷ Capital ∷ Capital ∷ []

abbrev pub station_field : List ℕ → Result (List ℕ) FieldFault
station_field = field (row station) (λ text. Ok text)

-- the station of these letters
abbrev pub station_of : List ℕ → Option (List ℕ)
station_of text = if is_station_code text then Some text else None

-- one of three words
abbrev pub kind_field : List ℕ → Result Kind FieldFault
kind_field text =
    if length text == 0 then Err Empty
    else if bytes_eq text (kind_text Flight) then Ok Flight
    else if bytes_eq text (kind_text Ground) then Ok Ground
    else if bytes_eq text (kind_text Leave) then Ok Leave
    else Err (Shape 1)

-- the forms of all fields but the kind of an event
abbrev pub forms : List Form
forms = number ∷ minutes ∷ row clock ∷ row day ∷ row moment ∷ name ∷ row station ∷ []
