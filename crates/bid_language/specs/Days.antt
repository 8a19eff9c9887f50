-- Days of the month.
use Rattle.std.specs.Prelude.{ℕ, ◌+◌, ◌&&◌, nat_le, nat_lt, codes, ℤ, pos, negsuc, ◌-ℤ◌, Option, Some, None, Result, Ok, Err, if◌then◌else◌}
use Rattle.duty_calendar.specs.declared.horizon.Horizon.{Horizon}
use Rattle.duty_calendar.specs.Calendar.{day_zero, month_days}
use Rattle.field_text.specs.Fields.{day_field}
use Rattle.field_text.specs.declared.field_fault.FieldFault.{FieldFault}
use Rattle.bid_language.specs.declared.fault.Word.TheVariants as word
use Rattle.bid_language.specs.declared.fault.BidCode.TheVariants as code
use Rattle.bid_language.specs.Keywords.{is_text}
use Rattle.bid_language.specs.Words.{Spot, Reader, ◌>>=◌, done, wrong, or_wrong, next, optional}

-- a number that is one of so many days from day 365 on
abbrev pub one_of : ℕ → ℤ → Option ℕ
one_of days (pos n) = if nat_le 365 n && nat_lt n (365 + days) then Some n else None
one_of days (negsuc n) = None

-- the number of a day of the month, which is counted from 1 January 1970
abbrev pub in_month : Horizon → ℤ → Option ℕ
in_month h day = one_of (month_days h) (day -ℤ day_zero h)

-- the same of a day that may not have read
abbrev pub day_in : Horizon → Result ℤ FieldFault → Option ℕ
day_in h (Ok day) = in_month h day
day_in h (Err e) = None

unfoldable pub day : Horizon → Reader ℕ
day h = do
  s ← next word.Value
  or_wrong s code.Date (day_in h (day_field s.text))

abbrev pub not_before : ℕ → Option ℕ → Option ℕ
not_before first None = None
not_before first (Some d) = if nat_le first d then Some d else None

-- a day that is not before the first one
unfoldable pub later_day : Horizon → ℕ → Reader ℕ
later_day h first = do
  s ← next word.Value
  or_wrong s code.Date (not_before first (day_in h (day_field s.text)))

abbrev pub last_day_of : Horizon → ℕ → Option Spot → Reader ℕ
last_day_of h first None = done first
last_day_of h first (Some s) =
    if is_text s.text (codes "to") then later_day h first else wrong s (code.Expected word.To)

-- the last day of a stretch: the first one, where no other is named
unfoldable pub last_day : Horizon → ℕ → Reader ℕ
last_day h first = do
  s ← optional
  last_day_of h first s
