-- The values of tests and wishes, each a token.
use Rattle.std.specs.Prelude.{ℕ, ◌&&◌, nat_le, List, position, Option, Some, None, Result, Ok, Err, if◌then◌else◌}
use Rattle.duty_calendar.specs.declared.pairing.Pairing.{Pairing}
use Rattle.duty_calendar.specs.declared.weekday.Weekday.{Weekday}
use Rattle.duty_calendar.specs.Forms.{is_name}
use Rattle.field_text.specs.Fields.{number_field, minutes_field, clock_field, station_of}
use Rattle.field_text.specs.declared.field_fault.FieldFault.{FieldFault}
use Rattle.bid_language.specs.declared.fault.Word.TheVariants as word
use Rattle.bid_language.specs.declared.fault.BidCode.TheVariants as code
use Rattle.bid_language.specs.declared.keywords.Side.{Side}
use Rattle.bid_language.specs.declared.keywords.Bound.{Bound}
use Rattle.bid_language.specs.Keywords.{is_text, side_of, bound_of, weekday_of}
use Rattle.bid_language.specs.Words.{Reader, ◌>>=◌, wrong, or_wrong, next}

-- the value of a field, where it reads; and where it is within bounds too
abbrev pub value_of : Result ℕ FieldFault → Option ℕ
value_of (Ok n) = Some n
value_of (Err e) = None

abbrev pub value_in : ℕ → ℕ → Result ℕ FieldFault → Option ℕ
value_in low high (Ok n) = if nat_le low n && nat_le n high then Some n else None
value_in low high (Err e) = None

unfoldable pub number : ℕ → ℕ → Reader ℕ
number low high = do
  s ← next word.Value
  or_wrong s code.Number (value_in low high (number_field s.text))

unfoldable pub clock : Reader ℕ
clock = do
  s ← next word.Value
  or_wrong s code.Number (value_of (clock_field s.text))

unfoldable pub minutes : Reader ℕ
minutes = do
  s ← next word.Value
  or_wrong s code.Number (value_of (minutes_field s.text))

-- the number of the pairing of this name
abbrev pub pairing_named : List Pairing → List ℕ → Option ℕ
pairing_named pairings text = position (λ p. is_text p.name text) pairings

unfoldable pub pairing : List Pairing → Reader ℕ
pairing pairings = do
  s ← next word.Name
  if is_name s.text then or_wrong s code.UnknownPairing (pairing_named pairings s.text)
      else wrong s (code.Expected word.Name)

-- three capitals
unfoldable pub station : Reader (List ℕ)
station = do
  s ← next word.Station
  or_wrong s (code.Expected word.Station) (station_of s.text)

unfoldable pub weekday : Reader Weekday
weekday = do
  s ← next word.Weekday
  or_wrong s (code.Expected word.Weekday) (weekday_of s.text)

unfoldable pub side : Reader Side
side = do
  s ← next word.Side
  or_wrong s (code.Expected word.Side) (side_of s.text)

unfoldable pub bound : Reader Bound
bound = do
  s ← next word.Credit
  or_wrong s (code.Expected word.Credit) (bound_of s.text)
