-- How a text reads as rules, and its first fault.
use Rattle.std.specs.Prelude.{ℕ, List, Bool, codes, nat_le, nat_lt, ℤ, pos, negsuc, ◌&&◌, Option, Some, None, option_and_then, Result, Ok, Err, if◌then◌else◌}
use Rattle.std.specs.Str.{is_utf8}
use Rattle.duty_calendar.specs.Forms.{is_seat, is_station_code}
use Rattle.duty_calendar.specs.declared.member.Rules.{Rules}
use Rattle.field_text.specs.Steps.{◌>>=◌, or_fault}
use Rattle.toml.specs.Data.{Members, get_member, as_integer, as_str}
use Rattle.toml.specs.Parse.{parse_document}
use Rattle.rules_file.specs.Keys.{missing, unknown}
use Rattle.rules_file.specs.declared.fault.RuleFault.{RuleFault}
use Rattle.rules_file.specs.declared.fault.RuleFault.TheVariants as fault

-- what the rules say
pub record Values : Type 0 where
  pub base : List ℕ
  pub seat : List ℕ
  pub year : ℤ
  pub month : ℕ
  pub offset : ℤ
  pub days_off : ℕ

abbrev pub values : Rules → Values
values r = record {
  base = r.base;
  seat = r.seat;
  year = r.horizon.year;
  month = r.horizon.month;
  offset = r.horizon.offset;
  days_off = r.days_off;
}

-- the text and the whole number at a key of a table
abbrev pub text_at : List ℕ → Members → Option (List ℕ)
text_at key table = option_and_then as_str (get_member key table)

abbrev pub whole_at : List ℕ → Members → Option ℤ
whole_at key table = option_and_then as_integer (get_member key table)

-- a text that passes a test
abbrev pub passed : (List ℕ → Bool) → List ℕ → Option (List ℕ)
passed test text = if test text then Some text else None

-- a whole number from one to another, and one of at most a size
abbrev pub between : ℕ → ℕ → ℤ → Option ℕ
between low high (pos n) = if nat_le low n && nat_le n high then Some n else None
between low high (negsuc n) = None

abbrev pub sized : ℕ → ℤ → Option ℤ
sized limit (pos n) = if nat_le n limit then Some (pos n) else None
sized limit (negsuc n) = if nat_lt n limit then Some (negsuc n) else None

-- the value of each key, where it has its kind and range
unfoldable pub base_in : Members → Option (List ℕ)
base_in table = option_and_then (passed is_station_code) (text_at (codes "base") table)

unfoldable pub seat_in : Members → Option (List ℕ)
seat_in table = option_and_then (passed is_seat) (text_at (codes "seat") table)

unfoldable pub year_in : Members → Option ℕ
year_in table = option_and_then (between 2000 2099) (whole_at (codes "year") table)

unfoldable pub month_in : Members → Option ℕ
month_in table = option_and_then (between 1 12) (whole_at (codes "month") table)

unfoldable pub offset_in : Members → Option ℤ
offset_in table = option_and_then (sized 840) (whole_at (codes "offset") table)

unfoldable pub days_off_in : Members → Option ℕ
days_off_in table = option_and_then (between 0 31) (whole_at (codes "days_off") table)

-- the values of all keys, or the first key in order that has another kind or value
unfoldable pub values_in : Members → Result Values RuleFault
values_in table = do
  base ← or_fault (fault.Range (codes "base")) (base_in table)
  seat ← or_fault (fault.Range (codes "seat")) (seat_in table)
  year ← or_fault (fault.Range (codes "year")) (year_in table)
  month ← or_fault (fault.Range (codes "month")) (month_in table)
  offset ← or_fault (fault.Range (codes "offset")) (offset_in table)
  days_off ← or_fault (fault.Range (codes "days_off")) (days_off_in table)
  Ok (record {
    base = base;
    seat = seat;
    year = pos year;
    month = month;
    offset = offset;
    days_off = days_off;
  })

-- a fault at a key, or what comes next where there is none
abbrev pub no_fault : {A : Type 0} → (List ℕ → RuleFault) → Option (List ℕ) → Result A RuleFault
    → Result A RuleFault
no_fault at None next = next
no_fault at (Some key) next = Err (at key)

unfoldable pub rules_in : Members → Result Values RuleFault
rules_in table = no_fault fault.MissingKey (missing table)
    (no_fault fault.UnknownKey (unknown table) (values_in table))

-- the table that a text is
unfoldable pub table_of : List ℕ → Option Members
table_of text = if is_utf8 text then parse_document text else None

-- the rules that a text gives, or its first fault
unfoldable pub rules_file : List ℕ → Result Values RuleFault
rules_file text = or_fault fault.NotToml (table_of text) >>= rules_in

-- the fault that an error tells, unless memory ran out
abbrev pub told : RuleFault → Option RuleFault
told fault.NoMemory = None
told fault.NotToml = Some fault.NotToml
told (fault.MissingKey key) = Some (fault.MissingKey key)
told (fault.UnknownKey key) = Some (fault.UnknownKey key)
told (fault.Range key) = Some (fault.Range key)
