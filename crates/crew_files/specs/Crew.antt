-- How a row of `crew.csv` reads: a member with the least and the greatest credit.
use Rattle.std.specs.Prelude.{ℕ, Bool, List, [], ◌∷◌, ◌++◌, length, codes, slice_index_or, nat_le, nat_lt, Result, Ok, Err, if◌then◌else◌}
use Rattle.std.specs.List.{list_any}
use Rattle.std.specs.Str.{bytes_eq}
use Rattle.duty_calendar.specs.declared.member.Member.{Member}
use Rattle.field_text.specs.declared.file_fault.FileCode.{FileCode}
use Rattle.field_text.specs.declared.file_fault.FileCode.TheVariants.{Duplicate, Order, Limit}
use Rattle.field_text.specs.Fields.{name_field, minutes_field}
use Rattle.field_text.specs.Rows.{in_column, text_row}
use Rattle.field_text.specs.Steps.{◌>>=◌}
use Rattle.crew_files.specs.Limits.{most_members, members_limit, most_credit, credit_limit}

abbrev pub crew_header : List (List ℕ)
crew_header = codes "member" ∷ codes "low" ∷ codes "high" ∷ []

-- whether a member has this name
abbrev pub has_name : List ℕ → Member → Bool
has_name name m = bytes_eq name m.name

abbrev pub is_named : List ℕ → List Member → Bool
is_named name members = list_any (has_name name) members

-- a member who did nothing before the month and has nothing fixed in it
abbrev pub new_member : List ℕ → ℕ → ℕ → Member
new_member name low high = record { name = name; low = low; high = high; history = []; fixed = [] }

-- a member after these, within the limits; the greatest credit bounds the least one too
abbrev pub member_checked : List Member → List ℕ → ℕ → ℕ → Result (List Member) FileCode
member_checked before name low high =
    if is_named name before then Err Duplicate
    else if nat_lt high low then Err Order
    else if nat_le most_members (length before) then Err (Limit members_limit)
    else if nat_lt most_credit high then Err (Limit credit_limit)
    else Ok (before ++ new_member name low high ∷ [])

abbrev pub crew_columns : List Member → List ℕ → List ℕ → List ℕ → Result (List Member) FileCode
crew_columns before name low high = do
  n ← in_column 1 (name_field name)
  l ← in_column 2 (minutes_field low)
  u ← in_column 3 (minutes_field high)
  member_checked before n l u

abbrev pub field_at : List (List ℕ) → ℕ → List ℕ
field_at fields i = slice_index_or fields i []

-- a row, after these members
abbrev pub crew_row : List Member → List (List ℕ) → Result (List Member) FileCode
crew_row before fields =
    text_row 3 fields
    (crew_columns before (field_at fields 0) (field_at fields 1) (field_at fields 2))
