-- The records that a reader of csv has still to give.
use Rattle.std.specs.Prelude.{◌≡◌, ℕ, ◌+◌, ◌≤◌, List, [], ◌∷◌, length, true, Option, Some, None, IsSomeAnd}
use Rattle.std.specs.Borrow.{Bor}
use Rattle.std.specs.Option.{option_map_or}
use Rattle.field_text.specs.Sizes.{longest}
use Rattle.csv.specs.Records.{Row, fields_of}
use Rattle.csv.specs.declared.parser.State.{State}
use Rattle.csv.specs.declared.reader.Reader.{Reader}
use Rattle.csv.specs.declared.reader.Trim.TheVariants as trim
use Rattle.csv.specs.Reading.{default_config, records, strip_bom, records_from, source_of, reader_state, reader_config, reader_trim, is_flexible, Ready}

-- the records of a text, the header among them, behind a byte order mark if there is one
abbrev pub records_of : List ℕ → List (List (List ℕ))
records_of text = records default_config (strip_bom text)

-- those of these bytes, from a state of the parser
abbrev pub records_left : State → List ℕ → List (List (List ℕ))
records_left s bytes = records_from default_config (length bytes + 1) s bytes

abbrev pub source : Reader (Bor (List ℕ)) → Option (List ℕ)
source r = source_of (λ s. Some s.now) r

abbrev pub unread : Reader (Bor (List ℕ)) → List (List (List ℕ))
unread r = option_map_or (records_left (reader_state r)) (source r) []

-- no field is longer than that
abbrev pub AreWithin : ℕ → List (List ℕ) → Type 0
AreWithin n [] = Unit {0}
AreWithin n (f ∷ fs) = (length f ≤ n) × AreWithin n fs

-- the reader gives the records of known bytes as they are, whatever their length
pub record IsPlain (r : Reader (Bor (List ℕ))) : Type 0 where
  pub config : reader_config r ≡ default_config
  pub trim : reader_trim r ≡ trim.None
  pub flexible : is_flexible r ≡ true
  pub ready : Ready r
  pub known : IsSomeAnd (source r) (λ bytes. length bytes ≤ longest)

-- the first of these records is taken, and the others are left; none is where there are none
abbrev pub Takes : List (List (List ℕ)) → List (List (List ℕ)) → Option Row → Type 0
Takes old new None = old ≡ []
Takes old new (Some row) = old ≡ fields_of row ∷ new

-- what holds of the fields of a record, if there is one
abbrev pub IfRow : (List (List ℕ) → Type 0) → Option Row → Type 0
IfRow P None = Unit {0}
IfRow P (Some row) = P (fields_of row)
