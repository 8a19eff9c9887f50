-- What the columns of a row say by themselves.
use Rattle.std.specs.Prelude.{ℕ, List, [], ◌∷◌, codes, slice_index_or, Option, Some, None, Result, Ok}
use Rattle.duty_calendar.specs.declared.horizon.Horizon.{Horizon}
use Rattle.duty_calendar.specs.declared.pairing.Pairing.{Pairing}
use Rattle.field_text.specs.Fields.{name_field, number_field, minutes_field, moment_field, station_field}
use Rattle.field_text.specs.Rows.{in_column}
use Rattle.field_text.specs.Steps.{◌>>=◌}
use Rattle.field_text.specs.declared.field_fault.FieldFault.{FieldFault}
use Rattle.field_text.specs.declared.file_fault.FileCode.{FileCode}
use Rattle.pairing_files.specs.declared.row.DutyRow.{DutyRow}
use Rattle.pairing_files.specs.declared.row.LegRow.{LegRow}

abbrev pub pairings_header : List (List ℕ)
pairings_header = codes "pairing" ∷ codes "need" ∷ codes "credit" ∷ []

abbrev pub duties_header : List (List ℕ)
duties_header =
    codes "pairing" ∷ codes "no" ∷ codes "report" ∷ codes "parked" ∷ codes "release"
    ∷ codes "layover" ∷ []

abbrev pub legs_header : List (List ℕ)
legs_header =
    codes "pairing" ∷ codes "no" ∷ codes "from" ∷ codes "to" ∷ codes "out" ∷ codes "in" ∷ []

abbrev pub field_at : List (List ℕ) → ℕ → List ℕ
field_at fields i = slice_index_or fields i []

-- a station, or none where the field is empty
abbrev pub layover_field : List ℕ → Result (Option (List ℕ)) FieldFault
layover_field [] = Ok None
layover_field (b ∷ bs) = station_field (b ∷ bs) >>= (λ s. Ok (Some s))

-- a pairing that has no duty yet
abbrev pub pairing_columns : List (List ℕ) → Result Pairing FileCode
pairing_columns fields = do
  name ← in_column 1 (name_field (field_at fields 0))
  need ← in_column 2 (number_field (field_at fields 1))
  credit ← in_column 3 (minutes_field (field_at fields 2))
  Ok (record { name = name; need = need; credit = credit; duties = [] })

-- a duty that has no leg yet, with its pairing's name and its number in the pairing
abbrev pub duty_columns : Horizon → List (List ℕ) → Result DutyRow FileCode
duty_columns h fields = do
  name ← in_column 1 (name_field (field_at fields 0))
  number ← in_column 2 (number_field (field_at fields 1))
  report ← in_column 3 (moment_field h (field_at fields 2))
  parked ← in_column 4 (moment_field h (field_at fields 3))
  release ← in_column 5 (moment_field h (field_at fields 4))
  layover ← in_column 6 (layover_field (field_at fields 5))
  Ok (record {
    name = name;
    number = number;
    duty = record {
      report = report;
      parked = parked;
      release = release;
      layover = layover;
      legs = [];
    };
  })

-- a leg, with its pairing's name and the number of its duty
abbrev pub leg_columns : Horizon → List (List ℕ) → Result LegRow FileCode
leg_columns h fields = do
  name ← in_column 1 (name_field (field_at fields 0))
  number ← in_column 2 (number_field (field_at fields 1))
  from ← in_column 3 (station_field (field_at fields 2))
  to ← in_column 4 (station_field (field_at fields 3))
  out_at ← in_column 5 (moment_field h (field_at fields 4))
  in_at ← in_column 6 (moment_field h (field_at fields 5))
  Ok (record {
    name = name;
    number = number;
    leg = record { from = from; to = to; flown = record { out_at = out_at; in_at = in_at } };
  })
