-- How the files of pairings, duties and legs read, one after another.
use Rattle.std.specs.Prelude.{ℕ, ◌+◌, ◌-◌, Bool, false, List, length, position, slice_get, Option, Some, None, Result, Ok, Err, IsOk, ◌==◌}
use Rattle.std.specs.Option.{option_map_or}
use Rattle.field_text.specs.Records.{records_of}
use Rattle.duty_calendar.specs.declared.horizon.Horizon.{Horizon}
use Rattle.duty_calendar.specs.declared.pairing.Pairing.{Pairing}
use Rattle.field_text.specs.Rows.{file, text_row}
use Rattle.field_text.specs.Steps.{◌>>=◌, or_fault}
use Rattle.field_text.specs.declared.file_fault.FileCode.{FileCode}
use Rattle.field_text.specs.declared.file_fault.FileCode.TheVariants.{Unknown, Empty}
use Rattle.field_text.specs.declared.file_fault.FileFault.{FileFault}
use Rattle.field_text.specs.declared.file_fault.FileName.{FileName}
use Rattle.field_text.specs.declared.file_fault.FileName.TheVariants.{Pairings, Duties, Legs, Crew, History, Fixed}
use Rattle.pairing_files.specs.declared.row.DutyRow.{DutyRow}
use Rattle.pairing_files.specs.declared.row.LegRow.{LegRow}
use Rattle.pairing_files.specs.declared.tables.Place.{Place}
use Rattle.pairing_files.specs.Columns.{pairings_header, duties_header, legs_header, pairing_columns, duty_columns, leg_columns}
use Rattle.pairing_files.specs.Drafts.{Draft, no_draft, place_of, with_pairing, with_duty, with_leg}
use Rattle.pairing_files.specs.Faults.{pairing_fault, duty_fault, leg_fault, first_fault, numbered}

-- this, where there is no fault
abbrev pub unless : {A E : Type 0} → Option E → A → Result A E
unless None x = Ok x
unless (Some e) x = Err e

-- a pairing, after what was read before
abbrev pub place_pairing : Draft → Pairing → Result Draft FileCode
place_pairing before p = unless (pairing_fault before.list p) (with_pairing before p)

-- a duty of a pairing that stood before
abbrev pub place_duty : Horizon → Draft → DutyRow → Result Draft FileCode
place_duty h before row = do
  i ← or_fault Unknown (place_of row.name before.list)
  p ← or_fault Unknown (slice_get before.list i)
  unless (duty_fault h p row.number row.duty) (with_duty before i p row.duty)

-- a leg of a duty that stood before
abbrev pub place_leg : Draft → LegRow → Result Draft FileCode
place_leg before row = do
  i ← or_fault Unknown (place_of row.name before.list)
  p ← or_fault Unknown (slice_get before.list i)
  d ← or_fault Unknown (numbered p.duties row.number)
  unless (leg_fault d row.leg) (with_leg before i p (row.number - 1) d row.leg)

abbrev pub pairing_row : Draft → List (List ℕ) → Result Draft FileCode
pairing_row before fields = text_row 3 fields (pairing_columns fields) >>= place_pairing before

abbrev pub duty_row : Horizon → Draft → List (List ℕ) → Result Draft FileCode
duty_row h before fields = text_row 6 fields (duty_columns h fields) >>= place_duty h before

abbrev pub leg_row : Horizon → Draft → List (List ℕ) → Result Draft FileCode
leg_row h before fields = text_row 6 fields (leg_columns h fields) >>= place_leg before

abbrev pub pairings_file : List ℕ → Draft → Result Draft FileFault
pairings_file bytes before = file Pairings pairings_header pairing_row before (records_of bytes)

abbrev pub duties_file : Horizon → List ℕ → Draft → Result Draft FileFault
duties_file h bytes before = file Duties duties_header (duty_row h) before (records_of bytes)

abbrev pub legs_file : Horizon → List ℕ → Draft → Result Draft FileFault
legs_file h bytes before = file Legs legs_header (leg_row h) before (records_of bytes)

-- the pairing has no duty
abbrev pub is_idle : Pairing → Bool
is_idle p = length p.duties == 0

-- the duty of this number, from 0, has no leg
abbrev pub is_bare_duty : ℕ → Pairing → Bool
is_bare_duty k p = option_map_or (λ d. length d.legs == 0) (slice_get p.duties k) false

-- the duty at the place has no leg
abbrev pub is_bare : List Pairing → Place → Bool
is_bare list place = option_map_or (is_bare_duty place.duty) (slice_get list place.pairing) false

-- the fault of a row that has no parts: a file's row k stands at place k, counted from row 2
abbrev pub lacks_parts : FileName → Option ℕ → Option FileFault
lacks_parts name None = None
lacks_parts name (Some k) = Some (record { file = name; row = k + 2; code = Empty })

-- each row of a file gave one pairing, or one duty; a pairing without duties comes before a duty
-- without legs
abbrev pub part_fault : Draft → Option FileFault
part_fault d =
    first_fault (lacks_parts Pairings (position is_idle d.list))
    (lacks_parts Duties (position (is_bare d.list) d.places))

-- what the rows of the three files give
abbrev pub draft_from : Horizon → List ℕ → List ℕ → List ℕ → Draft → Result Draft FileFault
draft_from h pairings duties legs before = do
  named ← pairings_file pairings before
  dutied ← duties_file h duties named
  legs_file h legs dutied

-- The files before this one were read without a fault: where memory ran out, its file was next.
abbrev pub Reaches : Horizon → Draft → List ℕ → List ℕ → FileName → Type 0
Reaches h before pairings duties Pairings = Unit {0}
Reaches h before pairings duties Duties = IsOk (pairings_file pairings before)
Reaches h before pairings duties Legs =
    IsOk (pairings_file pairings before >>= duties_file h duties)
Reaches h before pairings duties Crew = ⊥
Reaches h before pairings duties History = ⊥
Reaches h before pairings duties Fixed = ⊥

abbrev pub finished : Draft → Result (List Pairing) FileFault
finished d = unless (part_fault d) d.list

-- the pairings of the three files, or their first fault
abbrev pub pairings_of : Horizon → List ℕ → List ℕ → List ℕ → Result (List Pairing) FileFault
pairings_of h pairings duties legs = draft_from h pairings duties legs no_draft >>= finished
