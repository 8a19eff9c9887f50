-- How the three files of members read, one after another.
use Rattle.std.specs.Prelude.{ℕ, List, [], ◌∷◌, Result, Ok, Err, IsOk}
use Rattle.duty_calendar.specs.declared.horizon.Horizon.{Horizon}
use Rattle.duty_calendar.specs.declared.member.Member.{Member}
use Rattle.field_text.specs.declared.file_fault.FileCode.TheVariants as code
use Rattle.field_text.specs.declared.file_fault.FileFault.{FileFault}
use Rattle.field_text.specs.declared.file_fault.FileName.{FileName}
use Rattle.field_text.specs.declared.file_fault.FileName.TheVariants as name
use Rattle.field_text.specs.Records.{records_of}
use Rattle.field_text.specs.Rows.{file}
use Rattle.field_text.specs.Steps.{◌>>=◌}
use Rattle.crew_files.specs.declared.part.Part.{Part}
use Rattle.crew_files.specs.declared.part.Part.TheVariants.{History, Fixed}
use Rattle.crew_files.specs.Crew.{crew_header, crew_row}
use Rattle.crew_files.specs.Events.{event_header, event_row}

-- `crew.csv`, after these members
unfoldable pub crew_file : List ℕ → List Member → Result (List Member) FileFault
crew_file bytes members = file name.Crew crew_header crew_row members (records_of bytes)

-- `history.csv` or `fixed.csv`, whose events are added to these members
abbrev pub file_name : Part → FileName
file_name History = name.History
file_name Fixed = name.Fixed

unfoldable pub event_file : Horizon → Part → List ℕ → List Member → Result (List Member) FileFault
event_file h part bytes members =
    file (file_name part) event_header (event_row h part) members (records_of bytes)

-- there is a member
abbrev pub some_members : List Member → Result (List Member) FileFault
some_members [] = Err (record { file = name.Crew; row = 1; code = code.Empty })
some_members (m ∷ ms) = Ok (m ∷ ms)

-- The files before this one were read without a fault: where memory ran out, its file was next.
abbrev pub Reaches : Horizon → List ℕ → List ℕ → FileName → Type 0
Reaches h crew history name.Crew = Unit {0}
Reaches h crew history name.History = IsOk (crew_file crew [])
Reaches h crew history name.Fixed = IsOk (crew_file crew [] >>= event_file h History history)
Reaches h crew history name.Pairings = ⊥
Reaches h crew history name.Duties = ⊥
Reaches h crew history name.Legs = ⊥

-- the members of three files, or their first fault
unfoldable pub members_of : Horizon → List ℕ → List ℕ → List ℕ → Result (List Member) FileFault
members_of h crew history fixed = do
  named ← crew_file crew []
  past ← event_file h History history named
  all ← event_file h Fixed fixed past
  some_members all
