-- How a run of `open` ends, and what it prints.
use Rattle.std.specs.Prelude.{ℕ, ◌+◌, List, [], ◌∷◌, ◌++◌, codes, length, Result, Ok, Err}
use Rattle.std.specs.List.{flat_map}
use Rattle.open_time.specs.declared.fault.OpenFault.{OpenFault}
use Rattle.open_time.specs.declared.fault.OpenFault.TheVariants as fault
use Rattle.open_commands.specs.declared.open_stop.OpenFinding.{OpenFinding}
use Rattle.open_commands.specs.declared.open_stop.OpenRow.{OpenRow}
use Rattle.open_commands.specs.declared.open_stop.OpenStop.{OpenStop}
use Rattle.open_commands.specs.declared.open_stop.OpenStop.TheVariants as stop
use Rattle.open_commands.specs.declared.open_stop.Opening.{Opening}
use Rattle.open_commands.specs.declared.open_stop.Opening.TheVariants.{Award, NoRoster}
use Rattle.answer_texts.specs.declared.status.Status.{Status}
use Rattle.answer_texts.specs.declared.status.Status.TheVariants as status
use Rattle.answer_texts.specs.Lines.{line, line_of, numbers}
use Rattle.answer_texts.specs.MonthEnds.{unread_status, unread_text, input_status, bad_input_text}
use Rattle.answer_texts.specs.WriteEnds.{write_status, unwritten_text}

abbrev pub opening_status : Opening → Status
opening_status (Award count scores rows) = status.Done
opening_status NoRoster = status.NoRoster

abbrev pub open_status : Result OpenFinding OpenStop → Status
open_status (Ok f) = opening_status f.found
open_status (Err (stop.Unread why)) = unread_status why
open_status (Err (stop.BadInput why)) = input_status why
open_status (Err (stop.No why)) = status.No
open_status (Err (stop.Budget ledger)) = status.Budget
open_status (Err (stop.Unwritten f u)) = write_status u.why
open_status (Err stop.NoMemory) = status.NoMemory

-- each name behind a space
abbrev pub spaced : List (List ℕ) → List ℕ
spaced names = flat_map (λ name. 32 ∷ name) names

-- a pairing, how many vacant lines have it, and the members who could fly it
abbrev pub row_line : OpenRow → List ℕ
row_line row = line (((codes "open " ++ row.pairing) ++ numbers (row.count ∷ [])) ++ spaced row.members)

abbrev pub row_lines : List OpenRow → List ℕ
row_lines rows = flat_map row_line rows

-- how many vacant lines there are and the scores with them, or that the most that were asked for are not enough
abbrev pub opening_text : Opening → List ℕ
opening_text (Award count scores rows) = line_of (codes "open") (count ∷ []) ++ line_of (codes "vector") scores
opening_text NoRoster = line (codes "no roster")

-- the pairings of the vacant lines
abbrev pub vacant_text : Opening → List ℕ
vacant_text (Award count scores rows) = row_lines rows
vacant_text NoRoster = []

abbrev pub open_lines : Opening → ℕ → List ℕ
open_lines found nodes = (opening_text found ++ line_of (codes "nodes") (nodes ∷ [])) ++ vacant_text found

-- a fault as numbers: its code, then its argument. Members count from 1.
abbrev pub fault_numbers : OpenFault → List ℕ
fault_numbers fault.NoMemory = 0 ∷ []
fault_numbers (fault.Members total) = 1 ∷ total ∷ []
fault_numbers (fault.NameTaken m) = 2 ∷ (m + 1) ∷ []

abbrev pub open_text : Result OpenFinding OpenStop → List ℕ
open_text (Ok f) = open_lines f.found (length f.ledger.entries)
open_text (Err (stop.Unread why)) = unread_text why
open_text (Err (stop.BadInput why)) = bad_input_text why
open_text (Err (stop.No why)) = line_of (codes "no open") (fault_numbers why)
open_text (Err (stop.Budget ledger)) = line_of (codes "budget") (length ledger.entries ∷ [])
open_text (Err (stop.Unwritten f u)) = unwritten_text u
open_text (Err stop.NoMemory) = []
