-- How a run of `award` ends, and what it prints.
use Rattle.std.specs.Prelude.{ℕ, List, [], ◌∷◌, ◌++◌, codes, length, Result, Ok, Err}
use Rattle.month_commands.specs.declared.award_stop.AwardStop.{AwardStop}
use Rattle.month_commands.specs.declared.award_stop.AwardStop.TheVariants as stop
use Rattle.month_commands.specs.declared.award_stop.Finding.{Finding}
use Rattle.month_commands.specs.declared.award_stop.Found.{Found}
use Rattle.month_commands.specs.declared.award_stop.Found.TheVariants as found
use Rattle.answer_texts.specs.declared.status.Status.{Status}
use Rattle.answer_texts.specs.declared.status.Status.TheVariants as status
use Rattle.answer_texts.specs.Lines.{line, line_of}
use Rattle.answer_texts.specs.MonthEnds.{unread_status, unread_text, input_status, bad_input_text}
use Rattle.answer_texts.specs.WriteEnds.{write_status, unwritten_text}

abbrev pub found_status : Found → Status
found_status (found.Award scores denied) = status.Done
found_status found.NoRoster = status.NoRoster

abbrev pub award_status : Result Finding AwardStop → Status
award_status (Ok f) = found_status f.found
award_status (Err (stop.Unread why)) = unread_status why
award_status (Err (stop.BadInput why)) = input_status why
award_status (Err (stop.Budget ledger)) = status.Budget
award_status (Err (stop.Unwritten f u)) = write_status u.why
award_status (Err stop.NoMemory) = status.NoMemory

-- the award, or that there is none
abbrev pub first_text : Found → List ℕ
first_text (found.Award scores denied) = line (codes "award") ++ line_of (codes "vector") scores
first_text found.NoRoster = line (codes "no roster")

-- how many bids an award denies
abbrev pub last_text : Found → List ℕ
last_text (found.Award scores denied) = line_of (codes "denials") (denied ∷ [])
last_text found.NoRoster = []

abbrev pub lines_of : Found → ℕ → List ℕ
lines_of w nodes = (first_text w ++ line_of (codes "nodes") (nodes ∷ [])) ++ last_text w

abbrev pub award_text : Result Finding AwardStop → List ℕ
award_text (Ok f) = lines_of f.found (length f.ledger.entries)
award_text (Err (stop.Unread why)) = unread_text why
award_text (Err (stop.BadInput why)) = bad_input_text why
award_text (Err (stop.Budget ledger)) = line_of (codes "budget") (length ledger.entries ∷ [])
award_text (Err (stop.Unwritten f u)) = unwritten_text u
award_text (Err stop.NoMemory) = []
