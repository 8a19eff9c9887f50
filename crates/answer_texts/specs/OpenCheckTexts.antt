-- How a run of `opencheck` ends, and what it prints.
use Rattle.std.specs.Prelude.{ℕ, List, [], ◌∷◌, ◌++◌, codes, Result, Ok, Err}
use Rattle.cert_text.specs.Codes.{cert_code}
use Rattle.open_time.specs.declared.refusal.OpenNo.{OpenNo}
use Rattle.open_time.specs.declared.refusal.OpenNo.TheVariants as no
use Rattle.roster_text.specs.Codes.{roster_code, reason_code}
use Rattle.open_commands.specs.declared.open_check_stop.OpenCheckStop.{OpenCheckStop}
use Rattle.open_commands.specs.declared.open_check_stop.OpenCheckStop.TheVariants as stop
use Rattle.open_commands.specs.declared.open_check_stop.Unopened.{Unopened}
use Rattle.open_commands.specs.declared.open_check_stop.Unopened.TheVariants as unopened
use Rattle.answer_texts.specs.declared.status.Status.{Status}
use Rattle.answer_texts.specs.declared.status.Status.TheVariants as status
use Rattle.answer_texts.specs.CheckTexts.{no_text}
use Rattle.answer_texts.specs.Lines.{line, line_of, numbers}
use Rattle.answer_texts.specs.MonthEnds.{unread_status, unread_text, input_status, bad_input_text}
use Rattle.answer_texts.specs.OpenTexts.{fault_numbers}

abbrev pub open_check_status : Result (List ℕ) OpenCheckStop → Status
open_check_status (Ok scores) = status.Done
open_check_status (Err (stop.Unread why)) = unread_status why
open_check_status (Err (stop.BadInput why)) = input_status why
open_check_status (Err (stop.No why)) = status.No
open_check_status (Err stop.NoMemory) = status.NoMemory

-- the judge's first failing test: its code, then what is wrong there
abbrev pub open_no_text : OpenNo → List ℕ
open_no_text no.NoMemory = numbers (0 ∷ [])
open_no_text (no.Open why) = numbers (1 ∷ fault_numbers why)
open_no_text no.NoneProof = numbers (2 ∷ [])
open_no_text (no.Fewer why) = numbers (3 ∷ []) ++ no_text why
open_no_text (no.Award why) = numbers (4 ∷ []) ++ no_text why

-- a certificate that has not the form that is due is said to have no word of it in any line
abbrev pub unopened_text : Unopened → List ℕ
unopened_text (unopened.Open why) = line_of (codes "no open") (1 ∷ fault_numbers why)
unopened_text (unopened.Certificate fault) = line_of (codes "no certificate") (fault.line ∷ cert_code fault.code ∷ [])
unopened_text unopened.Form = line_of (codes "no certificate") (0 ∷ 2 ∷ [])
unopened_text (unopened.Reasons fault) = line_of (codes "no reasons") (fault.line ∷ reason_code fault.code ∷ [])
unopened_text (unopened.Roster fault) = line_of (codes "no roster") (fault.row ∷ roster_code fault.code ∷ [])
unopened_text (unopened.Judged why) = line (codes "no open" ++ open_no_text why)

-- what is printed where so many vacant lines are accepted
abbrev pub opened_text : ℕ → List ℕ → List ℕ
opened_text lines scores = line_of (codes "yes open") (lines ∷ []) ++ line_of (codes "vector") scores

abbrev pub open_check_text : ℕ → Result (List ℕ) OpenCheckStop → List ℕ
open_check_text lines (Ok scores) = opened_text lines scores
open_check_text lines (Err (stop.Unread why)) = unread_text why
open_check_text lines (Err (stop.BadInput why)) = bad_input_text why
open_check_text lines (Err (stop.No why)) = unopened_text why
open_check_text lines (Err stop.NoMemory) = []
