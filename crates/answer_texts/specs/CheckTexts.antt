-- How a run of `check` ends and what it prints.
use Rattle.std.specs.Prelude.{ℕ, ◌+◌, ℤ, List, [], ◌∷◌, ◌++◌, codes, Result, Ok, Err}
use Rattle.line_legality.specs.Numbers.{illegal_numbers}
use Rattle.line_lens.specs.declared.lens_fault.LensFault.{LensFault}
use Rattle.line_lens.specs.declared.lens_fault.LensFault.TheVariants as lens
use Rattle.cert_text.specs.Codes.{cert_code}
use Rattle.cert_text.specs.Spelling.{weight_text}
use Rattle.cert_checker.specs.declared.refusal.ItemFault.{ItemFault}
use Rattle.cert_checker.specs.declared.refusal.ItemFault.TheVariants as item
use Rattle.cert_checker.specs.declared.refusal.No.{No}
use Rattle.cert_checker.specs.declared.refusal.No.TheVariants as no
use Rattle.roster_text.specs.Codes.{roster_code, reason_code}
use Rattle.month_commands.specs.declared.check_stop.CheckStop.{CheckStop}
use Rattle.month_commands.specs.declared.check_stop.CheckStop.TheVariants as stop
use Rattle.month_commands.specs.declared.check_stop.Refusal.{Refusal}
use Rattle.month_commands.specs.declared.check_stop.Refusal.TheVariants as refusal
use Rattle.answer_texts.specs.declared.status.Status.{Status}
use Rattle.answer_texts.specs.declared.status.Status.TheVariants as status
use Rattle.month_commands.specs.declared.verdict.Verdict.{Verdict}
use Rattle.month_commands.specs.declared.verdict.Verdict.TheVariants as verdict
use Rattle.answer_texts.specs.Lines.{line, line_of, numbers}
use Rattle.answer_texts.specs.MonthEnds.{unread_status, unread_text, input_status, bad_input_text}

abbrev pub check_status : Result Verdict CheckStop → Status
check_status (Ok shown) = status.Done
check_status (Err (stop.Unread why)) = unread_status why
check_status (Err (stop.BadInput why)) = input_status why
check_status (Err (stop.No why)) = status.No
check_status (Err stop.NoMemory) = status.NoMemory

-- a fault as numbers: its code, then its arguments. Members, pairings, bids, searches, items and windows count from 1.
abbrev pub lens_numbers : LensFault → List ℕ
lens_numbers (lens.Untrackable bid) = 1 ∷ (bid + 1) ∷ []
lens_numbers (lens.Windows count) = 2 ∷ count ∷ []
lens_numbers (lens.Window index) = 3 ∷ (index + 1) ∷ []
lens_numbers lens.Grain = 4 ∷ []

-- a sum of weights behind a space, with a sign where it is below 0
abbrev pub sum_text : ℤ → List ℕ
sum_text sum = 32 ∷ weight_text sum

abbrev pub item_text : ItemFault → List ℕ
item_text item.Index = numbers (1 ∷ [])
item_text item.Decided = numbers (2 ∷ [])
item_text item.Covered = numbers (3 ∷ [])
item_text (item.Undecided p) = numbers (4 ∷ (p + 1) ∷ [])
item_text item.Fits = numbers (5 ∷ [])
item_text (item.Lens m why) = numbers (6 ∷ (m + 1) ∷ lens_numbers why)
item_text (item.Line m) = numbers (7 ∷ (m + 1) ∷ [])
item_text (item.Nothing m) = numbers (8 ∷ (m + 1) ∷ [])
item_text (item.Sum lines needs) = numbers (9 ∷ []) ++ sum_text lines ++ sum_text needs
item_text (item.Width weights lenses) = numbers (10 ∷ weights ∷ lenses ∷ [])

abbrev pub no_text : No → List ℕ
no_text no.NoMemory = numbers (0 ∷ [])
no_text (no.Member m why) = numbers (1 ∷ (m + 1) ∷ illegal_numbers why)
no_text (no.Cover p count) = numbers (2 ∷ (p + 1) ∷ count ∷ [])
no_text (no.Amount found) = numbers (3 ∷ found ∷ [])
no_text (no.Item k at why) = numbers (4 ∷ (k + 1) ∷ (at + 1) ∷ []) ++ item_text why
no_text (no.Left k) = numbers (5 ∷ (k + 1) ∷ [])
no_text (no.Reason m b) = numbers (6 ∷ (m + 1) ∷ (b + 1) ∷ [])
no_text (no.Shown m b) = numbers (7 ∷ (m + 1) ∷ (b + 1) ∷ [])

abbrev pub refusal_text : Refusal → List ℕ
refusal_text (refusal.Certificate fault) = line_of (codes "no certificate") (fault.line ∷ cert_code fault.code ∷ [])
refusal_text (refusal.Roster fault) = line_of (codes "no roster") (fault.row ∷ roster_code fault.code ∷ [])
refusal_text (refusal.Reasons fault) = line_of (codes "no reasons") (fault.line ∷ reason_code fault.code ∷ [])
refusal_text (refusal.Judged why) = line (codes "no" ++ no_text why)

-- what is printed at a yes
abbrev pub yes_text : Verdict → List ℕ
yes_text (verdict.Award scores) = line (codes "yes") ++ line_of (codes "vector") scores
yes_text verdict.NoRoster = line (codes "yes none")

abbrev pub check_text : Result Verdict CheckStop → List ℕ
check_text (Ok shown) = yes_text shown
check_text (Err (stop.Unread why)) = unread_text why
check_text (Err (stop.BadInput why)) = bad_input_text why
check_text (Err (stop.No why)) = refusal_text why
check_text (Err stop.NoMemory) = []
