-- What an end of `open` says, which way leads to it, and which counts it speaks of.
use Rattle.std.proofs.Common.{◌≡◌, ℕ, List, Result, Ok, Err, inl, inr, refl}
use Rattle.std.specs.Prelude.{◌⊎◌}
use Rattle.branch_log.specs.Book.{Book}
use Rattle.cert_checker.proofs.Verdicts.{none_complete}
use Rattle.shelf.specs.Files.{Files}
use Rattle.shelf.specs.declared.tally.Tally.{Tally}
use Rattle.command_words.specs.declared.command.Command.TheVariants as command
use Rattle.month_commands.proofs.AwardLaws.{on_month}
use Rattle.month_commands.specs.Award.{OfMonth, HasBadMonth}
use Rattle.month_files.specs.FileNames.{name_of}
use Rattle.month_files.specs.declared.fault.BadInput.TheVariants as bad
use Rattle.month_files.specs.declared.fault.InputFault.{InputFault}
use Rattle.month_files.specs.declared.unread.Unread.TheVariants as unread
use Rattle.month_files.specs.declared.writing.Draft.{Draft}
use Rattle.month_files.specs.declared.writing.WriteStop.{WriteStop}
use Rattle.month_files.specs.declared.writing.WriteStop.TheVariants as write
use Rattle.open_time.specs.Vacant.{HasRoomFor}
use Rattle.open_commands.specs.Opening as opening
use Rattle.open_commands.specs.Opening.{Finds, FindsOpen, FindsNone, IsFound, IsOpen, IsSpent}
use Rattle.open_commands.specs.OpeningEnds.{OpenCause}
use Rattle.open_commands.specs.declared.open_stop.OpenFinding.{OpenFinding}
use Rattle.open_commands.specs.declared.open_stop.OpenRow.{OpenRow}
use Rattle.open_commands.specs.declared.open_stop.OpenStop.{OpenStop}
use Rattle.open_commands.specs.declared.open_stop.OpenStop.TheVariants as stop
use Rattle.open_commands.specs.declared.open_stop.Opening.{Opening}
use Rattle.open_commands.specs.declared.open_stop.Opening.TheVariants as kind
use Rattle.roster_model.specs.Awards.{HasNoRoster}
use Rattle.roster_model.specs.declared.problem.Problem.{Problem}
use Rattle.answer_texts.specs.OpenTexts.{open_status, opening_status}
use Rattle.answer_texts.specs.WriteEnds.{write_status}
use Rattle.answer_texts.specs.declared.status.Status.{Status}
use Rattle.answer_texts.specs.declared.status.Status.TheVariants as status
use Rattle.pbs_engine.specs.Ledgers.{SpendsWith}
use Rattle.pbs_engine.specs.Rows.{IsQuiet, HasRoster, WithVacant}
use Rattle.pbs_engine.specs.Runs.{RunCause}
use Rattle.pbs_engine.proofs.AwardRows.{unwritten_caused}
use Rattle.pbs_engine.proofs.AwardWays.{IsAnswer}
use Rattle.pbs_engine.proofs.Meaning.{CommandMeans}
use Rattle.pbs_engine.proofs.OpenFilled.{filled_up_to}
use Rattle.pbs_engine.proofs.OpenWays.{OpenPath, opening_path, closed_path, bad_opening_path, unread_opening_path}
use Rattle.pbs_engine.proofs.Settled.{unwritten_means}

-- ---- of the month that the inputs name

pub of_month : (files : Files) (P : Problem → Type 0) → opening.OfMonth files P → OfMonth files P
of_month files P h = record { inputs = h.inputs; read = h.read; problem = h.problem; names = h.names; found = h.found }

bad_month : (files : Files) (fault : InputFault) → opening.HasBadMonth files fault → HasBadMonth files fault
bad_month files fault h = record { inputs = h.inputs; read = h.read; bad = h.bad }

-- what was found says whether the month with the most vacant lines has a complete roster
filled : (problem : Problem) (most nodes count : ℕ) (scores : List ℕ) (rows : List OpenRow) (ledger : Book) (drafts : List Draft)
    → FindsOpen problem most nodes count scores rows ledger drafts → WithVacant most HasRoster problem
filled problem most nodes count scores rows ledger drafts h =
    let last = filled_up_to problem most count h.most_fit h.within h.needs.filled in
    record { room = h.most_fit; made = last.0; of = last.1; found = last.2 }

unfilled : (problem : Problem) (most nodes : ℕ) (ledger : Book) (drafts : List Draft) → FindsNone problem most nodes ledger drafts → WithVacant most HasNoRoster problem
unfilled problem most nodes ledger drafts h =
    record { room = h.most_fit; made = h.refuted.made; of = h.refuted.of; found = none_complete h.refuted.made h.proof h.refuted.closes }

found_room : (problem : Problem) (most nodes : ℕ) (ledger : Book) (shown : Opening) (drafts : List Draft) → Finds problem most nodes shown ledger drafts → HasRoomFor problem most
found_room problem most nodes ledger (kind.Award count scores rows) drafts h = h.most_fit
found_room problem most nodes ledger kind.NoRoster drafts h = h.most_fit

found_answer : (shown : Opening) → IsAnswer (opening_status shown)
found_answer (kind.Award count scores rows) = tt
found_answer kind.NoRoster = tt

-- ---- what each end says

found_means : (files : Files) (most nodes : ℕ) (ledger : Book) (shown : Opening) (drafts : List Draft) → OfMonth files (λ problem. Finds problem most nodes shown ledger drafts)
    → CommandMeans files (command.Open most nodes) (opening_status shown)
found_means files most nodes ledger (kind.Award count scores rows) drafts month =
    inr (inr (inl (on_month files _ (WithVacant most HasRoster) month (λ problem found. filled problem most nodes count scores rows ledger drafts found))))
found_means files most nodes ledger kind.NoRoster drafts month =
    on_month files _ (WithVacant most HasNoRoster) month (λ problem found. unfilled problem most nodes ledger drafts found)

pub open_means : (files : Files) (most nodes : ℕ) (end : Result OpenFinding OpenStop) → IsOpen files most nodes end → CommandMeans files (command.Open most nodes) (open_status end)
open_means files most nodes (Ok f) h = found_means files most nodes f.ledger f.found f.drafts (of_month files _ h)
open_means files most nodes (Err (stop.Unread (unread.Missing f))) h = (f, h)
open_means files most nodes (Err (stop.Unread (unread.ReadFault f))) h = tt
open_means files most nodes (Err (stop.Unread (unread.TooLong f))) h = (f, h)
open_means files most nodes (Err (stop.Unread unread.NoMemory)) h = tt
open_means files most nodes (Err (stop.BadInput (bad.Fault fault))) h = (fault, bad_month files fault h)
open_means files most nodes (Err (stop.BadInput bad.NoMemory)) h = tt
open_means files most nodes (Err (stop.No why)) h = (why, of_month files _ h)
open_means files most nodes (Err (stop.Budget ledger)) h =
    on_month files _ (λ problem. SpendsWith problem most nodes) (of_month files _ h) (λ problem found. (ledger, found))
open_means files most nodes (Err (stop.Unwritten f u)) h = unwritten_means files (command.Open most nodes) u.why
open_means files most nodes (Err stop.NoMemory) h = tt

-- ---- and which way leads to it

module _ (files : Files) (most nodes : ℕ) where
  found_path : (f : OpenFinding) (s : Status) → IsFound files most nodes f → IsAnswer s → OpenPath files most s
  found_path f s h answer =
      let month = of_month files _ h in
      opening_path files most _ s month (found_room month.problem most nodes f.ledger f.found f.drafts month.found) answer

  unwritten_way : (f : OpenFinding) (why : WriteStop) → IsFound files most nodes f → OpenPath files most (write_status why) ⊎ (write_status why ≡ status.NoMemory)
  unwritten_way f write.Fault h = inl (found_path f status.WriteFault h tt)
  unwritten_way f write.NoMemory h = inr refl

module _ (old new : Tally) (before after : ℕ) where
  pub open_way : (files : Files) (most nodes : ℕ) (end : Result OpenFinding OpenStop) → IsQuiet old new before after → IsOpen files most nodes end → OpenCause old new end
      → OpenPath files most (open_status end) ⊎ (open_status end ≡ status.NoMemory)
  open_way files most nodes (Ok f) quiet h cause = inl (found_path files most nodes f (opening_status f.found) h (found_answer f.found))
  open_way files most nodes (Err (stop.Unread (unread.Missing f))) quiet h cause = inl (unread_opening_path files most (unread.Missing f) h)
  open_way files most nodes (Err (stop.Unread (unread.ReadFault f))) quiet h cause = absurd (quiet.reads cause.rose)
  open_way files most nodes (Err (stop.Unread (unread.TooLong f))) quiet h cause = inl (unread_opening_path files most (unread.TooLong f) h)
  open_way files most nodes (Err (stop.Unread unread.NoMemory)) quiet h cause = inr refl
  open_way files most nodes (Err (stop.BadInput (bad.Fault fault))) quiet h cause = inl (bad_opening_path files most fault (bad_month files fault h))
  open_way files most nodes (Err (stop.BadInput bad.NoMemory)) quiet h cause = inr refl
  open_way files most nodes (Err (stop.No why)) quiet h cause = inl (closed_path files most why (of_month files _ h))
  open_way files most nodes (Err (stop.Budget ledger)) quiet h cause =
      let month = of_month files _ h in
      inl (opening_path files most _ status.Budget month month.found.most_fit tt)
  open_way files most nodes (Err (stop.Unwritten f u)) quiet h cause = unwritten_way files most nodes f u.why h.found
  open_way files most nodes (Err stop.NoMemory) quiet h cause = inr refl

  found_caused : (shown : Opening) → new ≡ old → after ≡ before → RunCause old new before after (opening_status shown)
  found_caused (kind.Award count scores rows) cause put = (cause, put)
  found_caused kind.NoRoster cause put = (cause, put)

  pub open_caused : (end : Result OpenFinding OpenStop) → OpenCause old new end → after ≡ before → RunCause old new before after (open_status end)
  open_caused (Ok f) cause put = found_caused f.found cause put
  open_caused (Err (stop.Unread (unread.Missing f))) cause put = cause.rose
  open_caused (Err (stop.Unread (unread.ReadFault f))) cause put = cause.rose
  open_caused (Err (stop.Unread (unread.TooLong f))) cause put = cause.rose
  open_caused (Err (stop.Unread unread.NoMemory)) cause put = tt
  open_caused (Err (stop.BadInput (bad.Fault fault))) cause put = (cause, put)
  open_caused (Err (stop.BadInput bad.NoMemory)) cause put = tt
  open_caused (Err (stop.No why)) cause put = (cause, put)
  open_caused (Err (stop.Budget ledger)) cause put = (cause, put)
  open_caused (Err (stop.Unwritten f u)) cause put = unwritten_caused old new before after (name_of u.file) u.why cause
  open_caused (Err stop.NoMemory) cause put = tt
