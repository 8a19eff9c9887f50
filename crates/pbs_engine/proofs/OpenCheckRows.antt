-- What an end of `opencheck` says, which way leads to it, and which counts it speaks of.
use Rattle.std.proofs.Common.{◌≡◌, ℕ, List, Result, Ok, Err, inl, inr, refl}
use Rattle.std.specs.Prelude.{◌⊎◌}
use Rattle.shelf.specs.Files.{Files}
use Rattle.shelf.specs.declared.tally.Tally.{Tally}
use Rattle.command_words.specs.declared.command.Command.TheVariants as command
use Rattle.month_files.specs.declared.fault.BadInput.TheVariants as bad
use Rattle.month_files.specs.declared.unread.Unread.TheVariants as unread
use Rattle.open_commands.specs.OpenChecking.{IsOpenCheck}
use Rattle.open_commands.specs.OpenCheckingEnds.{OpenCheckCause}
use Rattle.open_commands.specs.declared.open_check_stop.OpenCheckStop.{OpenCheckStop}
use Rattle.open_commands.specs.declared.open_check_stop.OpenCheckStop.TheVariants as stop
use Rattle.answer_texts.specs.OpenCheckTexts.{open_check_status}
use Rattle.answer_texts.specs.declared.status.Status.TheVariants as status
use Rattle.pbs_engine.specs.Rows.{IsQuiet}
use Rattle.pbs_engine.specs.Runs.{RunCause}
use Rattle.pbs_engine.proofs.Meaning.{CommandMeans}
use Rattle.pbs_engine.proofs.OpenCheckWays.{OpenCheckPath, opened_path, unopened_path, bad_lodged_path, unread_lodged_path}

pub open_check_means : (files : Files) (count : ℕ) (end : Result (List ℕ) OpenCheckStop) → IsOpenCheck files count end
    → CommandMeans files (command.OpenCheck count) (open_check_status end)
open_check_means files count (Ok scores) h = inl (inl (scores, h))
open_check_means files count (Err (stop.Unread (unread.Missing f))) h = (f, h)
open_check_means files count (Err (stop.Unread (unread.ReadFault f))) h = tt
open_check_means files count (Err (stop.Unread (unread.TooLong f))) h = (f, h)
open_check_means files count (Err (stop.Unread unread.NoMemory)) h = tt
open_check_means files count (Err (stop.BadInput (bad.Fault fault))) h = (fault, h)
open_check_means files count (Err (stop.BadInput bad.NoMemory)) h = tt
open_check_means files count (Err (stop.No why)) h = (why, h)
open_check_means files count (Err stop.NoMemory) h = tt

module _ (old new : Tally) (before after : ℕ) where
  pub open_check_way : (files : Files) (count : ℕ) (end : Result (List ℕ) OpenCheckStop) → IsQuiet old new before after → IsOpenCheck files count end
      → OpenCheckCause old new end → OpenCheckPath files count (open_check_status end) ⊎ (open_check_status end ≡ status.NoMemory)
  open_check_way files count (Ok scores) quiet h cause = inl (opened_path files count scores h)
  open_check_way files count (Err (stop.Unread (unread.Missing f))) quiet h cause = inl (unread_lodged_path files count (unread.Missing f) h)
  open_check_way files count (Err (stop.Unread (unread.ReadFault f))) quiet h cause = absurd (quiet.reads cause.rose)
  open_check_way files count (Err (stop.Unread (unread.TooLong f))) quiet h cause = inl (unread_lodged_path files count (unread.TooLong f) h)
  open_check_way files count (Err (stop.Unread unread.NoMemory)) quiet h cause = inr refl
  open_check_way files count (Err (stop.BadInput (bad.Fault fault))) quiet h cause = inl (bad_lodged_path files count fault h)
  open_check_way files count (Err (stop.BadInput bad.NoMemory)) quiet h cause = inr refl
  open_check_way files count (Err (stop.No why)) quiet h cause = inl (unopened_path files count why h)
  open_check_way files count (Err stop.NoMemory) quiet h cause = inr refl

  pub open_check_caused : (end : Result (List ℕ) OpenCheckStop) → OpenCheckCause old new end → after ≡ before → RunCause old new before after (open_check_status end)
  open_check_caused (Ok scores) cause put = (cause, put)
  open_check_caused (Err (stop.Unread (unread.Missing f))) cause put = cause.rose
  open_check_caused (Err (stop.Unread (unread.ReadFault f))) cause put = cause.rose
  open_check_caused (Err (stop.Unread (unread.TooLong f))) cause put = cause.rose
  open_check_caused (Err (stop.Unread unread.NoMemory)) cause put = tt
  open_check_caused (Err (stop.BadInput (bad.Fault fault))) cause put = (cause, put)
  open_check_caused (Err (stop.BadInput bad.NoMemory)) cause put = tt
  open_check_caused (Err (stop.No why)) cause put = (cause, put)
  open_check_caused (Err stop.NoMemory) cause put = tt
