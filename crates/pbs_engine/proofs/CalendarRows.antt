-- What an end of `calendar` says, which way leads to it, and which counts it speaks of.
use Rattle.std.proofs.Common.{◌≡◌, ℕ, List, Result, Ok, Err, inl, inr, refl}
use Rattle.std.specs.Prelude.{◌⊎◌}
use Rattle.shelf.specs.Files.{Files}
use Rattle.shelf.specs.declared.tally.Tally.{Tally}
use Rattle.command_words.specs.declared.command.Command.TheVariants as command
use Rattle.desk_commands.specs.CalendarEnds.{CalendarCause}
use Rattle.desk_commands.specs.Calendars.{IsCalendarRun}
use Rattle.desk_commands.specs.declared.calendar_stop.CalendarStop.{CalendarStop}
use Rattle.desk_commands.specs.declared.calendar_stop.CalendarStop.TheVariants as stop
use Rattle.desk_commands.specs.declared.calendars.MemberCalendar.{MemberCalendar}
use Rattle.month_files.specs.declared.fault.BadInput.TheVariants as bad
use Rattle.month_files.specs.declared.unread.Unread.TheVariants as unread
use Rattle.answer_texts.specs.CalendarTexts.{calendar_status}
use Rattle.answer_texts.specs.declared.status.Status.TheVariants as status
use Rattle.pbs_engine.specs.Rows.{IsQuiet}
use Rattle.pbs_engine.specs.Runs.{RunCause}
use Rattle.pbs_engine.proofs.AwardRows.{unwritten_caused}
use Rattle.pbs_engine.proofs.CalendarWays.{CalendarPath, calendar_path, undated_path, bad_seen_path, unread_seen_path}
use Rattle.pbs_engine.proofs.Meaning.{CommandMeans}
use Rattle.pbs_engine.proofs.Settled.{settled, unwritten_way, unwritten_means}

pub calendar_means : (files : Files) (name : List ℕ) (end : Result MemberCalendar CalendarStop) → IsCalendarRun files name end → CommandMeans files (command.Calendar name) (calendar_status end)
calendar_means files name (Ok t) h = inl (inr (t, h))
calendar_means files name (Err (stop.Unread (unread.Missing f))) h = (f, h)
calendar_means files name (Err (stop.Unread (unread.ReadFault f))) h = tt
calendar_means files name (Err (stop.Unread (unread.TooLong f))) h = (f, h)
calendar_means files name (Err (stop.Unread unread.NoMemory)) h = tt
calendar_means files name (Err (stop.BadInput (bad.Fault fault))) h = (fault, h)
calendar_means files name (Err (stop.BadInput bad.NoMemory)) h = tt
calendar_means files name (Err (stop.No why)) h = (why, h)
calendar_means files name (Err (stop.Unwritten t why)) h = unwritten_means files (command.Calendar name) why
calendar_means files name (Err stop.NoMemory) h = tt

module _ (old new : Tally) (before after : ℕ) where
  pub calendar_way : (files : Files) (name : List ℕ) (end : Result MemberCalendar CalendarStop) → IsQuiet old new before after → IsCalendarRun files name end → CalendarCause old new end
      → CalendarPath files name (settled (calendar_status end)) ⊎ (calendar_status end ≡ status.NoMemory)
  calendar_way files name (Ok t) quiet h cause = inl (calendar_path files name t h)
  calendar_way files name (Err (stop.Unread (unread.Missing f))) quiet h cause = inl (unread_seen_path files name (unread.Missing f) h)
  calendar_way files name (Err (stop.Unread (unread.ReadFault f))) quiet h cause = absurd (quiet.reads cause.rose)
  calendar_way files name (Err (stop.Unread (unread.TooLong f))) quiet h cause = inl (unread_seen_path files name (unread.TooLong f) h)
  calendar_way files name (Err (stop.Unread unread.NoMemory)) quiet h cause = inr refl
  calendar_way files name (Err (stop.BadInput (bad.Fault fault))) quiet h cause = inl (bad_seen_path files name fault h)
  calendar_way files name (Err (stop.BadInput bad.NoMemory)) quiet h cause = inr refl
  calendar_way files name (Err (stop.No why)) quiet h cause = inl (undated_path files name why h)
  calendar_way files name (Err (stop.Unwritten t why)) quiet h cause = unwritten_way (CalendarPath files name) why (calendar_path files name t h)
  calendar_way files name (Err stop.NoMemory) quiet h cause = inr refl

  pub calendar_caused : (end : Result MemberCalendar CalendarStop) → CalendarCause old new end → after ≡ before → RunCause old new before after (calendar_status end)
  calendar_caused (Ok t) cause put = (cause, put)
  calendar_caused (Err (stop.Unread (unread.Missing f))) cause put = cause.rose
  calendar_caused (Err (stop.Unread (unread.ReadFault f))) cause put = cause.rose
  calendar_caused (Err (stop.Unread (unread.TooLong f))) cause put = cause.rose
  calendar_caused (Err (stop.Unread unread.NoMemory)) cause put = tt
  calendar_caused (Err (stop.BadInput (bad.Fault fault))) cause put = (cause, put)
  calendar_caused (Err (stop.BadInput bad.NoMemory)) cause put = tt
  calendar_caused (Err (stop.No why)) cause put = (cause, put)
  calendar_caused (Err (stop.Unwritten t why)) cause put = unwritten_caused old new before after t.file why cause
  calendar_caused (Err stop.NoMemory) cause put = tt
