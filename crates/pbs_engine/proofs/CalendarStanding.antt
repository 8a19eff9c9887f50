-- What an end of `calendar` says of the files before and after it, told or handed in.
use Rattle.std.proofs.Common.{◌≡◌, ℕ, List, Option, Some, Result, Ok, Err, sym, ap, subst, ◌∙◌}
use Rattle.std.specs.FinMap.{insert}
use Rattle.shelf.specs.Files.{Files, file}
use Rattle.shelf.specs.Logs.{Entries}
use Rattle.shelf.specs.Puts.{with_piece}
use Rattle.command_words.specs.declared.command.Command.{Command}
use Rattle.command_words.specs.declared.command.Command.TheVariants as command
use Rattle.crew_calendar.specs.Seen.{Book}
use Rattle.desk_commands.specs.CalendarEnds.{calendar_written}
use Rattle.desk_commands.specs.Calendars.{OfCalendar, IsCalendarFile, IsCalendarRun, IsCalendarHanded, IsFileOf, calendar_order}
use Rattle.desk_commands.specs.declared.calendar_stop.CalendarStop.{CalendarStop}
use Rattle.desk_commands.specs.declared.calendar_stop.CalendarStop.TheVariants as stop
use Rattle.desk_commands.specs.declared.calendars.MemberCalendar.{MemberCalendar}
use Rattle.month_files.specs.Writes.{Leaves}
use Rattle.month_files.specs.declared.fault.BadInput.TheVariants as bad
use Rattle.month_files.specs.declared.unread.Unread.TheVariants as unread
use Rattle.month_files.specs.declared.writing.WriteStop.{WriteStop}
use Rattle.month_files.specs.declared.writing.WriteStop.TheVariants as write
use Rattle.answer_texts.specs.CalendarTexts.{calendar_status, calendar_text}
use Rattle.answer_texts.specs.WriteEnds.{write_status}
use Rattle.answer_texts.specs.declared.status.Status.{Status}
use Rattle.pbs_engine.specs.AwardHeadline.{Tells}
use Rattle.pbs_engine.specs.CalendarHeadline.{HasEntries, BookIsWritten, Dates, DatesRead}
use Rattle.pbs_engine.specs.Outcomes.{status_of, text_of, written_by, IsRight, IsHandedIn}
use Rattle.pbs_engine.specs.Runs.{Shelved, Sunk, ComesTo, Says}
use Rattle.pbs_engine.specs.declared.outcome.Outcome.{Outcome}
use Rattle.pbs_engine.specs.declared.outcome.Outcome.TheVariants as outcome
use Rattle.pbs_engine.proofs.Answering.{of_calendar, said_by, on_reads, file_given}
use Rattle.pbs_engine.proofs.AwardStanding.{other_file}

-- what holds of the calendar holds of it by another name
on_book : (files : Files) (name : List ℕ) (P Q : Book → Type 0) → OfCalendar files name P → ((book : Book) → P book → Q book) → OfCalendar files name Q
on_book files name P Q h f = record {
  seen = h.seen;
  read = h.read;
  problem = h.problem;
  names = h.names;
  found = record { roster = h.found.roster; read = h.found.read; member = h.found.member; named = h.found.named; found = f _ h.found.found };
}

has_entries : (name : List ℕ) (m : MemberCalendar) (book : Book) → IsFileOf name m book → HasEntries m.entries book
has_entries name m book h = record { counted = h.counted; some = h.some }

-- the file of the calendar, under its name
module _ (old : Files) (name : List ℕ) (m : MemberCalendar) where
  abbrev given : Files
  given = insert old m.file m.bytes

  book_written : (book : Book) → IsFileOf name m book → BookIsWritten old given name m.entries book
  book_written book h = record {
    has = has_entries name m book h;
    calendar_file = ap (file given) (sym h.file_is) ∙ file_given old m.file m.bytes ∙ ap (λ (bytes : List ℕ). Some bytes) h.bytes_are;
    others = λ other apart. other_file old m.file m.bytes other (λ same. apart (same ∙ h.file_is));
  }

  book_left : (new : Option Files) → IsCalendarFile old name m → new ≡ Some given → Tells new (λ files. OfCalendar old name (BookIsWritten old files name m.entries))
  book_left new h left = record { files = given; told = left; found = on_book old name _ _ h book_written }

unwritten_dates : (old : Files) (new : Option Files) (name : List ℕ) (why : WriteStop) (before after : Option (List ℕ)) → Dates old new name before after (write_status why)
unwritten_dates old new name write.Fault before after = tt
unwritten_dates old new name write.NoMemory before after = tt

end_dates : (old : Files) (new : Option Files) (name : List ℕ) (end : Result MemberCalendar CalendarStop) → IsCalendarRun old name end → Leaves (Some old) new (calendar_written end)
    → (before after : Option (List ℕ)) → after ≡ with_piece before (calendar_text name end) → Dates old new name before after (calendar_status end)
end_dates old new name (Ok m) right left before after put = record { entries = m.entries; files = book_left old name m new right left; put = put }
end_dates old new name (Err (stop.Unread (unread.Missing f))) right left before after put = left
end_dates old new name (Err (stop.Unread (unread.ReadFault f))) right left before after put = left
end_dates old new name (Err (stop.Unread (unread.TooLong f))) right left before after put = left
end_dates old new name (Err (stop.Unread unread.NoMemory)) right left before after put = tt
end_dates old new name (Err (stop.BadInput (bad.Fault fault))) right left before after put = left
end_dates old new name (Err (stop.BadInput bad.NoMemory)) right left before after put = tt
end_dates old new name (Err (stop.No why)) right left before after put = record { why = why; undated = right; same = left; put = put }
end_dates old new name (Err (stop.Unwritten m why)) right left before after put = unwritten_dates old new name why before after
end_dates old new name (Err stop.NoMemory) right left before after put = tt

unwritten_read : (old new : Entries) (name : List ℕ) (why : WriteStop) (before after : Option (List ℕ)) → DatesRead old new name before after (write_status why)
unwritten_read old new name write.Fault before after = tt
unwritten_read old new name write.NoMemory before after = tt

end_read : (old new : Entries) (name : List ℕ) (end : Result MemberCalendar CalendarStop) → IsCalendarHanded old new name end → (before after : Option (List ℕ))
    → after ≡ with_piece before (calendar_text name end) → DatesRead old new name before after (calendar_status end)
end_read old new name (Ok m) read before after put = record {
  entries = m.entries;
  found = on_reads calendar_order old new _ _ read (λ files h. on_book files name _ _ h (has_entries name m));
  put = put;
}
end_read old new name (Err (stop.Unread (unread.Missing f))) read before after put = tt
end_read old new name (Err (stop.Unread (unread.ReadFault f))) read before after put = tt
end_read old new name (Err (stop.Unread (unread.TooLong f))) read before after put = tt
end_read old new name (Err (stop.Unread unread.NoMemory)) read before after put = tt
end_read old new name (Err (stop.BadInput (bad.Fault fault))) read before after put = tt
end_read old new name (Err (stop.BadInput bad.NoMemory)) read before after put = tt
end_read old new name (Err (stop.No why)) read before after put = record { why = why; undated = read; put = put }
end_read old new name (Err (stop.Unwritten m why)) read before after put = unwritten_read old new name why before after
end_read old new name (Err stop.NoMemory) read before after put = tt

module _ (c : Option Command) (files : Files) (at to : Shelved) (before after : Sunk) where
  whole : (o : Outcome) (name : List ℕ) (end : Result MemberCalendar CalendarStop) → o ≡ outcome.Calendar name end → IsRight files o → Leaves (Some files) to.files (written_by o)
      → after.bytes ≡ with_piece before.bytes (text_of o) → Dates files to.files name before.bytes after.bytes (status_of o)
  whole o name end e =
      subst (λ (x : Outcome). IsRight files x → Leaves (Some files) to.files (written_by x) → after.bytes ≡ with_piece before.bytes (text_of x)
      → Dates files to.files name before.bytes after.bytes (status_of x)) (sym e)
      (λ right left put. end_dates files to.files name end right left before.bytes after.bytes put)

  pub run_dates : (o : Outcome) (result : Status) (name : List ℕ) → ComesTo c at to o → at.files ≡ Some files → c ≡ Some (command.Calendar name)
      → Says o before after result → Dates files to.files name before.bytes after.bytes result
  run_dates o result name comes told asked says =
      let t = of_calendar o name (sym comes.asked ∙ asked) in
      said_by (λ (s : Status). Dates files to.files name before.bytes after.bytes s) o before after result tt tt
      (whole o name t.0 t.1 (comes.right files told) (subst (λ (held : Option Files). Leaves held to.files (written_by o)) told comes.left)) says

module _ (c : Option Command) (at to : Shelved) (before after : Sunk) where
  whole_read : (o : Outcome) (name : List ℕ) (end : Result MemberCalendar CalendarStop) → o ≡ outcome.Calendar name end → IsHandedIn at.log to.log o
      → after.bytes ≡ with_piece before.bytes (text_of o) → DatesRead at.log to.log name before.bytes after.bytes (status_of o)
  whole_read o name end e =
      subst (λ (x : Outcome). IsHandedIn at.log to.log x → after.bytes ≡ with_piece before.bytes (text_of x)
      → DatesRead at.log to.log name before.bytes after.bytes (status_of x)) (sym e)
      (λ read put. end_read at.log to.log name end read before.bytes after.bytes put)

  pub run_dates_read : (o : Outcome) (result : Status) (name : List ℕ) → ComesTo c at to o → c ≡ Some (command.Calendar name)
      → Says o before after result → DatesRead at.log to.log name before.bytes after.bytes result
  run_dates_read o result name comes asked says =
      let t = of_calendar o name (sym comes.asked ∙ asked) in
      said_by (λ (s : Status). DatesRead at.log to.log name before.bytes after.bytes s) o before after result tt tt
      (whole_read o name t.0 t.1 comes.handed) says
