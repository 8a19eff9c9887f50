-- What an answer of `calendar` says of the files of a folder.
use Rattle.std.specs.Prelude.{◌≡◌, ◌≢◌, ◌≤◌, ℕ, List, length, Option, Some}
use Rattle.shelf.specs.Files.{Files, file}
use Rattle.shelf.specs.Logs.{Entries}
use Rattle.shelf.specs.Puts.{with_piece}
use Rattle.crew_calendar.specs.Printing.{book_text}
use Rattle.crew_calendar.specs.Seen.{Book}
use Rattle.desk_commands.specs.Calendars.{OfCalendar, IsUndated, calendar_order, ics_of}
use Rattle.desk_commands.specs.declared.calendar_stop.Undated.{Undated}
use Rattle.month_files.specs.Handing.{FromReads}
use Rattle.answer_texts.specs.CalendarTexts.{calendar_line, undated_text}
use Rattle.answer_texts.specs.declared.status.Status.{Status}
use Rattle.answer_texts.specs.declared.status.Status.TheVariants as status
use Rattle.pbs_engine.specs.AwardHeadline.{Tells}

-- the calendar has so many entries, and at least one
pub record HasEntries (entries : ℕ) (book : Book) : Type 0 where
  pub counted : entries ≡ length book.entries
  pub some : 1 ≤ entries

-- the file with the member's name is the text of the calendar, and each other file is as before
pub record BookIsWritten (old new : Files) (name : List ℕ) (entries : ℕ) (book : Book) : Type 0 where
  pub has : HasEntries entries book
  pub calendar_file : file new (ics_of name) ≡ Some (book_text book)
  pub others : (other : List ℕ) → other ≢ ics_of name → file new other ≡ file old other

-- of the calendar of the member with the name, in the roster of the folder
pub record EndsDated (old : Files) (new : Option Files) (name : List ℕ) (before after : Option (List ℕ)) : Type 0 where
  pub entries : ℕ
  pub files : Tells new (λ files. OfCalendar old name (BookIsWritten old files name entries))
  pub put : after ≡ with_piece before (calendar_line name entries)

-- the roster's file is no roster's text, no member has the name, or the calendar has no entry
pub record EndsUndated (old : Files) (new : Option Files) (name : List ℕ)
    (before after : Option (List ℕ)) : Type 0 where
  pub why : Undated
  pub undated : IsUndated old name why
  pub same : new ≡ Some old
  pub put : after ≡ with_piece before (undated_text name why)

-- what a run of `calendar` says by its status
abbrev pub Dates : Files → Option Files → List ℕ → Option (List ℕ) → Option (List ℕ) → Status → Type 0
Dates old new name before after status.Done = EndsDated old new name before after
Dates old new name before after status.No = EndsUndated old new name before after
Dates old new name before after status.Usage = ⊥
Dates old new name before after status.NoRoster = ⊥
Dates old new name before after status.Budget = ⊥
Dates old new name before after status.BadInput = new ≡ Some old
Dates old new name before after status.Missing = new ≡ Some old
Dates old new name before after status.ReadFault = new ≡ Some old
Dates old new name before after status.TooLong = new ≡ Some old
Dates old new name before after status.WriteFault = Unit {0}
Dates old new name before after status.NoMemory = Unit {0}

-- ---- of the texts that reads handed in, be files told or not

pub record ReadsDated (old new : Entries) (name : List ℕ) (before after : Option (List ℕ)) : Type 0 where
  pub entries : ℕ
  pub found : FromReads calendar_order old new (λ files. OfCalendar files name (HasEntries entries))
  pub put : after ≡ with_piece before (calendar_line name entries)

pub record ReadsUndated (old new : Entries) (name : List ℕ) (before after : Option (List ℕ)) : Type 0 where
  pub why : Undated
  pub undated : FromReads calendar_order old new (λ files. IsUndated files name why)
  pub put : after ≡ with_piece before (undated_text name why)

abbrev pub DatesRead : Entries → Entries → List ℕ → Option (List ℕ) → Option (List ℕ) → Status → Type 0
DatesRead old new name before after status.Done = ReadsDated old new name before after
DatesRead old new name before after status.No = ReadsUndated old new name before after
DatesRead old new name before after status.Usage = ⊥
DatesRead old new name before after status.NoRoster = ⊥
DatesRead old new name before after status.Budget = ⊥
DatesRead old new name before after status.BadInput = Unit {0}
DatesRead old new name before after status.Missing = Unit {0}
DatesRead old new name before after status.ReadFault = Unit {0}
DatesRead old new name before after status.TooLong = Unit {0}
DatesRead old new name before after status.WriteFault = Unit {0}
DatesRead old new name before after status.NoMemory = Unit {0}
