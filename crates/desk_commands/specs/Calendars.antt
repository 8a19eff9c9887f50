-- What `calendar` finds in the files of a folder: the calendar of a member, and the file that says it.
use Rattle.std.specs.Prelude.{◌≡◌, ◌≤◌, ◌++◌, [], ◌∷◌, ℕ, List, Option, Some, None, Result, Ok, Err, length, codes}
use Rattle.shelf.specs.Files.{Files}
use Rattle.shelf.specs.Logs.{Entries}
use Rattle.crew_calendar.specs.Printing.{book_text}
use Rattle.crew_calendar.specs.Seen.{Book}
use Rattle.crew_calendar.specs.Table.{table}
use Rattle.roster_model.specs.declared.problem.Problem.{Problem}
use Rattle.month_files.specs.declared.file.File.{File}
use Rattle.month_files.specs.declared.file.File.TheVariants.{Rules, Pairings, Duties, Legs, Crew, History, Fixed, Bids, Roster}
use Rattle.month_files.specs.Handing.{FromReads}
use Rattle.month_files.specs.Reading.{UnreadIs}
use Rattle.month_files.specs.Sights.{seen_in, IsBadSight, OfSight}
use Rattle.roster_text.specs.ReasonWords.{member_named}
use Rattle.roster_text.specs.RosterFaults.{HasFault as HasRosterFault}
use Rattle.roster_text.specs.RosterText.{IsTextOf}
use Rattle.desk_commands.specs.declared.calendars.MemberCalendar.{MemberCalendar}
use Rattle.desk_commands.specs.declared.calendar_stop.CalendarStop.{CalendarStop}
use Rattle.desk_commands.specs.declared.calendar_stop.CalendarStop.TheVariants as stop
use Rattle.desk_commands.specs.declared.calendar_stop.Undated.{Undated}
use Rattle.desk_commands.specs.declared.calendar_stop.Undated.TheVariants as undated

-- the text is that of a roster, and no member has the name
pub record NamesNobody (name : List ℕ) (problem : Problem) (text : List ℕ) : Type 0 where
  pub roster : List (List ℕ)
  pub read : IsTextOf problem text roster
  pub nobody : member_named problem name ≡ None

-- the text is that of a roster, and of the calendar in it of the member with the name P holds
pub record OfMember (name : List ℕ) (P : Book → Type 0) (problem : Problem) (text : List ℕ) : Type 0 where
  pub roster : List (List ℕ)
  pub read : IsTextOf problem text roster
  pub member : ℕ
  pub named : member_named problem name ≡ Some member
  pub found : P (table problem roster member)

abbrev pub OfCalendar : Files → List ℕ → (Book → Type 0) → Type 0
OfCalendar files name P = OfSight files (OfMember name P)

-- ---- what `calendar` answers

-- what stands behind a member's name in the name of a file, and that name
unfoldable pub ics : List ℕ
ics = codes ".ics"

abbrev pub ics_of : List ℕ → List ℕ
ics_of name = name ++ ics

-- the file has the member's name and the text of the calendar, which has so many entries and at least one
pub record IsFileOf (name : List ℕ) (m : MemberCalendar) (book : Book) : Type 0 where
  pub file_is : m.file ≡ ics_of name
  pub bytes_are : m.bytes ≡ book_text book
  pub counted : m.entries ≡ length book.entries
  pub some : 1 ≤ m.entries

-- a calendar without an entry has no file
abbrev pub IsDated : List ℕ → Book → Option MemberCalendar → Type 0
IsDated name book None = book.entries ≡ []
IsDated name book (Some m) = IsFileOf name m book

abbrev pub IsCalendarFile : Files → List ℕ → MemberCalendar → Type 0
IsCalendarFile files name m = OfCalendar files name (IsFileOf name m)

abbrev pub IsUndated : Files → List ℕ → Undated → Type 0
IsUndated files name (undated.Roster fault) = OfSight files (λ problem text. HasRosterFault problem text fault)
IsUndated files name undated.Member = OfSight files (NamesNobody name)
IsUndated files name undated.NoEvents = OfCalendar files name (λ book. book.entries ≡ [])

abbrev pub IsCalendarRun : Files → List ℕ → Result MemberCalendar CalendarStop → Type 0
IsCalendarRun files name (Ok m) = IsCalendarFile files name m
IsCalendarRun files name (Err (stop.Unread why)) = UnreadIs why (seen_in files)
IsCalendarRun files name (Err (stop.BadInput why)) = IsBadSight files why
IsCalendarRun files name (Err (stop.No why)) = IsUndated files name why
IsCalendarRun files name (Err (stop.Unwritten m why)) = IsCalendarFile files name m
IsCalendarRun files name (Err stop.NoMemory) = Unit {0}

-- ---- of the texts that reads handed in, be files told or not

-- the files in the order in which `calendar` reads them
abbrev pub calendar_order : List File
calendar_order = Rules ∷ Pairings ∷ Duties ∷ Legs ∷ Crew ∷ History ∷ Fixed ∷ Bids ∷ Roster ∷ []

-- where not all were read, or memory was wanting, nothing is said
abbrev pub IsCalendarHanded : Entries → Entries → List ℕ → Result MemberCalendar CalendarStop → Type 0
IsCalendarHanded old new name (Ok m) = FromReads calendar_order old new (λ files. IsCalendarFile files name m)
IsCalendarHanded old new name (Err (stop.Unread why)) = Unit {0}
IsCalendarHanded old new name (Err (stop.BadInput why)) =
    FromReads calendar_order old new (λ files. IsBadSight files why)
IsCalendarHanded old new name (Err (stop.No why)) = FromReads calendar_order old new (λ files. IsUndated files name why)
IsCalendarHanded old new name (Err (stop.Unwritten m why)) =
    FromReads calendar_order old new (λ files. IsCalendarFile files name m)
IsCalendarHanded old new name (Err stop.NoMemory) = Unit {0}
