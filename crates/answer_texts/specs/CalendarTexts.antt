-- How a run of `calendar` ends, and what it prints.
use Rattle.std.specs.Prelude.{ℕ, List, [], ◌∷◌, ◌++◌, codes, Result, Ok, Err}
use Rattle.roster_text.specs.Codes.{roster_code}
use Rattle.month_files.specs.declared.writing.WriteStop.{WriteStop}
use Rattle.month_files.specs.declared.writing.WriteStop.TheVariants as write
use Rattle.desk_commands.specs.declared.calendars.MemberCalendar.{MemberCalendar}
use Rattle.desk_commands.specs.declared.calendar_stop.CalendarStop.{CalendarStop}
use Rattle.desk_commands.specs.declared.calendar_stop.CalendarStop.TheVariants as stop
use Rattle.desk_commands.specs.declared.calendar_stop.Undated.{Undated}
use Rattle.desk_commands.specs.declared.calendar_stop.Undated.TheVariants as undated
use Rattle.answer_texts.specs.declared.status.Status.{Status}
use Rattle.answer_texts.specs.declared.status.Status.TheVariants as status
use Rattle.answer_texts.specs.Lines.{line, line_of}
use Rattle.answer_texts.specs.MonthEnds.{unread_status, unread_text, input_status, bad_input_text}
use Rattle.answer_texts.specs.WriteEnds.{write_status}

abbrev pub calendar_status : Result MemberCalendar CalendarStop → Status
calendar_status (Ok m) = status.Done
calendar_status (Err (stop.Unread why)) = unread_status why
calendar_status (Err (stop.BadInput why)) = input_status why
calendar_status (Err (stop.No why)) = status.No
calendar_status (Err (stop.Unwritten m why)) = write_status why
calendar_status (Err stop.NoMemory) = status.NoMemory

-- the member's name, and how many entries the calendar has
abbrev pub calendar_line : List ℕ → ℕ → List ℕ
calendar_line name entries = line_of (codes "calendar " ++ name) (entries ∷ [])

-- why there is no calendar of the name
abbrev pub undated_text : List ℕ → Undated → List ℕ
undated_text name (undated.Roster fault) = line_of (codes "no roster") (fault.row ∷ roster_code fault.code ∷ [])
undated_text name undated.Member = line (codes "no member " ++ name)
undated_text name undated.NoEvents = line (codes "no events " ++ name)

-- the file of a calendar was not written
abbrev pub lost_text : List ℕ → WriteStop → List ℕ
lost_text file write.Fault = line (codes "write fault " ++ file)
lost_text file write.NoMemory = []

abbrev pub calendar_text : List ℕ → Result MemberCalendar CalendarStop → List ℕ
calendar_text name (Ok m) = calendar_line name m.entries
calendar_text name (Err (stop.Unread why)) = unread_text why
calendar_text name (Err (stop.BadInput why)) = bad_input_text why
calendar_text name (Err (stop.No why)) = undated_text name why
calendar_text name (Err (stop.Unwritten m why)) = lost_text m.file why
calendar_text name (Err stop.NoMemory) = []
