-- Reading a calendar line by line, up to the first fault.
use Rattle.std.specs.Prelude.{ℕ, ◌+◌, Bool, true, false, List, [], ◌∷◌, ◌++◌, length, take, drop, Option, Some, None, Result, Ok, Err, if◌then◌else◌}
use Rattle.std.specs.Str.{bytes_eq}
use Rattle.field_text.specs.Gives.{GivesUnless}
use Rattle.field_text.specs.Steps.{◌>>=◌, or_fault}
use Rattle.crew_calendar.specs.declared.fault.CalendarCode.{CalendarCode}
use Rattle.crew_calendar.specs.declared.fault.CalendarCode.TheVariants as code
use Rattle.crew_calendar.specs.declared.fault.CalendarFault.{CalendarFault}
use Rattle.crew_calendar.specs.declared.sheet.Due.{Due}
use Rattle.crew_calendar.specs.declared.types.Calendar.{Calendar}
use Rattle.crew_calendar.specs.declared.sheet.Due.TheVariants.{First, Version, Product, Open, Next, Uid, Stamp, Start, Stop, Summary, Text, Close, Nothing}
use Rattle.crew_calendar.specs.Folding.{Row, content_of, is_whole, unfolded}
use Rattle.crew_calendar.specs.Texts.{text_in}
use Rattle.crew_calendar.specs.Moments.{is_moment}
use Rattle.crew_calendar.specs.Seen.{Entry, Book}
use Rattle.crew_calendar.specs.Printing.{first_line, version_line, product_line, open_line, uid_head, stamp_head, start_head, stop_head, summary_head, text_head, close_line, last_line}

-- What was read so far: which line is due, the first entry's stamp, the entries, and the parts of
-- the entry that is being read.
pub record Sheet : Type 0 where
  pub due : Due
  pub stamp : Option (List ℕ)
  pub uid : List ℕ
  pub start : Option (List ℕ)
  pub stop : Option (List ℕ)
  pub summary : List ℕ
  pub entries : List Entry

abbrev pub blank : Sheet
blank =
    record {
      due = First;
      stamp = None;
      uid = [];
      start = None;
      stop = None;
      summary = [];
      entries = [];
    }

-- what stands behind the head of a property
abbrev pub behind : List ℕ → List ℕ → Option (List ℕ)
behind head line =
    if bytes_eq (take (length head) line) head then Some (drop (length head) line) else None

-- the value of a property that is a text or a moment
unfoldable pub text_value : Bool → List ℕ → List ℕ → Result (List ℕ) CalendarCode
text_value feeds head line = do
  value ← or_fault code.Name (behind head line)
  or_fault code.Value (text_in feeds value)

unfoldable pub moment_value : List ℕ → List ℕ → Result (List ℕ) CalendarCode
moment_value head line = do
  value ← or_fault code.Name (behind head line)
  if is_moment value then Ok value else Err code.Value

-- a line that is a word alone, and what is due behind it
abbrev pub word_line : Sheet → List ℕ → List ℕ → Due → Result Sheet CalendarCode
word_line s line word next =
    if bytes_eq line word then Ok (record s { due = next }) else Err code.Name

-- one more entry, or the end
unfoldable pub next_line : Sheet → List ℕ → Result Sheet CalendarCode
next_line s line =
    if bytes_eq line last_line then Ok (record s { due = Nothing }) else word_line s line open_line Uid

unfoldable pub uid_line : Sheet → List ℕ → Result Sheet CalendarCode
uid_line s line = do
  value ← text_value false uid_head line
  Ok (record s { due = Stamp; uid = value })

-- the stamp is that of the first entry
abbrev pub is_stamp : Option (List ℕ) → List ℕ → Bool
is_stamp None value = true
is_stamp (Some first) value = bytes_eq first value

unfoldable pub stamp_line : Sheet → List ℕ → Result Sheet CalendarCode
stamp_line s line = do
  value ← moment_value stamp_head line
  if is_stamp s.stamp value then Ok (record s { due = Start; stamp = Some value }) else Err code.Value

unfoldable pub start_line : Sheet → List ℕ → Result Sheet CalendarCode
start_line s line = do
  value ← moment_value start_head line
  Ok (record s { due = Stop; start = Some value })

unfoldable pub stop_line : Sheet → List ℕ → Result Sheet CalendarCode
stop_line s line = do
  value ← moment_value stop_head line
  Ok (record s { due = Summary; stop = Some value })

unfoldable pub summary_line : Sheet → List ℕ → Result Sheet CalendarCode
summary_line s line = do
  value ← text_value false summary_head line
  Ok (record s { due = Text; summary = value })

-- the entry whose parts were read; its start and stop are there, since their lines were read
abbrev pub made : Sheet → List ℕ → Option (List ℕ) → Option (List ℕ) → Result Sheet CalendarCode
made s value None stop = Err code.Value
made s value (Some start) None = Err code.Value
made s value (Some start) (Some stop) =
    Ok (record s {
      due = Close;
      uid = [];
      summary = [];
      entries = s.entries
          ++ record { uid = s.uid; start = start; stop = stop; summary = s.summary; text = value } ∷ [];
    })

unfoldable pub text_line : Sheet → List ℕ → Result Sheet CalendarCode
text_line s line = do
  value ← text_value true text_head line
  made s value s.start s.stop

-- the line that is due
abbrev pub due_line : Sheet → List ℕ → Due → Result Sheet CalendarCode
due_line s line First = word_line s line first_line Version
due_line s line Version = word_line s line version_line Product
due_line s line Product = word_line s line product_line Open
due_line s line Open = word_line s line open_line Uid
due_line s line Next = next_line s line
due_line s line Uid = uid_line s line
due_line s line Stamp = stamp_line s line
due_line s line Start = start_line s line
due_line s line Stop = stop_line s line
due_line s line Summary = summary_line s line
due_line s line Text = text_line s line
due_line s line Close = word_line s line close_line Next
due_line s line Nothing = Err code.Rest

unfoldable pub sheet_line : Sheet → List ℕ → Result Sheet CalendarCode
sheet_line s line = due_line s line s.due

unfoldable pub sheet_row : Sheet → Row → Result Sheet CalendarCode
sheet_row s row = if is_whole row then sheet_line s row.bytes else Err code.Break

-- a fault of a line, with the line's number
abbrev pub at : {A : Type 0} → ℕ → Result A CalendarCode → Result A CalendarFault
at n (Ok x) = Ok x
at n (Err c) = Err (record { line = n; code = c })

-- the calendar of a sheet after its last line; where more lines are due the text has ended
abbrev pub ended_with : Sheet → Due → Option (List ℕ) → Result Book CalendarCode
ended_with s Nothing (Some stamp) = Ok (record { stamp = stamp; entries = s.entries })
ended_with s Nothing None = Err code.Name
ended_with s First stamp = Err code.Name
ended_with s Version stamp = Err code.Name
ended_with s Product stamp = Err code.Name
ended_with s Open stamp = Err code.Name
ended_with s Next stamp = Err code.Name
ended_with s Uid stamp = Err code.Name
ended_with s Stamp stamp = Err code.Name
ended_with s Start stamp = Err code.Name
ended_with s Stop stamp = Err code.Name
ended_with s Summary stamp = Err code.Name
ended_with s Text stamp = Err code.Name
ended_with s Close stamp = Err code.Name

unfoldable pub book_of : Sheet → Result Book CalendarCode
book_of s = ended_with s s.due s.stamp

-- the lines from number n on
unfoldable pub rows_from : ℕ → Sheet → List Row → Result Book CalendarFault
rows_from n s [] = at n (book_of s)
rows_from n s (row ∷ rows) = do
  t ← at n (sheet_row s row)
  rows_from (n + 1) t rows

-- what a text says
abbrev pub calendar_in : List ℕ → Result Book CalendarFault
calendar_in text = rows_from 1 blank (content_of (unfolded text))

-- want of memory, which has no line
abbrev pub no_memory : CalendarFault
no_memory = record { line = 0; code = code.NoMemory }

-- a fault of a line; want of memory has none
abbrev pub line_of : ℕ → CalendarCode → ℕ
line_of n code.NoMemory = 0
line_of n code.Break = n
line_of n code.Name = n
line_of n code.Value = n
line_of n code.Rest = n

abbrev pub fault_at : ℕ → CalendarCode → CalendarFault
fault_at n c = record { line = line_of n c; code = c }

-- what was returned is what reading gives, unless memory ran out
abbrev pub Gives : {X Y : Type 0} → (X → Y) → Result X CalendarCode → Result Y CalendarCode → Type 0
Gives view result due = GivesUnless code.NoMemory view result due

abbrev pub GivesWhole : {X Y : Type 0} → (X → Y) → Result X CalendarFault → Result Y CalendarFault
    → Type 0
GivesWhole view result due = GivesUnless no_memory view result due

-- this calendar was returned, unless memory ran out
abbrev pub Answers : Result Calendar CalendarFault → Calendar → Type 0
Answers result calendar = GivesWhole (λ c. c) result (Ok calendar)
