-- The content lines of a calendar.
use Rattle.std.specs.Prelude.{ℕ, List, [], ◌∷◌, ◌++◌, codes}
use Rattle.std.specs.List.{flat_map}
use Rattle.crew_calendar.specs.Folding.{text_of}
use Rattle.crew_calendar.specs.Texts.{escaped}
use Rattle.crew_calendar.specs.Seen.{Entry, Book}

-- the lines that are words alone, and the heads of the others
unfoldable pub first_line : List ℕ
first_line = codes "BEGIN:VCALENDAR"

unfoldable pub version_line : List ℕ
version_line = codes "VERSION:2.0"

unfoldable pub product_line : List ℕ
product_line = codes "PRODID:-//pbs//crew calendar//EN"

unfoldable pub open_line : List ℕ
open_line = codes "BEGIN:VEVENT"

unfoldable pub uid_head : List ℕ
uid_head = codes "UID:"

unfoldable pub stamp_head : List ℕ
stamp_head = codes "DTSTAMP:"

unfoldable pub start_head : List ℕ
start_head = codes "DTSTART:"

unfoldable pub stop_head : List ℕ
stop_head = codes "DTEND:"

unfoldable pub summary_head : List ℕ
summary_head = codes "SUMMARY:"

unfoldable pub text_head : List ℕ
text_head = codes "DESCRIPTION:"

unfoldable pub close_line : List ℕ
close_line = codes "END:VEVENT"

unfoldable pub last_line : List ℕ
last_line = codes "END:VCALENDAR"

-- the lines of an entry, of a calendar made at this moment
abbrev pub opening_lines : List ℕ → Entry → List (List ℕ)
opening_lines stamp e =
    open_line ∷ ((uid_head ++ escaped e.uid) ∷ ((stamp_head ++ stamp) ∷ []))

abbrev pub time_lines : Entry → List (List ℕ)
time_lines e = (start_head ++ e.start) ∷ ((stop_head ++ e.stop) ∷ [])

abbrev pub closing_lines : Entry → List (List ℕ)
closing_lines e =
    (summary_head ++ escaped e.summary) ∷ ((text_head ++ escaped e.text) ∷ (close_line ∷ []))

abbrev pub entry_lines : List ℕ → Entry → List (List ℕ)
entry_lines stamp e = opening_lines stamp e ++ (time_lines e ++ closing_lines e)

abbrev pub head_lines : List (List ℕ)
head_lines = first_line ∷ (version_line ∷ (product_line ∷ []))

abbrev pub lines_of : Book → List (List ℕ)
lines_of book = head_lines ++ flat_map (entry_lines book.stamp) book.entries ++ last_line ∷ []

-- the text of a calendar: its content lines, folded
abbrev pub book_text : Book → List ℕ
book_text book = text_of (lines_of book)
