-- The text of a calendar says the calendar, and no line of it has more than 75 bytes.
use Rattle.std.proofs.Common.{◌≡◌, ℕ, true, false, List, [], ◌∷◌, ◌++◌, map, All, refl, ap, ◌∙◌, append_assoc}
use Rattle.std.specs.List.{list_all, flat_map}
use Rattle.std.proofs.lemmas.Bool.{and_from}
use Rattle.std.proofs.lemmas.List.Folds.{list_all-append}
use Rattle.crew_calendar.specs.declared.types.Calendar.{Calendar}
use Rattle.crew_calendar.specs.Folding.{is_inner, is_short, rows_of, unfolded}
use Rattle.crew_calendar.specs.Texts.{escaped}
use Rattle.crew_calendar.specs.Moments.{moment_text}
use Rattle.crew_calendar.specs.Seen.{Entry, Book, seen, entry_seen, IsCalendar}
use Rattle.crew_calendar.specs.Printing.{last_line, entry_lines, lines_of, book_text}
use Rattle.crew_calendar.specs.Content.{IsEntryLines, AreEntryLines, Says}
use Rattle.crew_calendar.proofs.Heads.{word_lines, uid_is_line, stamp_is_line, start_is_line, stop_is_line, summary_is_line, text_is_line}
use Rattle.crew_calendar.proofs.LinesAgain.{is_line, text_unfolded, short_text}
use Rattle.crew_calendar.proofs.ValuesAgain.{escaped_inner, text_inner}
use Rattle.crew_calendar.proofs.Spelled.{escaped_spells}
use Rattle.crew_calendar.proofs.CalendarAgain.{IsWritten, all_head, all_tail, all_written}

-- the lines that are printed can be folded
entry_is_lines : (stamp : List ℕ) (e : Entry) → IsWritten e → list_all is_inner stamp ≡ true
    → list_all is_line (entry_lines stamp e) ≡ true
entry_is_lines stamp e f i =
    rw (
      word_lines.3,
      uid_is_line (escaped e.uid) (escaped_inner false e.uid f.uid),
      stamp_is_line stamp i,
      start_is_line e.start f.start_inner,
      stop_is_line e.stop f.stop_inner,
      summary_is_line (escaped e.summary) (escaped_inner false e.summary f.summary),
      text_is_line (escaped e.text) (escaped_inner true e.text f.text),
      word_lines.4,
    ) refl

entries_are_lines : (stamp : List ℕ) (entries : List Entry) → All IsWritten entries → list_all is_inner stamp ≡ true
    → list_all is_line (flat_map (entry_lines stamp) entries ++ last_line ∷ []) ≡ true
entries_are_lines stamp [] f i = and_from (is_line last_line) true word_lines.5 refl
entries_are_lines stamp (e ∷ rest) f i =
    ap (λ (l : List (List ℕ)). list_all is_line l) (append_assoc (entry_lines stamp e) (flat_map (entry_lines stamp) rest) (last_line ∷ []))
    ∙ list_all-append is_line (entry_lines stamp e) (flat_map (entry_lines stamp) rest ++ last_line ∷ [])
    ∙ and_from _ _ (entry_is_lines stamp e (all_head IsWritten e rest f) i) (entries_are_lines stamp rest (all_tail IsWritten e rest f) i)

are_lines : (b : Book) → All IsWritten b.entries → list_all is_inner b.stamp ≡ true → list_all is_line (lines_of b) ≡ true
are_lines b f i = rw (word_lines.0, word_lines.1, word_lines.2) (entries_are_lines b.stamp b.entries f i)

-- they are the lines of the entries
entry_told : (stamp : List ℕ) (e : Entry) → IsEntryLines stamp e (entry_lines stamp e)
entry_told stamp e =
    record {
      uid = escaped e.uid;
      summary = escaped e.summary;
      text = escaped e.text;
      uid_spelt = escaped_spells e.uid;
      summary_spelt = escaped_spells e.summary;
      text_spelt = escaped_spells e.text;
      lines_are = refl;
    }

entries_told : (stamp : List ℕ) (entries : List Entry) → AreEntryLines stamp entries (flat_map (entry_lines stamp) entries)
unfolding AreEntryLines
entries_told stamp [] = refl
entries_told stamp (e ∷ rest) =
    record {
      front = entry_lines stamp e;
      rest = flat_map (entry_lines stamp) rest;
      parts = refl;
      first = entry_told stamp e;
      behind = entries_told stamp rest;
    }

pub text_says : (c : Calendar) → IsCalendar c → Says (unfolded (book_text (seen c))) c
text_says c h =
    record {
      form = h;
      lines = flat_map (entry_lines (moment_text c.stamp)) (map entry_seen c.entries);
      entries_are = entries_told (moment_text c.stamp) (map entry_seen c.entries);
      bytes_are = text_unfolded (lines_of (seen c)) (are_lines (seen c) (all_written c.entries h.each) (text_inner c.stamp));
    }

pub calendar_short : (c : Calendar) → IsCalendar c → list_all is_short (rows_of (book_text (seen c))) ≡ true
calendar_short c h =
    short_text (lines_of (seen c)) (are_lines (seen c) (all_written c.entries h.each) (text_inner c.stamp))
