-- What was read of a text is what its unfolded bytes say.
use Rattle.std.proofs.Common.{◌≡◌, ℕ, zero, suc, ◌≤◌, Bool, true, false, List, [], ◌∷◌, ◌++◌, map, length, Result, Ok, Err, All, refl, sym, ap, subst, ◌∙◌, arith, append_assoc}
use Rattle.std.specs.Prelude.{◌&&◌, ◌==◌, IfOk, if◌then◌else◌}
use Rattle.std.specs.List.{list_all, flat_map}
use Rattle.std.proofs.lemmas.Bool.{and_parts}
use Rattle.std.proofs.lemmas.Bool.Decides.{nat_tests}
use Rattle.crew_calendar.specs.declared.fault.CalendarFault.{CalendarFault}
use Rattle.crew_calendar.specs.declared.types.Calendar.{Calendar}
use Rattle.crew_calendar.specs.declared.types.CalendarEntry.{CalendarEntry}
use Rattle.crew_calendar.specs.Folding.{Row, is_end, rows_with, content_of, last_row, ended, unfolded}
use Rattle.crew_calendar.specs.Texts.{is_text}
use Rattle.crew_calendar.specs.Seen.{Book, seen, entry_seen, HasMoments, IsTimed, IsEntry, IsCalendar}
use Rattle.crew_calendar.specs.Printing.{book_text}
use Rattle.crew_calendar.specs.Content.{Says}
use Rattle.crew_calendar.specs.Reading.{blank, calendar_in, GivesWhole, Answers}
use Rattle.crew_calendar.proofs.CalendarAgain.{all_head, all_tail, said_read}
use Rattle.crew_calendar.proofs.Printed.{text_says}
use Rattle.crew_calendar.proofs.Said.{Lines, SayBook, rows_said, has_texts}
use Rattle.crew_calendar.proofs.Same.{calendar_same}

-- ---- whole lines put together again

abbrev are_ended : List Row → Bool
are_ended rows = list_all (λ row. row.ended) rows

abbrev lines_in : List Row → Lines
lines_in rows = map (λ row. row.bytes) rows

-- of bytes behind the front of a line
abbrev Joins : List ℕ → List ℕ → Type 0
Joins front text = are_ended (rows_with front text) ≡ true → front ++ text ≡ flat_map ended (lines_in (rows_with front text))

last_joins : (bytes : List ℕ) → are_ended (last_row bytes) ≡ true → bytes ≡ flat_map ended (lines_in (last_row bytes))
last_joins [] h = refl
last_joins (b ∷ bs) h = absurd cc

end_bytes : (a b : ℕ) → is_end a b ≡ true → (a ≡ 13) × (b ≡ 10)
end_bytes a b h =
    let p = and_parts (a == 13) (b == 10) h in
    (grind (arith, nat_tests), grind (arith, nat_tests))

joins : (front text : List ℕ) → Joins front text
unfolding rows_with
joins front [] = λ h. sym_nil front ∙ last_joins front h
  where
    sym_nil : (l : List ℕ) → l ++ [] ≡ l
    sym_nil [] = refl
    sym_nil (x ∷ xs) = ap (λ (k : List ℕ). x ∷ k) (sym_nil xs)
joins front (a ∷ []) = last_joins (front ++ a ∷ [])
joins front (a ∷ (b ∷ bs)) = two (is_end a b) refl (joins [] bs) (joins (front ++ a ∷ []) (b ∷ bs))
  where
    two : (e : Bool) → e ≡ is_end a b → Joins [] bs → Joins (front ++ a ∷ []) (b ∷ bs)
        → are_ended (if e then record { bytes = front; ended = true } ∷ rows_with [] bs else rows_with (front ++ a ∷ []) (b ∷ bs)) ≡ true
        → front ++ a ∷ (b ∷ bs)
        ≡ flat_map ended (lines_in (if e then record { bytes = front; ended = true } ∷ rows_with [] bs else rows_with (front ++ a ∷ []) (b ∷ bs)))
    two true is next more h =
        let p = end_bytes a b (sym is) in
        ap (λ (x : ℕ). front ++ x ∷ (b ∷ bs)) p.0 ∙ ap (λ (x : ℕ). front ++ 13 ∷ (x ∷ bs)) p.1
        ∙ sym (append_assoc front (13 ∷ (10 ∷ [])) bs)
        ∙ ap (λ (l : List ℕ). ended front ++ l) (next h)
    two false is next more h = sym (append_assoc front (a ∷ []) (b ∷ bs)) ∙ more h

content_joins : (bytes : List ℕ) → are_ended (content_of bytes) ≡ true → bytes ≡ flat_map ended (lines_in (content_of bytes))
content_joins [] h = absurd cc
content_joins (b ∷ bs) h = joins [] (b ∷ bs) h

-- ---- the calendar that was read

all_entries : (es : List CalendarEntry) → All HasMoments es → list_all has_texts (map entry_seen es) ≡ true → All IsEntry es
all_entries [] m h k d lt = absurd (omega arith)
all_entries (e ∷ es) m h zero d lt = first (and_parts (has_texts (entry_seen e)) (list_all has_texts (map entry_seen es)) h).0
  where
    first : has_texts (entry_seen e) ≡ true → IsEntry e
    first t =
        let p = and_parts (is_text false e.uid && is_text false e.summary) (is_text true e.text) t in
        let q = and_parts (is_text false e.uid) (is_text false e.summary) p.0 in
        let moments = all_head HasMoments e es m in
        record { uid_form = q.0; start_form = moments.0; stop_form = moments.1; summary_form = q.1; text_form = p.1 }
all_entries (e ∷ es) m h (suc k) d lt =
    all_entries es (all_tail HasMoments e es m) (and_parts (has_texts (entry_seen e)) (list_all has_texts (map entry_seen es)) h).1 k d (omega arith)

some_entries : (es : List CalendarEntry) → 1 ≤ length (map entry_seen es) → 1 ≤ length es
some_entries [] h = absurd (omega arith)
some_entries (e ∷ es) h = omega arith

says_book : (bytes : List ℕ) (c : Calendar) (ls : Lines) → IsTimed c → SayBook (seen c) ls → bytes ≡ flat_map ended ls → Says bytes c
says_book bytes c ls t h e =
    record {
      form = record { stamp_form = t.stamp_form; some = some_entries c.entries h.some; each = all_entries c.entries t.each h.texts };
      lines = h.lines;
      entries_are = h.entries_are;
      bytes_are = e ∙ ap (λ (l : Lines). flat_map ended l) h.is;
    }

read_says : (text : List ℕ) (c : Calendar) → IsTimed c → calendar_in text ≡ Ok (seen c) → Says (unfolded text) c
read_says text c t e =
    let h = rows_said 1 blank (content_of (unfolded text)) [] (seen c) e (record { lines = refl; stamp = refl; entries = refl }) in
    says_book (unfolded text) c (lines_in (content_of (unfolded text))) t h.says (content_joins (unfolded text) h.ended)

-- ---- what the reader answers

pub said : (text : List ℕ) (r : Result Calendar CalendarFault) → GivesWhole seen r (calendar_in text) → IfOk r IsTimed → IfOk r (Says (unfolded text))
said text (Ok c) h t = read_says text c t h
said text (Err e) h t = tt

timed : (c : Calendar) → IsCalendar c → IsTimed c
timed c h = record { stamp_form = h.stamp_form; each = each c.entries h.each }
  where
    each : (es : List CalendarEntry) → All IsEntry es → All HasMoments es
    each [] f k d lt = absurd (omega arith)
    each (e ∷ es) f zero d lt = let x = all_head IsEntry e es f in (x.start_form, x.stop_form)
    each (e ∷ es) f (suc k) d lt = each es (all_tail IsEntry e es f) k d (omega arith)

same_book : (r : Result Book CalendarFault) (a b : Book) → r ≡ Ok a → r ≡ Ok b → a ≡ b
same_book (Ok x) a b e f =
    let first : x ≡ a = cc in
    let second : x ≡ b = cc in
    sym first ∙ second
same_book (Err w) a b e f = absurd cc

pub only : (text : List ℕ) (r : Result Calendar CalendarFault) → GivesWhole seen r (calendar_in text) → IfOk r IsTimed
    → (c : Calendar) → Says (unfolded text) c → Answers r c
only text (Ok x) h t c s =
    ap (λ (k : Calendar). Ok k) (calendar_same c x (timed c s.form) t (same_book (calendar_in text) (seen c) (seen x) (said_read text c s) h))
only text (Err e) h t c s = λ known. absurd (never (calendar_in text) (said_read text c s) (h known))
  where
    never : (r : Result Book CalendarFault) → r ≡ Ok (seen c) → r ≡ Err e → ⊥
    never (Ok b) k l = absurd cc
    never (Err f) k l = absurd cc

-- a calendar's own text is read as the calendar
pub again : (text : List ℕ) (r : Result Calendar CalendarFault) → GivesWhole seen r (calendar_in text) → IfOk r IsTimed
    → (c : Calendar) → IsCalendar c → text ≡ book_text (seen c) → Answers r c
again text r h t c form e = only text r h t c (subst (λ (l : List ℕ). Says (unfolded l) c) (sym e) (text_says c form))
