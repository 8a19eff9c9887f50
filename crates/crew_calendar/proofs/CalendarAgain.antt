-- Bytes that say a calendar, read.
use Rattle.std.proofs.Common.{◌≡◌, ℕ, zero, suc, ◌+◌, ◌≤◌, true, false, List, [], ◌∷◌, ◌++◌, map, length, Option, Some, None, Ok, All, refl, sym, ap, ◌∙◌, arith, append_assoc, append-nil}
use Rattle.std.specs.List.{list_all, flat_map}
use Rattle.std.specs.Str.{bytes_eq}
use Rattle.std.proofs.lemmas.Bool.{and_from}
use Rattle.std.proofs.lemmas.List.Folds.{list_all-append}
use Rattle.std.proofs.lemmas.Slice.Eq.{bytes_eq-Decides}
use Rattle.crew_calendar.specs.declared.sheet.Due.{Due}
use Rattle.crew_calendar.specs.declared.sheet.Due.TheVariants.{First, Version, Product, Open, Next, Uid, Stamp, Start, Stop, Summary, Text, Close, Nothing}
use Rattle.crew_calendar.specs.declared.types.Calendar.{Calendar}
use Rattle.crew_calendar.specs.declared.types.CalendarEntry.{CalendarEntry}
use Rattle.crew_calendar.specs.Folding.{Row, is_inner, content_of, unfolded, ended}
use Rattle.crew_calendar.specs.Texts.{is_text, text_in}
use Rattle.crew_calendar.specs.Moments.{is_moment, moment_text}
use Rattle.crew_calendar.specs.Seen.{Entry, seen, entry_seen, IsEntry}
use Rattle.crew_calendar.specs.Printing.{first_line, version_line, product_line, open_line, uid_head, stamp_head, start_head, stop_head, summary_head, text_head, close_line, last_line, head_lines}
use Rattle.crew_calendar.specs.Content.{IsEntryLines, AreEntryLines, Says}
use Rattle.crew_calendar.specs.Reading.{Sheet, blank, next_line, uid_line, is_stamp, stamp_line, start_line, stop_line, summary_line, text_line, sheet_line, sheet_row, book_of, rows_from, calendar_in}
use Rattle.crew_calendar.proofs.Heads.{words_inner, uid_inner, stamp_inner, start_inner, stop_inner, summary_inner, head_inner}
use Rattle.crew_calendar.proofs.LinesAgain.{whole, are_inner, content_whole}
use Rattle.crew_calendar.proofs.ValuesAgain.{text_value_again, moment_value_again, moment_again, text_inner}
use Rattle.crew_calendar.proofs.Spelled.{spelt_read, spelt_inner}

-- an entry that can be written
pub record IsWritten (e : Entry) : Type 0 where
  pub uid : is_text false e.uid ≡ true
  pub start : is_moment e.start ≡ true
  pub stop : is_moment e.stop ≡ true
  pub summary : is_text false e.summary ≡ true
  pub text : is_text true e.text ≡ true
  pub start_inner : list_all is_inner e.start ≡ true
  pub stop_inner : list_all is_inner e.stop ≡ true

pub all_head : {X : Type 0} (P : X → Type 0) (x : X) (xs : List X) → All P (x ∷ xs) → P x
all_head P x xs h = h 0 x (omega arith)

pub all_tail : {X : Type 0} (P : X → Type 0) (x : X) (xs : List X) → All P (x ∷ xs) → All P xs
all_tail P x xs h k d lt = h (suc k) d (omega arith)

same_bytes : (v : List ℕ) → bytes_eq v v ≡ true
same_bytes v = (bytes_eq-Decides v v).1 refl

-- a sheet
abbrev sheet : Due → Option (List ℕ) → List ℕ → Option (List ℕ) → Option (List ℕ) → List ℕ → List Entry → Sheet
sheet due stamp uid start stop summary entries =
    record { due = due; stamp = stamp; uid = uid; start = start; stop = stop; summary = summary; entries = entries }

-- one line
goes : (n : ℕ) (s t : Sheet) (line : List ℕ) (rows : List Row) → list_all is_inner line ≡ true → sheet_line s line ≡ Ok t
    → rows_from n s (whole line ∷ rows) ≡ rows_from (n + 1) t rows
unfolding rows_from sheet_row
goes n s t line rows h e = rw (h, e) refl

-- what is read of each line
module _ (st : Option (List ℕ)) (u : List ℕ) (a z : Option (List ℕ)) (w : List ℕ) (es : List Entry) where
  reads_first : sheet_line (sheet First st u a z w es) first_line ≡ Ok (sheet Version st u a z w es)
  unfolding sheet_line
  reads_first = rw (same_bytes first_line) refl

  reads_version : sheet_line (sheet Version st u a z w es) version_line ≡ Ok (sheet Product st u a z w es)
  unfolding sheet_line
  reads_version = rw (same_bytes version_line) refl

  reads_product : sheet_line (sheet Product st u a z w es) product_line ≡ Ok (sheet Open st u a z w es)
  unfolding sheet_line
  reads_product = rw (same_bytes product_line) refl

  reads_open : sheet_line (sheet Open st u a z w es) open_line ≡ Ok (sheet Uid st u a z w es)
  unfolding sheet_line
  reads_open = rw (same_bytes open_line) refl

  reads_next : sheet_line (sheet Next st u a z w es) open_line ≡ Ok (sheet Uid st u a z w es)
  unfolding sheet_line next_line open_line last_line
  reads_next = refl

  reads_last : sheet_line (sheet Next st u a z w es) last_line ≡ Ok (sheet Nothing st u a z w es)
  unfolding sheet_line next_line
  reads_last = rw (same_bytes last_line) refl

  reads_close : sheet_line (sheet Close st u a z w es) close_line ≡ Ok (sheet Next st u a z w es)
  unfolding sheet_line
  reads_close = rw (same_bytes close_line) refl

  reads_uid : (v t : List ℕ) → text_in false v ≡ Some t
      → sheet_line (sheet Uid st u a z w es) (uid_head ++ v) ≡ Ok (sheet Stamp st t a z w es)
  unfolding sheet_line uid_line
  reads_uid v t h = rw (text_value_again false uid_head v t h) refl

  reads_stamp : (v : List ℕ) → is_moment v ≡ true → is_stamp st v ≡ true
      → sheet_line (sheet Stamp st u a z w es) (stamp_head ++ v) ≡ Ok (sheet Start (Some v) u a z w es)
  unfolding sheet_line stamp_line
  reads_stamp v h k = rw (moment_value_again stamp_head v h, k) refl

  reads_start : (v : List ℕ) → is_moment v ≡ true
      → sheet_line (sheet Start st u a z w es) (start_head ++ v) ≡ Ok (sheet Stop st u (Some v) z w es)
  unfolding sheet_line start_line
  reads_start v h = rw (moment_value_again start_head v h) refl

  reads_stop : (v : List ℕ) → is_moment v ≡ true
      → sheet_line (sheet Stop st u a z w es) (stop_head ++ v) ≡ Ok (sheet Summary st u a (Some v) w es)
  unfolding sheet_line stop_line
  reads_stop v h = rw (moment_value_again stop_head v h) refl

  reads_summary : (v t : List ℕ) → text_in false v ≡ Some t
      → sheet_line (sheet Summary st u a z w es) (summary_head ++ v) ≡ Ok (sheet Text st u a z t es)
  unfolding sheet_line summary_line
  reads_summary v t h = rw (text_value_again false summary_head v t h) refl

reads_text : (st : Option (List ℕ)) (es : List Entry) (e : Entry) (v : List ℕ) → text_in true v ≡ Some e.text
    → sheet_line (sheet Text st e.uid (Some e.start) (Some e.stop) e.summary es) (text_head ++ v)
    ≡ Ok (sheet Close st [] (Some e.start) (Some e.stop) [] (es ++ e ∷ []))
unfolding sheet_line text_line
reads_text st es e v h = rw (text_value_again true text_head v e.text h) refl

-- the lines of an entry behind its first
abbrev entry_rows : List ℕ → Entry → List ℕ → List ℕ → List ℕ → List Row → List Row
entry_rows stamp e uid summary text rows =
    whole (uid_head ++ uid) ∷ (whole (stamp_head ++ stamp) ∷ (whole (start_head ++ e.start)
    ∷ (whole (stop_head ++ e.stop) ∷ (whole (summary_head ++ summary) ∷ (whole (text_head ++ text)
    ∷ (whole close_line ∷ rows))))))

abbrev more_rows : List (List ℕ) → List Row
more_rows lines = map whole (lines ++ last_line ∷ [])

entry_again : (n : ℕ) (st : Option (List ℕ)) (u : List ℕ) (a z : Option (List ℕ)) (w : List ℕ) (es : List Entry)
    (stamp : List ℕ) (e : Entry) (lines : List (List ℕ)) (rows : List Row) (h : IsEntryLines stamp e lines)
    → IsWritten e → is_moment stamp ≡ true → list_all is_inner stamp ≡ true → is_stamp st stamp ≡ true
    → rows_from n (sheet Uid st u a z w es) (entry_rows stamp e h.uid h.summary h.text rows)
    ≡ rows_from (n + 1 + 1 + 1 + 1 + 1 + 1 + 1)
    (sheet Next (Some stamp) [] (Some e.start) (Some e.stop) [] (es ++ e ∷ [])) rows
entry_again n st u a z w es stamp e lines rows h f m i k =
    goes n _ _ (uid_head ++ h.uid) _ (uid_inner h.uid (spelt_inner false e.uid h.uid f.uid h.uid_spelt))
    (reads_uid st u a z w es h.uid e.uid (spelt_read false e.uid h.uid f.uid h.uid_spelt))
    ∙ goes (n + 1) _ _ (stamp_head ++ stamp) _ (stamp_inner stamp i)
    (reads_stamp st e.uid a z w es stamp m k)
    ∙ goes (n + 1 + 1) _ _ (start_head ++ e.start) _ (start_inner e.start f.start_inner)
    (reads_start (Some stamp) e.uid a z w es e.start f.start)
    ∙ goes (n + 1 + 1 + 1) _ _ (stop_head ++ e.stop) _ (stop_inner e.stop f.stop_inner)
    (reads_stop (Some stamp) e.uid (Some e.start) z w es e.stop f.stop)
    ∙ goes (n + 1 + 1 + 1 + 1) _ _ (summary_head ++ h.summary) _
    (summary_inner h.summary (spelt_inner false e.summary h.summary f.summary h.summary_spelt))
    (reads_summary (Some stamp) e.uid (Some e.start) (Some e.stop) w es h.summary e.summary (spelt_read false e.summary h.summary f.summary h.summary_spelt))
    ∙ goes (n + 1 + 1 + 1 + 1 + 1) _ _ (text_head ++ h.text) _
    (head_inner h.text (spelt_inner true e.text h.text f.text h.text_spelt))
    (reads_text (Some stamp) es e h.text (spelt_read true e.text h.text f.text h.text_spelt))
    ∙ goes (n + 1 + 1 + 1 + 1 + 1 + 1) _ _ close_line _ words_inner.4
    (reads_close (Some stamp) [] (Some e.start) (Some e.stop) [] (es ++ e ∷ []))

-- the lines of an entry and those behind it
entry_first : (stamp : List ℕ) (e : Entry) (lines front rest : List (List ℕ)) (h : IsEntryLines stamp e front) → lines ≡ front ++ rest
    → more_rows lines ≡ whole open_line ∷ entry_rows stamp e h.uid h.summary h.text (more_rows rest)
entry_first stamp e lines front rest h parts =
    ap (λ (l : List (List ℕ)). more_rows l) (parts ∙ ap (λ (l : List (List ℕ)). l ++ rest) h.lines_are)

-- the entries that are left, and the last line
entries_again : (n : ℕ) (a z : Option (List ℕ)) (es : List Entry) (stamp : List ℕ) (entries : List Entry) (lines : List (List ℕ))
    → AreEntryLines stamp entries lines → All IsWritten entries → is_moment stamp ≡ true → list_all is_inner stamp ≡ true
    → rows_from n (sheet Next (Some stamp) [] a z [] es) (more_rows lines)
    ≡ Ok (record { stamp = stamp; entries = es ++ entries })
unfolding rows_from book_of AreEntryLines
entries_again n a z es stamp [] lines h f m i =
    ap (λ (l : List (List ℕ)). rows_from n (sheet Next (Some stamp) [] a z [] es) (more_rows l)) h
    ∙ goes n _ _ last_line [] words_inner.5 (reads_last (Some stamp) [] a z [] es)
    ∙ ap (λ (l : List Entry). Ok (record { stamp = stamp; entries = l })) (sym (append-nil es))
entries_again n a z es stamp (e ∷ rest) lines h f m i =
    ap (λ (l : List Row). rows_from n (sheet Next (Some stamp) [] a z [] es) l) (entry_first stamp e lines h.front h.rest h.first h.parts)
    ∙ goes n _ _ open_line (entry_rows stamp e h.first.uid h.first.summary h.first.text (more_rows h.rest)) words_inner.3 (reads_next (Some stamp) [] a z [] es)
    ∙ entry_again (n + 1) (Some stamp) [] a z [] es stamp e h.front (more_rows h.rest) h.first
    (all_head IsWritten e rest f) m i (same_bytes stamp)
    ∙ entries_again (n + 1 + 1 + 1 + 1 + 1 + 1 + 1 + 1) (Some e.start) (Some e.stop) (es ++ e ∷ []) stamp rest h.rest h.behind (all_tail IsWritten e rest f) m i
    ∙ ap (λ (l : List Entry). Ok (record { stamp = stamp; entries = l })) (append_assoc es (e ∷ []) rest)

-- the whole calendar
lines_again : (stamp : List ℕ) (e : Entry) (rest : List Entry) (lines : List (List ℕ))
    → AreEntryLines stamp (e ∷ rest) lines → All IsWritten (e ∷ rest) → is_moment stamp ≡ true → list_all is_inner stamp ≡ true
    → rows_from 1 blank (map whole (head_lines ++ lines ++ last_line ∷ []))
    ≡ Ok (record { stamp = stamp; entries = e ∷ rest })
unfolding AreEntryLines
lines_again stamp e rest lines h f m i =
    let behind = entry_rows stamp e h.first.uid h.first.summary h.first.text (more_rows h.rest) in
    ap (λ (l : List Row). rows_from 1 blank (whole first_line ∷ (whole version_line ∷ (whole product_line ∷ l)))) (entry_first stamp e lines h.front h.rest h.first h.parts)
    ∙ goes 1 _ _ first_line (whole version_line ∷ (whole product_line ∷ (whole open_line ∷ behind))) words_inner.0 (reads_first None [] None None [] [])
    ∙ goes (1 + 1) _ _ version_line (whole product_line ∷ (whole open_line ∷ behind)) words_inner.1 (reads_version None [] None None [] [])
    ∙ goes (1 + 1 + 1) _ _ product_line (whole open_line ∷ behind) words_inner.2 (reads_product None [] None None [] [])
    ∙ goes (1 + 1 + 1 + 1) _ _ open_line behind words_inner.3 (reads_open None [] None None [] [])
    ∙ entry_again (1 + 1 + 1 + 1 + 1) None [] None None [] [] stamp e h.front (more_rows h.rest) h.first
    (all_head IsWritten e rest f) m i refl
    ∙ entries_again (1 + 1 + 1 + 1 + 1 + 1 + 1 + 1 + 1 + 1 + 1 + 1) (Some e.start) (Some e.stop) (e ∷ []) stamp rest h.rest h.behind (all_tail IsWritten e rest f) m i

-- no line ends within the lines of entries
entry_inner : (stamp : List ℕ) (e : Entry) (lines : List (List ℕ)) → IsEntryLines stamp e lines → IsWritten e → list_all is_inner stamp ≡ true
    → are_inner lines ≡ true
entry_inner stamp e lines h f i =
    ap (λ (l : List (List ℕ)). are_inner l) h.lines_are
    ∙ rw (
      words_inner.3,
      uid_inner h.uid (spelt_inner false e.uid h.uid f.uid h.uid_spelt),
      stamp_inner stamp i,
      start_inner e.start f.start_inner,
      stop_inner e.stop f.stop_inner,
      summary_inner h.summary (spelt_inner false e.summary h.summary f.summary h.summary_spelt),
      head_inner h.text (spelt_inner true e.text h.text f.text h.text_spelt),
      words_inner.4,
    ) refl

entries_inner : (stamp : List ℕ) (entries : List Entry) (lines : List (List ℕ)) → AreEntryLines stamp entries lines → All IsWritten entries
    → list_all is_inner stamp ≡ true → are_inner (lines ++ last_line ∷ []) ≡ true
unfolding AreEntryLines
entries_inner stamp [] lines h f i =
    ap (λ (l : List (List ℕ)). are_inner (l ++ last_line ∷ [])) h ∙ and_from (list_all is_inner last_line) true words_inner.5 refl
entries_inner stamp (e ∷ rest) lines h f i =
    ap (λ (l : List (List ℕ)). are_inner (l ++ last_line ∷ [])) h.parts
    ∙ ap (λ (l : List (List ℕ)). are_inner l) (append_assoc h.front h.rest (last_line ∷ []))
    ∙ list_all-append (λ (l : List ℕ). list_all is_inner l) h.front (h.rest ++ last_line ∷ [])
    ∙ and_from _ _ (entry_inner stamp e h.front h.first (all_head IsWritten e rest f) i) (entries_inner stamp rest h.rest h.behind (all_tail IsWritten e rest f) i)

all_inner : (stamp : List ℕ) (entries : List Entry) (lines : List (List ℕ)) → AreEntryLines stamp entries lines → All IsWritten entries
    → list_all is_inner stamp ≡ true → are_inner (head_lines ++ lines ++ last_line ∷ []) ≡ true
all_inner stamp entries lines h f i = rw (words_inner.0, words_inner.1, words_inner.2) (entries_inner stamp entries lines h f i)

-- the entries of a calendar can be written
written : (e : CalendarEntry) → IsEntry e → IsWritten (entry_seen e)
written e h =
    record {
      uid = h.uid_form;
      start = moment_again e.start h.start_form;
      stop = moment_again e.stop h.stop_form;
      summary = h.summary_form;
      text = h.text_form;
      start_inner = text_inner e.start;
      stop_inner = text_inner e.stop;
    }

pub all_written : (es : List CalendarEntry) → All IsEntry es → All IsWritten (map entry_seen es)
all_written [] h k d lt = absurd (omega arith)
all_written (e ∷ es) h zero d lt = written e (all_head IsEntry e es h)
all_written (e ∷ es) h (suc k) d lt = all_written es (all_tail IsEntry e es h) k d (omega arith)

book_again : (stamp : List ℕ) (entries : List Entry) (lines : List (List ℕ)) (bytes : List ℕ) → 1 ≤ length entries
    → AreEntryLines stamp entries lines → All IsWritten entries → is_moment stamp ≡ true → list_all is_inner stamp ≡ true
    → bytes ≡ flat_map ended (head_lines ++ lines ++ last_line ∷ [])
    → rows_from 1 blank (content_of bytes) ≡ Ok (record { stamp = stamp; entries = entries })
unfolding first_line
book_again stamp [] lines bytes some h f m i e = absurd (omega arith)
book_again stamp (x ∷ rest) lines bytes some h f m i e =
    ap (λ (l : List ℕ). rows_from 1 blank (content_of l)) e
    ∙ ap (λ (rows : List Row). rows_from 1 blank rows) (content_whole (head_lines ++ lines ++ last_line ∷ []) (all_inner stamp (x ∷ rest) lines h f i) (omega arith))
    ∙ lines_again stamp x rest lines h f m i

some_seen : (es : List CalendarEntry) → 1 ≤ length es → 1 ≤ length (map entry_seen es)
some_seen [] h = absurd (omega arith)
some_seen (e ∷ es) h = omega arith

-- what unfolded bytes say is read
pub said_read : (text : List ℕ) (c : Calendar) → Says (unfolded text) c → calendar_in text ≡ Ok (seen c)
said_read text c h =
    book_again (moment_text c.stamp) (map entry_seen c.entries) h.lines (unfolded text) (some_seen c.entries h.form.some) h.entries_are (all_written c.entries h.form.each)
    (moment_again c.stamp h.form.stamp_form) (text_inner c.stamp) h.bytes_are
