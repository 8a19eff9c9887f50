-- What was read of lines is what they say.
use Rattle.std.proofs.Common.{◌≡◌, ℕ, ◌+◌, ◌≤◌, Bool, true, false, List, [], ◌∷◌, ◌++◌, map, length, take, drop, Option, Some, None, Result, Ok, Err, refl, sym, ap, subst, ◌∙◌, arith, append_assoc, append-nil}
use Rattle.std.specs.Prelude.{◌&&◌, if◌then◌else◌}
use Rattle.std.specs.List.{list_all}
use Rattle.std.specs.Str.{bytes_eq}
use Rattle.std.proofs.lemmas.Bool.{and_parts, and_from}
use Rattle.std.proofs.lemmas.List.{take-append-drop}
use Rattle.std.proofs.lemmas.List.Folds.{list_all-append}
use Rattle.std.proofs.lemmas.Slice.Eq.{bytes_eq-Decides}
use Rattle.field_text.specs.Steps.{◌>>=◌, or_fault}
use Rattle.crew_calendar.specs.declared.fault.CalendarCode.{CalendarCode}
use Rattle.crew_calendar.specs.declared.fault.CalendarCode.TheVariants as code
use Rattle.crew_calendar.specs.declared.sheet.Due.{Due}
use Rattle.crew_calendar.specs.declared.sheet.Due.TheVariants.{First, Version, Product, Open, Next, Uid, Stamp, Start, Stop, Summary, Text, Close, Nothing}
use Rattle.crew_calendar.specs.Folding.{Row, is_whole, is_inner}
use Rattle.crew_calendar.specs.Texts.{is_text, text_in}
use Rattle.crew_calendar.specs.Moments.{is_moment}
use Rattle.crew_calendar.specs.Seen.{Entry, Book}
use Rattle.crew_calendar.specs.Printing.{first_line, version_line, product_line, open_line, uid_head, stamp_head, start_head, stop_head, summary_head, text_head, close_line, last_line, head_lines}
use Rattle.crew_calendar.specs.Content.{IsEntryLines, AreEntryLines}
use Rattle.crew_calendar.specs.Reading.{Sheet, behind, text_value, moment_value, next_line, uid_line, is_stamp, stamp_line, start_line, stop_line, summary_line, made, text_line, due_line, word_line, sheet_line, sheet_row, at, ended_with, book_of, rows_from}
use Rattle.crew_calendar.proofs.Spelled.{Spelt, text_said}

abbrev pub Lines : Type 0
Lines = List (List ℕ)

-- ---- steps that went well

step_ok : {A B E P : Type 0} (r : Result A E) (f : A → Result B E) (y : B) → (r >>= f) ≡ Ok y
    → ((x : A) → r ≡ Ok x → f x ≡ Ok y → P) → P
step_ok (Ok x) f y e next = next x refl e
step_ok (Err w) f y e next = absurd cc

test_ok : {A E P : Type 0} (b : Bool) (r : Result A E) (w : E) (y : A) → (if b then r else Err w) ≡ Ok y → (b ≡ true → r ≡ Ok y → P) → P
test_ok true r w y e next = next refl e
test_ok false r w y e next = absurd cc

or_ok : {A E P : Type 0} (w : E) (o : Option A) (y : A) → or_fault w o ≡ Ok y → (o ≡ Some y → P) → P
or_ok w (Some x) y e next = next cc
or_ok w None y e next = absurd cc

behind_said : (head line v : List ℕ) → behind head line ≡ Some v → line ≡ head ++ v
behind_said head line v e = go (bytes_eq (take (length head) line) head) refl e
  where
    go : (b : Bool) → b ≡ bytes_eq (take (length head) line) head → (if b then Some (drop (length head) line) else None) ≡ Some v → line ≡ head ++ v
    go false is k = absurd cc
    go true is k =
        let front : take (length head) line ≡ head = (bytes_eq-Decides (take (length head) line) head).0 (sym is) in
        let rest : drop (length head) line ≡ v = cc in
        sym (take-append-drop (length head) line) ∙ ap (λ (l : List ℕ). l ++ drop (length head) line) front ∙ ap (λ (l : List ℕ). head ++ l) rest

-- a line is a property whose value is this text
pub record IsText (feeds : Bool) (head line t : List ℕ) : Type 0 where
  value : List ℕ
  line_is : line ≡ head ++ value
  spelt : Spelt feeds t value

text_value_said : (feeds : Bool) (head line t : List ℕ) → text_value feeds head line ≡ Ok t → IsText feeds head line t
unfolding text_value
text_value_said feeds head line t e =
    step_ok (or_fault code.Name (behind head line)) (λ value. or_fault code.Value (text_in feeds value)) t e (λ v first second.
    or_ok code.Name (behind head line) v first (λ found.
    or_ok code.Value (text_in feeds v) t second (λ read.
    record { value = v; line_is = behind_said head line v found; spelt = text_said feeds v t read })))

moment_value_said : (head line v : List ℕ) → moment_value head line ≡ Ok v → line ≡ head ++ v
unfolding moment_value
moment_value_said head line v e =
    step_ok (or_fault code.Name (behind head line)) (λ value. if is_moment value then Ok value else Err code.Value) v e (λ u first second.
    or_ok code.Name (behind head line) u first (λ found.
    test_ok (is_moment u) (Ok u) code.Value v second (λ test same.
    let is : u ≡ v = cc in
    behind_said head line v (found ∙ ap (λ (z : List ℕ). Some z) is))))

-- ---- the entries that were read

-- the texts of an entry have their forms
abbrev pub has_texts : Entry → Bool
has_texts e = is_text false e.uid && is_text false e.summary && is_text true e.text

-- the head and the lines of these entries
pub record Front (st : Option (List ℕ)) (es : List Entry) (ls : Lines) : Type 0 where
  lines : Lines
  is : ls ≡ head_lines ++ lines
  stamped : (stamp : List ℕ) → st ≡ Some stamp → AreEntryLines stamp es lines
  unstamped : st ≡ None → (es ≡ []) × (lines ≡ [])
  texts : list_all has_texts es ≡ true

-- and further lines behind them
pub record Mid (st : Option (List ℕ)) (es : List Entry) (ls more : Lines) : Type 0 where
  front : Lines
  before : Front st es front
  is : ls ≡ front ++ more

mid_more : (st : Option (List ℕ)) (es : List Entry) (ls more : Lines) (line : List ℕ) → Mid st es ls more → Mid st es (ls ++ line ∷ []) (more ++ line ∷ [])
mid_more st es ls more line m =
    record { front = m.front; before = m.before; is = ap (λ (l : Lines). l ++ line ∷ []) m.is ∙ append_assoc m.front more (line ∷ []) }

-- the stamp is the first one
front_stamped : (st : Option (List ℕ)) (es : List Entry) (ls : Lines) (stamp : List ℕ) → is_stamp st stamp ≡ true → Front st es ls → Front (Some stamp) es ls
unfolding AreEntryLines
front_stamped None es ls stamp h f =
    let none = f.unstamped refl in
    record {
      lines = f.lines;
      is = f.is;
      stamped = λ s e. subst (λ (l : List Entry). AreEntryLines s l f.lines) (sym none.0) none.1;
      unstamped = λ e. absurd cc;
      texts = f.texts;
    }
front_stamped (Some first) es ls stamp h f =
    let same : first ≡ stamp = (bytes_eq-Decides first stamp).0 h in
    subst (λ (s : List ℕ). Front (Some s) es ls) same f

-- one more entry
entries_more : (stamp : List ℕ) (es : List Entry) (e : Entry) (lines more : Lines) → AreEntryLines stamp es lines → IsEntryLines stamp e more
    → AreEntryLines stamp (es ++ e ∷ []) (lines ++ more)
unfolding AreEntryLines
entries_more stamp [] e lines more h m =
    record { front = more; rest = []; parts = ap (λ (l : Lines). l ++ more) h ∙ sym (append-nil more); first = m; behind = refl }
entries_more stamp (x ∷ xs) e lines more h m =
    record {
      front = h.front;
      rest = h.rest ++ more;
      parts = ap (λ (l : Lines). l ++ more) h.parts ∙ append_assoc h.front h.rest more;
      first = h.first;
      behind = entries_more stamp xs e h.rest more h.behind m;
    }

front_more : (stamp : List ℕ) (es : List Entry) (e : Entry) (ls more : Lines) → Front (Some stamp) es ls → IsEntryLines stamp e more → has_texts e ≡ true
    → Front (Some stamp) (es ++ e ∷ []) (ls ++ more)
front_more stamp es e ls more f m t =
    record {
      lines = f.lines ++ more;
      is = ap (λ (l : Lines). l ++ more) f.is ∙ append_assoc head_lines f.lines more;
      stamped = λ s k. let same : stamp ≡ s = cc in
          subst (λ (x : List ℕ). AreEntryLines x (es ++ e ∷ []) (f.lines ++ more)) same (entries_more stamp es e f.lines more (f.stamped stamp refl) m);
      unstamped = λ k. absurd cc;
      texts = list_all-append has_texts es (e ∷ []) ∙ and_from _ _ f.texts (and_from (has_texts e) true t refl);
    }

-- ---- what the lines so far say, by what is due

pub record Fresh (st : Option (List ℕ)) (es : List Entry) (ls due : Lines) : Type 0 where
  pub lines : ls ≡ due
  pub stamp : st ≡ None
  pub entries : es ≡ []

abbrev uid_lines : List ℕ → Lines
uid_lines u = open_line ∷ ((uid_head ++ u) ∷ [])

abbrev stamp_lines : List ℕ → List ℕ → Lines
stamp_lines u st = open_line ∷ ((uid_head ++ u) ∷ ((stamp_head ++ st) ∷ []))

abbrev start_lines : List ℕ → List ℕ → List ℕ → Lines
start_lines u st a = open_line ∷ ((uid_head ++ u) ∷ ((stamp_head ++ st) ∷ ((start_head ++ a) ∷ [])))

abbrev stop_lines : List ℕ → List ℕ → List ℕ → List ℕ → Lines
stop_lines u st a z = open_line ∷ ((uid_head ++ u) ∷ ((stamp_head ++ st) ∷ ((start_head ++ a) ∷ ((stop_head ++ z) ∷ []))))

abbrev summary_lines : List ℕ → List ℕ → List ℕ → List ℕ → List ℕ → Lines
summary_lines u st a z w =
    open_line ∷ ((uid_head ++ u) ∷ ((stamp_head ++ st) ∷ ((start_head ++ a) ∷ ((stop_head ++ z) ∷ ((summary_head ++ w) ∷ [])))))

pub record InUid (uid : List ℕ) (stamp : Option (List ℕ)) (es : List Entry) (ls : Lines) : Type 0 where
  u : List ℕ
  uid_spelt : Spelt false uid u
  mid : Mid stamp es ls (uid_lines u)

pub record InStamp (uid : List ℕ) (stamp : Option (List ℕ)) (es : List Entry) (ls : Lines) : Type 0 where
  u : List ℕ
  uid_spelt : Spelt false uid u
  st : List ℕ
  stamp_is : stamp ≡ Some st
  mid : Mid (Some st) es ls (stamp_lines u st)

pub record InStart (uid : List ℕ) (stamp start : Option (List ℕ)) (es : List Entry) (ls : Lines) : Type 0 where
  u : List ℕ
  uid_spelt : Spelt false uid u
  st : List ℕ
  stamp_is : stamp ≡ Some st
  a : List ℕ
  start_is : start ≡ Some a
  mid : Mid (Some st) es ls (start_lines u st a)

pub record InStop (uid : List ℕ) (stamp start stop : Option (List ℕ)) (es : List Entry) (ls : Lines) : Type 0 where
  u : List ℕ
  uid_spelt : Spelt false uid u
  st : List ℕ
  stamp_is : stamp ≡ Some st
  a : List ℕ
  start_is : start ≡ Some a
  z : List ℕ
  stop_is : stop ≡ Some z
  mid : Mid (Some st) es ls (stop_lines u st a z)

pub record InSummary (uid : List ℕ) (stamp start stop : Option (List ℕ)) (summary : List ℕ) (es : List Entry) (ls : Lines) : Type 0 where
  u : List ℕ
  uid_spelt : Spelt false uid u
  st : List ℕ
  stamp_is : stamp ≡ Some st
  a : List ℕ
  start_is : start ≡ Some a
  z : List ℕ
  stop_is : stop ≡ Some z
  w : List ℕ
  summary_spelt : Spelt false summary w
  mid : Mid (Some st) es ls (summary_lines u st a z w)

-- entries were read, and these lines are theirs
pub record Whole (stamp : Option (List ℕ)) (es : List Entry) (ls : Lines) : Type 0 where
  st : List ℕ
  stamp_is : stamp ≡ Some st
  front : Front (Some st) es ls
  some : 1 ≤ length es

pub record Ended (stamp : Option (List ℕ)) (es : List Entry) (ls : Lines) : Type 0 where
  front : Lines
  whole : Whole stamp es front
  is : ls ≡ front ++ last_line ∷ []

abbrev SaidAt : Sheet → Lines → Due → Type 0
SaidAt s ls First = Fresh s.stamp s.entries ls []
SaidAt s ls Version = Fresh s.stamp s.entries ls (first_line ∷ [])
SaidAt s ls Product = Fresh s.stamp s.entries ls (first_line ∷ (version_line ∷ []))
SaidAt s ls Open = Fresh s.stamp s.entries ls head_lines
SaidAt s ls Next = Whole s.stamp s.entries ls
SaidAt s ls Uid = Mid s.stamp s.entries ls (open_line ∷ [])
SaidAt s ls Stamp = InUid s.uid s.stamp s.entries ls
SaidAt s ls Start = InStamp s.uid s.stamp s.entries ls
SaidAt s ls Stop = InStart s.uid s.stamp s.start s.entries ls
SaidAt s ls Summary = InStop s.uid s.stamp s.start s.stop s.entries ls
SaidAt s ls Text = InSummary s.uid s.stamp s.start s.stop s.summary s.entries ls
SaidAt s ls Close = Whole s.stamp s.entries (ls ++ close_line ∷ [])
SaidAt s ls Nothing = Ended s.stamp s.entries ls

abbrev pub Said : Sheet → Lines → Type 0
Said s ls = SaidAt s ls s.due

abbrev ok_sheet : Sheet → Result Sheet CalendarCode
ok_sheet s = Ok s

-- what was made of a sheet is the next sheet
hands : (s t : Sheet) (ls : Lines) → ok_sheet s ≡ ok_sheet t → Said s ls → Said t ls
hands s t ls e h = let same : s ≡ t = cc in subst (λ (x : Sheet). Said x ls) same h

-- ---- one line

word_said : (s t : Sheet) (line word : List ℕ) (next : Due) (ls : Lines) → word_line s line word next ≡ Ok t
    → SaidAt (record s { due = next }) (ls ++ word ∷ []) next → Said t (ls ++ line ∷ [])
word_said s t line word next ls e h =
    test_ok (bytes_eq line word) (Ok (record s { due = next })) code.Name t e (λ test same.
    let is : line ≡ word = (bytes_eq-Decides line word).0 test in
    subst (λ (l : List ℕ). Said t (ls ++ l ∷ [])) (sym is) (hands (record s { due = next }) t (ls ++ word ∷ []) same h))

fresh_more : (st : Option (List ℕ)) (es : List Entry) (ls due : Lines) (word : List ℕ) → Fresh st es ls due → Fresh st es (ls ++ word ∷ []) (due ++ word ∷ [])
fresh_more st es ls due word f = record { lines = ap (λ (l : Lines). l ++ word ∷ []) f.lines; stamp = f.stamp; entries = f.entries }

never : (o : Option (List ℕ)) (x : List ℕ) → o ≡ None → o ≡ Some x → ⊥
never None x e k = absurd cc
never (Some y) x e k = absurd cc

fresh_front : (st : Option (List ℕ)) (es : List Entry) (ls : Lines) → Fresh st es ls head_lines → Front st es ls
fresh_front st es ls f =
    record {
      lines = [];
      is = f.lines;
      stamped = λ stamp e. absurd (never st stamp f.stamp e);
      unstamped = λ e. (f.entries, refl);
      texts = ap (λ (l : List Entry). list_all has_texts l) f.entries;
    }

opens : (st : Option (List ℕ)) (es : List Entry) (ls : Lines) → Front st es ls → Mid st es (ls ++ open_line ∷ []) (open_line ∷ [])
opens st es ls f = record { front = ls; before = f; is = refl }

whole_front : (st : Option (List ℕ)) (es : List Entry) (ls : Lines) → Whole st es ls → Front st es ls
whole_front st es ls w = subst (λ (o : Option (List ℕ)). Front o es ls) (sym w.stamp_is) w.front

next_said : (s t : Sheet) (line : List ℕ) (ls : Lines) → next_line s line ≡ Ok t → Whole s.stamp s.entries ls → Said t (ls ++ line ∷ [])
unfolding next_line
next_said s t line ls e w = go (bytes_eq line last_line) refl e
  where
    go : (b : Bool) → b ≡ bytes_eq line last_line → (if b then Ok (record s { due = Nothing }) else word_line s line open_line Uid) ≡ Ok t
        → Said t (ls ++ line ∷ [])
    go true is k =
        let same : line ≡ last_line = (bytes_eq-Decides line last_line).0 (sym is) in
        hands (record s { due = Nothing }) t (ls ++ line ∷ []) k
        (record { front = ls; whole = w; is = ap (λ (l : List ℕ). ls ++ l ∷ []) same })
    go false is k = word_said s t line open_line Uid ls k (opens s.stamp s.entries ls (whole_front s.stamp s.entries ls w))

uid_said : (s t : Sheet) (line : List ℕ) (ls : Lines) → uid_line s line ≡ Ok t → Mid s.stamp s.entries ls (open_line ∷ []) → Said t (ls ++ line ∷ [])
unfolding uid_line
uid_said s t line ls e m =
    step_ok (text_value false uid_head line) (λ value. Ok (record s { due = Stamp; uid = value })) t e (λ value read same.
    let p = text_value_said false uid_head line value read in
    hands (record s { due = Stamp; uid = value }) t (ls ++ line ∷ []) same
    (record {
      u = p.value;
      uid_spelt = p.spelt;
      mid = subst (λ (l : List ℕ). Mid s.stamp s.entries (ls ++ l ∷ []) (uid_lines p.value)) (sym p.line_is)
          (mid_more s.stamp s.entries ls (open_line ∷ []) (uid_head ++ p.value) m);
    }))

stamp_said : (s t : Sheet) (line : List ℕ) (ls : Lines) → stamp_line s line ≡ Ok t → InUid s.uid s.stamp s.entries ls → Said t (ls ++ line ∷ [])
unfolding stamp_line
stamp_said s t line ls e m =
    step_ok (moment_value stamp_head line) (λ value. if is_stamp s.stamp value then Ok (record s { due = Start; stamp = Some value }) else Err code.Value) t e (λ value read more.
    test_ok (is_stamp s.stamp value) (Ok (record s { due = Start; stamp = Some value })) code.Value t more (λ test same.
    let is = moment_value_said stamp_head line value read in
    let before : Mid (Some value) s.entries ls (uid_lines m.u) =
    record { front = m.mid.front; before = front_stamped s.stamp s.entries m.mid.front value test m.mid.before; is = m.mid.is } in
    hands (record s { due = Start; stamp = Some value }) t (ls ++ line ∷ []) same
    (record {
      u = m.u;
      uid_spelt = m.uid_spelt;
      st = value;
      stamp_is = refl;
      mid = subst (λ (l : List ℕ). Mid (Some value) s.entries (ls ++ l ∷ []) (stamp_lines m.u value)) (sym is)
          (mid_more (Some value) s.entries ls (uid_lines m.u) (stamp_head ++ value) before);
    })))

start_said : (s t : Sheet) (line : List ℕ) (ls : Lines) → start_line s line ≡ Ok t → InStamp s.uid s.stamp s.entries ls → Said t (ls ++ line ∷ [])
unfolding start_line
start_said s t line ls e m =
    step_ok (moment_value start_head line) (λ value. Ok (record s { due = Stop; start = Some value })) t e (λ value read same.
    let is = moment_value_said start_head line value read in
    hands (record s { due = Stop; start = Some value }) t (ls ++ line ∷ []) same
    (record {
      u = m.u;
      uid_spelt = m.uid_spelt;
      st = m.st;
      stamp_is = m.stamp_is;
      a = value;
      start_is = refl;
      mid = subst (λ (l : List ℕ). Mid (Some m.st) s.entries (ls ++ l ∷ []) (start_lines m.u m.st value)) (sym is)
          (mid_more (Some m.st) s.entries ls (stamp_lines m.u m.st) (start_head ++ value) m.mid);
    }))

stop_said : (s t : Sheet) (line : List ℕ) (ls : Lines) → stop_line s line ≡ Ok t → InStart s.uid s.stamp s.start s.entries ls → Said t (ls ++ line ∷ [])
unfolding stop_line
stop_said s t line ls e m =
    step_ok (moment_value stop_head line) (λ value. Ok (record s { due = Summary; stop = Some value })) t e (λ value read same.
    let is = moment_value_said stop_head line value read in
    hands (record s { due = Summary; stop = Some value }) t (ls ++ line ∷ []) same
    (record {
      u = m.u;
      uid_spelt = m.uid_spelt;
      st = m.st;
      stamp_is = m.stamp_is;
      a = m.a;
      start_is = m.start_is;
      z = value;
      stop_is = refl;
      mid = subst (λ (l : List ℕ). Mid (Some m.st) s.entries (ls ++ l ∷ []) (stop_lines m.u m.st m.a value)) (sym is)
          (mid_more (Some m.st) s.entries ls (start_lines m.u m.st m.a) (stop_head ++ value) m.mid);
    }))

summary_said : (s t : Sheet) (line : List ℕ) (ls : Lines) → summary_line s line ≡ Ok t → InStop s.uid s.stamp s.start s.stop s.entries ls → Said t (ls ++ line ∷ [])
unfolding summary_line
summary_said s t line ls e m =
    step_ok (text_value false summary_head line) (λ value. Ok (record s { due = Text; summary = value })) t e (λ value read same.
    let p = text_value_said false summary_head line value read in
    hands (record s { due = Text; summary = value }) t (ls ++ line ∷ []) same
    (record {
      u = m.u;
      uid_spelt = m.uid_spelt;
      st = m.st;
      stamp_is = m.stamp_is;
      a = m.a;
      start_is = m.start_is;
      z = m.z;
      stop_is = m.stop_is;
      w = p.value;
      summary_spelt = p.spelt;
      mid = subst (λ (l : List ℕ). Mid (Some m.st) s.entries (ls ++ l ∷ []) (summary_lines m.u m.st m.a m.z p.value)) (sym p.line_is)
          (mid_more (Some m.st) s.entries ls (stop_lines m.u m.st m.a m.z) (summary_head ++ p.value) m.mid);
    }))

-- the entry that was made
abbrev entry_of : Sheet → List ℕ → List ℕ → List ℕ → Entry
entry_of s a z text = record { uid = s.uid; start = a; stop = z; summary = s.summary; text = text }

some_more : (es : List Entry) (e : Entry) → 1 ≤ length (es ++ e ∷ [])
some_more [] e = omega arith
some_more (x ∷ xs) e = omega (arith, some_more xs e)

entry_whole : (s : Sheet) (ls : Lines) (m : InSummary s.uid s.stamp s.start s.stop s.summary s.entries ls) (text v : List ℕ) → Spelt true text v
    → Front (Some m.st) (s.entries ++ entry_of s m.a m.z text ∷ []) ((ls ++ (text_head ++ v) ∷ []) ++ close_line ∷ [])
entry_whole s ls m text v spelt =
    let more : Lines = summary_lines m.u m.st m.a m.z m.w ++ (text_head ++ v) ∷ (close_line ∷ []) in
    let lines : IsEntryLines m.st (entry_of s m.a m.z text) more =
    record {
      uid = m.u;
      summary = m.w;
      text = v;
      uid_spelt = m.uid_spelt.spells;
      summary_spelt = m.summary_spelt.spells;
      text_spelt = spelt.spells;
      lines_are = refl;
    } in
    let texts : has_texts (entry_of s m.a m.z text) ≡ true = rw (m.uid_spelt.form, m.summary_spelt.form, spelt.form) refl in
    let same : m.mid.front ++ more ≡ (ls ++ (text_head ++ v) ∷ []) ++ close_line ∷ [] =
    sym (append_assoc m.mid.front (summary_lines m.u m.st m.a m.z m.w) ((text_head ++ v) ∷ (close_line ∷ [])))
    ∙ ap (λ (l : Lines). l ++ (text_head ++ v) ∷ (close_line ∷ [])) (sym m.mid.is)
    ∙ sym (append_assoc ls ((text_head ++ v) ∷ []) (close_line ∷ [])) in
    subst (λ (l : Lines). Front (Some m.st) (s.entries ++ entry_of s m.a m.z text ∷ []) l) same
    (front_more m.st s.entries (entry_of s m.a m.z text) m.mid.front more m.mid.before lines texts)

text_said_line : (s t : Sheet) (line : List ℕ) (ls : Lines) → text_line s line ≡ Ok t → InSummary s.uid s.stamp s.start s.stop s.summary s.entries ls → Said t (ls ++ line ∷ [])
unfolding text_line
text_said_line s t line ls e m =
    step_ok (text_value true text_head line) (λ value. made s value s.start s.stop) t e (λ value read same.
    let p = text_value_said true text_head line value read in
    let there : made s value (Some m.a) (Some m.z) ≡ Ok t = ap (λ (o : Option (List ℕ)). made s value o (Some m.z)) (sym m.start_is) ∙ ap (λ (o : Option (List ℕ)). made s value s.start o) (sym m.stop_is) ∙ same in
    hands
    (record s { due = Close; uid = []; summary = []; entries = s.entries ++ entry_of s m.a m.z value ∷ [] }) t (ls ++ line ∷ []) there
    (record {
      st = m.st;
      stamp_is = m.stamp_is;
      front = subst (λ (l : List ℕ). Front (Some m.st) (s.entries ++ entry_of s m.a m.z value ∷ []) ((ls ++ l ∷ []) ++ close_line ∷ [])) (sym p.line_is)
          (entry_whole s ls m value p.value p.spelt);
      some = some_more s.entries (entry_of s m.a m.z value);
    }))

line_said : (s t : Sheet) (line : List ℕ) (ls : Lines) (due : Due) → due_line s line due ≡ Ok t → SaidAt s ls due → Said t (ls ++ line ∷ [])
line_said s t line ls First e h = word_said s t line first_line Version ls e (fresh_more s.stamp s.entries ls [] first_line h)
line_said s t line ls Version e h = word_said s t line version_line Product ls e (fresh_more s.stamp s.entries ls (first_line ∷ []) version_line h)
line_said s t line ls Product e h = word_said s t line product_line Open ls e (fresh_more s.stamp s.entries ls (first_line ∷ (version_line ∷ [])) product_line h)
line_said s t line ls Open e h = word_said s t line open_line Uid ls e (opens s.stamp s.entries ls (fresh_front s.stamp s.entries ls h))
line_said s t line ls Next e h = next_said s t line ls e h
line_said s t line ls Uid e h = uid_said s t line ls e h
line_said s t line ls Stamp e h = stamp_said s t line ls e h
line_said s t line ls Start e h = start_said s t line ls e h
line_said s t line ls Stop e h = stop_said s t line ls e h
line_said s t line ls Summary e h = summary_said s t line ls e h
line_said s t line ls Text e h = text_said_line s t line ls e h
line_said s t line ls Close e h = word_said s t line close_line Next ls e h
line_said s t line ls Nothing e h = absurd cc

-- ---- all lines

-- these lines say the book
pub record SayBook (book : Book) (ls : Lines) : Type 0 where
  pub lines : Lines
  pub is : ls ≡ head_lines ++ lines ++ last_line ∷ []
  pub entries_are : AreEntryLines book.stamp book.entries lines
  pub texts : list_all has_texts book.entries ≡ true
  pub some : 1 ≤ length book.entries

book_said : (s : Sheet) (due : Due) (st : Option (List ℕ)) (ls : Lines) (book : Book) → s.stamp ≡ st → ended_with s due st ≡ Ok book → SaidAt s ls due → SayBook book ls
book_said s First st ls book is e h = absurd cc
book_said s Version st ls book is e h = absurd cc
book_said s Product st ls book is e h = absurd cc
book_said s Open st ls book is e h = absurd cc
book_said s Next st ls book is e h = absurd cc
book_said s Uid st ls book is e h = absurd cc
book_said s Stamp st ls book is e h = absurd cc
book_said s Start st ls book is e h = absurd cc
book_said s Stop st ls book is e h = absurd cc
book_said s Summary st ls book is e h = absurd cc
book_said s Text st ls book is e h = absurd cc
book_said s Close st ls book is e h = absurd cc
book_said s Nothing None ls book is e h = absurd cc
book_said s Nothing (Some stamp) ls book is e h =
    let same : record { stamp = stamp; entries = s.entries } ≡ book = cc in
    let alike : h.whole.st ≡ stamp = some_same (sym h.whole.stamp_is ∙ is) in
    subst (λ (b : Book). SayBook b ls) same (record {
      lines = h.whole.front.lines;
      is = h.is ∙ ap (λ (l : Lines). l ++ last_line ∷ []) h.whole.front.is ∙ append_assoc head_lines h.whole.front.lines (last_line ∷ []);
      entries_are = subst (λ (x : List ℕ). AreEntryLines x s.entries h.whole.front.lines) alike (h.whole.front.stamped h.whole.st refl);
      texts = h.whole.front.texts;
      some = h.whole.some;
    })
  where
    some_same : {x y : List ℕ} → Some x ≡ Some y → x ≡ y
    some_same k = cc

-- the rows are whole and say the book
pub record RowsSay (book : Book) (ls : Lines) (rows : List Row) : Type 0 where
  pub says : SayBook book (ls ++ map (λ row. row.bytes) rows)
  pub ended : list_all (λ row. row.ended) rows ≡ true

at_ok : {A : Type 0} (n : ℕ) (r : Result A CalendarCode) (x : A) → at n r ≡ Ok x → r ≡ Ok x
at_ok n (Ok y) x e = cc
at_ok n (Err c) x e = absurd cc

row_said : (s t : Sheet) (row : Row) (ls : Lines) → sheet_row s row ≡ Ok t → Said s ls → (row.ended ≡ true) × Said t (ls ++ row.bytes ∷ [])
unfolding sheet_row sheet_line
row_said s t row ls e h =
    test_ok (is_whole row) (sheet_line s row.bytes) code.Break t e (λ whole read.
    ((and_parts row.ended (list_all is_inner row.bytes) whole).0, line_said s t row.bytes ls s.due read h))

pub rows_said : (n : ℕ) (s : Sheet) (rows : List Row) (ls : Lines) (book : Book) → rows_from n s rows ≡ Ok book → Said s ls → RowsSay book ls rows
unfolding rows_from book_of
rows_said n s [] ls book e h =
    record {
      says = subst (λ (l : Lines). SayBook book l) (sym (append-nil ls)) (book_said s s.due s.stamp ls book refl (at_ok n (book_of s) book e) h);
      ended = refl;
    }
rows_said n s (row ∷ rows) ls book e h =
    step_ok (at n (sheet_row s row)) (λ t. rows_from (n + 1) t rows) book e (λ t read more.
    let p = row_said s t row ls (at_ok n (sheet_row s row) t read) h in
    let q = rows_said (n + 1) t rows (ls ++ row.bytes ∷ []) book more p.1 in
    record {
      says = subst (λ (l : Lines). SayBook book l) (append_assoc ls (row.bytes ∷ []) (map (λ r. r.bytes) rows)) q.says;
      ended = and_from row.ended (list_all (λ r. r.ended) rows) p.0 q.ended;
    })
