-- What the three files are written of is read of them.
use Rattle.std.proofs.Common.{◌≡◌, ◌≢◌, ℕ, ◌+◌, ◌<◌, ◌≤◌, List, [], ◌∷◌, ◌++◌, length, drop, map, flat_map, fold, Bool, true, false, cond, ◌||◌, nat_le, nat_lt, Result, Ok, refl, sym, ap, subst, ◌∙◌, arith, append_assoc, length-append, All, AllPairs}
use Rattle.std.specs.Prelude.{IsTrue}
use Rattle.std.specs.Str.{bytes_eq}
use Rattle.std.specs.Cmp.Lexicographic.{bytes_decides}
use Rattle.std.proofs.lemmas.Bool.Decides.{nat_tests}
use Rattle.std.proofs.lemmas.List.{append-nil}
use Rattle.std.proofs.lemmas.List.Elements.{All-head, All-tail, All-weaker}
use Rattle.std.proofs.lemmas.List.Folds.{list_any-append}
use Rattle.duty_calendar.specs.Calendar.{month_end}
use Rattle.duty_calendar.specs.Checks.{IsFiled, IsMember, AreMembers}
use Rattle.duty_calendar.specs.Forms.{is_name}
use Rattle.duty_calendar.specs.declared.event.Event.{Event}
use Rattle.duty_calendar.specs.declared.horizon.Horizon.{Horizon}
use Rattle.duty_calendar.specs.declared.member.Member.{Member}
use Rattle.field_text.specs.declared.file_fault.FileCode.{FileCode}
use Rattle.field_text.specs.declared.file_fault.FileName.TheVariants as name
use Rattle.field_text.specs.Rows.{in_column}
use Rattle.field_text.specs.Spelling.{minutes_text}
use Rattle.field_text.specs.Steps.{◌>>=◌}
use Rattle.field_text.proofs.Again.{minutes-again}
use Rattle.field_text.proofs.CleanLines.{clean_lines, AreClean, AreCleanRows, all-utf8, lines-read}
use Rattle.field_text.proofs.FieldsAgain.{name-again}
use Rattle.crew_files.specs.declared.part.Part.{Part}
use Rattle.crew_files.specs.declared.part.Part.TheVariants.{History, Fixed}
use Rattle.crew_files.specs.Crew.{crew_header, crew_row, crew_columns, has_name, is_named, new_member}
use Rattle.crew_files.specs.Events.{event_header, event_row, event_checked, last_release, may_report, with_event, part_of, changed}
use Rattle.crew_files.specs.Files.{crew_file, event_file, file_name, members_of}
use Rattle.field_text.specs.Records.{records_of}
use Rattle.crew_files.specs.Limits.{most_events}
use Rattle.crew_files.specs.Texts.{crew_fields, crew_text, event_fields, events_text}
use Rattle.crew_files.proofs.Columns.{crew-all}
use Rattle.crew_files.proofs.EventAgain.{pairs-head, pairs-tail, name-clean, minutes-clean, event-clean, row-again, checked-again}
use Rattle.crew_files.proofs.Kept.{last_release-push}
use Rattle.crew_files.proofs.Lines.{each-clean, clean-rows, crew-lines, events-lines, member_rows}
use Rattle.crew_files.proofs.TextRow.{row-fits}
use Rattle.crew_files.proofs.Together.{all-members}
use Rattle.crew_files.proofs.Walks.{Walks, walks-append, walks-file}

-- names

same-name : (n : List ℕ) → bytes_eq n n ≡ true
same-name n = (bytes_decides n n).1 refl

other-name : (a b : List ℕ) → a ≢ b → bytes_eq a b ≡ false
other-name a b h = go (bytes_eq a b) refl
  where
    go : (t : Bool) → bytes_eq a b ≡ t → t ≡ false
    go true e = absurd (h ((bytes_decides a b).0 e))
    go false e = refl

-- a name that none has, nor one member more
still-new : (n : List ℕ) (ms : List Member) (m : Member) → is_named n ms ≡ false → n ≢ m.name → is_named n (ms ++ m ∷ []) ≡ false
still-new n ms m h d = list_any-append (has_name n) ms (m ∷ []) ∙ rw (h, other-name n m.name d) refl

-- the names of these members are new to others
abbrev AreNew : List Member → List Member → Type 0
AreNew pre ms = All (λ (m : Member). is_named m.name pre ≡ false) ms

are-new : (pre ms : List Member) (m n : Member) → n.name ≡ m.name → AreNew pre ms → All (λ (b : Member). m.name ≢ b.name) ms → AreNew (pre ++ n ∷ []) ms
are-new pre ms m n same new others = λ k d l. still-new _ pre n (new k d l) (λ e. others k d l (sym same ∙ sym e))

none-new : (ms : List Member) → AreNew [] ms
none-new ms = λ k d l. refl

-- the first member of a name is changed
changed-here : (n : List ℕ) (change : Member → Result Member FileCode) (pre post : List Member) (m u : Member) → is_named n pre ≡ false → m.name ≡ n → change m ≡ Ok u → changed n change (pre ++ m ∷ post) ≡ Ok (pre ++ u ∷ post)
unfolding changed
changed-here n change [] post m u h e c =
    let t : has_name n m ≡ true = ap (λ (x : List ℕ). bytes_eq n x) e ∙ same-name n in
    rw (t, c) refl
changed-here n change (p ∷ ps) post m u h e c = go (has_name n p) refl h (λ k. changed-here n change ps post m u k e c)
  where
    go : (t : Bool) → has_name n p ≡ t → (t || is_named n ps) ≡ false → (is_named n ps ≡ false → changed n change (ps ++ m ∷ post) ≡ Ok (ps ++ u ∷ post))
        → cond t (change p >>= (λ (x : Member). Ok (x ∷ (ps ++ m ∷ post)))) (changed n change (ps ++ m ∷ post) >>= (λ (us : List Member). Ok (p ∷ us))) ≡ Ok (p ∷ (ps ++ u ∷ post))
    go true f h more = cc
    go false f h more = rw (more h) refl

-- events in order after a time
abbrev Chain : ℕ → List Event → Type 0
Chain b [] = Unit {0}
Chain b (e ∷ es) = (b ≤ e.report) × Chain e.release es

abbrev Before : Event → Event → Type 0
Before d e = d.release ≤ e.report

chain-from : (b : ℕ) (es : List Event) → All (λ (e : Event). b ≤ e.report) es → AllPairs Before es → Chain b es
chain-from b [] a p = tt
chain-from b (e ∷ es) a p = (All-head (λ (e : Event). b ≤ e.report) e es a, chain-from e.release es (pairs-head Before e es p) (pairs-tail Before e es p))

chain-parts : (b : ℕ) (xs ys : List Event) → Chain b (xs ++ ys) → Chain b xs × Chain (fold (λ (b : ℕ) (e : Event). e.release) b xs) ys
chain-parts b [] ys h = (tt, h)
chain-parts b (x ∷ xs) ys h = let p = chain-parts x.release xs ys h.1 in ((h.0, p.0), p.1)

-- a member to whose part events may be added
abbrev IsOpen : Part → Member → Type 0
IsOpen History m = m.fixed ≡ []
IsOpen Fixed m = Unit {0}

module _ (e : Event) (m : Member) where
  open-with : (part : Part) → IsOpen part m → IsOpen part (with_event part e m)
  open-with History o = o
  open-with Fixed o = tt

  name-with : (part : Part) → (with_event part e m).name ≡ m.name
  name-with History = refl
  name-with Fixed = refl

  count-with : (part : Part) → length (part_of part (with_event part e m)) ≡ length (part_of part m) + 1
  count-with History = length-append m.history (e ∷ [])
  count-with Fixed = length-append m.fixed (e ∷ [])

  last-with : (part : Part) → IsOpen part m → last_release ((with_event part e m).history ++ (with_event part e m).fixed) ≡ e.release
  last-with History o = ap (λ (es : List Event). last_release ((m.history ++ e ∷ []) ++ es)) o ∙ ap (λ (es : List Event). last_release es) (append-nil (m.history ++ e ∷ [])) ∙ last_release-push m.history e
  last-with Fixed o = ap (λ (es : List Event). last_release es) (sym (append_assoc m.history m.fixed (e ∷ []))) ∙ last_release-push (m.history ++ m.fixed) e

-- the member with more events of a part
abbrev with_events : Part → List Event → Member → Member
with_events part [] m = m
with_events part (e ∷ es) m = with_events part es (with_event part e m)

all-past : (es : List Event) (m : Member) → with_events History es m ≡ record m { history = m.history ++ es }
all-past [] m = ap (λ (es : List Event). record m { history = es }) (sym (append-nil m.history))
all-past (e ∷ es) m = all-past es (with_event History e m) ∙ ap (λ (es : List Event). record m { history = es }) (append_assoc m.history (e ∷ []) es)

all-fixed : (es : List Event) (m : Member) → with_events Fixed es m ≡ record m { fixed = m.fixed ++ es }
all-fixed [] m = ap (λ (es : List Event). record m { fixed = es }) (sym (append-nil m.fixed))
all-fixed (e ∷ es) m = all-fixed es (with_event Fixed e m) ∙ ap (λ (es : List Event). record m { fixed = es }) (append_assoc m.fixed (e ∷ []) es)

module _ (h : Horizon) (part : Part) where
  abbrev MayReport : Event → Type 0
  MayReport e = may_report h part e.report ≡ true

  -- the events of one member
  events-walk : (n : List ℕ) (pre post : List Member) (m : Member) (es : List Event) → IsTrue (is_name n) → m.name ≡ n → is_named n pre ≡ false → IsOpen part m
      → All (IsFiled h) es → All MayReport es → Chain (last_release (m.history ++ m.fixed)) es → length (part_of part m) + length es ≤ most_events part
      → Walks (event_row h part) (pre ++ m ∷ post) (map (event_fields h n) es) (pre ++ with_events part es m ∷ post)
  events-walk n pre post m [] k same new o f r c few = refl
  events-walk n pre post m (e ∷ es) k same new o f r c few =
      let filed = All-head (IsFiled h) e es f in
      let may = All-head MayReport e es r in
      let u : Member = with_event part e m in
      let count = count-with e m part in
      let step = row-again h n k e filed part (pre ++ m ∷ post) ∙ changed-here n (event_checked h part e) pre post m u new same (checked-again h part e m filed c.0 may (omega arith)) in (
        pre ++ u ∷ post,
        step,
        events-walk n pre post u es k (name-with e m part ∙ same) new (open-with e m part o) (All-tail (IsFiled h) e es f) (All-tail MayReport e es r)
            (subst (λ (b : ℕ). Chain b es) (sym (last-with e m part o)) c.1) (omega (arith, count)),
      )

  -- what a member has before its events of the part and after them
  record Grows (from to : Member → Member) (m : Member) : Type 0 where
    named : IsTrue (is_name m.name)
    was : (from m).name ≡ m.name
    is : (to m).name ≡ m.name
    opened : IsOpen part (from m)
    each : All (IsFiled h) (part_of part m)
    reports : All MayReport (part_of part m)
    chain : Chain (last_release ((from m).history ++ (from m).fixed)) (part_of part m)
    few : length (part_of part (from m)) + length (part_of part m) ≤ most_events part
    grown : with_events part (part_of part m) (from m) ≡ to m

  module _ (from to : Member → Member) where
    part-walk : (pre ms : List Member) → All (Grows from to) ms → AllPairs (λ (a b : Member). a.name ≢ b.name) ms → AreNew pre ms
        → Walks (event_row h part) (pre ++ map from ms) (flat_map (member_rows h part) ms) (pre ++ map to ms)
    part-walk pre [] g p new = refl
    part-walk pre (m ∷ ms) g p new =
        let one = All-head (Grows from to) m ms g in
        let here = events-walk m.name pre (map from ms) (from m) (part_of part m) one.named one.was (All-head (λ (m : Member). is_named m.name pre ≡ false) m ms new) one.opened one.each one.reports one.chain one.few in
        let mine = subst (λ (u : Member). Walks (event_row h part) (pre ++ from m ∷ map from ms) (member_rows h part m) (pre ++ u ∷ map from ms)) one.grown here in
        let rest = part-walk (pre ++ to m ∷ []) ms (All-tail (Grows from to) m ms g) (pairs-tail (λ (a b : Member). a.name ≢ b.name) m ms p)
        (are-new pre ms m (to m) one.is (All-tail (λ (m : Member). is_named m.name pre ≡ false) m ms new) (pairs-head (λ (a b : Member). a.name ≢ b.name) m ms p)) in
        let moved = subst (λ (s : List Member). Walks (event_row h part) s (flat_map (member_rows h part) ms) (pre ++ to m ∷ map to ms)) (append_assoc pre (to m ∷ []) (map from ms))
        (subst (λ (t : List Member). Walks (event_row h part) ((pre ++ to m ∷ []) ++ map from ms) (flat_map (member_rows h part) ms) t) (append_assoc pre (to m ∷ []) (map to ms)) rest) in
        walks-append (event_row h part) (pre ++ from m ∷ map from ms) (pre ++ to m ∷ map from ms) (pre ++ to m ∷ map to ms) (member_rows h part m) (flat_map (member_rows h part) ms) mine moved

    rows-clean : (ms : List Member) → All (Grows from to) ms → AreCleanRows (flat_map (member_rows h part) ms)
    rows-clean [] g = tt
    rows-clean (m ∷ ms) g =
        let one = All-head (Grows from to) m ms g in
        clean-rows (member_rows h part m) (flat_map (member_rows h part) ms)
        (each-clean (event_fields h m.name) (IsFiled h) (λ e f. (omega arith, event-clean h m.name one.named e f)) (part_of part m) one.each)
        (rows-clean ms (All-tail (Grows from to) m ms g))

    part-again : (list : List Member) → All (Grows from to) list → AllPairs (λ (a b : Member). a.name ≢ b.name) list → event_file h part (events_text h part list) (map from list) ≡ Ok (map to list)
    unfolding event_file
    part-again list g p =
        let rows : List (List (List ℕ)) = flat_map (member_rows h part) list in
        let clean : AreCleanRows (event_header ∷ rows) = (omega arith, (refl, (refl, (refl, (refl, (refl, (refl, (refl, tt))))))), rows-clean list g) in
        let read : records_of (events_text h part list) ≡ event_header ∷ rows = ap records_of (events-lines h part list) ∙ lines-read 109 (drop 1 (clean_lines (event_header ∷ rows))) (event_header ∷ rows) (omega arith) refl clean in
        walks-file (event_row h part) (file_name part) event_header (map from list) (map to list) rows (records_of (events_text h part list)) read refl (part-walk [] list g p (none-new list))

-- a member with no events, one with its history, and one with all events
abbrev bare : Member → Member
bare m = new_member m.name m.low m.high

abbrev past : Member → Member
past m = record m { fixed = [] }

abbrev whole : Member → Member
whole m = m

module _ (h : Horizon) where
  crew-row-again : (pre : List Member) (m : Member) → IsMember h m → is_named m.name pre ≡ false → length pre < 200 → crew_row pre (crew_fields m) ≡ Ok (pre ++ bare m ∷ [])
  crew-row-again pre m v new few =
      let w = v.window in
      let c = v.few_credit in
      let low : m.low < 60000 = omega (arith, w, c) in
      let high : m.high < 60000 = omega (arith, c) in
      let two : nat_lt m.high m.low ≡ false = grind (arith, nat_tests, w) in
      let three : nat_le 200 (length pre) ≡ false = grind (arith, nat_tests, few) in
      let four : nat_lt 12000 m.high ≡ false = grind (arith, nat_tests, c) in
      let clean : AreClean (crew_fields m) = (name-clean m.name v.named, (minutes-clean m.low low, (minutes-clean m.high high, tt))) in
      row-fits 3 (crew_fields m) (crew_columns pre m.name (minutes_text m.low) (minutes_text m.high)) (all-utf8 (crew_fields m) clean) refl
      ∙ crew-all pre m.name (minutes_text m.low) (minutes_text m.high) m.name m.low m.high (ap (in_column 1) (name-again m.name v.named)) (ap (in_column 2) (minutes-again m.low low)) (ap (in_column 3) (minutes-again m.high high))
      ∙ rw (new, two, three, four) refl

  crew-walk : (pre ms : List Member) → All (IsMember h) ms → AllPairs (λ (a b : Member). a.name ≢ b.name) ms → AreNew pre ms → length pre + length ms ≤ 200 → Walks crew_row pre (map crew_fields ms) (pre ++ map bare ms)
  crew-walk pre [] v p new few = sym (append-nil pre)
  crew-walk pre (m ∷ ms) v p new few =
      let step = crew-row-again pre m (All-head (IsMember h) m ms v) (All-head (λ (m : Member). is_named m.name pre ≡ false) m ms new) (omega arith) in
      let rest = crew-walk (pre ++ bare m ∷ []) ms (All-tail (IsMember h) m ms v) (pairs-tail (λ (a b : Member). a.name ≢ b.name) m ms p)
      (are-new pre ms m (bare m) refl (All-tail (λ (m : Member). is_named m.name pre ≡ false) m ms new) (pairs-head (λ (a b : Member). a.name ≢ b.name) m ms p)) (omega (arith, length-append pre (bare m ∷ []))) in
      (pre ++ bare m ∷ [], step, subst (λ (t : List Member). Walks crew_row (pre ++ bare m ∷ []) (map crew_fields ms) t) (append_assoc pre (bare m ∷ []) (map bare ms)) rest)

  member-clean : (m : Member) → IsMember h m → (2 ≤ length (crew_fields m)) × AreClean (crew_fields m)
  member-clean m v =
      let w = v.window in
      let c = v.few_credit in
      (omega arith, (name-clean m.name v.named, (minutes-clean m.low (omega (arith, w, c)), (minutes-clean m.high (omega (arith, c)), tt))))

  crew-again : (list : List Member) → AreMembers h list → crew_file (crew_text list) [] ≡ Ok (map bare list)
  unfolding crew_file
  crew-again list v =
      let rows : List (List (List ℕ)) = map crew_fields list in
      let few = v.few in
      let clean : AreCleanRows (crew_header ∷ rows) = (omega arith, (refl, (refl, (refl, tt))), each-clean crew_fields (IsMember h) member-clean list v.each) in
      let read : records_of (crew_text list) ≡ crew_header ∷ rows = ap records_of (crew-lines list) ∙ lines-read 109 (drop 1 (clean_lines (crew_header ∷ rows))) (crew_header ∷ rows) (omega arith) refl clean in
      walks-file crew_row name.Crew crew_header [] (map bare list) rows (records_of (crew_text list)) read refl (crew-walk [] list v.each v.names (none-new list) (omega (arith, few)))

  events-chain : (m : Member) → IsMember h m → Chain 0 m.history × Chain (last_release m.history) m.fixed
  unfolding last_release
  events-chain m v = chain-parts 0 m.history m.fixed (chain-from 0 (m.history ++ m.fixed) (λ k d l. omega arith) v.in_order)

  past-grows : (m : Member) → IsMember h m → Grows h History bare past m
  unfolding last_release
  past-grows m v = record {
    named = v.named;
    was = refl;
    is = refl;
    opened = refl;
    each = v.past;
    reports = All-weaker (λ (e : Event). e.report < 525600) (MayReport h History) (λ e l. grind (arith, nat_tests, l)) m.history v.before;
    chain = (events-chain m v).0;
    few = let few = v.few_history in omega (arith, few);
    grown = all-past m.history (bare m);
  }

  fixed-grows : (m : Member) → IsMember h m → Grows h Fixed past whole m
  fixed-grows m v = record {
    named = v.named;
    was = refl;
    is = refl;
    opened = tt;
    each = v.coming;
    reports = All-weaker (λ (e : Event). (525600 ≤ e.report) × (e.report < month_end h)) (MayReport h Fixed) (λ e w. in-month e.report w.0 w.1) m.fixed v.inside;
    chain = subst (λ (es : List Event). Chain (last_release es) m.fixed) (sym (append-nil m.history)) (events-chain m v).1;
    few = let few = v.few_fixed in omega (arith, few);
    grown = all-fixed m.fixed (past m);
  }
    where
      in-month : (r : ℕ) → 525600 ≤ r → r < month_end h → may_report h Fixed r ≡ true
      in-month r a b =
          let one : nat_le 525600 r ≡ true = grind (arith, nat_tests, a) in
          let two : nat_lt r (month_end h) ≡ true = grind (arith, nat_tests, b) in
          rw (one, two) refl

  all-whole : (list : List Member) → map whole list ≡ list
  all-whole [] = refl
  all-whole (m ∷ ms) = ap (λ (t : List Member). m ∷ t) (all-whole ms)

  members-again : (list : List Member) → AreMembers h list → members_of h (crew_text list) (events_text h History list) (events_text h Fixed list) ≡ Ok list
  members-again list v =
      let named = crew-again list v in
      let before = part-again h History bare past list (All-weaker (IsMember h) (Grows h History bare past) past-grows list v.each) v.names in
      let after = part-again h Fixed past whole list (All-weaker (IsMember h) (Grows h Fixed past whole) fixed-grows list v.each) v.names in
      let some = v.some in
      all-members h (crew_text list) (events_text h History list) (events_text h Fixed list) [] (map bare list) refl named (map past list) before list (after ∙ ap Ok (all-whole list)) (λ z. omega (arith, some, z))

  -- the members that keep the checks are read of their texts
  pub texts-again : (list : List Member) (crew history fixed : List ℕ) → crew ≡ crew_text list → history ≡ events_text h History list → fixed ≡ events_text h Fixed list → AreMembers h list → members_of h crew history fixed ≡ Ok list
  texts-again list crew history fixed a b c v =
      ap (λ (t : List ℕ). members_of h t history fixed) a ∙ ap (λ (t : List ℕ). members_of h (crew_text list) t fixed) b
      ∙ ap (λ (t : List ℕ). members_of h (crew_text list) (events_text h History list) t) c ∙ members-again list v
