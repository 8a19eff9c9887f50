-- The rows keep the checks of the month's members.
use Rattle.std.proofs.Common.{◌≡◌, ◌≢◌, ℕ, suc, ◌<◌, ◌≤◌, List, [], ◌∷◌, ◌++◌, length, Bool, true, false, not, cond, ◌&&◌, ◌||◌, nat_le, nat_lt, ◌==◌, Result, Ok, Err, refl, sym, ap, subst, ◌∙◌, arith, length-append, All, AllPairs, slice_index_or, true≢false}
use Rattle.std.specs.List.{list_all, list_any}
use Rattle.std.specs.Prelude.{IsTrue}
use Rattle.std.specs.Str.{is_utf8, bytes_eq}
use Rattle.std.specs.Cmp.Lexicographic.{bytes_decides}
use Rattle.std.proofs.lemmas.Bool.Decides.{nat_tests}
use Rattle.std.proofs.lemmas.List.Elements.{All-nil, All-cons, All-head, All-tail, All-push, All-weaker}
use Rattle.std.proofs.lemmas.List.Kept.{AllPairs-cons}
use Rattle.std.proofs.lemmas.List.Quantifiers.{all_pairs_push}
use Rattle.duty_calendar.specs.Calendar.{month_end}
use Rattle.duty_calendar.specs.Checks.{IsMember, AreMembers}
use Rattle.duty_calendar.specs.Forms.{is_name}
use Rattle.duty_calendar.specs.declared.event.Event.{Event}
use Rattle.duty_calendar.specs.declared.event.Flown.{Flown}
use Rattle.duty_calendar.specs.declared.event.Kind.{Kind}
use Rattle.duty_calendar.specs.declared.horizon.Horizon.{Horizon}
use Rattle.duty_calendar.specs.declared.member.Member.{Member}
use Rattle.field_text.specs.declared.file_fault.FileCode.{FileCode}
use Rattle.field_text.specs.declared.file_fault.FileCode.TheVariants as code
use Rattle.field_text.specs.declared.file_fault.FileName.TheVariants as name
use Rattle.field_text.specs.Fields.{name_field, minutes_field, moment_field, kind_field}
use Rattle.field_text.specs.Rows.{in_column, text_row}
use Rattle.field_text.specs.Steps.{◌>>=◌}
use Rattle.field_text.proofs.FieldsAgain.{name-read}
use Rattle.crew_files.specs.declared.part.Part.{Part}
use Rattle.crew_files.specs.declared.part.Part.TheVariants.{History, Fixed}
use Rattle.crew_files.specs.Crew.{crew_header, crew_row, crew_columns, member_checked, is_named, has_name, new_member}
use Rattle.crew_files.specs.Events.{event_header, event_row, event_columns, event_checked, times_fit, flights_fit, last_release, is_in_order, may_report, with_event, part_of, changed}
use Rattle.crew_files.specs.Limits.{most_events, events_limit}
use Rattle.crew_files.specs.Flights.{flights_field}
use Rattle.crew_files.specs.Files.{crew_file, event_file, members_of, some_members}
use Rattle.field_text.specs.Records.{records_of}
use Rattle.crew_files.proofs.Steps.{bind-value, when-value, unless-value, in_column-value}
use Rattle.crew_files.proofs.RowsFrom.{file-keep}
use Rattle.crew_files.proofs.Values.{moment-bound, flights-some}
use Rattle.crew_files.proofs.Kept.{both, IsRead, IsValue, filed, new_member-read, member-from_read, with_event-fixed, with_event-history}

-- members of whom each keeps P, no more than may be, and no two of one name
pub record AreRead (P : Member → Type 0) (members : List Member) : Type 0 where
  pub few : length members ≤ 200
  pub each : All P members
  pub names : AllPairs (λ (a b : Member). a.name ≢ b.name) members

-- a member with nothing fixed yet
pub record IsPast (h : Horizon) (m : Member) : Type 0 where
  pub read : IsRead h m
  pub none : m.fixed ≡ []

text_row-value : {A : Type 0} (n : ℕ) (fields : List (List ℕ)) (r : Result A FileCode) (x : A) → text_row n fields r ≡ Ok x → r ≡ Ok x
text_row-value n fields r x h =
    let a = when-value (list_all is_utf8 fields) code.Utf8 (cond (length fields == n) r (Err code.Width)) x h in
    (when-value (length fields == n) code.Width r x a.1).1

-- a name that no member has differs from each
not_named : (name : List ℕ) (ms : List Member) → is_named name ms ≡ false → All (λ (m : Member). m.name ≢ name) ms
not_named name [] h = All-nil (λ (m : Member). m.name ≢ name)
not_named name (m ∷ ms) h = by (bytes_eq name m.name) refl h (λ e. not_named name ms e)
  where
    by : (b : Bool) → bytes_eq name m.name ≡ b → (b || list_any (has_name name) ms) ≡ false → (is_named name ms ≡ false → All (λ (m : Member). m.name ≢ name) ms) → All (λ (m : Member). m.name ≢ name) (m ∷ ms)
    by true e h rest = cc
    by false e h rest = All-cons (λ (m : Member). m.name ≢ name) m ms (λ s. true≢false (sym ((bytes_decides name m.name).1 (sym s)) ∙ e)) (rest h)

crew_row-keep : (h : Horizon) (ms ns : List Member) (fields : List (List ℕ)) → AreRead (IsPast h) ms → crew_row ms fields ≡ Ok ns → AreRead (IsPast h) ns
crew_row-keep h ms ns fields p e =
    let columns = text_row-value 3 fields (crew_columns ms (slice_index_or fields 0 []) (slice_index_or fields 1 []) (slice_index_or fields 2 [])) ns e in
    let a = bind-value (in_column 1 (name_field (slice_index_or fields 0 []))) (λ (n : List ℕ). in_column 2 (minutes_field (slice_index_or fields 1 [])) >>= (λ (l : ℕ). in_column 3 (minutes_field (slice_index_or fields 2 [])) >>= (λ (u : ℕ). member_checked ms n l u))) ns columns in
    let b = bind-value (in_column 2 (minutes_field (slice_index_or fields 1 []))) (λ (l : ℕ). in_column 3 (minutes_field (slice_index_or fields 2 [])) >>= (λ (u : ℕ). member_checked ms a.0 l u)) ns a.2 in
    let c = bind-value (in_column 3 (minutes_field (slice_index_or fields 2 []))) (λ (u : ℕ). member_checked ms a.0 b.0 u) ns b.2 in
    added a.0 b.0 c.0 (name-read (slice_index_or fields 0 []) a.0 (in_column-value 1 (name_field (slice_index_or fields 0 [])) a.0 a.1)) c.2
  where
    added : (n : List ℕ) (l u : ℕ) → IsTrue (is_name n) → member_checked ms n l u ≡ Ok ns → AreRead (IsPast h) ns
    added n l u k e =
        let d = unless-value (is_named n ms) code.Duplicate _ ns e in
        let o = unless-value (nat_lt u l) code.Order _ ns d.1 in
        let f = unless-value (nat_le 200 (length ms)) (code.Limit 1) _ ns o.1 in
        let g = unless-value (nat_lt 12000 u) (code.Limit 6) (Ok (ms ++ new_member n l u ∷ [])) ns f.1 in
        let low : l ≤ u = grind (arith, nat_tests, o.0) in
        let high : u ≤ 12000 = grind (arith, nat_tests, g.0) in
        let few : length ms < 200 = grind (arith, nat_tests, f.0) in
        let same : ms ++ new_member n l u ∷ [] ≡ ns = cc (g.1) in
        let named = not_named n ms d.0 in
        subst (AreRead (IsPast h)) same (record {
          few = omega (arith, length-append ms (new_member n l u ∷ []));
          each = All-push (IsPast h) ms (new_member n l u) p.each (record { read = new_member-read h n l u k low high; none = refl });
          names = all_pairs_push (λ (a b : Member). a.name ≢ b.name) ms (new_member n l u) p.names (λ k d l. named k d l);
        })

-- a change of one member keeps what the change keeps
changed-all : (P Q : Member → Type 0) (name : List ℕ) (change : Member → Result Member FileCode) → ((m : Member) → P m → Q m) → ((m n : Member) → P m → change m ≡ Ok n → Q n) → (ms ns : List Member) → All P ms → changed name change ms ≡ Ok ns → All Q ns
unfolding changed
changed-all P Q name change weaker keeps [] ns p e = cc
changed-all P Q name change weaker keeps (m ∷ ms) ns p e = by (has_name name m) e (λ us f. changed-all P Q name change weaker keeps ms us (All-tail P m ms p) f)
  where
    first : (n : Member) → change m ≡ Ok n → All Q (n ∷ ms)
    first n c = All-cons Q n ms (keeps m n (All-head P m ms p) c) (All-weaker P Q weaker ms (All-tail P m ms p))

    later : (us : List Member) → All Q us → All Q (m ∷ us)
    later us q = All-cons Q m us (weaker m (All-head P m ms p)) q

    by : (b : Bool) → cond b (change m >>= (λ (n : Member). Ok (n ∷ ms))) (changed name change ms >>= (λ (us : List Member). Ok (m ∷ us))) ≡ Ok ns → ((us : List Member) → changed name change ms ≡ Ok us → All Q us) → All Q ns
    by true e rest =
        let a = bind-value (change m) (λ (n : Member). Ok (n ∷ ms)) ns e in
        let same : a.0 ∷ ms ≡ ns = cc (a.2) in
        subst (All Q) same (first a.0 a.1)
    by false e rest =
        let a = bind-value (changed name change ms) (λ (us : List Member). Ok (m ∷ us)) ns e in
        let same : m ∷ a.0 ≡ ns = cc (a.2) in
        subst (All Q) same (later a.0 (rest a.0 a.1))

module _ (name : List ℕ) (change : Member → Result Member FileCode) (keeps : (m n : Member) → change m ≡ Ok n → n.name ≡ m.name) where
  changed-length : (ms ns : List Member) → changed name change ms ≡ Ok ns → length ns ≡ length ms
  unfolding changed
  changed-length [] ns e = cc
  changed-length (m ∷ ms) ns e = by (has_name name m) e (λ us f. changed-length ms us f)
    where
      by : (b : Bool) → cond b (change m >>= (λ (n : Member). Ok (n ∷ ms))) (changed name change ms >>= (λ (us : List Member). Ok (m ∷ us))) ≡ Ok ns → ((us : List Member) → changed name change ms ≡ Ok us → length us ≡ length ms) → length ns ≡ suc (length ms)
      by true e rest =
          let a = bind-value (change m) (λ (n : Member). Ok (n ∷ ms)) ns e in
          let same : a.0 ∷ ms ≡ ns = cc (a.2) in
          sym (ap length same)
      by false e rest =
          let a = bind-value (changed name change ms) (λ (us : List Member). Ok (m ∷ us)) ns e in
          let same : m ∷ a.0 ≡ ns = cc (a.2) in
          sym (ap length same) ∙ ap suc (rest a.0 a.1)

  changed-names : (ms ns : List Member) → AllPairs (λ (a b : Member). a.name ≢ b.name) ms → changed name change ms ≡ Ok ns → AllPairs (λ (a b : Member). a.name ≢ b.name) ns
  unfolding changed
  changed-names [] ns p e = cc
  changed-names (m ∷ ms) ns p e = by (has_name name m) e (λ us f. changed-names ms us (pairs-tail m ms p) f)
    where
      pairs-tail : (m : Member) (ms : List Member) → AllPairs (λ (a b : Member). a.name ≢ b.name) (m ∷ ms) → AllPairs (λ (a b : Member). a.name ≢ b.name) ms
      pairs-tail m ms p = λ i j d l k. p (suc i) (suc j) d (omega arith) (omega arith)

      pairs-head : (m : Member) (ms : List Member) → AllPairs (λ (a b : Member). a.name ≢ b.name) (m ∷ ms) → All (λ (b : Member). m.name ≢ b.name) ms
      pairs-head m ms p = λ k d l. p 0 (suc k) d (omega arith) (omega arith)

      by : (b : Bool) → cond b (change m >>= (λ (n : Member). Ok (n ∷ ms))) (changed name change ms >>= (λ (us : List Member). Ok (m ∷ us))) ≡ Ok ns → ((us : List Member) → changed name change ms ≡ Ok us → AllPairs (λ (a b : Member). a.name ≢ b.name) us) → AllPairs (λ (a b : Member). a.name ≢ b.name) ns
      by true e rest =
          let a = bind-value (change m) (λ (n : Member). Ok (n ∷ ms)) ns e in
          let same : a.0 ∷ ms ≡ ns = cc (a.2) in
          let called : a.0.name ≡ m.name = keeps m a.0 a.1 in
          subst (AllPairs (λ (a b : Member). a.name ≢ b.name)) same
          (AllPairs-cons (λ (a b : Member). a.name ≢ b.name) a.0 ms (subst (λ (n : List ℕ). All (λ (b : Member). n ≢ b.name) ms) (sym called) (pairs-head m ms p)) (pairs-tail m ms p))
      by false e rest =
          let a = bind-value (changed name change ms) (λ (us : List Member). Ok (m ∷ us)) ns e in
          let same : m ∷ a.0 ≡ ns = cc (a.2) in
          subst (AllPairs (λ (a b : Member). a.name ≢ b.name)) same
          (AllPairs-cons (λ (a b : Member). a.name ≢ b.name) m a.0
          (changed-all (λ (b : Member). m.name ≢ b.name) (λ (b : Member). m.name ≢ b.name) name change (λ x q. q) (λ x y q c. subst (λ (n : List ℕ). m.name ≢ n) (sym (keeps x y c)) q) ms a.0 (pairs-head m ms p) a.1)
          (rest a.0 a.1))

-- what the tests of an event say where it passes them
record Passed (h : Horizon) (part : Part) (e : Event) (m : Member) : Type 0 where
  pub times : times_fit e ≡ true
  pub flights : flights_fit e ≡ true
  pub after : last_release (m.history ++ m.fixed) ≤ e.report
  pub report : may_report h part e.report ≡ true
  pub few_flights : length e.flights ≤ 8
  pub few_credit : e.credit ≤ 12000
  pub few : length (part_of part m) < most_events part

passed : (h : Horizon) (part : Part) (e : Event) (m n : Member) → event_checked h part e m ≡ Ok n → Passed h part e m × (with_event part e m ≡ n)
passed h part e m n p =
    let o = unless-value (not (is_in_order m e)) code.Order _ n p in
    let r = unless-value (not (may_report h part e.report)) code.OutsideMonth _ n o.1 in
    let f = unless-value (nat_lt 8 (length e.flights)) (code.Limit 4) _ n r.1 in
    let c = unless-value (nat_lt 12000 e.credit) (code.Limit 6) _ n f.1 in
    let l = unless-value (nat_le (most_events part) (length (part_of part m))) (code.Limit (events_limit part)) (Ok (with_event part e m)) n c.1 in
    let a = both (times_fit e) (flights_fit e && nat_le (last_release (m.history ++ m.fixed)) e.report) (not-false (is_in_order m e) o.0) in
    let b = both (flights_fit e) (nat_le (last_release (m.history ++ m.fixed)) e.report) a.1 in (
      record {
        times = a.0;
        flights = b.0;
        after = grind (arith, nat_tests, b.1);
        report = not-false (may_report h part e.report) r.0;
        few_flights = grind (arith, nat_tests, f.0);
        few_credit = grind (arith, nat_tests, c.0);
        few = grind (arith, nat_tests, l.0);
      },
      cc (l.1),
    )
  where
    not-false : (b : Bool) → not b ≡ false → b ≡ true
    not-false true h = refl
    not-false false h = cc

with_event-name : (part : Part) (e : Event) (m : Member) → (with_event part e m).name ≡ m.name
with_event-name History e m = refl
with_event-name Fixed e m = refl

checked-name : (h : Horizon) (part : Part) (e : Event) (m n : Member) → event_checked h part e m ≡ Ok n → n.name ≡ m.name
checked-name h part e m n p = ap (λ (m : Member). m.name) (sym (passed h part e m n p).1) ∙ with_event-name part e m

checked-history : (h : Horizon) (e : Event) → IsValue h e → (m n : Member) → IsPast h m → event_checked h History e m ≡ Ok n → IsPast h n
checked-history h e v m n p c =
    let t = passed h History e m n c in
    let before : e.report < 525600 = let r = t.0.report in grind (arith, nat_tests) in
    subst (IsPast h) t.1 (record {
      read = with_event-history h e m p.read p.none (filed h e v t.0.times t.0.flights t.0.few_flights t.0.few_credit) t.0.after before t.0.few;
      none = p.none;
    })

checked-fixed : (h : Horizon) (e : Event) → IsValue h e → (m n : Member) → IsRead h m → event_checked h Fixed e m ≡ Ok n → IsRead h n
checked-fixed h e v m n p c =
    let t = passed h Fixed e m n c in
    let r = both (nat_le 525600 e.report) (nat_lt e.report (month_end h)) t.0.report in
    let from : 525600 ≤ e.report = grind (arith, nat_tests, r.0) in
    let till : e.report < month_end h = grind (arith, nat_tests, r.1) in
    subst (IsRead h) t.1 (with_event-fixed h e m p (filed h e v t.0.times t.0.flights t.0.few_flights t.0.few_credit) t.0.after from till t.0.few)

-- the event of a result that has one
abbrev event-of : Event → Result (List ℕ × Event) FileCode → Event
event-of e (Ok named) = named.1
event-of e (Err c) = e

same-event : (x n : List ℕ) (u e : Event) → ◌≡◌ {A = Result (List ℕ × Event) FileCode} (Ok (x, u)) (Ok (n, e)) → u ≡ e
same-event x n u e q = ap (event-of u) q

-- an event of the columns of a row
event_columns-value : (h : Horizon) (fields : List (List ℕ)) (n : List ℕ) (e : Event) → event_columns h fields ≡ Ok (n, e) → IsValue h e
event_columns-value h fields n e p =
    let a = bind-value (in_column 1 (name_field (at 0))) one (n, e) p in
    let b = bind-value (in_column 2 (kind_field (at 1))) (two a.0) (n, e) a.2 in
    let c = bind-value (in_column 3 (moment_field h (at 2))) (three a.0 b.0) (n, e) b.2 in
    let d = bind-value (in_column 4 (moment_field h (at 3))) (four a.0 b.0 c.0) (n, e) c.2 in
    let r = bind-value (in_column 5 (moment_field h (at 4))) (five a.0 b.0 c.0 d.0) (n, e) d.2 in
    let f = bind-value (in_column 6 (flights_field h b.0 (at 5))) (six a.0 b.0 c.0 d.0 r.0) (n, e) r.2 in
    let g = bind-value (in_column 7 (minutes_field (at 6))) (last a.0 b.0 c.0 d.0 r.0 f.0) (n, e) f.2 in
    subst (IsValue h) (same-event a.0 n (record { kind = b.0; report = c.0; parked = d.0; release = r.0; flights = f.0; credit = g.0 }) e g.2) (record {
      some_flights = λ k. flights-some h b.0 (at 5) f.0 (in_column-value 6 (flights_field h b.0 (at 5)) f.0 f.1) k;
      ends = moment-bound h (at 4) r.0 (in_column-value 5 (moment_field h (at 4)) r.0 r.1);
    })
  where
    at : ℕ → List ℕ
    at i = slice_index_or fields i []

    last : List ℕ → Kind → ℕ → ℕ → ℕ → List Flown → ℕ → Result (List ℕ × Event) FileCode
    last name kind report parked release flights credit = Ok (name, record { kind = kind; report = report; parked = parked; release = release; flights = flights; credit = credit })

    six : List ℕ → Kind → ℕ → ℕ → ℕ → List Flown → Result (List ℕ × Event) FileCode
    six name kind report parked release flights = in_column 7 (minutes_field (at 6)) >>= last name kind report parked release flights

    five : List ℕ → Kind → ℕ → ℕ → ℕ → Result (List ℕ × Event) FileCode
    five name kind report parked release = in_column 6 (flights_field h kind (at 5)) >>= six name kind report parked release

    four : List ℕ → Kind → ℕ → ℕ → Result (List ℕ × Event) FileCode
    four name kind report parked = in_column 5 (moment_field h (at 4)) >>= five name kind report parked

    three : List ℕ → Kind → ℕ → Result (List ℕ × Event) FileCode
    three name kind report = in_column 4 (moment_field h (at 3)) >>= four name kind report

    two : List ℕ → Kind → Result (List ℕ × Event) FileCode
    two name kind = in_column 3 (moment_field h (at 2)) >>= three name kind

    one : List ℕ → Result (List ℕ × Event) FileCode
    one name = in_column 2 (kind_field (at 1)) >>= two name

module _ (h : Horizon) (part : Part) (P : Member → Type 0)
    (keeps : (e : Event) → IsValue h e → (m n : Member) → P m → event_checked h part e m ≡ Ok n → P n) where
  event_row-keep : (ms ns : List Member) (fields : List (List ℕ)) → AreRead P ms → event_row h part ms fields ≡ Ok ns → AreRead P ns
  event_row-keep ms ns fields p e =
      let columns = text_row-value 7 fields (event_columns h fields >>= (λ (named : List ℕ × Event). changed named.0 (event_checked h part named.1) ms)) ns e in
      let a = bind-value (event_columns h fields) (λ (named : List ℕ × Event). changed named.0 (event_checked h part named.1) ms) ns columns in
      let v = event_columns-value h fields a.0.0 a.0.1 a.1 in
      record {
        few = let l = changed-length a.0.0 (event_checked h part a.0.1) (checked-name h part a.0.1) ms ns a.2 in omega (arith, p.few);
        each = changed-all P P a.0.0 (event_checked h part a.0.1) (λ m q. q) (keeps a.0.1 v) ms ns p.each a.2;
        names = changed-names a.0.0 (event_checked h part a.0.1) (checked-name h part a.0.1) ms ns p.names a.2;
      }

-- the members of three files keep the checks
pub members_of-valid : (h : Horizon) (crew history fixed : List ℕ) (list : List Member) → members_of h crew history fixed ≡ Ok list → AreMembers h list
unfolding members_of crew_file event_file
members_of-valid h crew history fixed list e =
    let a = bind-value (crew_file crew []) (λ (named : List Member). event_file h History history named >>= (λ (past : List Member). event_file h Fixed fixed past >>= some_members)) list e in
    let b = bind-value (event_file h History history a.0) (λ (past : List Member). event_file h Fixed fixed past >>= some_members) list a.2 in
    let c = bind-value (event_file h Fixed fixed b.0) some_members list b.2 in
    let none : AreRead (IsPast h) [] = record { few = omega arith; each = All-nil (IsPast h); names = λ i j d l m. absurd (omega arith) } in
    let named = file-keep name.Crew crew_row (AreRead (IsPast h)) (crew_row-keep h) crew_header [] a.0 (records_of crew) none a.1 in
    let past = file-keep name.History (event_row h History) (AreRead (IsPast h)) (λ s t r p k. event_row-keep h History (IsPast h) (checked-history h) s t r p k) event_header a.0 b.0 (records_of history) named b.1 in
    let read : AreRead (IsRead h) b.0 = record { few = past.few; each = All-weaker (IsPast h) (IsRead h) (λ m p. p.read) b.0 past.each; names = past.names } in
    let all = file-keep name.Fixed (event_row h Fixed) (AreRead (IsRead h)) (λ s t r p k. event_row-keep h Fixed (IsRead h) (checked-fixed h) s t r p k) event_header b.0 c.0 (records_of fixed) read c.1 in
    by c.0 all c.2
  where
    by : (ms : List Member) → AreRead (IsRead h) ms → some_members ms ≡ Ok list → AreMembers h list
    by [] p e = cc
    by (m ∷ ms) p e =
        let same : m ∷ ms ≡ list = cc in
        subst (AreMembers h) same (record {
          some = omega arith;
          few = p.few;
          each = All-weaker (IsRead h) (IsMember h) (member-from_read h) (m ∷ ms) p.each;
          names = p.names;
        })
