-- Minutes that events count in a window: no minute counts twice, so they are the sum of those of each event.
use Rattle.std.proofs.Common.{◌≡◌, ℕ, suc, ◌+◌, ◌-◌, ◌<◌, ◌≤◌, Bool, true, false, cond, ◌&&◌, ◌||◌, List, [], ◌∷◌, ◌++◌, Option, Some, None, length, get_or, refl, ap, sym, ◌∙◌, subst, arith, inl, inr}
use Rattle.std.specs.Prelude.{AllPairs, count_by, sum_by, map, slice_get}
use Rattle.std.specs.List.{list_any, AllByRecursion, cons_option}
use Rattle.std.specs.Option.{option_map_or}
use Rattle.std.proofs.lemmas.Bool.Decides.{nat_tests}
use Rattle.std.proofs.lemmas.Bool.{and_from, false≢true, cases_Bool}
use Rattle.std.proofs.lemmas.List.Sums.{sum_by-cons, sum_by-append}
use Rattle.std.proofs.lemmas.List.Folds.{list_any-append}
use Rattle.std.proofs.lemmas.List.Elements.{recursion_from_All, All-map}
use Rattle.std.proofs.lemmas.Option.{slice_get_cases}
use Rattle.duty_calendar.specs.declared.event.Event.{Event}
use Rattle.duty_calendar.specs.declared.event.Kind.{Kind}
use Rattle.duty_calendar.specs.declared.event.Kind.TheVariants.{Flight, Ground, Leave}
use Rattle.duty_calendar.specs.declared.horizon.Horizon.{Horizon}
use Rattle.duty_calendar.specs.declared.interval.Interval.{Interval}
use Rattle.duty_calendar.specs.declared.member.Member.{Member}
use Rattle.duty_calendar.specs.declared.event.Flown.{Flown}
use Rattle.duty_calendar.specs.declared.pairing.Duty.{Duty}
use Rattle.duty_calendar.specs.declared.pairing.Leg.{Leg}
use Rattle.duty_calendar.specs.declared.pairing.Pairing.{Pairing}
use Rattle.duty_calendar.specs.Checks.{IsDuty, IsPairing, IsMember}
use Rattle.duty_calendar.specs.Events.{IsEvent}
use Rattle.duty_calendar.specs.Minutes.{is_in, is_between, is_flight, is_duty, is_duty_minute, count_between}
use Rattle.duty_calendar.specs.Limits.{AreDisjoint, AtReports, IsRested}
use Rattle.duty_calendar.proofs.Counting.{count_between-or}
use Rattle.duty_calendar.proofs.Pairs.{count_from_pairs}
use Rattle.part117_limits.specs.declared.peak.Minutes.{Minutes}
use Rattle.part117_limits.specs.Peaks.{has_counted, is_counted}
use Rattle.part117_limits.proofs.Overlaps.{count_nothing, counted_within, between-parts, between-from}
use Rattle.roster_model.specs.declared.problem.Problem.{Problem}
use Rattle.roster_model.specs.Spans.{duty_event, duty_events, first_report, last_release, pairing_span, event_span}
use Rattle.roster_model.specs.Timelines.{history_of, fixed_of, pairings_of, coming_events, events_of, occupied}
use Rattle.line_items.specs.Clear.{base_of, duties_of}
use Rattle.line_items.proofs.LineParts.{PairsBy, pairs_to, pairs_from, all_first, all_second, all_join}
use Rattle.line_items.proofs.Visits.{or_left_true, or_right_true}

-- what is counted no more than once is in none of the rest
none_counted : {A : Type 0} (p : A → Bool) (xs : List A) → count_by p xs ≤ 0 → list_any p xs ≡ false
none_counted p [] few = refl
none_counted p (x ∷ xs) few = go (p x) refl (sum_by-cons (λ y. cond (p y) 1 0) x xs) (λ rest. none_counted p xs rest)
  where
    go : (b : Bool) → p x ≡ b → count_by p (x ∷ xs) ≡ cond (p x) 1 0 + count_by p xs
        → (count_by p xs ≤ 0 → list_any p xs ≡ false) → (p x || list_any p xs) ≡ false
    go true e split rest = let one : cond {A = ℕ} (p x) 1 0 ≡ 1 = rw e refl in absurd (omega (arith, split, one, few))
    go false e split rest = rw e (rest (omega (arith, split, few)))

none_in : {A : Type 0} (p : A → Bool) (xs : List A) → list_any p xs ≡ false → count_by p xs ≡ 0
none_in p [] none = refl
none_in p (x ∷ xs) none = go (p x) refl none (sum_by-cons (λ y. cond (p y) 1 0) x xs) (λ rest. none_in p xs rest)
  where
    go : (b : Bool) → p x ≡ b → (b || list_any p xs) ≡ false → count_by p (x ∷ xs) ≡ cond (p x) 1 0 + count_by p xs
        → (list_any p xs ≡ false → count_by p xs ≡ 0) → count_by p (x ∷ xs) ≡ 0
    go true e h split rest = absurd (false≢true (sym h))
    go false e h split rest = let none : cond {A = ℕ} (p x) 1 0 ≡ 0 = rw e refl in omega (arith, split, none, rest h)

none_by_each : {A : Type 0} (P : A → Type 0) (p : A → Bool) (xs : List A) → AllByRecursion P xs → ((x : A) → P x → p x ≡ false) → list_any p xs ≡ false
none_by_each P p [] all h = refl
none_by_each P p (x ∷ xs) all h = rw (h x all.0) (none_by_each P p xs all.1 h)

pub count_le_by : {A : Type 0} (P : A → Type 0) (p q : A → Bool) (xs : List A) → AllByRecursion P xs
    → ((x : A) → P x → p x ≡ true → q x ≡ true) → count_by p xs ≤ count_by q xs
count_le_by P p q [] all h = omega arith
count_le_by {A} P p q (x ∷ xs) all h =
    let rest = count_le_by P p q xs all.1 h in
    let split = sum_by-cons (λ (y : A). cond {A = ℕ} (p y) 1 0) x xs in
    let split_q = sum_by-cons (λ (y : A). cond {A = ℕ} (q y) 1 0) x xs in
    let here = cond_le (p x) (q x) (h x all.0) in
    omega (arith, split, split_q, here, rest)
  where
    cond_le : (a b : Bool) → (a ≡ true → b ≡ true) → cond {A = ℕ} a 1 0 ≤ cond b 1 0
    cond_le true true h = omega arith
    cond_le true false h = absurd (false≢true (h refl))
    cond_le false b h = omega arith

count_of_map : {A B : Type 0} (f : A → B) (p : B → Bool) (xs : List A) → count_by p (map f xs) ≡ count_by (λ x. p (f x)) xs
count_of_map f p [] = refl
count_of_map f p (x ∷ xs) =
    sum_by-cons (λ y. cond (p y) 1 0) (f x) (map f xs) ∙ ap (λ (n : ℕ). cond (p (f x)) 1 0 + n) (count_of_map f p xs)
    ∙ sym (sum_by-cons (λ y. cond (p (f y)) 1 0) x xs)

-- where no minute is in two, the minutes of all are the sum of those of each
pub minutes_add : {A : Type 0} (has : A → ℕ → Bool) (xs : List A) (start stop : ℕ) → start ≤ stop
    → ((m : ℕ) → count_by (λ x. has x m) xs ≤ 1)
    → count_between (λ m. list_any (λ x. has x m) xs) start stop ≡ sum_by (λ x. count_between (has x) start stop) xs
minutes_add has [] start stop order once = sym (count_nothing (λ m. false) start stop order (λ m. refl))
minutes_add {A} has (x ∷ xs) start stop order once =
    let whole : start + (stop - start) ≡ stop = omega arith in
    let split = λ (m : ℕ). sum_by-cons (λ (y : A). cond {A = ℕ} (has y m) 1 0) x xs in
    let both : count_between (λ m. has x m || list_any (λ y. has y m) xs) start stop
    ≡ count_between (has x) start stop + count_between (λ m. list_any (λ y. has y m) xs) start stop =
    subst (λ (n : ℕ). count_between (λ m. has x m || list_any (λ y. has y m) xs) start n
    ≡ count_between (has x) start n + count_between (λ m. list_any (λ y. has y m) xs) start n) whole
    (count_between-or (has x) (λ m. list_any (λ y. has y m) xs) start (stop - start)
    (λ m t. none_counted (λ y. has y m) xs
    (let one : cond {A = ℕ} (has x m) 1 0 ≡ 1 = rw t refl in omega (arith, split m, once m, one)))) in
    let rest = minutes_add has xs start stop order (λ m. omega (arith, split m, once m)) in
    both ∙ ap (λ (n : ℕ). count_between (has x) start stop + n) rest ∙ sym (sum_by-cons (λ y. count_between (has y) start stop) x xs)

-- the duties of a pairing lie within its span, one after another
spans_once : (m : ℕ) (d : Duty) (ds : List Duty) → AllByRecursion IsDuty (d ∷ ds)
    → AllPairs (λ d e. d.release + 600 ≤ e.report) (d ∷ ds)
    → (d.release ≤ last_release (d ∷ ds))
    × (count_by (λ e. is_between e.report e.release m) (map duty_event (d ∷ ds)) ≤ cond (is_between d.report (last_release (d ∷ ds)) m) 1 0)
spans_once m d [] all order =
    let split = sum_by-cons (λ (e : Event). cond {A = ℕ} (is_between e.report e.release m) 1 0) (duty_event d) [] in
    (omega arith, omega (arith, split))
spans_once m d (e ∷ es) all order =
    let rest = spans_once m e es all.1 (λ i j x lt inside. order (suc i) (suc j) x (omega arith) (omega arith)) in
    let gap : d.release + 600 ≤ e.report = order 0 1 d (omega arith) (omega arith) in
    let split = sum_by-cons (λ (e : Event). cond {A = ℕ} (is_between e.report e.release m) 1 0) (duty_event d) (map duty_event (e ∷ es)) in
    let l = all.0.lasts in
    let k = all.1.0.lasts in
    let two = joint d.report d.release e.report (last_release (e ∷ es)) l (omega arith) (omega (arith, rest.0)) in
    (omega (arith, rest.0), omega (arith, split, rest.1, two))
  where
    joint : (a b c l : ℕ) → a < b → b ≤ c → c ≤ l
        → cond {A = ℕ} (is_between a b m) 1 0 + cond (is_between c l m) 1 0 ≤ cond (is_between a l m) 1 0
    joint a b c l h i k = grind (arith, nat_tests)

all_mapped : {A B : Type 0} (f : A → B) (P : B → Type 0) (xs : List A) → AllByRecursion (λ x. P (f x)) xs → AllByRecursion P (map f xs)
all_mapped f P [] all = tt
all_mapped f P (x ∷ xs) all = (all.0, all_mapped f P xs all.1)

pairs_mapped : {A B : Type 0} (f : A → B) (R : B → B → Type 0) (xs : List A) → PairsBy (λ a b. R (f a) (f b)) xs → PairsBy R (map f xs)
pairs_mapped f R [] pairs = tt
pairs_mapped f R (x ∷ xs) pairs = (all_mapped f (R (f x)) xs pairs.0, pairs_mapped f R xs pairs.1)

abbrev Before : Flown → Flown → Type 0
Before f g = f.in_at ≤ g.out_at

pub duty_is_event : (d : Duty) → IsDuty d → IsEvent (duty_event d)
duty_is_event d form = record {
  reported = form.reported;
  parked = form.parked;
  lasts = form.lasts;
  flights = All-map (λ f. (d.report ≤ f.out_at) × (f.out_at < f.in_at) × (f.in_at ≤ d.parked)) (λ l. l.flown) d.legs form.legs;
  in_order = pairs_from Before (map (λ l. l.flown) d.legs)
      (pairs_mapped (λ (l : Leg). l.flown) Before d.legs (pairs_to (λ (k l : Leg). k.flown.in_at ≤ l.flown.out_at) d.legs form.in_order));
  flies = λ no_flight. absurd (false≢true (sym no_flight));
}

-- a pairing has at most one duty with the minute, and its span has it then
pub duties_once : (h : Horizon) (x : Pairing) → IsPairing h x → (m : ℕ)
    → count_by (λ e. is_between e.report e.release m) (duties_of x) ≤ cond (is_in (pairing_span x) m) 1 0
duties_once h x form m = go x.duties form.some_duties (recursion_from_All IsDuty x.duties form.each_duty) form.in_order
  where
    go : (ds : List Duty) → 1 ≤ length ds → AllByRecursion IsDuty ds → AllPairs (λ d e. d.release + 600 ≤ e.report) ds
        → count_by (λ e. is_between e.report e.release m) (map duty_event ds) ≤ cond (is_between (first_report ds) (last_release ds) m) 1 0
    go [] some all order = absurd (omega arith)
    go (d ∷ ds) some all order = (spans_once m d ds all order).1

pub pairing_lasts : (h : Horizon) (x : Pairing) → IsPairing h x → (pairing_span x).start < (pairing_span x).stop
pairing_lasts h x form = go x.duties form.some_duties (recursion_from_All IsDuty x.duties form.each_duty) form.in_order
  where
    go : (ds : List Duty) → 1 ≤ length ds → AllByRecursion IsDuty ds → AllPairs (λ d e. d.release + 600 ≤ e.report) ds → first_report ds < last_release ds
    go [] some all order = absurd (omega arith)
    go (d ∷ ds) some all order = let l = all.0.lasts in omega (arith, l, (spans_once 0 d ds all order).0)

pub duties_are : (h : Horizon) (x : Pairing) → IsPairing h x → AllByRecursion IsEvent (duties_of x)
duties_are h x form = go x.duties (recursion_from_All IsDuty x.duties form.each_duty)
  where
    go : (ds : List Duty) → AllByRecursion IsDuty ds → AllByRecursion IsEvent (map duty_event ds)
    go [] all = tt
    go (d ∷ ds) all = (duty_is_event d all.0, go ds all.1)

duties_late : (h : Horizon) (x : Pairing) → IsPairing h x → AllByRecursion (λ e. (is_flight e.kind ≡ true) × (525600 ≤ e.report)) (duties_of x)
duties_late h x form = go x.duties (recursion_from_All (λ d. 525600 ≤ d.report) x.duties form.coming)
  where
    go : (ds : List Duty) → AllByRecursion (λ d. 525600 ≤ d.report) ds → AllByRecursion (λ e. (is_flight e.kind ≡ true) × (525600 ≤ e.report)) (map duty_event ds)
    go [] all = tt
    go (d ∷ ds) all = ((refl, all.0), go ds all.1)

-- counted minutes are minutes of the event
pub counted_in : (minutes : Minutes) (m : ℕ) (e : Event) → IsEvent e → has_counted minutes e m ≡ true → is_between e.report e.release m ≡ true
counted_in minutes m e form h =
    let w = counted_within minutes e form m h in
    between-from e.report e.release m w.1 (omega (arith, w.2, form.parked))

counted_few : (minutes : Minutes) (m : ℕ) (es : List Event) → AllByRecursion IsEvent es
    → count_by (λ e. has_counted minutes e m) es ≤ count_by (λ e. is_between e.report e.release m) es
counted_few minutes m es all =
    count_le_by IsEvent (λ e. has_counted minutes e m) (λ e. is_between e.report e.release m) es all (λ e form h. counted_in minutes m e form h)

-- what the files say of a pairing by number
pub pairing_form : (problem : Problem) (n : ℕ) (x : Pairing) → slice_get problem.base.pairings n ≡ Some x → IsPairing problem.base.rules.horizon x
pairing_form problem n x is =
    elim (slice_get_cases problem.base.pairings n).1 [
      | inl found ↦
          let one : found.0 ≡ x = same (sym found.2 ∙ is) in
          subst (IsPairing problem.base.rules.horizon) (found.3 ∙ one) (problem.valid.month.pairings_form.each n found.0 found.1)
      | inr past ↦ absurd (none (sym past.1 ∙ is))
    ]
  where
    same : {y z : Pairing} → Some y ≡ Some z → y ≡ z
    same e = cc

    none : {y : Pairing} → ◌≡◌ {A = Option Pairing} None (Some y) → ⊥
    none e = cc

pub line_forms : (problem : Problem) (line : List ℕ) → AllByRecursion (IsPairing problem.base.rules.horizon) (pairings_of problem line)
line_forms problem [] = tt
line_forms problem (n ∷ line) = go (slice_get problem.base.pairings n) refl (line_forms problem line)
  where
    go : (o : Option Pairing) → slice_get problem.base.pairings n ≡ o → AllByRecursion (IsPairing problem.base.rules.horizon) (pairings_of problem line)
        → AllByRecursion (IsPairing problem.base.rules.horizon) (cons_option o (pairings_of problem line))
    go None is rest = rest
    go (Some x) is rest = (pairing_form problem n x is, rest)

-- what the files say of a member's events
pub record AreBaseEvents (history fixed : List Event) : Type 0 where
  pub forms : AllByRecursion IsEvent (history ++ fixed)
  pub early : AllByRecursion (λ e. e.report < 525600) history
  pub late : AllByRecursion (λ e. 525600 ≤ e.report) fixed
  pub once : (m : ℕ) → count_by (λ e. is_between e.report e.release m) (history ++ fixed) ≤ 1

ordered_once : (es : List Event) → AllPairs (λ d e. d.release ≤ e.report) es → (m : ℕ) → count_by (λ e. is_between e.report e.release m) es ≤ 1
ordered_once es order m =
    count_from_pairs (λ (e : Event). is_between e.report e.release m) es (λ i j d lt inside first.
    elim (cases_Bool (is_between (get_or es j d).report (get_or es j d).release m)) [
      | inl second ↦
          let a = between-parts _ _ m first in
          let b = between-parts _ _ m second in
          absurd (omega (arith, order i j d lt inside, a.0, a.1, b.0, b.1))
      | inr none ↦ none
    ])

abbrev of_option : Option Member → Type 0
of_option o = AreBaseEvents (option_map_or (λ m. m.history) o []) (option_map_or (λ m. m.fixed) o [])

pub base_events : (problem : Problem) (member : ℕ) → AreBaseEvents (history_of problem member) (fixed_of problem member)
base_events problem member =
    elim (slice_get_cases problem.base.members member).1 [
      | inl found ↦
          let form : IsMember problem.base.rules.horizon found.0 =
          subst (IsMember problem.base.rules.horizon) found.3 (problem.valid.month.members_form.each member found.0 found.1) in
          subst of_option (sym found.2) (of_member found.0 form)
      | inr past ↦ subst of_option (sym past.1) (record { forms = tt; early = tt; late = tt; once = λ m. omega arith })
    ]
  where
    of_member : (x : Member) → IsMember problem.base.rules.horizon x → AreBaseEvents x.history x.fixed
    of_member x form = record {
      forms = all_join IsEvent x.history x.fixed
          (recursion_from_All IsEvent x.history (λ k d lt. (form.past k d lt).form))
          (recursion_from_All IsEvent x.fixed (λ k d lt. (form.coming k d lt).form));
      early = recursion_from_All (λ e. e.report < 525600) x.history form.before;
      late = recursion_from_All (λ e. 525600 ≤ e.report) x.fixed (λ k d lt. (form.inside k d lt).0);
      once = ordered_once (x.history ++ x.fixed) form.in_order;
    }

-- history that counts a minute after a report had duty right before the report
pub flight_is_duty : (k : Kind) → is_flight k ≡ true → is_duty k ≡ true
flight_is_duty Flight h = refl
flight_is_duty Ground h = refl
flight_is_duty Leave h = absurd (false≢true h)

duty_before : (minutes : Minutes) (report m : ℕ) (es : List Event) → AllByRecursion IsEvent es → AllByRecursion (λ e. e.report < 525600) es
    → 525600 ≤ report → report ≤ m → list_any (λ e. has_counted minutes e m) es ≡ true → is_duty_minute es (report - 1) ≡ true
duty_before minutes report m [] forms early late after h = absurd (false≢true h)
duty_before minutes report m (e ∷ es) forms early late after h =
    go (has_counted minutes e m) refl h (λ rest. duty_before minutes report m es forms.1 early.1 late after rest)
  where
    go : (b : Bool) → has_counted minutes e m ≡ b → (b || list_any (λ e. has_counted minutes e m) es) ≡ true
        → (list_any (λ e. has_counted minutes e m) es ≡ true → is_duty_minute es (report - 1) ≡ true)
        → ((is_duty e.kind && is_between e.report e.release (report - 1)) || is_duty_minute es (report - 1)) ≡ true
    go true has t rest =
        let w = counted_within minutes e forms.0 m has in
        let within = between-from e.report e.release (report - 1) (omega (arith, early.0)) (omega (arith, w.2, forms.0.parked)) in
        let here = and_from (is_duty e.kind) (is_between e.report e.release (report - 1)) (flight_is_duty e.kind w.0) within in
        rw here refl
    go false has t rest = or_right_true (is_duty e.kind && is_between e.report e.release (report - 1)) (is_duty_minute es (report - 1)) (rest t)

-- so a rested duty that begins in the month counts no minute that history counts
unseen : (minutes : Minutes) (m : ℕ) (history others : List Event) → AllByRecursion IsEvent history → AllByRecursion (λ e. e.report < 525600) history
    → list_any (λ e. has_counted minutes e m) history ≡ true
    → (e : Event) → IsEvent e → 525600 ≤ e.report → IsRested (history ++ others) e.report → has_counted minutes e m ≡ false
unseen minutes m history others forms early h e form late rested =
    elim (cases_Bool (has_counted minutes e m)) [
      | inl has ↦
          let w = counted_within minutes e form m has in
          let duty = duty_before minutes e.report m history forms early late w.1 h in
          let free = rested (e.report - 1) (omega arith) (omega arith) in
          let split = list_any-append (λ (x : Event). is_duty x.kind && is_between x.report x.release (e.report - 1)) history others in
          absurd (false≢true (sym free ∙ split ∙ or_left_true (is_duty_minute history (e.report - 1)) (is_duty_minute others (e.report - 1)) duty))
      | inr none ↦ none
    ]

-- the duties of the pairings, one pairing after another
all_duties : (P : Event → Type 0) (ps : List Pairing) → AllByRecursion (λ x. AllByRecursion P (duties_of x)) ps → AllByRecursion P (duty_events ps)
all_duties P [] all = tt
all_duties P (x ∷ xs) all = all_join P (duties_of x) (duty_events xs) all.0 (all_duties P xs all.1)

pub all_also : {A : Type 0} (P Q : A → Type 0) (xs : List A) → ((x : A) → P x → Q x) → AllByRecursion P xs → AllByRecursion Q xs
all_also P Q [] h all = tt
all_also P Q (x ∷ xs) h all = (h x all.0, all_also P Q xs h all.1)

all_both : {A : Type 0} (P Q : A → Type 0) (xs : List A) → AllByRecursion P xs → AllByRecursion Q xs → AllByRecursion (λ x. P x × Q x) xs
all_both P Q [] p q = tt
all_both P Q (x ∷ xs) p q = ((p.0, q.0), all_both P Q xs p.1 q.1)

line_once : (h : Horizon) (ps : List Pairing) → AllByRecursion (IsPairing h) ps → (m : ℕ)
    → count_by (λ e. is_between e.report e.release m) (duty_events ps) ≤ count_by (λ x. is_in (pairing_span x) m) ps
line_once h [] forms m = omega arith
line_once h (x ∷ xs) forms m =
    let rest = line_once h xs forms.1 m in
    let here = duties_once h x forms.0 m in
    let left = sum_by-append (λ (e : Event). cond {A = ℕ} (is_between e.report e.release m) 1 0) (duties_of x) (duty_events xs) in
    let right = sum_by-cons (λ (y : Pairing). cond {A = ℕ} (is_in (pairing_span y) m) 1 0) x xs in
    omega (arith, rest, here, left, right)

module _ (minutes : Minutes) (problem : Problem) (member : ℕ) where
  abbrev counts : ℕ → List Event → ℕ
  counts m es = count_by (λ e. has_counted minutes e m) es

  abbrev total : ℕ → ℕ → List Event → ℕ
  total start stop es = sum_by (λ e. count_between (has_counted minutes e) start stop) es

  -- no minute counts twice for a member without a line
  pub base_once : (m : ℕ) → counts m (base_of problem member) ≤ 1
  base_once m =
      let base = base_events problem member in
      omega (arith, counted_few minutes m (base_of problem member) base.forms, base.once m)

  pub duties_count : (x : Pairing) → IsPairing problem.base.rules.horizon x → (m : ℕ) → counts m (duties_of x) ≤ 1
  duties_count x form m =
      let few = counted_few minutes m (duties_of x) (duties_are problem.base.rules.horizon x form) in
      let once = duties_once problem.base.rules.horizon x form m in
      let most = at_most (is_in (pairing_span x) m) in
      omega (arith, few, once, most)
    where
      at_most : (b : Bool) → cond {A = ℕ} b 1 0 ≤ 1
      at_most true = omega arith
      at_most false = omega arith

  module _ (line : List ℕ) (apart : AreDisjoint (occupied problem member line))
      (rested : AtReports (IsRested (events_of problem member line)) (coming_events problem member line)) where
    abbrev ps : List Pairing
    ps = pairings_of problem line

    abbrev horizon : Horizon
    horizon = problem.base.rules.horizon

    -- nor with a line that fits
    coming_once : (m : ℕ) → counts m (fixed_of problem member) + counts m (duty_events ps) ≤ 1
    coming_once m =
        let base = base_events problem member in
        let fixed = counted_few minutes m (fixed_of problem member) (all_second IsEvent (history_of problem member) (fixed_of problem member) base.forms) in
        let forms = all_duties IsEvent ps (all_also (IsPairing horizon) (λ x. AllByRecursion IsEvent (duties_of x)) ps (λ x form. duties_are horizon x form) (line_forms problem line)) in
        let flown = counted_few minutes m (duty_events ps) forms in
        let within = line_once horizon ps (line_forms problem line) m in
        let spans = sum_by-append (λ (s : Interval). cond {A = ℕ} (is_in s m) 1 0) (map event_span (fixed_of problem member)) (map pairing_span ps) in
        let first = count_of_map event_span (λ (s : Interval). is_in s m) (fixed_of problem member) in
        let second = count_of_map pairing_span (λ (s : Interval). is_in s m) ps in
        omega (arith, fixed, flown, within, spans, first, second, apart m)

    past_once : (m : ℕ) → list_any (λ e. has_counted minutes e m) (history_of problem member) ≡ true → counts m (duty_events ps) ≡ 0
    past_once m h =
        let base = base_events problem member in
        let all_rested = all_second (λ e. is_flight e.kind ≡ true → IsRested (events_of problem member line) e.report) (fixed_of problem member) (duty_events ps)
        (recursion_from_All (λ e. is_flight e.kind ≡ true → IsRested (events_of problem member line) e.report) (coming_events problem member line) rested) in
        let forms = all_duties IsEvent ps (all_also (IsPairing horizon) (λ x. AllByRecursion IsEvent (duties_of x)) ps (λ x form. duties_are horizon x form) (line_forms problem line)) in
        let late = all_duties (λ e. (is_flight e.kind ≡ true) × (525600 ≤ e.report)) ps
        (all_also (IsPairing horizon) (λ x. AllByRecursion (λ e. (is_flight e.kind ≡ true) × (525600 ≤ e.report)) (duties_of x)) ps (λ x form. duties_late horizon x form) (line_forms problem line)) in
        let P = λ (e : Event). is_flight e.kind ≡ true → IsRested (events_of problem member line) e.report in
        let Q = λ (e : Event). (is_flight e.kind ≡ true) × (525600 ≤ e.report) in
        none_in (λ e. has_counted minutes e m) (duty_events ps)
        (none_by_each (λ e. IsEvent e × (P e × Q e)) (λ e. has_counted minutes e m) (duty_events ps)
        (all_both IsEvent (λ e. P e × Q e) (duty_events ps) forms (all_both P Q (duty_events ps) all_rested late))
        (λ e is. unseen minutes m (history_of problem member) (coming_events problem member line)
        (all_first IsEvent (history_of problem member) (fixed_of problem member) base.forms) base.early h e is.0 is.1.1.1 (is.1.0 is.1.1.0)))

    line_counts : (m : ℕ) → counts m (history_of problem member) + counts m (duty_events ps) ≤ 1
    line_counts m =
        elim (cases_Bool (list_any (λ e. has_counted minutes e m) (history_of problem member))) [
          | inl some ↦
              let parts = sum_by-append (λ (e : Event). cond {A = ℕ} (has_counted minutes e m) 1 0) (history_of problem member) (fixed_of problem member) in
              omega (arith, past_once m some, base_once m, parts)
          | inr none ↦ omega (arith, none_in (λ e. has_counted minutes e m) (history_of problem member) none, coming_once m)
        ]

    pub events_once : (m : ℕ) → counts m (events_of problem member line) ≤ 1
    events_once m =
        let p = λ (e : Event). cond {A = ℕ} (has_counted minutes e m) 1 0 in
        let parts = sum_by-append p (history_of problem member) (coming_events problem member line) in
        let parts_2 = sum_by-append p (fixed_of problem member) (duty_events ps) in
        let parts_3 = sum_by-append p (history_of problem member) (fixed_of problem member) in
        omega (arith, parts, parts_2, parts_3, base_once m, coming_once m, line_counts m)

    duties_sum : (start stop : ℕ) → start ≤ stop → (xs : List Pairing) → AllByRecursion (IsPairing horizon) xs
        → total start stop (duty_events xs) ≡ sum_by (λ x. count_between (is_counted minutes (duties_of x)) start stop) xs
    duties_sum start stop order [] forms = refl
    duties_sum start stop order (x ∷ xs) forms =
        sum_by-append (λ (e : Event). count_between (has_counted minutes e) start stop) (duties_of x) (duty_events xs)
        ∙ ap (λ (n : ℕ). n + total start stop (duty_events xs)) (sym (minutes_add (has_counted minutes) (duties_of x) start stop order (λ m. duties_count x forms.0 m)))
        ∙ ap (λ (n : ℕ). count_between (is_counted minutes (duties_of x)) start stop + n) (duties_sum start stop order xs forms.1)
        ∙ sym (sum_by-cons (λ y. count_between (is_counted minutes (duties_of y)) start stop) x xs)

    -- the minutes of a line that fits are those without it and those of its pairings
    pub line_minutes : (start stop : ℕ) → start ≤ stop
        → count_between (is_counted minutes (events_of problem member line)) start stop
        ≡ count_between (is_counted minutes (base_of problem member)) start stop + sum_by (λ x. count_between (is_counted minutes (duties_of x)) start stop) ps
    line_minutes start stop order =
        let f = λ (e : Event). count_between (has_counted minutes e) start stop in
        let all = minutes_add (has_counted minutes) (events_of problem member line) start stop order events_once in
        let base = minutes_add (has_counted minutes) (base_of problem member) start stop order base_once in
        let parts = sum_by-append f (history_of problem member) (coming_events problem member line) in
        let parts_2 = sum_by-append f (fixed_of problem member) (duty_events ps) in
        let parts_3 = sum_by-append f (history_of problem member) (fixed_of problem member) in
        let own = duties_sum start stop order ps (line_forms problem line) in
        omega (arith, all, base, parts, parts_2, parts_3, own)
