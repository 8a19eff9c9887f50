-- The node, overlap and rest, pairing by pairing.
use Rattle.std.proofs.Common.{◌≡◌, ◌≢◌, ℕ, ◌<◌, ◌≤◌, Bool, true, false, not, ◌||◌, List, [], ◌∷◌, Option, Some, None, length, refl, ap, sym, ◌∙◌, subst, arith, inl, inr, ◌==◌}
use Rattle.std.specs.Prelude.{All, AllPairs, map, slice_get}
use Rattle.std.specs.List.{list_any, AllByRecursion}
use Rattle.std.specs.Option.{option_map_or}
use Rattle.std.proofs.lemmas.Bool.{and_parts, and_from, false≢true, cases_Bool}
use Rattle.std.proofs.lemmas.Bool.Decides.{nat_tests}
use Rattle.std.proofs.lemmas.List.Elements.{recursion_from_All}
use Rattle.std.proofs.lemmas.Option.{slice_get_cases}
use Rattle.duty_calendar.specs.declared.event.Event.{Event}
use Rattle.duty_calendar.specs.declared.pairing.Duty.{Duty}
use Rattle.duty_calendar.specs.declared.pairing.Pairing.{Pairing}
use Rattle.duty_calendar.specs.declared.interval.Interval.{Interval}
use Rattle.duty_calendar.specs.Minutes.{is_in}
use Rattle.duty_calendar.specs.Limits.{AreDisjoint, AtReports, IsRested}
use Rattle.duty_calendar.proofs.Pairs.{pairs_from_count, count_from_pairs}
use Rattle.roster_model.specs.declared.problem.Problem.{Problem}
use Rattle.roster_model.specs.declared.node.Decision.{Decision}
use Rattle.roster_model.specs.Ascending.{is_ascending}
use Rattle.roster_model.specs.Decided.{is_decided_as}
use Rattle.roster_model.specs.Scores.{is_flown}
use Rattle.roster_model.specs.Goals.{Obeys}
use Rattle.roster_model.specs.Timelines.{history_of, fixed_of, events_of, coming_events, pairings_of, occupied}
use Rattle.roster_model.specs.Spans.{duty_event, duty_events, first_report, last_release, pairing_span, event_span}
use Rattle.line_items.proofs.Apart.{IsApartLine, begins_at, rests_until}
use Rattle.line_items.specs.Clear.{is_tired_by, is_crossing, duties_of, base_of, is_base_rested, is_clear, may_fly, must_fly}
use Rattle.line_items.proofs.Resting.{Lasts, NotEmpty, Disjoint, crossing_not, disjoint_from, all_rested, none_tired, none_parts, or_false}
use Rattle.line_items.proofs.Following.{AreDuties, InOrder, Fit, last_after, follows_or, fit_from_or, self_clear}
use Rattle.line_items.proofs.LineParts.{Splits, flights_split, events_split, EachOf, PairsBy, pairs_to, pairs_from, all_join, all_first, all_second, pairs_join, pairs_second, pairs_cross, flown_cases, all_of}
use Rattle.line_items.proofs.LineParts.{joined, parted, all_flat, each_of, two_to, two_from}

-- what the readers check, as the proofs use it
pub record IsSoundMonth (problem : Problem) (member : ℕ) : Type 0 where
  pub duties : (n : ℕ) (x : Pairing) → slice_get problem.base.pairings n ≡ Some x → AreDuties x.duties
  pub events : AllByRecursion Lasts (base_of problem member)
  pub fixed_apart : PairsBy Disjoint (map event_span (fixed_of problem member))
  pub fixed_order : AllPairs (λ d e. d.release ≤ e.report) (fixed_of problem member)
  pub past_order : AllPairs (λ d e. d.release ≤ e.report) (history_of problem member)

-- the two parts of the rules that concern the order of events
pub record Fits (problem : Problem) (member : ℕ) (node : List Decision) (line : List ℕ) : Type 0 where
  pub obeys : Obeys node member line
  pub apart : AreDisjoint (occupied problem member line)
  pub rested : AtReports (IsRested (events_of problem member line)) (coming_events problem member line)

-- a line whose pairings fit
pub record IsFitLine (problem : Problem) (member : ℕ) (node : List Decision) (line : List ℕ) : Type 0 where
  pub ascending : is_ascending line ≡ true
  pub in_range : All (λ p. p < length problem.base.pairings) line
  pub fits : Fits problem member node line

-- no minute lies in two of them
disjoint_pairs : (spans : List Interval) → AreDisjoint spans → AllPairs Disjoint spans
disjoint_pairs spans few i j d lt inside m here = pairs_from_count (λ s. is_in s m) spans (few m) i j d lt inside here

pairs_disjoint : (spans : List Interval) → AllPairs Disjoint spans → AreDisjoint spans
pairs_disjoint spans pairs m = count_from_pairs (λ s. is_in s m) spans (λ i j d lt inside h. pairs i j d lt inside m h)

flip_true : (b : Bool) → not b ≡ true → b ≡ false
flip_true true h = sym h
flip_true false h = refl

flip_false : (b : Bool) → b ≡ false → not b ≡ true
flip_false b h = ap not h

duties_last : (ds : List Duty) → AreDuties ds → AllByRecursion Lasts (map duty_event ds)
duties_last [] d = absurd d
duties_last (d ∷ ds) order = go (d ∷ ds) order
  where
    go : (ds : List Duty) → InOrder ds → AllByRecursion Lasts (map duty_event ds)
    go [] order = tt
    go (d ∷ ds) order = (record { lasts = order.0 }, go ds order.2)

pub span_lasts : (x : Pairing) → AreDuties x.duties → NotEmpty (pairing_span x)
span_lasts x sound = record { lasts = go x.duties sound }
  where
    go : (ds : List Duty) → AreDuties ds → first_report ds < last_release ds
    go [] d = absurd d
    go (d ∷ ds) order = let h = last_after d ds order in let l = order.0 in omega arith

disjoint_sym : (a b : Interval) → Disjoint a b → Disjoint b a
disjoint_sym a b h = λ m inside. elim (cases_Bool (is_in a m)) [ inl t ↦ absurd (false≢true (sym (h m t) ∙ inside)) | inr f ↦ f ]

pub found : (problem : Problem) (p : ℕ) (f : Pairing → Bool) (d : Bool) → option_map_or f (slice_get problem.base.pairings p) d ≡ true → d ≡ false
    → (x : Pairing) × (slice_get problem.base.pairings p ≡ Some x) × (f x ≡ true)
found problem p f d h e = go (slice_get problem.base.pairings p) refl h
  where
    go : (o : Option Pairing) → slice_get problem.base.pairings p ≡ o → option_map_or f o d ≡ true → (x : Pairing) × (slice_get problem.base.pairings p ≡ Some x) × (f x ≡ true)
    go None is h = absurd (false≢true (sym e ∙ h))
    go (Some x) is h = (x, is, h)

pub small_of : (count : ℕ) (line : List ℕ) → AllByRecursion (λ q. q < count) line → (p : ℕ) → is_flown line p ≡ true → p < count
small_of count [] all p f = absurd (false≢true f)
small_of count (n ∷ line) all p f = elim (flown_cases n p line f) [ inl e ↦ let lt = all.0 in omega arith | inr later ↦ small_of count line all.1 p later ]

module _ (problem : Problem) (member : ℕ) (node : List Decision) (sound : IsSoundMonth problem member) where
  abbrev h : ℕ → Option Pairing
  h = slice_get problem.base.pairings

  -- what is clear of a pairing
  pub clear_parts : (x : Pairing) → is_clear problem member x ≡ true
      → (is_tired_by (duties_of x) (base_of problem member) ≡ false) × (is_tired_by (fixed_of problem member) (duties_of x) ≡ false) × (list_any (λ e. is_crossing (event_span e) (pairing_span x)) (fixed_of problem member) ≡ false)
  clear_parts x c =
      let p = and_parts (not (is_tired_by (duties_of x) (base_of problem member))) _ c in
      let q = and_parts (not (is_tired_by (fixed_of problem member) (duties_of x))) (not (list_any (λ e. is_crossing (event_span e) (pairing_span x)) (fixed_of problem member))) p.1 in
      (flip_true (is_tired_by (duties_of x) (base_of problem member)) p.0, flip_true (is_tired_by (fixed_of problem member) (duties_of x)) q.0, flip_true (list_any (λ e. is_crossing (event_span e) (pairing_span x)) (fixed_of problem member)) q.1)

  line_lasts : (line : List ℕ) → AllByRecursion Lasts (duty_events (pairings_of problem line))
  line_lasts line = all_flat h duties_of Lasts line (λ n x f is. duties_last x.duties (sound.duties n x is))

  cross_from : (line : List ℕ) (fs : List Event) → EachOf h line (λ x. list_any (λ e. is_crossing (event_span e) (pairing_span x)) fs ≡ false)
      → AllByRecursion (λ (a : Interval). AllByRecursion (Disjoint a) (map pairing_span (pairings_of problem line))) (map event_span fs)
  cross_from line [] each = tt
  cross_from line (e ∷ fs) each = (
    all_of h pairing_span (Disjoint (event_span e)) line (λ n x f is. disjoint_from (event_span e) (pairing_span x) (none_parts (λ (e : Event). is_crossing (event_span e) (pairing_span x)) (e ∷ fs) (each n x f is)).0),
    cross_from line fs (λ n x f is. or_second (is_crossing (event_span e) (pairing_span x)) (list_any (λ (e : Event). is_crossing (event_span e) (pairing_span x)) fs) (each n x f is)),
  )
    where
      or_second : (a b : Bool) → (a || b) ≡ false → b ≡ false
      or_second true b p = cc
      or_second false b p = p

  cross_to : (line : List ℕ) (fs : List Event) → AllByRecursion Lasts fs → AllByRecursion (λ (a : Interval). AllByRecursion (Disjoint a) (map pairing_span (pairings_of problem line))) (map event_span fs)
      → EachOf h line (λ x. list_any (λ e. is_crossing (event_span e) (pairing_span x)) fs ≡ false)
  cross_to line [] lasts all n x f is = refl
  cross_to line (e ∷ fs) lasts all n x f is =
      or_false (is_crossing (event_span e) (pairing_span x)) (list_any (λ (e : Event). is_crossing (event_span e) (pairing_span x)) fs)
      (crossing_not (event_span e) (pairing_span x) (record { lasts = lasts.0.lasts }) (span_lasts x (sound.duties n x is)) (each_of h pairing_span (Disjoint (event_span e)) line all.0 n x f is))
      (cross_to line fs lasts.1 all.1 n x f is)

  in_month : (line : List ℕ) → All (λ p. p < length problem.base.pairings) line → (p : ℕ) → is_flown line p ≡ true → (x : Pairing) × (h p ≡ Some x)
  in_month line small p f =
      elim (slice_get_cases problem.base.pairings p).1 [
        | inl in_list ↦ (in_list.0, in_list.2)
        | inr past ↦ let lt = small_of (length problem.base.pairings) line (recursion_from_All (λ q. q < length problem.base.pairings) line small) p f in let le = past.0 in absurd (omega arith)
      ]

  pub apart_from : (line : List ℕ) → is_ascending line ≡ true → All (λ p. p < length problem.base.pairings) line → Fits problem member node line
      → IsApartLine (is_base_rested problem member) (may_fly problem member node) (must_fly member node) (begins_at problem) (rests_until problem) (is_flown line)
  apart_from line up small fits = record {
    base_holds = flip_false (is_tired_by (fixed_of problem member) (base_of problem member))
        (of_fixed.join (history_of problem member) (fixed_of problem member) (of_fixed.first (history_of problem member) (coming_events problem member line) fixed_tired)
        (of_fixed.first (fixed_of problem member) (duty_events (pairings_of problem line)) (of_fixed.second (history_of problem member) (coming_events problem member line) fixed_tired)));
    each_allowed = λ p f.
        let found = in_month line small p f in
        let x = found.0 in
        let is = found.1 in
        let clear : is_clear problem member x ≡ true =
        and_from (not (is_tired_by (duties_of x) (base_of problem member))) _ (flip_false (is_tired_by (duties_of x) (base_of problem member)) (by_base p x f is))
        (and_from (not (is_tired_by (fixed_of problem member) (duties_of x))) (not (list_any (λ e. is_crossing (event_span e) (pairing_span x)) (fixed_of problem member)))
        (flip_false (is_tired_by (fixed_of problem member) (duties_of x)) (parted h duties_of (λ es. is_tired_by (fixed_of problem member) es) of_fixed line fixed_line p x f is))
        (flip_false (list_any (λ e. is_crossing (event_span e) (pairing_span x)) (fixed_of problem member)) (cross_to line (fixed_of problem member) (all_second Lasts (history_of problem member) (fixed_of problem member) sound.events) cross p x f is))) in
        and_from (option_map_or (is_clear problem member) (slice_get problem.base.pairings p) false) (not (is_decided_as node member p false))
        (rw is clear)
        (flip_false (is_decided_as node member p false) (elim (cases_Bool (is_decided_as node member p false)) [ inl d ↦ absurd (false≢true (sym (fits.obeys p false d) ∙ f)) | inr n ↦ n ]));
    all_must = λ p d. fits.obeys p true d;
    each_two = λ p q f g ne.
        let a = in_month line small p f in
        let b = in_month line small q g in
        let x = a.0 in
        let y = b.0 in
        let fit : Fit x.duties y.duties = record {
          apart = crossing_not (pairing_span x) (pairing_span y) (span_lasts x (sound.duties p x a.1)) (span_lasts y (sound.duties q y b.1)) (two_from h pairing_span Disjoint disjoint_sym line line_pairs p q x y f g ne a.1 b.1);
          first_clear = by_line q p y x g f b.1 a.1;
          second_clear = by_line p q x y f g a.1 b.1;
        } in
        rw (a.1, b.1) (follows_or x.duties y.duties (sound.duties p x a.1) (sound.duties q y b.1) fit);
  }
    where
      all_last : AllByRecursion Lasts (events_of problem member line)
      all_last =
          all_join Lasts (history_of problem member) (coming_events problem member line) (all_first Lasts (history_of problem member) (fixed_of problem member) sound.events)
          (all_join Lasts (fixed_of problem member) (duty_events (pairings_of problem line)) (all_second Lasts (history_of problem member) (fixed_of problem member) sound.events) (line_lasts line))

      tired : is_tired_by (coming_events problem member line) (events_of problem member line) ≡ false
      tired = none_tired (coming_events problem member line) (events_of problem member line) all_last fits.rested

      of_fixed : Splits (λ es. is_tired_by (fixed_of problem member) es)
      of_fixed = events_split (fixed_of problem member)

      fixed_tired : is_tired_by (fixed_of problem member) (events_of problem member line) ≡ false
      fixed_tired = (flights_split (events_of problem member line)).first (fixed_of problem member) (duty_events (pairings_of problem line)) tired

      line_tired : is_tired_by (duty_events (pairings_of problem line)) (events_of problem member line) ≡ false
      line_tired = (flights_split (events_of problem member line)).second (fixed_of problem member) (duty_events (pairings_of problem line)) tired

      fixed_line : is_tired_by (fixed_of problem member) (duty_events (pairings_of problem line)) ≡ false
      fixed_line = of_fixed.second (fixed_of problem member) (duty_events (pairings_of problem line)) (of_fixed.second (history_of problem member) (coming_events problem member line) fixed_tired)

      of_each : EachOf h line (λ x. is_tired_by (duties_of x) (events_of problem member line) ≡ false)
      of_each = parted h duties_of (λ fs. is_tired_by fs (events_of problem member line)) (flights_split (events_of problem member line)) line line_tired

      by_base : EachOf h line (λ x. is_tired_by (duties_of x) (base_of problem member) ≡ false)
      by_base n x f is =
          let s = events_split (duties_of x) in
          let t = of_each n x f is in
          s.join (history_of problem member) (fixed_of problem member) (s.first (history_of problem member) (coming_events problem member line) t) (s.first (fixed_of problem member) (duty_events (pairings_of problem line)) (s.second (history_of problem member) (coming_events problem member line) t))

      by_line : (n k : ℕ) (x y : Pairing) → is_flown line n ≡ true → is_flown line k ≡ true → h n ≡ Some x → h k ≡ Some y → is_tired_by (duties_of x) (duties_of y) ≡ false
      by_line n k x y f g p q =
          let s = events_split (duties_of x) in
          parted h duties_of (λ es. is_tired_by (duties_of x) es) s line
          (s.second (fixed_of problem member) (duty_events (pairings_of problem line)) (s.second (history_of problem member) (coming_events problem member line) (of_each n x f p))) k y g q

      pairs : PairsBy Disjoint (occupied problem member line)
      pairs = pairs_to Disjoint (occupied problem member line) (disjoint_pairs (occupied problem member line) fits.apart)

      cross : AllByRecursion (λ (a : Interval). AllByRecursion (Disjoint a) (map pairing_span (pairings_of problem line))) (map event_span (fixed_of problem member))
      cross = pairs_cross Disjoint (map event_span (fixed_of problem member)) (map pairing_span (pairings_of problem line)) pairs

      line_pairs : PairsBy Disjoint (map pairing_span (pairings_of problem line))
      line_pairs = pairs_second Disjoint (map event_span (fixed_of problem member)) (map pairing_span (pairings_of problem line)) pairs

  pub fits_from : (line : List ℕ) → is_ascending line ≡ true
      → IsApartLine (is_base_rested problem member) (may_fly problem member node) (must_fly member node) (begins_at problem) (rests_until problem) (is_flown line)
      → Fits problem member node line
  fits_from line up apart = record {
    obeys = obeys;
    apart = pairs_disjoint (occupied problem member line) (pairs_from Disjoint (occupied problem member line)
        (pairs_join Disjoint (map event_span (fixed_of problem member)) (map pairing_span (pairings_of problem line)) sound.fixed_apart
        (two_to h pairing_span Disjoint disjoint_sym 0 line up (λ n k x y a b ne p q. disjoint_from (pairing_span x) (pairing_span y) (fit n k x y a b ne p q).apart))
        cross));
    rested = all_rested (coming_events problem member line) (events_of problem member line)
        ((flights_split (events_of problem member line)).join (fixed_of problem member) (duty_events (pairings_of problem line))
        (with_events (fixed_of problem member)
        (flip_true (is_tired_by (fixed_of problem member) (base_of problem member)) apart.base_holds)
        (joined h duties_of (λ es. is_tired_by (fixed_of problem member) es) (events_split (fixed_of problem member)) line (λ n x f is. (clear n x f is).1)))
        (joined h duties_of (λ fs. is_tired_by fs (events_of problem member line)) (flights_split (events_of problem member line)) line (λ n x f is.
        with_events (duties_of x) (clear n x f is).0
        (joined h duties_of (λ es. is_tired_by (duties_of x) es) (events_split (duties_of x)) line (λ k y g at. each_clear n k x y f g is at)))));
  }
    where
      clear : (n : ℕ) (x : Pairing) → is_flown line n ≡ true → h n ≡ Some x
          → (is_tired_by (duties_of x) (base_of problem member) ≡ false) × (is_tired_by (fixed_of problem member) (duties_of x) ≡ false) × (list_any (λ e. is_crossing (event_span e) (pairing_span x)) (fixed_of problem member) ≡ false)
      clear n x f is =
          let may = and_parts (option_map_or (is_clear problem member) (slice_get problem.base.pairings n) false) (not (is_decided_as node member n false)) (apart.each_allowed n f) in
          clear_parts x (rw is at may.0)

      fit : (n k : ℕ) (x y : Pairing) → is_flown line n ≡ true → is_flown line k ≡ true → n ≢ k → h n ≡ Some x → h k ≡ Some y → Fit x.duties y.duties
      fit n k x y a b ne p q =
          fit_from_or x.duties y.duties (sound.duties n x p) (sound.duties k y q)
          (elim (apart.each_two n k a b ne) [
            | inl le ↦ inl (rw (p, q) at le)
            | inr le ↦ inr (rw (p, q) at le)
          ])

      each_clear : (n k : ℕ) (x y : Pairing) → is_flown line n ≡ true → is_flown line k ≡ true → h n ≡ Some x → h k ≡ Some y → is_tired_by (duties_of x) (duties_of y) ≡ false
      each_clear n k x y a b p q = elim (cases_Bool (n == k)) [
        | inl e ↦
            let same : n ≡ k = grind (arith, nat_tests) in
            let xy : Some x ≡ Some y = sym p ∙ ap h same ∙ q in
            let is : x ≡ y = cc in
            subst (λ (z : Pairing). is_tired_by (duties_of x) (duties_of z) ≡ false) is (own x (sound.duties n x p))
        | inr d ↦ (fit n k x y a b (λ same. let t : (n == k) ≡ true = grind (arith, nat_tests) in false≢true (sym d ∙ t)) p q).second_clear
      ]
        where
          own : (x : Pairing) → AreDuties x.duties → is_tired_by (duties_of x) (duties_of x) ≡ false
          own x s = go x.duties s
            where
              go : (ds : List Duty) → AreDuties ds → is_tired_by (map duty_event ds) (map duty_event ds) ≡ false
              go [] s = absurd s
              go (d ∷ ds) s = self_clear (d ∷ ds) s

      with_events : (flights : List Event) → is_tired_by flights (base_of problem member) ≡ false → is_tired_by flights (duty_events (pairings_of problem line)) ≡ false → is_tired_by flights (events_of problem member line) ≡ false
      with_events flights a b =
          let s = events_split flights in
          s.join (history_of problem member) (coming_events problem member line) (s.first (history_of problem member) (fixed_of problem member) a)
          (s.join (fixed_of problem member) (duty_events (pairings_of problem line)) (s.second (history_of problem member) (fixed_of problem member) a) b)

      cross : AllByRecursion (λ (a : Interval). AllByRecursion (Disjoint a) (map pairing_span (pairings_of problem line))) (map event_span (fixed_of problem member))
      cross = cross_from line (fixed_of problem member) (λ n x f is. (clear n x f is).2)

      obeys : Obeys node member line
      obeys p true d = apart.all_must p d
      obeys p false d = elim (cases_Bool (is_flown line p)) [
        | inl f ↦
            let may = and_parts (option_map_or (is_clear problem member) (slice_get problem.base.pairings p) false) (not (is_decided_as node member p false)) (apart.each_allowed p f) in
            absurd (false≢true (sym (flip_true (is_decided_as node member p false) may.1) ∙ d))
        | inr n ↦ n
      ]
