-- The flights of a line, stop by stop.
use Rattle.std.proofs.Common.{◌≡◌, ℕ, ◌+◌, ◌-◌, ◌<◌, ◌≤◌, Bool, true, false, ◌&&◌, List, [], ◌∷◌, ◌++◌, Option, length, refl, ap, sym, ◌∙◌, subst, arith, inl, inr, ◌⊎◌, ◌==◌}
use Rattle.std.specs.Prelude.{filter, map, slice_get, Contains, if◌then◌else◌}
use Rattle.std.specs.List.{AllByRecursion}
use Rattle.std.proofs.lemmas.Bool.{cases_lt, false≢true, true≢false}
use Rattle.std.proofs.lemmas.Bool.Decides.{nat_tests}
use Rattle.std.proofs.lemmas.List.Elements.{recursion_from_All, All-from_recursion, All-filter, All-contains, All-contains_itself, filter_passes}
use Rattle.std.proofs.lemmas.Option.{slice_get_within}
use Rattle.duty_calendar.specs.declared.event.Event.{Event}
use Rattle.duty_calendar.specs.declared.event.Kind.{Kind}
use Rattle.duty_calendar.specs.declared.event.Kind.TheVariants.{Flight, Ground, Leave}
use Rattle.duty_calendar.specs.declared.interval.Interval.{Interval}
use Rattle.duty_calendar.specs.declared.pairing.Duty.{Duty}
use Rattle.duty_calendar.specs.declared.pairing.Pairing.{Pairing}
use Rattle.duty_calendar.specs.Limits.{IsRested}
use Rattle.duty_calendar.specs.Minutes.{is_between, is_duty, is_flight, has_duty}
use Rattle.roster_model.specs.declared.problem.Problem.{Problem}
use Rattle.roster_model.specs.declared.node.Decision.{Decision}
use Rattle.roster_model.specs.declared.proof.Lens.{Lens}
use Rattle.roster_model.specs.Spans.{duty_event, duty_events, first_report, last_release, pairing_span, event_span}
use Rattle.roster_model.specs.Timelines.{history_of, fixed_of, events_of, coming_events, pairings_of}
use Rattle.line_items.specs.Clear.{duties_of}
use Rattle.line_items.specs.Items.{visited_flights, item_begins, item_rests, item_span}
use Rattle.line_items.specs.NightRows.{released_after, item_flights, past_flights}
use Rattle.line_items.proofs.Fitting.{IsSoundMonth}
use Rattle.line_items.proofs.Following.{AreDuties, InOrder, Within, within}
use Rattle.line_items.proofs.FreeChain.{from_reads, pairing_at}
use Rattle.line_items.proofs.FreeChain.{AtPairing, AtFlight, IsStop, stop_at, pairing_begins, pairing_rests, flight_begins, flight_rests, flights_are, flight_has, flight_lasts, sound_at, in_history, rested_first, late_first, follows}
use Rattle.line_items.proofs.FreeMinutes.{of_filter, each_flat, duties_late, history_early, fixed_late}
use Rattle.line_items.proofs.FreeMinutes.{at_pairing, at_flight, at_none}
use Rattle.line_items.proofs.LineParts.{PairsBy, pairs_to, pairs_join, all_join, all_first, all_second}
use Rattle.line_items.proofs.LineParts.{all_flat}
use Rattle.line_items.proofs.NightOrder.{AreFlights, HaveFlights, Precedes}
use Rattle.line_items.proofs.Resting.{Lasts, none_parts}
use Rattle.line_items.proofs.Visited.{IsVisited}
use Rattle.line_items.proofs.Visits.{above, in_end, or_parts, or_left_true, or_right_true, eq_from, eq_to}
use Rattle.line_items.proofs.Walking.{is_in_list, ascends}

-- within two times
pub record Between (low high : ℕ) (e : Event) : Type 0 where
  pub after : low ≤ e.report
  pub before : e.release ≤ high

all_map : {X : Type 0} (P Q : X → Type 0) (xs : List X) → ((x : X) → P x → Q x) → AllByRecursion P xs → AllByRecursion Q xs
all_map P Q [] f all = tt
all_map P Q (x ∷ xs) f all = (f x all.0, all_map P Q xs f all.1)

-- pairs of the elements that pass
pairs_filter : {X : Type 0} (R : X → X → Type 0) (t : X → Bool) (xs : List X) → PairsBy R xs → PairsBy R (filter t xs)
pairs_filter R t [] pairs = tt
pairs_filter {X} R t (x ∷ xs) pairs = go (t x) (kept xs pairs.0) (pairs_filter R t xs pairs.1)
  where
    kept : (ys : List X) → AllByRecursion (R x) ys → AllByRecursion (R x) (filter t ys)
    kept ys all = recursion_from_All (R x) (filter t ys) (All-filter t (R x) ys (All-from_recursion (R x) ys all))

    go : (b : Bool) → AllByRecursion (R x) (filter t xs) → PairsBy R (filter t xs) → PairsBy R (if b then x ∷ filter t xs else filter t xs)
    go true first rest = (first, rest)
    go false first rest = rest

-- the duties of a pairing are flights that follow one another
duties_fly : (ds : List Duty) → AllByRecursion (λ (e : Event). is_flight e.kind ≡ true) (map duty_event ds)
duties_fly [] = tt
duties_fly (d ∷ ds) = (refl, duties_fly ds)

duties_order : (ds : List Duty) → InOrder ds → PairsBy Precedes (map duty_event ds)
duties_order [] order = tt
duties_order (d ∷ ds) order = (later ds order.1, duties_order ds order.2)
  where
    later : (es : List Duty) → AllByRecursion (λ (e : Duty). d.release + 600 ≤ e.report) es → AllByRecursion (Precedes (duty_event d)) (map duty_event es)
    later [] all = tt
    later (e ∷ es) all = (let a = all.0 in omega arith, later es all.1)

duties_last : (ds : List Duty) → InOrder ds → AllByRecursion (λ (e : Event). e.report < e.release) (map duty_event ds)
duties_last [] order = tt
duties_last (d ∷ ds) order = (order.0, duties_last ds order.2)

duties_within : (low high : ℕ) (ds : List Duty) → AllByRecursion (Within low high) ds → AllByRecursion (Between low high) (map duty_event ds)
duties_within low high [] all = tt
duties_within low high (d ∷ ds) all = (record { after = all.0.after; before = all.0.before }, duties_within low high ds all.1)

duties_released : (released : ℕ) (d : Duty) (ds : List Duty) → released_after released (map duty_event (d ∷ ds)) ≡ last_release (d ∷ ds)
duties_released released d [] = refl
duties_released released d (e ∷ es) = duties_released d.release e es

module _ (problem : Problem) (member : ℕ) (node : List Decision) (lens : Lens) (adds : ℕ → ℕ) (sink : ℕ) (line js : List ℕ)
    (sound : IsSoundMonth problem member) (visited : IsVisited problem member node lens adds sink line js) (on : lens.free30 ≡ true) where
  abbrev h : ℕ → Option Pairing
  h = slice_get problem.base.pairings

  abbrev events : List Event
  events = events_of problem member line

  abbrev flown : List Event
  flown = duty_events (pairings_of problem line)

  abbrev begins : ℕ → ℕ
  begins k = item_begins problem member lens (adds k)

  abbrev rests : ℕ → ℕ
  rests k = item_rests problem member lens (adds k)

  abbrev ends : ℕ → ℕ
  ends k = (item_span problem member lens (adds k)).stop

  abbrev flights : ℕ → List Event
  flights k = item_flights problem member lens (adds k)

  abbrev Stop : ℕ → Type 0
  Stop k = IsStop problem member node lens adds sink line js sound visited on k

  abbrev PairingAt : ℕ → Pairing → Type 0
  PairingAt k x = AtPairing problem member node lens adds sink line js sound visited on k x

  abbrev FlightAt : ℕ → Event → Type 0
  FlightAt k e = AtFlight problem member node lens adds sink line js sound visited on k e

  -- what is known of the flights of a stop
  pub record IsNightStop (k : ℕ) : Type 0 where
    pub first : Event
    pub others : List Event
    pub are : item_flights problem member lens (adds k) ≡ first ∷ others
    pub begun : first.report ≡ item_begins problem member lens (adds k)
    pub released : released_after 0 (first ∷ others) ≡ (item_span problem member lens (adds k)).stop
    pub row : AreFlights (first ∷ others)
    pub late : AllByRecursion (λ (e : Event). 525600 ≤ e.report) (first ∷ others)
    pub within : AllByRecursion (Between (item_begins problem member lens (adds k)) (item_span problem member lens (adds k)).stop) (first ∷ others)
    pub rested : (item_span problem member lens (adds k)).stop ≤ item_rests problem member lens (adds k)

  pairing_flights : (k : ℕ) (x : Pairing) → PairingAt k x → flights k ≡ duties_of x
  pairing_flights k x at = at_pairing problem member lens duties_of (λ e. e ∷ []) [] (adds k) x at.number at.is

  pairing_ends : (k : ℕ) (x : Pairing) → PairingAt k x → ends k ≡ last_release x.duties
  pairing_ends k x at = ap (λ (s : Interval). s.stop) (at_pairing problem member lens pairing_span event_span (record { start = 0; stop = 0 }) (adds k) x at.number at.is)

  flight_flights : (k : ℕ) (e : Event) → FlightAt k e → flights k ≡ e ∷ []
  flight_flights k e at = at_flight problem member lens duties_of (λ e. e ∷ []) [] (adds k) e at.past at.is

  flight_ends : (k : ℕ) (e : Event) → FlightAt k e → ends k ≡ e.release
  flight_ends k e at = ap (λ (s : Interval). s.stop) (at_flight problem member lens pairing_span event_span (record { start = 0; stop = 0 }) (adds k) e at.past at.is)

  of_pairing : (k : ℕ) (x : Pairing) → PairingAt k x → IsNightStop k
  of_pairing k x at = go x.duties refl (sound_at problem member node lens adds sink line js sound visited on k x at)
    where
      b : begins k ≡ first_report x.duties
      b = pairing_begins problem member node lens adds sink line js sound visited on k x at

      r : rests k ≡ last_release x.duties + 600
      r = pairing_rests problem member node lens adds sink line js sound visited on k x at

      e : ends k ≡ last_release x.duties
      e = pairing_ends k x at

      go : (ds : List Duty) → x.duties ≡ ds → AreDuties ds → IsNightStop k
      go [] same sound_ds = absurd sound_ds
      go (d ∷ ds) same order =
          let b_is : begins k ≡ d.report = b ∙ ap first_report same in
          let e_is : ends k ≡ last_release (d ∷ ds) = e ∙ ap last_release same in
          let late = subst (λ (es : List Event). AllByRecursion (λ (f : Event). 525600 ≤ f.report) es) (ap (λ (es : List Duty). map duty_event es) same) (duties_late problem (adds k) x at.is) in
          record {
            first = duty_event d;
            others = map duty_event ds;
            are = pairing_flights k x at ∙ ap (λ (es : List Duty). map duty_event es) same;
            begun = sym b_is;
            released = duties_released 0 d ds ∙ sym e_is;
            row = record { lasts = duties_last (d ∷ ds) order; fly = duties_fly (d ∷ ds); order = duties_order (d ∷ ds) order };
            late = late;
            within =
                subst (λ (n : ℕ). AllByRecursion (Between n (ends k)) (map duty_event (d ∷ ds))) (sym b_is)
                (subst (λ (n : ℕ). AllByRecursion (Between d.report n) (map duty_event (d ∷ ds))) (sym e_is) (duties_within d.report (last_release (d ∷ ds)) (d ∷ ds) (within d ds order)));
            rested = omega (arith, e, r);
          }

  of_flight : (k : ℕ) (e : Event) → FlightAt k e → IsNightStop k
  of_flight k e at =
      let b : begins k ≡ e.report = flight_begins problem member node lens adds sink line js sound visited on k e at in
      let r : rests k ≡ e.release = flight_rests problem member node lens adds sink line js sound visited on k e at in
      let s : ends k ≡ e.release = flight_ends k e at in
      let lasts = flight_lasts problem member node lens adds sink line js sound visited on k e at in
      let had = flight_has problem member node lens adds sink line js sound visited on (λ (x : Event). 525600 ≤ x.report) (fixed_late problem member) (adds k - length problem.base.pairings) e at.is in
      record {
        first = e;
        others = [];
        are = flight_flights k e at;
        begun = sym b;
        released = sym s;
        row = record { lasts = (lasts, tt); fly = (had.1, tt); order = (tt, tt) };
        late = (had.0, tt);
        within = (record { after = omega (arith, b); before = omega (arith, s) }, tt);
        rested = omega (arith, s, r);
      }

  pub night_stop : (k : ℕ) → Stop k → IsNightStop k
  night_stop k stop = elim (stop_at problem member node lens adds sink line js sound visited on k stop) [
    | inl p ↦ of_pairing k p.0 p.1
    | inr f ↦ of_flight k f.0 f.1
  ]

  -- the flights of some stops, one stop after another
  abbrev pub flights_on : List ℕ → List Event
  flights_on [] = []
  flights_on (k ∷ ks) = item_flights problem member lens (adds k) ++ flights_on ks

  -- the sink has none
  pub sink_flights : item_flights problem member lens (adds sink) ≡ []
  sink_flights = at_none problem member lens duties_of (λ e. e ∷ []) [] (adds sink) visited.placed.last

  pub sink_begins : item_begins problem member lens (adds sink) ≡ 0
  sink_begins = at_none problem member lens (λ p. first_report p.duties) (λ e. e.report) 0 (adds sink) visited.placed.last

  -- a stop or the sink
  pub within_line : (k : ℕ) → is_in_list js k ≡ true → (Stop k) ⊎ (k ≡ sink)
  within_line k inside = elim (cases_lt k sink) [
    | inl lt ↦ inl (record { inside = inside; before = lt })
    | inr le ↦
        let most = in_end 0 js visited.up k inside in
        let last = visited.ends in
        inr (omega arith)
  ]

  -- of all flights of the stops
  each_on : (P : Event → Type 0) (ks : List ℕ) → ((k : ℕ) → is_in_list ks k ≡ true → is_in_list js k ≡ true)
      → ((k : ℕ) → Stop k → AllByRecursion P (flights k)) → AllByRecursion P (flights_on ks)
  each_on P [] some each = tt
  each_on P (k ∷ ks) some each =
      all_join P (flights k) (flights_on ks)
      (elim (within_line k (some k (or_left_true (k == k) (is_in_list ks k) (eq_to k k refl)))) [
        | inl stop ↦ each k stop
        | inr last ↦ subst (λ (es : List Event). AllByRecursion P es) (sym (ap (λ (n : ℕ). flights n) last ∙ sink_flights)) tt
      ])
      (each_on P ks (λ n m. some n (or_right_true (k == n) (is_in_list ks n) m)) each)

  on_each : (P : Event → Type 0) (ks : List ℕ) → AllByRecursion P (flights_on ks) → (k : ℕ) → is_in_list ks k ≡ true → AllByRecursion P (flights k)
  on_each P [] all k inside = absurd (false≢true inside)
  on_each P (j ∷ ks) all k inside = elim (or_parts (j == k) (is_in_list ks k) inside) [
    | inl here ↦ subst (λ (n : ℕ). AllByRecursion P (flights n)) (eq_from j k here) (all_first P (flights j) (flights_on ks) all)
    | inr later ↦ on_each P ks (all_second P (flights j) (flights_on ks) all) k later
  ]

  abbrev past : List Event
  past = past_flights problem member

  -- all flights of the line, as they follow one another
  abbrev pub line_flights : List Event
  line_flights = past_flights problem member ++ flights_on js

  of_row : (k : ℕ) (n : IsNightStop k) → AreFlights (flights k)
  of_row k n = subst AreFlights (sym n.are) n.row

  between_at : (k : ℕ) (n : IsNightStop k) → AllByRecursion (Between (begins k) (ends k)) (flights k)
  between_at k n = subst (λ (es : List Event). AllByRecursion (Between (begins k) (ends k)) es) (sym n.are) n.within

  pub late_on : AllByRecursion (λ (e : Event). 525600 ≤ e.report) (flights_on js)
  late_on = each_on (λ (e : Event). 525600 ≤ e.report) js (λ k m. m) (λ k stop. let n = night_stop k stop in subst (λ (es : List Event). AllByRecursion (λ (e : Event). 525600 ≤ e.report) es) (sym n.are) n.late)

  pub early_past : AllByRecursion (λ (e : Event). e.report < 525600) (past_flights problem member)
  early_past =
      recursion_from_All (λ (e : Event). e.report < 525600) past
      (All-filter (λ e. is_flight e.kind) (λ (e : Event). e.report < 525600) (history_of problem member)
      (All-from_recursion (λ (e : Event). e.report < 525600) (history_of problem member) (history_early problem member)))

  -- the stops in order
  order_on : (ks : List ℕ) (i : ℕ) → ascends i ks → ((k : ℕ) → is_in_list ks k ≡ true → is_in_list js k ≡ true) → PairsBy Precedes (flights_on ks)
  order_on [] i up some = tt
  order_on (k ∷ ks) i up some =
      elim (within_line k (some k (or_left_true (k == k) (is_in_list ks k) (eq_to k k refl)))) [
        | inl stop ↦
            let n = night_stop k stop in
            pairs_join Precedes (flights k) (flights_on ks) (of_row k n).order (order_on ks k up.1 rest)
            (all_map (Between (begins k) (ends k)) (λ (e : Event). AllByRecursion (Precedes e) (flights_on ks)) (flights k)
            (λ e b. behind e b stop n) (between_at k n))
        | inr last ↦
            subst (λ (es : List Event). PairsBy Precedes (es ++ flights_on ks)) (sym (ap (λ (m : ℕ). flights m) last ∙ sink_flights)) (order_on ks k up.1 rest)
      ]
    where
      rest : (m : ℕ) → is_in_list ks m ≡ true → is_in_list js m ≡ true
      rest m inside = some m (or_right_true (k == m) (is_in_list ks m) inside)

      behind : (e : Event) → Between (begins k) (ends k) e → Stop k → IsNightStop k → AllByRecursion (Precedes e) (flights_on ks)
      behind e b stop n = go ks (λ m inside. inside)
        where
          go : (ms : List ℕ) → ((m : ℕ) → is_in_list ms m ≡ true → is_in_list ks m ≡ true) → AllByRecursion (Precedes e) (flights_on ms)
          go [] within_ks = tt
          go (m ∷ ms) within_ks =
              let in_ks = within_ks m (or_left_true (m == m) (is_in_list ms m) (eq_to m m refl)) in
              let lt = above k ks up.1 m in_ks in
              all_join (Precedes e) (flights m) (flights_on ms)
              (elim (within_line m (rest m in_ks)) [
                | inl other ↦
                    let far = follows problem member node lens adds sink line js sound visited on k m stop other lt in
                    let rested = n.rested in
                    let before = b.before in
                    all_map (Between (begins m) (ends m)) (Precedes e) (flights m) (λ f c. let after = c.after in omega arith) (between_at m (night_stop m other))
                | inr last ↦ subst (λ (es : List Event). AllByRecursion (Precedes e) es) (sym (ap (λ (x : ℕ). flights x) last ∙ sink_flights)) tt
              ])
              (go ms (λ x inside. within_ks x (or_right_true (m == x) (is_in_list ms x) inside)))

  -- a rested report comes after all flights before the month
  past_over : (report : ℕ) → 525600 ≤ report → IsRested events report → AllByRecursion (λ (e : Event). e.release ≤ report) past
  past_over report late rested =
      let quiet = in_history problem member node lens adds sink line js sound visited on (report - 1) (rested (report - 1) (omega arith) (omega arith)) in
      let each = none_parts (λ (e : Event). has_duty e (report - 1)) (history_of problem member) quiet in
      let fine = both (history_of problem member) each (history_early problem member) in
      over (recursion_from_All (λ (e : Event). is_flight e.kind ≡ true → e.release ≤ report) past
      (All-filter (λ e. is_flight e.kind) (λ (e : Event). is_flight e.kind ≡ true → e.release ≤ report) (history_of problem member)
      (All-from_recursion (λ (e : Event). is_flight e.kind ≡ true → e.release ≤ report) (history_of problem member) fine)))
    where
      gone : (a b : ℕ) → a < 525600 → is_between a b (report - 1) ≡ false → b ≤ report
      gone a b early none = elim (cases_lt report b) [
        | inl lt ↦
            let inside : is_between a b (report - 1) ≡ true = here a b (report - 1) (omega arith) (omega arith) in
            absurd (true≢false (sym inside ∙ none))
        | inr le ↦ le
      ]
        where
          here : (a b m : ℕ) → a ≤ m → m < b → is_between a b m ≡ true
          here a b m low high = grind (arith, nat_tests)

      one : (e : Event) (k : Kind) → is_flight k ≡ true → (is_duty k && is_between e.report e.release (report - 1)) ≡ false → e.report < 525600 → e.release ≤ report
      one e Flight flies none early = gone e.report e.release early none
      one e Ground flies none early = absurd (false≢true flies)
      one e Leave flies none early = absurd (false≢true flies)

      both : (es : List Event) → AllByRecursion (λ (e : Event). has_duty e (report - 1) ≡ false) es → AllByRecursion (λ (e : Event). e.report < 525600) es
          → AllByRecursion (λ (e : Event). is_flight e.kind ≡ true → e.release ≤ report) es
      both [] none early = tt
      both (e ∷ es) none early = (λ flies. one e e.kind flies none.0 early.0, both es none.1 early.1)

      passes : AllByRecursion (λ (e : Event). is_flight e.kind ≡ true) past
      passes = recursion_from_All (λ (e : Event). is_flight e.kind ≡ true) past (filter_passes (λ e. is_flight e.kind) (history_of problem member))

      apply : (es : List Event) → AllByRecursion (λ (e : Event). is_flight e.kind ≡ true) es → AllByRecursion (λ (e : Event). is_flight e.kind ≡ true → e.release ≤ report) es → AllByRecursion (λ (e : Event). e.release ≤ report) es
      apply [] p q = tt
      apply (e ∷ es) p q = (q.0 p.0, apply es p.1 q.1)

      over : AllByRecursion (λ (e : Event). is_flight e.kind ≡ true → e.release ≤ report) past → AllByRecursion (λ (e : Event). e.release ≤ report) past
      over all = apply past passes all

  rested_at : (k : ℕ) → Stop k → (IsRested events (begins k)) × (525600 ≤ begins k)
  rested_at k stop = elim (stop_at problem member node lens adds sink line js sound visited on k stop) [
    | inl p ↦
        let b : begins k ≡ first_report p.0.duties = pairing_begins problem member node lens adds sink line js sound visited on k p.0 p.1 in (
          subst (IsRested events) (sym b) (rested_first problem member node lens adds sink line js sound visited on k p.0 p.1),
          let l = late_first problem member node lens adds sink line js sound visited on k p.0 p.1 in omega arith,
        )
    | inr f ↦
        let b : begins k ≡ f.0.report = flight_begins problem member node lens adds sink line js sound visited on k f.0 f.1 in
        let R : Event → Type 0 = λ e. is_flight e.kind ≡ true → IsRested events e.report in
        let had = flight_has problem member node lens adds sink line js sound visited on R
        (all_first R (fixed_of problem member) flown (recursion_from_All R (coming_events problem member line) visited.fit.fits.rested))
        (adds k - length problem.base.pairings) f.0 f.1.is in
        let late = flight_has problem member node lens adds sink line js sound visited on (λ (x : Event). 525600 ≤ x.report) (fixed_late problem member) (adds k - length problem.base.pairings) f.0 f.1.is in
        (subst (IsRested events) (sym b) (had.0 had.1), let l = late.0 in omega arith)
  ]

  pub line_row : AreFlights line_flights
  line_row = record {
    lasts =
        all_join (λ (e : Event). e.report < e.release) past (flights_on js)
        (recursion_from_All (λ (e : Event). e.report < e.release) past
        (All-filter (λ e. is_flight e.kind) (λ (e : Event). e.report < e.release) (history_of problem member)
        (All-from_recursion (λ (e : Event). e.report < e.release) (history_of problem member)
        (all_map Lasts (λ (e : Event). e.report < e.release) (history_of problem member) (λ e l. l.lasts) (all_first Lasts (history_of problem member) (fixed_of problem member) sound.events)))))
        (each_on (λ (e : Event). e.report < e.release) js (λ k m. m) (λ k stop. (of_row k (night_stop k stop)).lasts));
    fly =
        all_join (λ (e : Event). is_flight e.kind ≡ true) past (flights_on js)
        (recursion_from_All (λ (e : Event). is_flight e.kind ≡ true) past (filter_passes (λ e. is_flight e.kind) (history_of problem member)))
        (each_on (λ (e : Event). is_flight e.kind ≡ true) js (λ k m. m) (λ k stop. (of_row k (night_stop k stop)).fly));
    order =
        pairs_join Precedes past (flights_on js)
        (pairs_filter Precedes (λ e. is_flight e.kind) (history_of problem member) (pairs_to Precedes (history_of problem member) sound.past_order))
        (order_on js 0 visited.up (λ k m. m))
        (crossed past (λ k stop. past_over (begins k) (rested_at k stop).1 (rested_at k stop).0));
  }
    where
      crossed : (es : List Event) → ((k : ℕ) → Stop k → AllByRecursion (λ (e : Event). e.release ≤ begins k) es) → AllByRecursion (λ (e : Event). AllByRecursion (Precedes e) (flights_on js)) es
      crossed [] each = tt
      crossed (e ∷ es) each = (
        each_on (Precedes e) js (λ k m. m) (λ k stop.
            let over = (each k stop).0 in
            all_map (Between (begins k) (ends k)) (Precedes e) (flights k) (λ f b. let after = b.after in omega arith) (between_at k (night_stop k stop))),
        crossed es (λ k stop. (each k stop).1),
      )

  -- what holds of all flights of the line holds of those in order, and the other way round
  abbrev IfFlown : (Event → Type 0) → Event → Type 0
  IfFlown P e = is_flight e.kind ≡ true → P e

  onto_line : (P : Event → Type 0) → AllByRecursion (IfFlown P) events → AllByRecursion P line_flights
  onto_line P all =
      all_join P past (flights_on js)
      (apply past (recursion_from_All (λ (e : Event). is_flight e.kind ≡ true) past (filter_passes (λ e. is_flight e.kind) (history_of problem member)))
      (recursion_from_All (IfFlown P) past
      (All-filter (λ e. is_flight e.kind) (IfFlown P) (history_of problem member) (All-from_recursion (IfFlown P) (history_of problem member) (all_first (IfFlown P) (history_of problem member) (coming_events problem member line) all)))))
      (each_on P js (λ k m. m) (λ k stop. elim (stop_at problem member node lens adds sink line js sound visited on k stop) [
        | inl p ↦
            subst (λ (es : List Event). AllByRecursion P es) (sym (pairing_flights k p.0 p.1))
            (apply (duties_of p.0) (duties_fly p.0.duties)
            (each_flat h duties_of (IfFlown P) line (all_second (IfFlown P) (fixed_of problem member) flown coming) (adds k) p.0 p.1.in_line p.1.is))
        | inr f ↦
            let had = flight_has problem member node lens adds sink line js sound visited on (IfFlown P) (all_first (IfFlown P) (fixed_of problem member) flown coming) (adds k - length problem.base.pairings) f.0 f.1.is in
            subst (λ (es : List Event). AllByRecursion P es) (sym (flight_flights k f.0 f.1)) (had.0 had.1, tt)
      ]))
    where
      coming : AllByRecursion (IfFlown P) (coming_events problem member line)
      coming = all_second (IfFlown P) (history_of problem member) (coming_events problem member line) all

      apply : (es : List Event) → AllByRecursion (λ (e : Event). is_flight e.kind ≡ true) es → AllByRecursion (IfFlown P) es → AllByRecursion P es
      apply [] p q = tt
      apply (e ∷ es) p q = (q.0 p.0, apply es p.1 q.1)

  from_line : (P : Event → Type 0) → AllByRecursion P line_flights → AllByRecursion (IfFlown P) events
  from_line P all =
      all_join (IfFlown P) (history_of problem member) (coming_events problem member line)
      (of_filter (λ e. is_flight e.kind) P (history_of problem member) (all_first P past (flights_on js) all))
      (all_join (IfFlown P) (fixed_of problem member) flown
      (of_filter (λ e. is_flight e.kind) P (fixed_of problem member)
      (subst (λ (es : List Event). AllByRecursion P es) (flights_are problem member node lens adds sink line js sound visited on)
      (from_reads P (visited_flights problem member lens) (λ n e is.
      let few = slice_get_within (visited_flights problem member lens) n e is in
      let k = visited.flights (length problem.base.pairings + n) (omega arith) (omega arith) in
      let same : adds k.0 ≡ length problem.base.pairings + n = k.2 in
      let read : adds k.0 - length problem.base.pairings ≡ n = omega arith in
      let at : FlightAt k.0 e = record { past = omega arith; is = ap (λ (i : ℕ). slice_get (visited_flights problem member lens) i) read ∙ is } in
      (subst (λ (es : List Event). AllByRecursion P es) (flight_flights k.0 e at) (on_each P js stops k.0 k.1)).0))))
      (all_flat h duties_of (IfFlown P) line (λ n x f is.
      let k = pairing_at problem member node lens adds sink line js sound visited on n x f is in
      all_map P (IfFlown P) (duties_of x) (λ e p flies. p)
      (subst (λ (es : List Event). AllByRecursion P es) (pairing_flights k.0 x k.2) (on_each P js stops k.0 k.1.inside)))))
    where
      stops : AllByRecursion P (flights_on js)
      stops = all_second P past (flights_on js) all

  pub same_flights : HaveFlights events line_flights
  same_flights = record {
    to = λ e flies inside.
        (All-contains (IfFlown (Contains line_flights)) events e
        (All-from_recursion (IfFlown (Contains line_flights)) events
        (from_line (Contains line_flights) (recursion_from_All (Contains line_flights) line_flights (All-contains_itself line_flights)))) inside) flies;
    back = λ e flies inside.
        All-contains (Contains events) line_flights e
        (All-from_recursion (Contains events) line_flights
        (onto_line (Contains events) (all_map (Contains events) (IfFlown (Contains events)) events (λ e c flies. c) (recursion_from_All (Contains events) events (All-contains_itself events))))) inside;
  }
