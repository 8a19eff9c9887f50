-- The nights in a row run along a line's stops exactly where none of its flights of the month is a fourth night.
use Rattle.std.proofs.Common.{◌≡◌, ℕ, ◌+◌, ◌≤◌, Bool, true, false, ◌&&◌, List, [], ◌∷◌, ◌++◌, Option, Some, None, refl, ap, sym, ◌∙◌, subst, arith, inl, inr, ◌⊎◌, ◌==◌}
use Rattle.std.specs.Prelude.{nat_lt, nat_le, if◌then◌else◌}
use Rattle.std.proofs.lemmas.Bool.{and_parts, cases_Bool}
use Rattle.std.proofs.lemmas.Bool.Decides.{nat_tests}
use Rattle.duty_calendar.specs.declared.event.Event.{Event}
use Rattle.duty_calendar.specs.declared.interval.Interval.{Interval}
use Rattle.duty_calendar.specs.Nights.{KeepsNights}
use Rattle.label_lattice.specs.declared.runs.Run.{Run}
use Rattle.label_lattice.specs.declared.runs.RunStep.{RunStep}
use Rattle.label_lattice.specs.Run.{run_extend}
use Rattle.roster_model.specs.declared.problem.Problem.{Problem}
use Rattle.roster_model.specs.declared.node.Decision.{Decision}
use Rattle.roster_model.specs.declared.proof.Lens.{Lens}
use Rattle.roster_model.specs.Spans.{last_release, pairing_span, event_span}
use Rattle.roster_model.specs.Timelines.{events_of}
use Rattle.line_items.specs.Items.{item_begins, item_span}
use Rattle.line_items.specs.NightRows.{nights_after, released_after, stays_short, item_flights, past_flights, past_row, past_until, night_until, night_start}
use Rattle.line_items.proofs.Completing.{Completes, still}
use Rattle.line_items.proofs.Fitting.{IsSoundMonth}
use Rattle.line_items.proofs.FreeChain.{IsStop, stop_at}
use Rattle.line_items.proofs.FreeMinutes.{picked, refused}
use Rattle.line_items.proofs.FreeMinutes.{at_pairing, at_flight, at_none}
use Rattle.line_items.proofs.ItemSteps.{night_step}
use Rattle.line_items.proofs.NightItems.{soon_step, alone_step, run_to, soon_run, alone_run, short_row, short_more, short_from_three}
use Rattle.line_items.proofs.NightOrder.{short_from, short_to}
use Rattle.line_items.proofs.NightOrder.{short_early, short_late, keeps_short, same_nights, other_way}
use Rattle.line_items.proofs.NightStops.{IsNightStop, night_stop, flights_on, line_flights, line_row, same_flights, early_past, late_on, sink_flights}
use Rattle.line_items.proofs.Visited.{IsVisited}
use Rattle.line_items.proofs.Visits.{in_end, or_left_true, or_right_true, eq_to}
use Rattle.line_items.proofs.Walking.{is_in_list, ascends}
use Rattle.line_items.proofs.Walks.{and_then, run, along, end_of}

no_clash : {Q : Type 0} (r : Run) → ◌≡◌ {A = Option Run} None (Some r) → Q
no_clash r e = cc

module _ (problem : Problem) (member : ℕ) (node : List Decision) (lens : Lens) (adds : ℕ → ℕ) (sink : ℕ) (line js : List ℕ)
    (sound : IsSoundMonth problem member) (visited : IsVisited problem member node lens adds sink line js) (on : lens.free30 ≡ true) where
  abbrev begins : ℕ → ℕ
  begins k = item_begins problem member lens (adds k)

  abbrev ends : ℕ → ℕ
  ends k = (item_span problem member lens (adds k)).stop

  abbrev until : ℕ → ℕ
  until k = night_until problem member lens (adds k)

  abbrev flights : ℕ → List Event
  flights k = item_flights problem member lens (adds k)

  abbrev step : ℕ → ℕ → RunStep
  step = night_step problem member lens adds

  abbrev Stop : ℕ → Type 0
  Stop k = IsStop problem member node lens adds sink line js sound visited on k

  abbrev NightStop : ℕ → Type 0
  NightStop k = IsNightStop problem member node lens adds sink line js sound visited on k

  abbrev fly_on : List ℕ → List Event
  fly_on ks = flights_on problem member node lens adds sink line js sound visited on ks

  abbrev Runs : ℕ → ℕ → List ℕ → Type 0
  Runs n i ks = Completes {E = Unit {0}} run_extend (λ _ _. true) (record { value = n }) tt (along (night_step problem member lens adds) i ks)

  step_is : (i j : ℕ) → step i j ≡ (if nat_lt (begins j) (until i + 1800)
      then soon_step (begins j) (flights j) else alone_step (flights j))
  step_is i j =
      picked lens.free30
      (if nat_lt (begins j) (until i + 1800) then soon_step (begins j) (flights j) else alone_step (flights j))
      (record { lead = 0; reset = None; cap = 0 }) on

  -- the end of a stop
  until_stop : (k : ℕ) → Stop k → until k ≡ ends k
  until_stop k stop = elim (stop_at problem member node lens adds sink line js sound visited on k stop) [
    | inl p ↦
        at_pairing problem member lens (λ p. last_release p.duties) (λ e. e.release) (past_until problem member) (adds k) p.0 p.1.number p.1.is
        ∙ sym (ap (λ (s : Interval). s.stop) (at_pairing problem member lens pairing_span event_span (record { start = 0; stop = 0 }) (adds k) p.0 p.1.number p.1.is))
    | inr f ↦
        at_flight problem member lens (λ p. last_release p.duties) (λ e. e.release) (past_until problem member) (adds k) f.0 f.1.past f.1.is
        ∙ sym (ap (λ (s : Interval). s.stop) (at_flight problem member lens pairing_span event_span (record { start = 0; stop = 0 }) (adds k) f.0 f.1.past f.1.is))
  ]

  until_source : until 0 ≡ past_until problem member
  until_source = at_none problem member lens (λ p. last_release p.duties) (λ e. e.release) (past_until problem member) (adds 0) visited.placed.source

  -- the step to a stop
  runs_stop : (i j n : ℕ) → NightStop j → n ≤ 3
      → run_extend (record { value = n }) (step i j) ≡ run_to (stays_short n (until i) (flights j)) (nights_after n (until i) (flights j))
  runs_stop i j n stop few = elim (cases_Bool (nat_lt (begins j) (until i + 1800))) [
    | inl soon ↦
        ap (run_extend (record { value = n })) (step_is i j)
        ∙ ap (λ (b : Bool). run_extend (record { value = n }) (if b then soon_step (begins j) (flights j) else alone_step (flights j))) soon
        ∙ subst (λ (es : List Event). run_extend (record { value = n }) (soon_step (begins j) es) ≡ run_to (stays_short n (until i) es) (nights_after n (until i) es)) (sym stop.are)
        (soon_run n (until i) (begins j) stop.first stop.others few (ap (λ (r : ℕ). nat_lt r (until i + 1800)) stop.begun ∙ soon)
        (ap (λ (r : ℕ). nat_lt r (begins j + 1800)) stop.begun ∙ near (begins j)))
    | inr late ↦
        ap (run_extend (record { value = n })) (step_is i j)
        ∙ ap (λ (b : Bool). run_extend (record { value = n }) (if b then soon_step (begins j) (flights j) else alone_step (flights j))) late
        ∙ subst (λ (es : List Event). run_extend (record { value = n }) (alone_step es) ≡ run_to (stays_short n (until i) es) (nights_after n (until i) es)) (sym stop.are)
        (alone_run n (until i) stop.first stop.others few (ap (λ (r : ℕ). nat_lt r (until i + 1800)) stop.begun ∙ late))
  ]
    where
      near : (a : ℕ) → nat_lt a (a + 1800) ≡ true
      near a = grind (arith, nat_tests)

  -- the step to the sink
  runs_sink : (i n : ℕ) → n ≤ 3 → (r : Run) × (run_extend (record { value = n }) (step i sink) ≡ Some r)
  runs_sink i n few = elim (cases_Bool (nat_lt (begins sink) (until i + 1800))) [
    | inl soon ↦ (
      record { value = n },
      ap (run_extend (record { value = n })) (step_is i sink)
          ∙ ap (λ (b : Bool). run_extend (record { value = n }) (if b then soon_step (begins sink) (flights sink) else alone_step (flights sink))) soon
          ∙ ap (λ (es : List Event). run_extend (record { value = n }) (soon_step (begins sink) es)) (sink_flights problem member node lens adds sink line js sound visited on)
          ∙ ap (λ (b : Bool). if b then Some (record { value = n + 0 }) else None) (small n few)
          ∙ ap (λ (m : ℕ). Some (record { value = m })) (let e : n + 0 ≡ n = omega arith in e),
    )
    | inr late ↦ (
      record { value = 0 },
      ap (run_extend (record { value = n })) (step_is i sink)
          ∙ ap (λ (b : Bool). run_extend (record { value = n }) (if b then soon_step (begins sink) (flights sink) else alone_step (flights sink))) late
          ∙ ap (λ (es : List Event). run_extend (record { value = n }) (alone_step es)) (sink_flights problem member node lens adds sink line js sound visited on)
          ∙ ap (λ (b : Bool). if b then Some (record { value = 0 }) else None) (small n few),
    )
  ]
    where
      small : (n : ℕ) → n ≤ 3 → nat_le (n + 0) 3 ≡ true
      small n h = grind (arith, nat_tests)

  -- a stop, or the last
  next_is : (i j : ℕ) (ks : List ℕ) → ascends i (j ∷ ks) → end_of i (j ∷ ks) ≡ sink → is_in_list js j ≡ true → (Stop j) ⊎ ((j ≡ sink) × (ks ≡ []))
  next_is i j [] up end inside = inr (end, refl)
  next_is i j (k ∷ ks) up end inside =
      let most = in_end j (k ∷ ks) up.1 k (or_left_true (k == k) (is_in_list ks k) (eq_to k k refl)) in
      let l = up.1.0 in
      let e : end_of j (k ∷ ks) ≡ sink = end in
      inl (record { inside = inside; before = omega arith })

  goes_on : (i j n : ℕ) (ks : List ℕ) → NightStop j → Stop j → n ≤ 3 → stays_short n (until i) (flights j) ≡ true
      → (nights_after n (until i) (flights j) ≤ 3) × (released_after (until i) (flights j) ≡ until j)
      × (run run_extend (record { value = n }) (along step i (j ∷ ks)) ≡ run run_extend (record { value = nights_after n (until i) (flights j) }) (along step j ks))
  goes_on i j n ks night stop few short = (
    short_row n (until i) (flights j) few short,
    ap (released_after (until i)) night.are ∙ night.released ∙ sym (until_stop j stop),
    ap (λ (o : Option Run). and_then o (λ q. run run_extend q (along step j ks)))
        (runs_stop i j n night few ∙ ap (λ (b : Bool). run_to b (nights_after n (until i) (flights j))) short),
  )

  short_parts : (i j n : ℕ) (ks : List ℕ) → Stop j → NightStop j
      → stays_short n (until i) (fly_on (j ∷ ks))
      ≡ (stays_short n (until i) (flights j) && stays_short (nights_after n (until i) (flights j)) (until j) (fly_on ks))
  short_parts i j n ks stop night =
      short_more n (until i) (flights j) (fly_on ks)
      ∙ ap (λ (r : ℕ). stays_short n (until i) (flights j) && stays_short (nights_after n (until i) (flights j)) r (fly_on ks))
      (ap (released_after (until i)) night.are ∙ night.released ∙ sym (until_stop j stop))

  row_runs : (i n : ℕ) (ks : List ℕ) → ascends i ks → end_of i ks ≡ sink → ((k : ℕ) → is_in_list ks k ≡ true → is_in_list js k ≡ true)
      → n ≤ 3 → stays_short n (until i) (fly_on ks) ≡ true → Runs n i ks
  row_runs i n [] up end some few short = record { last = record { value = n }; runs = refl; is_done = refl }
  row_runs i n (j ∷ ks) up end some few short =
      go (next_is i j ks up end (some j (or_left_true (j == j) (is_in_list ks j) (eq_to j j refl))))
      (λ m. row_runs j m ks up.1 end (λ k h. some k (or_right_true (j == k) (is_in_list ks k) h)))
    where
      go : (Stop j) ⊎ ((j ≡ sink) × (ks ≡ []))
          → ((m : ℕ) → m ≤ 3 → stays_short m (until j) (fly_on ks) ≡ true → Runs m j ks) → Runs n i (j ∷ ks)
      go (inl stop) more =
          let night = night_stop problem member node lens adds sink line js sound visited on j stop in
          let parts = and_parts (stays_short n (until i) (flights j)) (stays_short (nights_after n (until i) (flights j)) (until j) (fly_on ks))
          (sym (short_parts i j n ks stop night) ∙ short) in
          let next = goes_on i j n ks night stop few parts.0 in
          let rest = more (nights_after n (until i) (flights j)) next.0 parts.1 in
          record { last = rest.last; runs = next.2 ∙ rest.runs; is_done = refl }
      go (inr at) more =
          let r = runs_sink i n few in
          record {
            last = r.0;
            runs = ap (λ (ls : List ℕ). run run_extend (record { value = n }) (along step i (j ∷ ls))) at.1
                ∙ ap (λ (l : ℕ). run run_extend (record { value = n }) (along step i (l ∷ []))) at.0
                ∙ ap (λ (o : Option Run). and_then o (λ q. Some q)) r.1;
            is_done = refl;
          }

  row_ran : (i n : ℕ) (ks : List ℕ) (last : Run) → ascends i ks → end_of i ks ≡ sink → ((k : ℕ) → is_in_list ks k ≡ true → is_in_list js k ≡ true)
      → n ≤ 3 → run run_extend (record { value = n }) (along step i ks) ≡ Some last → stays_short n (until i) (fly_on ks) ≡ true
  row_ran i n [] last up end some few runs = refl
  row_ran i n (j ∷ ks) last up end some few runs =
      go (next_is i j ks up end (some j (or_left_true (j == j) (is_in_list ks j) (eq_to j j refl))))
      (λ m. row_ran j m ks last up.1 end (λ k h. some k (or_right_true (j == k) (is_in_list ks k) h)))
    where
      go : (Stop j) ⊎ ((j ≡ sink) × (ks ≡ []))
          → ((m : ℕ) → m ≤ 3 → run run_extend (record { value = m }) (along step j ks) ≡ Some last → stays_short m (until j) (fly_on ks) ≡ true)
          → stays_short n (until i) (fly_on (j ∷ ks)) ≡ true
      go (inl stop) more =
          let night = night_stop problem member node lens adds sink line js sound visited on j stop in
          short_parts i j n ks stop night
          ∙ by (stays_short n (until i) (flights j)) refl (λ short.
          let next = goes_on i j n ks night stop few short in
          more (nights_after n (until i) (flights j)) next.0 (sym next.2 ∙ runs))
        where
          by : (b : Bool) → stays_short n (until i) (flights j) ≡ b
              → (stays_short n (until i) (flights j) ≡ true → stays_short (nights_after n (until i) (flights j)) (until j) (fly_on ks) ≡ true)
              → (b && stays_short (nights_after n (until i) (flights j)) (until j) (fly_on ks)) ≡ true
          by true e rest = rest e
          by false e rest =
              let night = night_stop problem member node lens adds sink line js sound visited on j stop in
              no_clash last
              (sym (ap (λ (o : Option Run). and_then o (λ q. run run_extend q (along step j ks)))
              (runs_stop i j n night few ∙ ap (λ (b : Bool). run_to b (nights_after n (until i) (flights j))) e)) ∙ runs)
      go (inr at) more =
          let none : fly_on (j ∷ ks) ≡ [] =
          ap (λ (ls : List ℕ). fly_on (j ∷ ls)) at.1 ∙ ap (λ (l : ℕ). flights l ++ []) at.0
          ∙ ap (λ (es : List Event). es ++ []) (sink_flights problem member node lens adds sink line js sound visited on) in
          ap (λ (es : List Event). stays_short n (until i) es) none

  few_past : past_row problem member ≤ 3
  few_past = omega arith

  -- the row before the month
  whole : keeps_short 0 0 (line_flights problem member node lens adds sink line js sound visited on) ≡ stays_short (past_row problem member) (until 0) (fly_on js)
  whole =
      short_early (past_flights problem member) (fly_on js) 0 0 (early_past problem member node lens adds sink line js sound visited on)
      ∙ short_late (fly_on js) (nights_after 0 0 (past_flights problem member)) (past_until problem member) (late_on problem member node lens adds sink line js sound visited on)
      ∙ short_from_three (nights_after 0 0 (past_flights problem member)) (past_until problem member) (fly_on js)
      ∙ ap (λ (r : ℕ). stays_short (past_row problem member) r (fly_on js)) (sym until_source)

  runs_nights : KeepsNights (events_of problem member line) → Runs (past_row problem member) 0 js
  runs_nights keeps =
      row_runs 0 (past_row problem member) js visited.up visited.ends (λ k h. h) few_past
      (sym whole ∙ short_to (line_flights problem member node lens adds sink line js sound visited on) (line_row problem member node lens adds sink line js sound visited on)
      (same_nights (events_of problem member line) (line_flights problem member node lens adds sink line js sound visited on) (same_flights problem member node lens adds sink line js sound visited on) keeps))

  ran_nights : Runs (past_row problem member) 0 js → KeepsNights (events_of problem member line)
  ran_nights c =
      same_nights (line_flights problem member node lens adds sink line js sound visited on) (events_of problem member line)
      (other_way (events_of problem member line) (line_flights problem member node lens adds sink line js sound visited on) (same_flights problem member node lens adds sink line js sound visited on))
      (short_from (line_flights problem member node lens adds sink line js sound visited on) (line_row problem member node lens adds sink line js sound visited on)
      (whole ∙ row_ran 0 (past_row problem member) js c.last visited.up visited.ends (λ k h. h) few_past c.runs))

abbrev pub NightsRun : Problem → ℕ → Lens → (ℕ → ℕ) → List ℕ → Type 0
NightsRun problem member lens adds js =
    Completes {E = Unit {0}} run_extend (λ _ _. true) (record { value = night_start problem member lens }) tt (along (night_step problem member lens adds) 0 js)

-- no fourth night where the lens looks at free blocks: then the nights run along the stops
pub nights_complete : (problem : Problem) (member : ℕ) (node : List Decision) (lens : Lens) (adds : ℕ → ℕ) (sink : ℕ) (line js : List ℕ)
    → IsSoundMonth problem member → IsVisited problem member node lens adds sink line js
    → (lens.free30 ≡ true → KeepsNights (events_of problem member line)) → NightsRun problem member lens adds js
nights_complete problem member node lens adds sink line js sound visited keeps =
    elim (cases_Bool lens.free30) [
      | inl on ↦
          subst (λ (n : ℕ). Completes {E = Unit {0}} run_extend (λ _ _. true) (record { value = n }) tt (along (night_step problem member lens adds) 0 js))
          (sym (picked lens.free30 (past_row problem member) 0 on))
          (runs_nights problem member node lens adds sink line js sound visited on (keeps on))
      | inr off ↦
          subst (λ (n : ℕ). Completes {E = Unit {0}} run_extend (λ _ _. true) (record { value = n }) tt (along (night_step problem member lens adds) 0 js))
          (sym (refused lens.free30 (past_row problem member) 0 off))
          (still {E = Unit {0}} run_extend (λ _ _. true) (record { value = 0 }) tt (night_step problem member lens adds) 0 js
          (λ i j. ap (run_extend (record { value = 0 })) (refused lens.free30 _ (record { lead = 0; reset = None; cap = 0 }) off)) refl)
    ]

-- and only then
pub nights_kept : (problem : Problem) (member : ℕ) (node : List Decision) (lens : Lens) (adds : ℕ → ℕ) (sink : ℕ) (line js : List ℕ)
    → IsSoundMonth problem member → IsVisited problem member node lens adds sink line js
    → NightsRun problem member lens adds js → lens.free30 ≡ true → KeepsNights (events_of problem member line)
nights_kept problem member node lens adds sink line js sound visited c on =
    ran_nights problem member node lens adds sink line js sound visited on
    (subst (λ (n : ℕ). Completes {E = Unit {0}} run_extend (λ _ _. true) (record { value = n }) tt (along (night_step problem member lens adds) 0 js))
    (picked lens.free30 (past_row problem member) 0 on) c)
