-- The nights in a row along what a chain takes are those along its stops.
use Rattle.std.proofs.Common.{◌≡◌, ℕ, ℤ, ◌+◌, ◌-◌, ◌<◌, ◌≤◌, Bool, true, false, ◌||◌, ◌==◌, List, [], ◌∷◌, Option, Some, None, length, refl, ap, sym, ◌∙◌, subst, arith, inl, inr}
use Rattle.std.specs.Prelude.{slice_get, slice_index_or, map, nat_le, nat_lt, unwrap_or, if◌then◌else◌}
use Rattle.std.specs.List.{AllByRecursion}
use Rattle.std.specs.Option.{option_map_or}
use Rattle.std.proofs.lemmas.Bool.{cases_Bool, cases_lt}
use Rattle.std.proofs.lemmas.Bool.Decides.{nat_tests}
use Rattle.std.proofs.lemmas.Option.{slice_get_cases}
use Rattle.duty_calendar.specs.declared.event.Event.{Event}
use Rattle.duty_calendar.specs.declared.interval.Interval.{Interval}
use Rattle.duty_calendar.specs.declared.pairing.Duty.{Duty}
use Rattle.duty_calendar.specs.declared.pairing.Pairing.{Pairing}
use Rattle.duty_calendar.specs.Minutes.{is_flight}
use Rattle.label_setter.specs.declared.graph.Arc.{Arc}
use Rattle.label_lattice.specs.declared.night_rows.Nights.{Nights}
use Rattle.label_lattice.specs.declared.night_rows.NightStep.{NightStep}
use Rattle.label_lattice.specs.declared.runs.Run.{Run}
use Rattle.label_lattice.specs.NightRow.{nights_extend, nights_settled, until_then}
use Rattle.label_lattice.specs.Run.{run_extend}
use Rattle.roster_model.specs.declared.problem.Problem.{Problem}
use Rattle.roster_model.specs.declared.proof.Lens.{Lens}
use Rattle.roster_model.specs.Spans.{duty_event, first_report, last_release, pairing_span, event_span}
use Rattle.roster_model.specs.Timelines.{fixed_of}
use Rattle.line_items.specs.Clear.{duties_of}
use Rattle.line_items.specs.Items.{visited_flights, item_count, item_begins, item_rests, item_span}
use Rattle.line_items.specs.NightRows.{nights_after, stays_short, item_flights, lead_of, reset_of, past_row, past_until, night_until}
use Rattle.take_graphs.specs.Takes.{passes_by, takes_by, AreTakeArcs}
use Rattle.take_graphs.proofs.Alike.{AreAlike, Comes}
use Rattle.take_graphs.proofs.Alike.{run_alike}
use Rattle.line_items.proofs.Apart.{is_near}
use Rattle.line_lens.proofs.DayChain.{flight_at}
use Rattle.line_items.proofs.EventMinutes.{all_also}
use Rattle.line_items.proofs.Following.{AreDuties}
use Rattle.line_items.proofs.FreeMinutes.{picked, fixed_late, duties_late}
use Rattle.line_items.proofs.FreeMinutes.{at_pairing, at_flight, at_none}
use Rattle.line_items.proofs.ItemSteps.{night_step, nights_step}
use Rattle.take_graphs.proofs.ItemWork.{work}
use Rattle.line_items.proofs.NightItems.{soon_step, alone_step, run_to, soon_run, alone_run, row_over, none_before, short_row}
use Rattle.line_items.proofs.SoundMonth.{sound_month}
use Rattle.take_graphs.proofs.TakenPlaces.{taken_by, stops_by}
use Rattle.take_graphs.proofs.Taking.{IsPath}
use Rattle.take_graphs.proofs.Taking.{at_source}
use Rattle.line_items.proofs.Visited.{IsPlaced}
use Rattle.line_items.proofs.Visits.{IsSorted}
use Rattle.line_items.proofs.Walks.{and_then, run, along}

-- a pairing or a fixed flight
pub record IsNightItem (problem : Problem) (member : ℕ) (lens : Lens) (item : ℕ) : Type 0 where
  pub first : Event
  pub others : List Event
  pub are : item_flights problem member lens item ≡ first ∷ others
  pub begun : first.report ≡ item_begins problem member lens item
  pub until : night_until problem member lens item ≡ (item_span problem member lens item).stop
  pub late : 525600 ≤ item_begins problem member lens item

night_item : (problem : Problem) (member : ℕ) (lens : Lens) (item : ℕ) → item < item_count problem member lens → IsNightItem problem member lens item
night_item problem member lens item small = elim (cases_lt item (length problem.base.pairings)) [
  | inl lt ↦ elim (slice_get_cases problem.base.pairings item).1 [
    | inl found ↦
        let x = found.0 in
        of_duties x x.duties refl ((sound_month problem member).duties item x found.2) lt found.2 (duties_late problem item x found.2)
    | inr none ↦ absurd (let le = none.0 in omega arith)
  ]
  | inr le ↦ elim (slice_get_cases (visited_flights problem member lens) (item - length problem.base.pairings)).1 [
    | inl found ↦
        let e = found.0 in
        let b : item_begins problem member lens item ≡ e.report = at_flight problem member lens (λ p. first_report p.duties) (λ e. e.report) 0 item e le found.2 in
        let late = flight_at problem member lens (λ x. 525600 ≤ x.report) (item - length problem.base.pairings) e
        (all_also (λ x. 525600 ≤ x.report) (λ x. is_flight x.kind ≡ true → 525600 ≤ x.report) (fixed_of problem member) (λ x h f. h) (fixed_late problem member)) found.2 in
        record {
          first = e;
          others = [];
          are = at_flight problem member lens duties_of (λ e. e ∷ []) [] item e le found.2;
          begun = sym b;
          until =
              at_flight problem member lens (λ p. last_release p.duties) (λ e. e.release) (past_until problem member) item e le found.2
              ∙ sym (ap (λ (s : Interval). s.stop) (at_flight problem member lens pairing_span event_span (record { start = 0; stop = 0 }) item e le found.2));
          late = omega arith;
        }
    | inr none ↦ absurd (let past = none.0 in omega arith)
  ]
]
  where
    of_duties : (x : Pairing) (ds : List Duty) → x.duties ≡ ds → AreDuties x.duties → item < length problem.base.pairings → slice_get problem.base.pairings item ≡ Some x
        → AllByRecursion (λ (e : Event). 525600 ≤ e.report) (duties_of x) → IsNightItem problem member lens item
    of_duties x [] same sound lt is late = absurd (subst AreDuties same sound)
    of_duties x (d ∷ ds) same sound lt is late =
        let b : item_begins problem member lens item ≡ d.report =
        at_pairing problem member lens (λ p. first_report p.duties) (λ e. e.report) 0 item x lt is ∙ ap first_report same in
        let l = subst (λ (es : List Event). AllByRecursion (λ (e : Event). 525600 ≤ e.report) es) (ap (λ (es : List Duty). map duty_event es) same) late in
        record {
          first = duty_event d;
          others = map duty_event ds;
          are = at_pairing problem member lens duties_of (λ e. e ∷ []) [] item x lt is ∙ ap (λ (es : List Duty). map duty_event es) same;
          begun = sym b;
          until =
              at_pairing problem member lens (λ p. last_release p.duties) (λ e. e.release) (past_until problem member) item x lt is
              ∙ sym (ap (λ (s : Interval). s.stop) (at_pairing problem member lens pairing_span event_span (record { start = 0; stop = 0 }) item x lt is));
          late = let first = l.0 in omega arith;
        }

-- the row that is left by then
abbrev pub if_lasts : ℕ → ℕ → ℕ → ℕ
if_lasts until free count = if nat_le until free then 0 else count

abbrev pub if_soon : ℕ → ℕ → ℕ → ℕ
if_soon begins until count = if nat_lt begins (until + 1800) then count else 0

lasts_soon : (until begins count : ℕ) → 1800 ≤ begins → if_lasts until (begins - 1800) count ≡ if_soon begins until count
lasts_soon until begins count late = elim (cases_lt begins (until + 1800)) [
  | inl lt ↦
      let a : nat_le until (begins - 1800) ≡ false = not_le until begins late lt in
      let b : nat_lt begins (until + 1800) ≡ true = is_lt begins (until + 1800) lt in
      ap (λ (t : Bool). if t then 0 else count) a ∙ sym (ap (λ (t : Bool). if t then count else 0) b)
  | inr le ↦
      let a : nat_le until (begins - 1800) ≡ true = is_le until begins late le in
      let b : nat_lt begins (until + 1800) ≡ false = not_lt begins (until + 1800) le in
      ap (λ (t : Bool). if t then 0 else count) a ∙ sym (ap (λ (t : Bool). if t then count else 0) b)
]
  where
    not_le : (u b : ℕ) → 1800 ≤ b → b < u + 1800 → nat_le u (b - 1800) ≡ false
    not_le u b late lt = grind (arith, nat_tests)

    is_le : (u b : ℕ) → 1800 ≤ b → u + 1800 ≤ b → nat_le u (b - 1800) ≡ true
    is_le u b late le = grind (arith, nat_tests)

    is_lt : (a b : ℕ) → a < b → nat_lt a b ≡ true
    is_lt a b lt = grind (arith, nat_tests)

    not_lt : (a b : ℕ) → b ≤ a → nat_lt a b ≡ false
    not_lt a b le = grind (arith, nat_tests)

-- nights extend where their run does
extends_as : (p : Nights) (lead : ℕ) (reset : Option ℕ) (until free cap : ℕ)
    → nights_extend p (record { lead = lead; reset = reset; until = until; free = free; cap = cap })
    ≡ and_then (run_extend (record { value = p.count }) (record { lead = lead; reset = reset; cap = cap })) (λ r. Some (nights_settled r.value (until_then p.until until) free))
extends_as p lead reset until free cap = go (nat_le (p.count + lead) cap)
  where
    go : (b : Bool) → (if b then Some (nights_settled (unwrap_or reset (p.count + lead)) (until_then p.until until) free) else None)
        ≡ and_then (if b then Some (record { value = unwrap_or reset (p.count + lead) }) else None) (λ (r : Run). Some (nights_settled r.value (until_then p.until until) free))
    go true = refl
    go false = refl

module _ (problem : Problem) (member : ℕ) (lens : Lens) (adds : ℕ → ℕ) (sink : ℕ)
    (sorted : IsSorted (item_count problem member lens) sink adds (item_begins problem member lens) (item_rests problem member lens))
    (placed : IsPlaced problem member lens adds sink) (on : lens.free30 ≡ true) where
  abbrev begin_at : ℕ → ℕ
  begin_at k = item_begins problem member lens (adds k)

  abbrev end_at : ℕ → ℕ
  end_at k = (item_span problem member lens (adds k)).stop

  abbrev until_at : ℕ → ℕ
  until_at k = night_until problem member lens (adds k)

  abbrev flights_at : ℕ → List Event
  flights_at k = item_flights problem member lens (adds k)

  abbrev free_at : ℕ → ℕ
  free_at k = item_begins problem member lens (adds k) - 1800

  -- what is known after the item of place t is taken, at place i
  pub record IsNightly (t i : ℕ) (p : Nights) (v : Run) : Type 0 where
    pub few : p.count ≤ 3
    pub most : v.value ≤ 3
    pub now : 0 < i → i < sink → p.count ≡ if_soon (item_begins problem member lens (adds i)) (night_until problem member lens (adds t)) v.value
    pub later :
        (k : ℕ) → i < k → k < sink
        → if_lasts p.until (item_begins problem member lens (adds k) - 1800) p.count
        ≡ if_soon (item_begins problem member lens (adds k)) (night_until problem member lens (adds t)) v.value

  item_at : (k : ℕ) → 0 < k → k < sink → IsNightItem problem member lens (adds k)
  item_at k positive small = night_item problem member lens (adds k) (placed.inner k positive small)

  begins_up : (j k : ℕ) → 0 < j → j < k → k < sink → begin_at j ≤ begin_at k
  begins_up j k positive lt small = sorted.sorted j k positive lt small

  -- what holds at the place where an arc ends before the row is settled there
  settles : (t j c u v : ℕ) → 0 < j → c ≤ 3 → v ≤ 3
      → ((k : ℕ) → j ≤ k → k < sink → if_lasts u (free_at k) c ≡ if_soon (begin_at k) (until_at t) v)
      → IsNightly t j (nights_settled c u (free_at j)) (record { value = v })
  settles t j c u v positive few most each = go (c == 0) refl (nat_le u (free_at j)) refl
    where
      rows : Bool → Bool → Nights
      rows a b = if a || b then record { count = 0; until = 0 } else record { count = c; until = u }

      is_zero : (n : ℕ) → (n == 0) ≡ true → n ≡ 0
      is_zero n h = grind (arith, nat_tests)

      none : (t : Bool) → ◌≡◌ {A = ℕ} (if t then 0 else 0) 0
      none true = refl
      none false = refl

      lower : (a b : ℕ) → nat_le u (a - 1800) ≡ true → a ≤ b → nat_le u (b - 1800) ≡ true
      lower a b h le = grind (arith, nat_tests)

      ended : ((k : ℕ) → j ≤ k → k < sink → 0 ≡ if_soon (begin_at k) (until_at t) v) → IsNightly t j (record { count = 0; until = 0 }) (record { value = v })
      ended zeros = record {
        few = omega arith;
        most = most;
        now = λ pos small. zeros j (omega arith) small;
        later = λ k lt small. none (nat_le 0 (free_at k)) ∙ zeros k (omega arith) small;
      }

      go : (a : Bool) → (c == 0) ≡ a → (b : Bool) → nat_le u (free_at j) ≡ b → IsNightly t j (rows a b) (record { value = v })
      go true e b f =
          let z = is_zero c e in
          ended (λ k le small. sym (none (nat_le u (free_at k))) ∙ ap (λ (n : ℕ). if_lasts u (free_at k) n) (sym z) ∙ each k le small)
      go false e true f =
          ended (λ k le small.
          let over : nat_le u (free_at k) ≡ true = (elim (cases_lt j k) [
            | inl lt ↦ lower (begin_at j) (begin_at k) f (begins_up j k positive lt small)
            | inr ge ↦ let same : j ≡ k = omega arith in ap (λ (n : ℕ). nat_le u (free_at n)) (sym same) ∙ f
          ]) in
          sym (ap (λ (x : Bool). if x then 0 else c) over) ∙ each k le small)
      go false e false f = record {
        few = few;
        most = most;
        now = λ pos small. sym (ap (λ (x : Bool). if x then 0 else c) f) ∙ each j (omega arith) small;
        later = λ k lt small. each k (omega arith) small;
      }

  abbrev due : ℕ → ℕ → NightStep
  due t j = record {
    lead = lead_of (begin_at t) (flights_at t);
    reset = reset_of (begin_at t) (flights_at t);
    until = end_at t;
    free = free_at j;
    cap = 3;
  }

  step_is : (t i j : ℕ) → nights_step problem member lens adds t i j ≡ due t j
  step_is t i j = picked lens.free30 (due t j) (record { lead = 0; reset = None; until = 0; free = 0; cap = 0 }) on

  other_is : (t i : ℕ) → night_step problem member lens adds t i ≡ (if nat_lt (begin_at i) (until_at t + 1800)
      then soon_step (begin_at i) (flights_at i) else alone_step (flights_at i))
  other_is t i =
      picked lens.free30
      (if nat_lt (begin_at i) (until_at t + 1800) then soon_step (begin_at i) (flights_at i) else alone_step (flights_at i))
      (record { lead = 0; reset = None; cap = 0 }) on

  source_flights : flights_at 0 ≡ []
  source_flights = at_none problem member lens duties_of (λ e. e ∷ []) [] (adds 0) placed.source

  source_end : end_at 0 ≡ 0
  source_end = ap (λ (s : Interval). s.stop) (at_none problem member lens pairing_span event_span (record { start = 0; stop = 0 }) (adds 0) placed.source)

  source_until : until_at 0 ≡ past_until problem member
  source_until = at_none problem member lens (λ p. last_release p.duties) (λ e. e.release) (past_until problem member) (adds 0) placed.source

  sink_flights : flights_at sink ≡ []
  sink_flights = at_none problem member lens duties_of (λ e. e ∷ []) [] (adds sink) placed.last

  three : (n : ℕ) → n ≤ 3 → nat_le (n + 0) 3 ≡ true
  three n h = grind (arith, nat_tests)

  passing : (t i j : ℕ) (p : Nights) (v : Run) → i < j → IsNightly t i p v
      → Comes (λ s. IsNightly t j s v) (nights_extend p (nights_step problem member lens adds 0 i j))
  passing t i j p v lt rel = record {
    to = nights_settled p.count p.until (free_at j);
    is =
        ap (nights_extend p) (step_is 0 i j)
        ∙ ap (λ (es : List Event). nights_extend p (record { lead = lead_of (begin_at 0) es; reset = reset_of (begin_at 0) es; until = end_at 0; free = free_at j; cap = 3 })) source_flights
        ∙ ap (λ (n : ℕ). nights_extend p (record { lead = 0; reset = None; until = n; free = free_at j; cap = 3 })) source_end
        ∙ ap (λ (b : Bool). if b then Some (nights_settled (p.count + 0) p.until (free_at j)) else None) (three p.count rel.few)
        ∙ ap (λ (n : ℕ). Some (nights_settled n p.until (free_at j))) (let e : p.count + 0 ≡ p.count = omega arith in e);
    related = settles t j p.count p.until v.value (omega arith) rel.few rel.most (λ k le small. rel.later k (omega arith) small);
  }

  -- the run to an item, after a row that it may follow
  run_on : (t i n : ℕ) → IsNightItem problem member lens (adds i) → n ≤ 3
      → run_extend (record { value = n }) (night_step problem member lens adds t i) ≡ run_to (stays_short n (until_at t) (flights_at i)) (nights_after n (until_at t) (flights_at i))
  run_on t i n item few = elim (cases_Bool (nat_lt (begin_at i) (until_at t + 1800))) [
    | inl soon ↦
        ap (run_extend (record { value = n })) (other_is t i)
        ∙ ap (λ (b : Bool). run_extend (record { value = n }) (if b then soon_step (begin_at i) (flights_at i) else alone_step (flights_at i))) soon
        ∙ subst (λ (es : List Event). run_extend (record { value = n }) (soon_step (begin_at i) es) ≡ run_to (stays_short n (until_at t) es) (nights_after n (until_at t) es)) (sym item.are)
        (soon_run n (until_at t) (begin_at i) item.first item.others few (ap (λ (r : ℕ). nat_lt r (until_at t + 1800)) item.begun ∙ soon)
        (ap (λ (r : ℕ). nat_lt r (begin_at i + 1800)) item.begun ∙ near (begin_at i)))
    | inr late ↦
        ap (run_extend (record { value = n })) (other_is t i)
        ∙ ap (λ (b : Bool). run_extend (record { value = n }) (if b then soon_step (begin_at i) (flights_at i) else alone_step (flights_at i))) late
        ∙ subst (λ (es : List Event). run_extend (record { value = n }) (alone_step es) ≡ run_to (stays_short n (until_at t) es) (nights_after n (until_at t) es)) (sym item.are)
        (alone_run n (until_at t) item.first item.others few (ap (λ (r : ℕ). nat_lt r (until_at t + 1800)) item.begun ∙ late))
  ]
    where
      near : (a : ℕ) → nat_lt a (a + 1800) ≡ true
      near a = grind (arith, nat_tests)

  -- what is left of the row before the item extends alike
  left_on : (t i n c : ℕ) → IsNightItem problem member lens (adds i) → n ≤ 3 → c ≡ if_soon (begin_at i) (until_at t) n
      → run_extend (record { value = c }) (soon_step (begin_at i) (flights_at i)) ≡ run_to (stays_short n (until_at t) (flights_at i)) (nights_after n (until_at t) (flights_at i))
  left_on t i n c item few is = elim (cases_Bool (nat_lt (begin_at i) (until_at t + 1800))) [
    | inl soon ↦
        let same : c ≡ n = is ∙ ap (λ (b : Bool). if b then n else 0) soon in
        ap (λ (m : ℕ). run_extend (record { value = m }) (soon_step (begin_at i) (flights_at i))) same
        ∙ subst (λ (es : List Event). run_extend (record { value = n }) (soon_step (begin_at i) es) ≡ run_to (stays_short n (until_at t) es) (nights_after n (until_at t) es)) (sym item.are)
        (soon_run n (until_at t) (begin_at i) item.first item.others few (ap (λ (r : ℕ). nat_lt r (until_at t + 1800)) item.begun ∙ soon)
        (ap (λ (r : ℕ). nat_lt r (begin_at i + 1800)) item.begun ∙ near (begin_at i)))
    | inr late ↦
        let none : c ≡ 0 = is ∙ ap (λ (b : Bool). if b then n else 0) late in
        let here : nat_lt item.first.report (begin_at i + 1800) ≡ true = ap (λ (r : ℕ). nat_lt r (begin_at i + 1800)) item.begun ∙ near (begin_at i) in
        let over = row_over n (until_at t) item.first item.others (ap (λ (r : ℕ). nat_lt r (until_at t + 1800)) item.begun ∙ late) in
        let zero = none_before (begin_at i) (item.first ∷ item.others) in
        ap (λ (m : ℕ). run_extend (record { value = m }) (soon_step (begin_at i) (flights_at i))) none
        ∙ subst (λ (es : List Event). run_extend (record { value = 0 }) (soon_step (begin_at i) es) ≡ run_to (stays_short n (until_at t) es) (nights_after n (until_at t) es)) (sym item.are)
        (soon_run 0 (begin_at i) (begin_at i) item.first item.others (omega arith) here here
        ∙ ap (λ (b : Bool). run_to b (nights_after 0 (begin_at i) (item.first ∷ item.others))) (zero.0 ∙ sym over.0)
        ∙ ap (λ (m : ℕ). run_to (stays_short n (until_at t) (item.first ∷ item.others)) m) (zero.1 ∙ sym over.1))
  ]
    where
      near : (a : ℕ) → nat_lt a (a + 1800) ≡ true
      near a = grind (arith, nat_tests)

  ends_some : (i : ℕ) → 0 < i → i < sink → (end_at i == 0) ≡ false
  ends_some i positive small =
      let w = (work problem member lens (adds i) (placed.inner i positive small)).lasts in
      some (end_at i) (begin_at i) w
    where
      some : (a b : ℕ) → b < a → (a == 0) ≡ false
      some a b lt = grind (arith, nat_tests)

  taking : (t i j : ℕ) (p : Nights) (q : Run) → 0 < i → i < sink → i < j → IsNightly t i p q
      → AreAlike (λ s v. IsNightly i j s v) (nights_extend p (nights_step problem member lens adds i i j)) (run_extend q (night_step problem member lens adds t i))
  taking t i j p q positive inner lt rel =
      by (stays_short q.value (until_at t) (flights_at i)) refl
    where
      item : IsNightItem problem member lens (adds i)
      item = item_at i positive inner

      row : ℕ
      row = nights_after q.value (until_at t) (flights_at i)

      landed : run_extend q (night_step problem member lens adds t i) ≡ run_to (stays_short q.value (until_at t) (flights_at i)) (nights_after q.value (until_at t) (flights_at i))
      landed = run_on t i q.value item rel.most

      left : run_extend (record { value = p.count }) (soon_step (begin_at i) (flights_at i)) ≡ run_to (stays_short q.value (until_at t) (flights_at i)) (nights_after q.value (until_at t) (flights_at i))
      left = left_on t i q.value p.count item rel.most (rel.now positive inner)

      taken : nights_extend p (nights_step problem member lens adds i i j)
          ≡ and_then (run_to (stays_short q.value (until_at t) (flights_at i)) (nights_after q.value (until_at t) (flights_at i))) (λ r. Some (nights_settled r.value (until_then p.until (end_at i)) (free_at j)))
      taken =
          ap (nights_extend p) (step_is i i j)
          ∙ extends_as p (lead_of (begin_at i) (flights_at i)) (reset_of (begin_at i) (flights_at i)) (end_at i) (free_at j) 3
          ∙ ap (λ (o : Option Run). and_then o (λ r. Some (nights_settled r.value (until_then p.until (end_at i)) (free_at j)))) left

      by : (b : Bool) → stays_short q.value (until_at t) (flights_at i) ≡ b
          → AreAlike (λ s v. IsNightly i j s v) (nights_extend p (nights_step problem member lens adds i i j)) (run_extend q (night_step problem member lens adds t i))
      by false e = inl (
        taken ∙ ap (λ (b : Bool). and_then (run_to b (nights_after q.value (until_at t) (flights_at i))) (λ r. Some (nights_settled r.value (until_then p.until (end_at i)) (free_at j)))) e,
        landed ∙ ap (λ (b : Bool). run_to b (nights_after q.value (until_at t) (flights_at i))) e,
      )
      by true e =
          let most = short_row q.value (until_at t) (flights_at i) rel.most e in
          inr (record {
            first = nights_settled (nights_after q.value (until_at t) (flights_at i)) (end_at i) (free_at j);
            second = record { value = nights_after q.value (until_at t) (flights_at i) };
            first_is =
                taken ∙ ap (λ (b : Bool). and_then (run_to b (nights_after q.value (until_at t) (flights_at i))) (λ r. Some (nights_settled r.value (until_then p.until (end_at i)) (free_at j)))) e
                ∙ ap (λ (b : Bool). Some (nights_settled (nights_after q.value (until_at t) (flights_at i)) (if b then p.until else end_at i) (free_at j))) (ends_some i positive inner);
            second_is = landed ∙ ap (λ (b : Bool). run_to b (nights_after q.value (until_at t) (flights_at i))) e;
            related = settles i j (nights_after q.value (until_at t) (flights_at i)) (end_at i) (nights_after q.value (until_at t) (flights_at i)) (omega arith) most most (λ k le small.
                let late = (item_at k (omega arith) small).late in
                lasts_soon (end_at i) (begin_at k) (nights_after q.value (until_at t) (flights_at i)) (omega arith)
                ∙ ap (λ (u : ℕ). if_soon (begin_at k) u (nights_after q.value (until_at t) (flights_at i))) (sym item.until));
          })

  ending : (t : ℕ) (p : Nights) (q : Run) → IsNightly t sink p q → Comes (λ v. Unit {0}) (run_extend q (night_step problem member lens adds t sink))
  ending t p q rel = elim (cases_Bool (nat_lt (begin_at sink) (until_at t + 1800))) [
    | inl soon ↦ record {
      to = q;
      is =
          ap (run_extend q) (other_is t sink)
          ∙ ap (λ (b : Bool). run_extend q (if b then soon_step (begin_at sink) (flights_at sink) else alone_step (flights_at sink))) soon
          ∙ ap (λ (es : List Event). run_extend q (soon_step (begin_at sink) es)) sink_flights
          ∙ ap (λ (b : Bool). if b then Some (record { value = q.value + 0 }) else None) (three q.value rel.most)
          ∙ ap (λ (m : ℕ). Some (record { value = m })) (let e : q.value + 0 ≡ q.value = omega arith in e);
      related = tt;
    }
    | inr late ↦ record {
      to = record { value = 0 };
      is =
          ap (run_extend q) (other_is t sink)
          ∙ ap (λ (b : Bool). run_extend q (if b then soon_step (begin_at sink) (flights_at sink) else alone_step (flights_at sink))) late
          ∙ ap (λ (es : List Event). run_extend q (alone_step es)) sink_flights
          ∙ ap (λ (b : Bool). if b then Some (record { value = 0 }) else None) (three q.value rel.most);
      related = tt;
    }
  ]

  beginning : IsNightly 0 0 (record { count = past_row problem member; until = past_until problem member }) (record { value = past_row problem member })
  beginning = record {
    few = omega arith;
    most = omega arith;
    now = λ pos small. absurd (omega arith);
    later = λ k lt small.
        let late = (item_at k (omega arith) small).late in
        lasts_soon (past_until problem member) (begin_at k) (past_row problem member) (omega arith)
        ∙ ap (λ (u : ℕ). if_soon (begin_at k) u (past_row problem member)) (sym source_until);
  }

  pub nights_alike : {S : Type 0} (may must : ℕ → Bool) (gain : ℕ → ℤ) (step : ℕ → ℕ → ℕ → S) (arcs : List (Arc S)) (taken : List ℕ)
      → AreTakeArcs (passes_by may must) (takes_by may must (is_near (item_begins problem member lens) (item_rests problem member lens) adds sink)) gain step arcs taken
      → 0 < sink
      → ((i j k : ℕ) → 0 < j → j ≤ k → k ≤ sink → is_near (item_begins problem member lens) (item_rests problem member lens) adds sink i j ≡ true → is_near (item_begins problem member lens) (item_rests problem member lens) adds sink i k ≡ true)
      → ((k : ℕ) → 0 < k → k ≤ sink → is_near (item_begins problem member lens) (item_rests problem member lens) adds sink 0 k ≡ true)
      → must 0 ≡ false
      → (chain : List ℕ) → IsPath arcs 0 chain sink
      → AreAlike (λ s p. Unit {0})
      (run nights_extend (record { count = past_row problem member; until = past_until problem member }) (map (λ number. nights_step problem member lens adds (slice_index_or taken number 0) (option_map_or (λ (arc : Arc S). arc.from) (slice_get arcs number) 0) (option_map_or (λ (arc : Arc S). arc.to) (slice_get arcs number) 0)) chain))
      (run run_extend (record { value = past_row problem member }) (along (night_step problem member lens adds) 0 (stops_by sink (taken_by taken chain))))
  nights_alike may must gain step arcs taken are some nears starts free_source chain path =
      run_alike may must (is_near (item_begins problem member lens) (item_rests problem member lens) adds sink) sink gain step arcs taken are some nears starts free_source
      (nights_step problem member lens adds) nights_extend run_extend (night_step problem member lens adds) IsNightly
      (λ t i j r q at at_to lt small rel. passing t i j r q lt rel)
      (λ t i j r q positive inner lt small at on_at rel. taking t i j r q positive inner lt rel)
      (λ t r q lt rel. ending t r q rel)
      0 0 chain (record { count = past_row problem member; until = past_until problem member }) (record { value = past_row problem member })
      (at_source may must (is_near (item_begins problem member lens) (item_rests problem member lens) adds sink) sink gain step arcs taken are some nears starts free_source)
      path beginning
