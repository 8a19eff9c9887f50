-- The start of the latest free block runs along a line's stops exactly where each report has had its days free.
use Rattle.std.proofs.Common.{◌≡◌, ℕ, suc, ◌+◌, ◌-◌, max, ◌<◌, ◌≤◌, Bool, true, false, ◌&&◌, List, [], ◌∷◌, ◌++◌, Option, Some, None, length, refl, ap, sym, ◌∙◌, subst, arith, inl, inr, ◌⊎◌}
use Rattle.std.specs.Prelude.{nat_lt, filter, map, slice_get, unwrap_or}
use Rattle.std.specs.List.{AllByRecursion}
use Rattle.std.proofs.lemmas.Bool.{cases_Bool, false≢true}
use Rattle.std.proofs.lemmas.Bool.Decides.{nat_tests}
use Rattle.std.proofs.lemmas.List.Elements.{recursion_from_All, All-from_recursion, All-filter, filter_passes}
use Rattle.std.proofs.lemmas.Option.{slice_get_cases, slice_get_within}
use Rattle.duty_calendar.specs.declared.event.Event.{Event}
use Rattle.duty_calendar.specs.declared.event.Kind.{Kind}
use Rattle.duty_calendar.specs.declared.event.Kind.TheVariants.{Flight, Ground, Leave}
use Rattle.duty_calendar.specs.declared.pairing.Duty.{Duty}
use Rattle.duty_calendar.specs.declared.pairing.Pairing.{Pairing}
use Rattle.duty_calendar.specs.Minutes.{is_between, is_duty, is_flight, has_duty, is_duty_minute}
use Rattle.duty_calendar.specs.Limits.{AtReports, IsRested, HadDaysFree}
use Rattle.label_lattice.specs.declared.values.LatestStep.{LatestStep}
use Rattle.label_lattice.specs.Latest.{latest_extend}
use Rattle.roster_model.specs.declared.problem.Problem.{Problem}
use Rattle.roster_model.specs.declared.node.Decision.{Decision}
use Rattle.roster_model.specs.declared.proof.Lens.{Lens}
use Rattle.roster_model.specs.Scores.{is_flown}
use Rattle.roster_model.specs.Spans.{duty_event, duty_events, first_report, last_release}
use Rattle.roster_model.specs.Timelines.{history_of, fixed_of, events_of, coming_events, pairings_of}
use Rattle.line_items.specs.Clear.{duties_of, base_of}
use Rattle.line_items.specs.FreeBlocks.{last_block, least_start, item_least}
use Rattle.line_items.specs.Items.{visited_flights, item_count, item_begins, item_rests, item_events}
use Rattle.line_items.proofs.ItemSteps.{free_step}
use Rattle.line_items.proofs.Places.{is_added}
use Rattle.line_items.proofs.Walks.{along}
use Rattle.line_items.proofs.Blocks.{IsLatest, none_yet, Agree, IsBusyAt, split_block, latest_step, is_served_by, served_from, Asks, least_asks, asks_least}
use Rattle.line_items.proofs.Completing.{Completes, still}
use Rattle.line_items.proofs.Fitting.{IsSoundMonth, small_of}
use Rattle.line_items.proofs.Following.{AreDuties, last_after}
use Rattle.line_items.proofs.FreeMinutes.{picked, refused, at_read, all_two, of_filter, each_flat, minutes_split, quiet_outside, busy_first, Reports, reports_within, fixed_quiet, past_quiet, duties_late, history_early, fixed_late}
use Rattle.line_items.proofs.FreeMinutes.{at_pairing, at_flight, at_none}
use Rattle.line_items.proofs.FreeRuns.{Next, in_a_row}
use Rattle.line_items.proofs.FreeRuns.{latest_runs, latest_ran}
use Rattle.line_items.proofs.LineParts.{joined, parted, all_flat}
use Rattle.line_items.proofs.LineParts.{all_join, all_first, all_second}
use Rattle.line_items.proofs.Resting.{none_parts, Lasts}
use Rattle.line_items.proofs.Visited.{IsVisited}
use Rattle.line_items.proofs.Visits.{added_from, added_by, above, in_end, in_filter, filter_has}
use Rattle.line_items.proofs.Walking.{is_in_list}

pub from_reads : {X : Type 0} (P : X → Type 0) (xs : List X) → ((n : ℕ) (x : X) → slice_get xs n ≡ Some x → P x) → AllByRecursion P xs
from_reads P [] each = tt
from_reads P (x ∷ xs) each = (each 0 x refl, from_reads P xs (λ n y is. each (suc n) y is))

first_before : (ds : List Duty) → AreDuties ds → first_report ds < last_release ds
first_before [] sound = absurd sound
first_before (d ∷ ds) sound = let l = last_after d ds sound in let p = sound.0 in omega arith

-- a pairing's duties are flights, and the first of them is the first
pub of_duties : (Q : ℕ → Type 0) (ds : List Duty) → AllByRecursion (λ (e : Event). is_flight e.kind ≡ true → Q e.report) (map duty_event ds)
    → AllByRecursion (λ (e : Event). Q e.report) (map duty_event ds)
of_duties Q [] all = tt
of_duties Q (d ∷ ds) all = (all.0 refl, of_duties Q ds all.1)

pub to_duties : (Q : ℕ → Type 0) (es : List Event) → AllByRecursion (λ (e : Event). Q e.report) es
    → AllByRecursion (λ (e : Event). is_flight e.kind ≡ true → Q e.report) es
to_duties Q [] all = tt
to_duties Q (e ∷ es) all = (λ flight. all.0, to_duties Q es all.1)

first_of : (Q : ℕ → Type 0) (ds : List Duty) → AreDuties ds → AllByRecursion (λ (e : Event). Q e.report) (map duty_event ds) → Q (first_report ds)
first_of Q [] sound all = absurd sound
first_of Q (d ∷ ds) sound all = all.0

-- the block that began last before a pairing serves a report near enough
had_before : (events : List Event) (to v report : ℕ) → IsLatest events to v → to ≤ report → 525600 ≤ report → report ≤ v + 10080
    → HadDaysFree events report
had_before events to v report latest order late near = elim latest.attained [
  | inl none ↦ absurd (omega arith)
  | inr there ↦ (v, near, omega (arith, there.0), there.1)
]

busy_flight : (e : Event) → is_flight e.kind ≡ true → e.report < e.release → has_duty e e.report ≡ false → ⊥
busy_flight e flight lasts none = go e.kind flight (here e.report e.release lasts) none
  where
    here : (a b : ℕ) → a < b → is_between a b a ≡ true
    here a b lt = grind (arith, nat_tests)

    go : (k : Kind) → is_flight k ≡ true → is_between e.report e.release e.report ≡ true → (is_duty k && is_between e.report e.release e.report) ≡ false → ⊥
    go Flight flight inside none = false≢true (sym none ∙ inside)
    go Ground flight inside none = false≢true flight
    go Leave flight inside none = false≢true flight

module _ (problem : Problem) (member : ℕ) (node : List Decision) (lens : Lens) (adds : ℕ → ℕ) (sink : ℕ) (line js : List ℕ)
    (sound : IsSoundMonth problem member) (visited : IsVisited problem member node lens adds sink line js) (on : lens.free30 ≡ true) where
  abbrev h : ℕ → Option Pairing
  h = slice_get problem.base.pairings

  abbrev events : List Event
  events = events_of problem member line

  abbrev flown : List Event
  flown = duty_events (pairings_of problem line)

  abbrev begins : ℕ → ℕ
  begins k = item_begins problem member lens (adds k)

  abbrev rests : ℕ → ℕ
  rests k = item_rests problem member lens (adds k)

  abbrev own : ℕ → List Event
  own k = item_events problem member lens (adds k)

  -- what a stop before the sink adds
  pub record AtPairing (k : ℕ) (x : Pairing) : Type 0 where
    pub number : adds k < length problem.base.pairings
    pub is : h (adds k) ≡ Some x
    pub in_line : is_flown line (adds k) ≡ true

  pub record AtFlight (k : ℕ) (e : Event) : Type 0 where
    pub past : length problem.base.pairings ≤ adds k
    pub is : slice_get (visited_flights problem member lens) (adds k - length problem.base.pairings) ≡ Some e

  pub record IsStop (k : ℕ) : Type 0 where
    pub inside : is_in_list js k ≡ true
    pub before : k < sink

  pub stop_at : (k : ℕ) → IsStop k → ((x : Pairing) × AtPairing k x) ⊎ ((e : Event) × AtFlight k e)
  stop_at k stop = elim (cases_Bool (nat_lt (adds k) (length problem.base.pairings))) [
    | inl small ↦
        let lt : adds k < length problem.base.pairings = below (adds k) (length problem.base.pairings) small in
        elim (slice_get_cases problem.base.pairings (adds k)).1 [
          | inl found ↦ inl (
            found.0,
            record {
              number = lt;
              is = found.2;
              in_line = subst (λ (l : List ℕ). is_flown l (adds k) ≡ true) visited.line_is
                  (filter_has (is_added adds js) 0 (length problem.base.pairings) (adds k) (omega arith) (omega arith) (added_from adds js k stop.inside));
            },
          )
          | inr none ↦ absurd (omega (arith, none.0))
        ]
    | inr large ↦
        let le : length problem.base.pairings ≤ adds k = above_it (adds k) (length problem.base.pairings) large in
        let few : adds k < item_count problem member lens = visited.placed.inner k (above 0 js visited.up k stop.inside) stop.before in
        elim (slice_get_cases (visited_flights problem member lens) (adds k - length problem.base.pairings)).1 [
          | inl found ↦ inr (found.0, record { past = le; is = found.2 })
          | inr none ↦ absurd (omega (arith, none.0))
        ]
  ]
    where
      below : (a b : ℕ) → nat_lt a b ≡ true → a < b
      below a b t = grind (arith, nat_tests)

      above_it : (a b : ℕ) → nat_lt a b ≡ false → b ≤ a
      above_it a b t = grind (arith, nat_tests)

  pub pairing_begins : (k : ℕ) (x : Pairing) → AtPairing k x → begins k ≡ first_report x.duties
  pairing_begins k x at = at_pairing problem member lens (λ p. first_report p.duties) (λ e. e.report) 0 (adds k) x at.number at.is

  pub pairing_rests : (k : ℕ) (x : Pairing) → AtPairing k x → rests k ≡ last_release x.duties + 600
  pairing_rests k x at = at_pairing problem member lens (λ p. last_release p.duties + 600) (λ e. e.release) 0 (adds k) x at.number at.is

  pub pairing_own : (k : ℕ) (x : Pairing) → AtPairing k x → own k ≡ duties_of x
  pairing_own k x at = at_pairing problem member lens duties_of (λ e. []) [] (adds k) x at.number at.is

  pub flight_begins : (k : ℕ) (e : Event) → AtFlight k e → begins k ≡ e.report
  flight_begins k e at = at_flight problem member lens (λ p. first_report p.duties) (λ e. e.report) 0 (adds k) e at.past at.is

  pub flight_rests : (k : ℕ) (e : Event) → AtFlight k e → rests k ≡ e.release
  flight_rests k e at = at_flight problem member lens (λ p. last_release p.duties + 600) (λ e. e.release) 0 (adds k) e at.past at.is

  flight_own : (k : ℕ) (e : Event) → AtFlight k e → own k ≡ []
  flight_own k e at = at_flight problem member lens duties_of (λ e. []) [] (adds k) e at.past at.is

  source_begins : begins 0 ≡ 0
  source_begins = at_none problem member lens (λ p. first_report p.duties) (λ e. e.report) 0 (adds 0) visited.placed.source

  source_own : own 0 ≡ []
  source_own = at_none problem member lens duties_of (λ e. []) [] (adds 0) visited.placed.source

  pub sound_at : (k : ℕ) (x : Pairing) → AtPairing k x → AreDuties x.duties
  sound_at k x at = sound.duties (adds k) x at.is

  -- what holds of the fixed events, of the visited ones
  pub flights_are : visited_flights problem member lens ≡ filter (λ e. is_flight e.kind) (fixed_of problem member)
  flights_are = picked lens.free30 (filter (λ e. is_flight e.kind) (fixed_of problem member)) [] on

  pub flight_has : (P : Event → Type 0) → AllByRecursion P (fixed_of problem member) → (n : ℕ) (e : Event)
      → slice_get (visited_flights problem member lens) n ≡ Some e → P e × (is_flight e.kind ≡ true)
  flight_has P all n e is =
      let t : Event → Bool = λ e. is_flight e.kind in
      let here : slice_get (filter t (fixed_of problem member)) n ≡ Some e = ap (λ (l : List Event). slice_get l n) (sym flights_are) ∙ is in (
        at_read P (filter t (fixed_of problem member))
            (recursion_from_All P (filter t (fixed_of problem member)) (All-filter t P (fixed_of problem member) (All-from_recursion P (fixed_of problem member) all))) n e here,
        at_read (λ (x : Event). t x ≡ true) (filter t (fixed_of problem member))
            (recursion_from_All (λ (x : Event). t x ≡ true) (filter t (fixed_of problem member)) (filter_passes t (fixed_of problem member))) n e here,
      )

  pub flight_lasts : (k : ℕ) (e : Event) → AtFlight k e → e.report < e.release
  flight_lasts k e at =
      (flight_has Lasts (all_second Lasts (history_of problem member) (fixed_of problem member) sound.events) (adds k - length problem.base.pairings) e at.is).0.lasts

  pub begins_rests : (k : ℕ) → IsStop k → begins k ≤ rests k
  begins_rests k stop = elim (stop_at k stop) [
    | inl p ↦
        let b = pairing_begins k p.0 p.1 in
        let r = pairing_rests k p.0 p.1 in
        let l = first_before p.0.duties (sound_at k p.0 p.1) in
        omega arith
    | inr f ↦
        let b = flight_begins k f.0 f.1 in
        let r = flight_rests k f.0 f.1 in
        let l = flight_lasts k f.0 f.1 in
        omega arith
  ]

  -- the place of each pairing of the line
  pub below_sink : (k : ℕ) → is_in_list js k ≡ true → adds k < item_count problem member lens → k < sink
  below_sink k inside small = elim (cases_Bool (nat_lt k sink)) [
    | inl lt ↦ below k sink lt
    | inr not_lt ↦
        let le = in_end 0 js visited.up k inside in
        let ends = visited.ends in
        let same : k ≡ sink = equal k sink not_lt (omega arith) in
        let last = visited.placed.last in
        let at : adds k ≡ adds sink = ap adds same in
        absurd (omega arith)
  ]
    where
      below : (a b : ℕ) → nat_lt a b ≡ true → a < b
      below a b t = grind (arith, nat_tests)

      equal : (a b : ℕ) → nat_lt a b ≡ false → a ≤ b → a ≡ b
      equal a b t le = grind (arith, nat_tests)

  pub place_of : (n : ℕ) → is_flown line n ≡ true → (k : ℕ) × IsStop k × (adds k ≡ n)
  place_of n f =
      let small : n < length problem.base.pairings =
      small_of (length problem.base.pairings) line (recursion_from_All (λ q. q < length problem.base.pairings) line visited.fit.in_range) n f in
      let added = in_filter (is_added adds js) 0 (length problem.base.pairings) n (subst (λ (l : List ℕ). is_flown l n ≡ true) (sym visited.line_is) f) in
      let k = added_by adds js n added.2 in
      let is : adds k.0 ≡ n = k.2 in
      (k.0, record { inside = k.1; before = below_sink k.0 k.1 (omega arith) }, is)

  pub pairing_at : (n : ℕ) (x : Pairing) → is_flown line n ≡ true → h n ≡ Some x → (k : ℕ) × IsStop k × AtPairing k x
  pairing_at n x f is =
      let k = place_of n f in
      let small : n < length problem.base.pairings =
      small_of (length problem.base.pairings) line (recursion_from_All (λ q. q < length problem.base.pairings) line visited.fit.in_range) n f in
      let same : adds k.0 ≡ n = k.2 in (
        k.0,
        k.1,
        record {
          number = omega arith;
          is = ap h same ∙ is;
          in_line = ap (is_flown line) same ∙ f;
        },
      )

  -- minutes without duty
  quiet_line : (m : ℕ) → ((k : ℕ) (x : Pairing) → IsStop k → AtPairing k x → is_duty_minute (duties_of x) m ≡ false) → is_duty_minute flown m ≡ false
  quiet_line m each =
      joined h duties_of (λ es. is_duty_minute es m) (minutes_split m) line (λ n x f is.
      let k = pairing_at n x f is in
      each k.0 x k.1 k.2)

  pub in_history : (m : ℕ) → is_duty_minute events m ≡ false → is_duty_minute (history_of problem member) m ≡ false
  in_history m none = (minutes_split m).first (history_of problem member) (coming_events problem member line) none

  in_fixed : (m : ℕ) → is_duty_minute events m ≡ false → is_duty_minute (fixed_of problem member) m ≡ false
  in_fixed m none =
      (minutes_split m).first (fixed_of problem member) flown ((minutes_split m).second (history_of problem member) (coming_events problem member line) none)

  in_pairing : (k : ℕ) (x : Pairing) → AtPairing k x → (m : ℕ) → is_duty_minute events m ≡ false → is_duty_minute (duties_of x) m ≡ false
  in_pairing k x at m none =
      parted h duties_of (λ es. is_duty_minute es m) (minutes_split m) line
      ((minutes_split m).second (fixed_of problem member) flown ((minutes_split m).second (history_of problem member) (coming_events problem member line) none))
      (adds k) x at.in_line at.is

  quiet_all : (m : ℕ) → is_duty_minute (history_of problem member) m ≡ false → is_duty_minute (fixed_of problem member) m ≡ false
      → is_duty_minute flown m ≡ false → is_duty_minute events m ≡ false
  quiet_all m a b c =
      (minutes_split m).join (history_of problem member) (coming_events problem member line) a ((minutes_split m).join (fixed_of problem member) flown b c)

  -- a stop begins on duty
  busy_stop : (k : ℕ) → IsStop k → is_duty_minute events (begins k) ≡ false → ⊥
  busy_stop k stop none = elim (stop_at k stop) [
    | inl p ↦
        let x = p.0 in
        busy_first x (sound_at k x p.1) (in_pairing k x p.1 (first_report x.duties) (subst (λ (m : ℕ). is_duty_minute events m ≡ false) (pairing_begins k x p.1) none))
    | inr f ↦
        let e = f.0 in
        let quiet = in_fixed e.report (subst (λ (m : ℕ). is_duty_minute events m ≡ false) (flight_begins k e f.1) none) in
        let here = flight_has (λ (x : Event). has_duty x e.report ≡ false) (none_parts (λ (x : Event). has_duty x e.report) (fixed_of problem member) quiet)
        (adds k - length problem.base.pairings) e f.1.is in
        busy_flight e here.1 (flight_lasts k e f.1) here.0
  ]

  -- two stops in a row, of which the second is not the sink
  first_stop : (i j : ℕ) → Next js i j → j < sink → (i ≡ 0) ⊎ IsStop i
  first_stop i j next lt = elim next.from [
    | inl none ↦ inl none
    | inr inside ↦ inr (record { inside = inside; before = let l = next.later in omega arith })
  ]

  second_stop : (i j : ℕ) → Next js i j → j < sink → IsStop j
  second_stop i j next lt = record { inside = next.to; before = lt }

  stop_above : (k : ℕ) → IsStop k → 0 < k
  stop_above k stop = above 0 js visited.up k stop.inside

  pub follows : (i j : ℕ) → IsStop i → IsStop j → i < j → rests i ≤ begins j
  follows i j a b lt = visited.follow i j a.inside b.inside lt b.before

  in_order : (i j : ℕ) → Next js i j → j < sink → begins i ≤ begins j
  in_order i j next lt = elim (first_stop i j next lt) [
    | inl none ↦
        let zero_at : begins i ≡ begins 0 = ap (λ (k : ℕ). begins k) none in
        let s = source_begins in
        omega arith
    | inr stop ↦
        let a = begins_rests i stop in
        let b = follows i j stop (second_stop i j next lt) next.later in
        omega arith
  ]

  busy : (i : ℕ) → (i ≡ 0) ⊎ IsStop i → IsBusyAt events (begins i)
  busy i (inl none) = inl (ap (λ (k : ℕ). begins k) none ∙ source_begins)
  busy i (inr stop) = inr (busy_stop i stop)

  own_quiet : (i m : ℕ) → (i ≡ 0) ⊎ IsStop i → is_duty_minute events m ≡ false → is_duty_minute (own i) m ≡ false
  own_quiet i m (inl none) quiet =
      let is : own i ≡ [] = ap (λ (k : ℕ). own k) none ∙ source_own in
      ap (λ (es : List Event). is_duty_minute es m) is
  own_quiet i m (inr stop) quiet = elim (stop_at i stop) [
    | inl p ↦ ap (λ (es : List Event). is_duty_minute es m) (pairing_own i p.0 p.1) ∙ in_pairing i p.0 p.1 m quiet
    | inr f ↦ ap (λ (es : List Event). is_duty_minute es m) (flight_own i f.0 f.1)
  ]

  cases_of : (a b : ℕ) → (a < b) ⊎ (a ≡ b) ⊎ (b < a)
  cases_of a b = elim (cases_Bool (nat_lt a b)) [
    | inl lt ↦ inl (grind (arith, nat_tests))
    | inr not_lt ↦ inr (elim (cases_Bool (nat_lt b a)) [
      | inl gt ↦ inr (grind (arith, nat_tests))
      | inr not_gt ↦ inl (grind (arith, nat_tests))
    ])
  ]

  -- between them the line has the duty of the first alone, beside history and fixed events
  others_quiet : (i j m : ℕ) → Next js i j → j < sink → begins i ≤ m → m < begins j → is_duty_minute (own i) m ≡ false
      → (k : ℕ) (x : Pairing) → IsStop k → AtPairing k x → is_duty_minute (duties_of x) m ≡ false
  others_quiet i j m next lt low high quiet k x stop at =
      let second = second_stop i j next lt in
      elim (next.between k stop.inside) [
        | inl le ↦ elim (first_stop i j next lt) [
          | inl none ↦ let above_zero = stop_above k stop in absurd (omega arith)
          | inr first ↦ elim (cases_of k i) [
            | inl earlier ↦
                let f = follows k i stop first earlier in
                let r = pairing_rests k x at in
                quiet_outside x (sound_at k x at) m (inr (omega arith))
            | inr rest ↦ elim rest [
              | inl same ↦
                  let is : own i ≡ duties_of x = ap (λ (n : ℕ). own n) (sym same) ∙ pairing_own k x at in
                  subst (λ (es : List Event). is_duty_minute es m ≡ false) is quiet
              | inr later ↦ absurd (omega arith)
            ]
          ]
        ]
        | inr ge ↦
            let b = pairing_begins k x at in
            quiet_outside x (sound_at k x at) m (inl (elim (cases_of k j) [
              | inl earlier ↦ absurd (omega arith)
              | inr rest ↦ elim rest [
                | inl same ↦
                    let s : begins k ≡ begins j = ap (λ (n : ℕ). begins n) same in
                    omega arith
                | inr later ↦
                    let f = follows j k second stop later in
                    let r = begins_rests j second in
                    omega arith
              ]
            ]))
      ]

  agree : (i j : ℕ) → Next js i j → j < sink → Agree events (base_of problem member ++ own i) (begins i) (begins j)
  agree i j next lt = record {
    own_free = λ m low high none.
        (minutes_split m).join (base_of problem member) (own i)
        ((minutes_split m).join (history_of problem member) (fixed_of problem member) (in_history m none) (in_fixed m none))
        (own_quiet i m (first_stop i j next lt) none);
    all_free = λ m low high none.
        let base = (minutes_split m).first (base_of problem member) (own i) none in
        quiet_all m ((minutes_split m).first (history_of problem member) (fixed_of problem member) base)
        ((minutes_split m).second (history_of problem member) (fixed_of problem member) base)
        (quiet_line m (others_quiet i j m next lt low high ((minutes_split m).second (base_of problem member) (own i) none)));
  }

  -- within a pairing the line has its own duty alone
  pub rested_first : (k : ℕ) (x : Pairing) → AtPairing k x → IsRested events (first_report x.duties)
  rested_first k x at =
      let P : Event → Type 0 = λ e. is_flight e.kind ≡ true → IsRested events e.report in
      first_of (IsRested events) x.duties (sound_at k x at)
      (of_duties (IsRested events) x.duties
      (each_flat h duties_of P line
      (all_second P (fixed_of problem member) flown (recursion_from_All P (coming_events problem member line) visited.fit.fits.rested))
      (adds k) x at.in_line at.is))

  pub late_first : (k : ℕ) (x : Pairing) → AtPairing k x → 525600 ≤ first_report x.duties
  late_first k x at = first_of (λ r. 525600 ≤ r) x.duties (sound_at k x at) (duties_late problem (adds k) x at.is)

  pairing_quiet : (k : ℕ) (x : Pairing) → IsStop k → AtPairing k x → (m : ℕ) → first_report x.duties ≤ m → m < last_release x.duties
      → is_duty_minute (duties_of x) m ≡ false → is_duty_minute events m ≡ false
  pairing_quiet k x stop at m low high quiet =
      quiet_all m
      (past_quiet (history_of problem member) (first_report x.duties) m
      (earlier (history_of problem member) (history_early problem member))
      (in_history (first_report x.duties - 1) (rested_first k x at (first_report x.duties - 1) (let l = late in omega arith) (let l = late in omega arith)))
      low)
      (fixed_quiet h line (fixed_of problem member) visited.fit.fits.apart (adds k) x at.in_line at.is m low high)
      (quiet_line m (λ n y other is. elim (cases_of n k) [
        | inl before ↦
            let f = follows n k other stop before in
            let r = pairing_rests n y is in
            let b = pairing_begins k x at in
            quiet_outside y (sound_at n y is) m (inr (omega arith))
        | inr rest ↦ elim rest [
          | inl same ↦
              let found : Some x ≡ Some y = sym at.is ∙ ap h (ap adds (sym same)) ∙ is.is in
              let one : x ≡ y = some_same x y found in
              subst (λ (z : Pairing). is_duty_minute (duties_of z) m ≡ false) one quiet
          | inr after ↦
              let f = follows k n stop other after in
              let r = pairing_rests k x at in
              let b = pairing_begins n y is in
              quiet_outside y (sound_at n y is) m (inl (omega arith))
        ]
      ]))
    where
      late : 525600 ≤ first_report x.duties
      late = late_first k x at

      earlier : (es : List Event) → AllByRecursion (λ (e : Event). e.report < 525600) es → AllByRecursion (λ (e : Event). e.report < first_report x.duties) es
      earlier [] all = tt
      earlier (e ∷ es) all = (let l = late in let a = all.0 in omega arith, earlier es all.1)

      some_same : (x y : Pairing) → Some x ≡ Some y → x ≡ y
      some_same x y e = cc

  -- the label and what is asked of it
  abbrev step : ℕ → ℕ → LatestStep
  step = free_step problem member lens adds

  step_is : (i j : ℕ) → step i j ≡ record {
    renew = last_block (base_of problem member ++ own i) (begins i) (begins j);
    least = item_least problem member lens (adds j);
  }
  step_is i j =
      picked lens.free30
      (record {
        renew = last_block (base_of problem member ++ own i) (begins i) (begins j);
        least = item_least problem member lens (adds j);
      })
      (record { renew = None; least = 0 }) on

  abbrev State : ℕ → ℕ → Type 0
  State k v = k < sink → IsLatest events (begins k) v

  record HasDays (k : ℕ) : Type 0 where
    pub pairing : (x : Pairing) → AtPairing k x → AllByRecursion (λ (e : Event). HadDaysFree events e.report) (duties_of x)
    pub flight : (e : Event) → AtFlight k e → HadDaysFree events e.report

  abbrev Good : ℕ → Type 0
  Good k = k < sink → HasDays k

  onto : (i j v : ℕ) → Next js i j → State i v → State j (max v (unwrap_or (step i j).renew 0))
  onto i j v next state lt =
      let before : i < sink = let l = next.later in omega arith in
      subst (λ (o : Option ℕ). IsLatest events (begins j) (max v (unwrap_or o 0)))
      (sym (ap (λ (s : LatestStep). s.renew) (step_is i j)))
      (latest_step events (base_of problem member ++ own i) (begins i) (begins j) v (state before) (in_order i j next lt)
      (busy i (first_stop i j next lt)) (agree i j next lt))

  -- what a report of a pairing asks
  had_asks : (k v : ℕ) (x : Pairing) → IsStop k → AtPairing k x → IsLatest events (first_report x.duties) v → (e : Event)
      → HadDaysFree events e.report → Asks (duties_of x) (first_report x.duties) v e
  had_asks k v x stop at latest e had =
      let near : e.report ≤ had.0 + 10080 = had.1 in
      elim (split_block events (first_report x.duties) had.0
      (inr (λ none. busy_first x (sound_at k x at) (in_pairing k x at (first_report x.duties) none))) had.3) [
        | inl before ↦ inr (let le = latest.greatest had.0 before had.3 in omega arith)
        | inr after ↦ inl (served_from (duties_of x) (first_report x.duties) e.report had.0 (record {
          after = after;
          before = had.2;
          free = λ m a b. in_pairing k x at m (had.3 m a b);
        }) near)
      ]

  asks_had : (k v : ℕ) (x : Pairing) → IsStop k → AtPairing k x → IsLatest events (first_report x.duties) v → (e : Event)
      → Reports (first_report x.duties) (last_release x.duties) e → Asks (duties_of x) (first_report x.duties) v e → HadDaysFree events e.report
  asks_had k v x stop at latest e within (inl served) =
      let b = is_served_by (duties_of x) (first_report x.duties) e.report served in
      let lies = b.1 in (
        b.0,
        b.2,
        lies.before,
        λ m low high.
            pairing_quiet k x stop at m (omega (arith, lies.after, low)) (omega (arith, high, lies.before, within.before)) (lies.free m low high),
      )
  asks_had k v x stop at latest e within (inr near) =
      let late = late_first k x at in
      let after = within.after in
      had_before events (first_report x.duties) v e.report latest after (omega arith) near

  least_is : (i j : ℕ) → (step i j).least ≡ item_least problem member lens (adds j)
  least_is i j = ap (λ (s : LatestStep). s.least) (step_is i j)

  pairing_least : (k : ℕ) (x : Pairing) → AtPairing k x
      → item_least problem member lens (adds k) ≡ least_start (duties_of x) (first_report x.duties) (duties_of x)
  pairing_least k x at =
      at_pairing problem member lens (λ p. least_start (duties_of p) (first_report p.duties) (duties_of p)) (λ e. e.report - 10080) 0
      (adds k) x at.number at.is

  flight_least : (k : ℕ) (e : Event) → AtFlight k e → item_least problem member lens (adds k) ≡ e.report - 10080
  flight_least k e at =
      at_flight problem member lens (λ p. least_start (duties_of p) (first_report p.duties) (duties_of p)) (λ e. e.report - 10080) 0
      (adds k) e at.past at.is

  sink_least : (i j : ℕ) → Next js i j → nat_lt j sink ≡ false → item_least problem member lens (adds j) ≡ 0
  sink_least i j next not_lt =
      let le = in_end 0 js visited.up j next.to in
      let ends = visited.ends in
      at_none problem member lens (λ p. least_start (duties_of p) (first_report p.duties) (duties_of p)) (λ e. e.report - 10080) 0
      (adds j) (ap adds (equal j sink not_lt (omega arith)) ∙ visited.placed.last)
    where
      equal : (a b : ℕ) → nat_lt a b ≡ false → a ≤ b → a ≡ b
      equal a b t le = grind (arith, nat_tests)

  enough : (i j v : ℕ) → Next js i j → State j v → Good j → (step i j).least ≤ v
  enough i j v next state good = elim (cases_Bool (nat_lt j sink)) [
    | inl before ↦
        let lt : j < sink = below j sink before in
        let stop = second_stop i j next lt in
        elim (stop_at j stop) [
          | inl p ↦
              let x = p.0 in
              let at = p.1 in
              let latest = subst (λ (b : ℕ). IsLatest events b v) (pairing_begins j x at) (state lt) in
              let le = asks_least (duties_of x) (first_report x.duties) v (duties_of x)
              (all_two (λ (e : Event). HadDaysFree events e.report) (Reports (first_report x.duties) (last_release x.duties))
              (Asks (duties_of x) (first_report x.duties) v) (duties_of x) ((good lt).pairing x at) (reports_within x.duties (sound_at j x at))
              (λ e had within. had_asks j v x stop at latest e had)) in
              let is = least_is i j ∙ pairing_least j x at in
              omega arith
          | inr f ↦
              let e = f.0 in
              let had = (good lt).flight e f.1 in
              let near : e.report ≤ had.0 + 10080 = had.1 in
              let b = flight_begins j e f.1 in
              let fits : had.0 + 1800 ≤ begins j = omega (arith, had.2) in
              let le : had.0 ≤ v = (state lt).greatest had.0 fits had.3 in
              let is = least_is i j ∙ flight_least j e f.1 in
              omega arith
        ]
    | inr not_lt ↦
        let is = least_is i j ∙ sink_least i j next not_lt in
        omega arith
  ]
    where
      below : (a b : ℕ) → nat_lt a b ≡ true → a < b
      below a b t = grind (arith, nat_tests)

  good : (i j v : ℕ) → Next js i j → State j v → (step i j).least ≤ v → Good j
  good i j v next state le lt =
      let stop = second_stop i j next lt in
      record {
        pairing = λ x at.
            let latest = subst (λ (b : ℕ). IsLatest events b v) (pairing_begins j x at) (state lt) in
            let is = least_is i j ∙ pairing_least j x at in
            all_two (Reports (first_report x.duties) (last_release x.duties)) (Asks (duties_of x) (first_report x.duties) v)
            (λ (e : Event). HadDaysFree events e.report) (duties_of x) (reports_within x.duties (sound_at j x at))
            (least_asks (duties_of x) (first_report x.duties) v (duties_of x) (omega arith))
            (λ e within asks. asks_had j v x stop at latest e within asks);
        flight = λ e at.
            let latest = subst (λ (b : ℕ). IsLatest events b v) (flight_begins j e at) (state lt) in
            let is = least_is i j ∙ flight_least j e at in
            let late = (flight_has (λ (x : Event). 525600 ≤ x.report) (fixed_late problem member) (adds j - length problem.base.pairings) e at.is).0 in
            had_before events e.report v e.report latest (omega arith) late (omega arith);
      }

  abbrev Reported : Event → Type 0
  Reported e = is_flight e.kind ≡ true → HadDaysFree events e.report

  source_state : State 0 0
  source_state lt = subst (λ (b : ℕ). IsLatest events b 0) (sym source_begins) (none_yet events)

  runs_free : AtReports (HadDaysFree events) (coming_events problem member line)
      → Completes {E = Unit {0}} latest_extend (λ _ _. true) (record { value = 0 }) tt (along (free_step problem member lens adds) 0 js)
  runs_free had =
      latest_runs step js State Good onto enough good 0 0 js (in_a_row js visited.up) source_state (λ k inside lt. record {
        pairing = λ x at.
            of_duties (HadDaysFree events) x.duties
            (each_flat h duties_of Reported line (all_second Reported (fixed_of problem member) flown all) (adds k) x at.in_line at.is);
        flight = λ e at.
            let found = flight_has Reported (all_first Reported (fixed_of problem member) flown all) (adds k - length problem.base.pairings) e at.is in
            found.0 found.1;
      })
    where
      all : AllByRecursion Reported (coming_events problem member line)
      all = recursion_from_All Reported (coming_events problem member line) had

  ran_free : Completes {E = Unit {0}} latest_extend (λ _ _. true) (record { value = 0 }) tt (along (free_step problem member lens adds) 0 js)
      → AtReports (HadDaysFree events) (coming_events problem member line)
  ran_free c =
      All-from_recursion Reported (coming_events problem member line)
      (all_join Reported (fixed_of problem member) flown
      (of_filter (λ e. is_flight e.kind) (λ (e : Event). HadDaysFree events e.report) (fixed_of problem member)
      (subst (λ (es : List Event). AllByRecursion (λ (e : Event). HadDaysFree events e.report) es) flights_are
      (from_reads (λ (e : Event). HadDaysFree events e.report) (visited_flights problem member lens) (λ n e is.
      let few = slice_get_within (visited_flights problem member lens) n e is in
      let k = visited.flights (length problem.base.pairings + n) (omega arith) (omega arith) in
      let same : adds k.0 ≡ length problem.base.pairings + n = k.2 in
      let read : adds k.0 - length problem.base.pairings ≡ n = omega arith in
      (each k.0 k.1 (below_sink k.0 k.1 (omega arith))).flight e (record {
        past = omega arith;
        is = ap (λ (i : ℕ). slice_get (visited_flights problem member lens) i) read ∙ is;
      })))))
      (all_flat h duties_of Reported line (λ n x f is.
      let k = pairing_at n x f is in
      to_duties (HadDaysFree events) (duties_of x) ((each k.0 k.1.inside k.1.before).pairing x k.2))))
    where
      each : (k : ℕ) → is_in_list js k ≡ true → Good k
      each k inside = latest_ran step js State Good onto enough good 0 0 js c.last (in_a_row js visited.up) source_state c.runs k inside

-- each report has had its days free where the lens looks at them: then the free blocks run along the stops
pub free_complete : (problem : Problem) (member : ℕ) (node : List Decision) (lens : Lens) (adds : ℕ → ℕ) (sink : ℕ) (line js : List ℕ)
    → IsSoundMonth problem member → IsVisited problem member node lens adds sink line js
    → (lens.free30 ≡ true → AtReports (HadDaysFree (events_of problem member line)) (coming_events problem member line))
    → Completes {E = Unit {0}} latest_extend (λ _ _. true) (record { value = 0 }) tt (along (free_step problem member lens adds) 0 js)
free_complete problem member node lens adds sink line js sound visited had =
    elim (cases_Bool lens.free30) [
      | inl on ↦ runs_free problem member node lens adds sink line js sound visited on (had on)
      | inr off ↦ still {E = Unit {0}} latest_extend (λ _ _. true) (record { value = 0 }) tt (free_step problem member lens adds) 0 js (λ i j.
          ap (latest_extend (record { value = 0 }))
          (refused lens.free30
          (record {
            renew = last_block (base_of problem member ++ item_events problem member lens (adds i))
                (item_begins problem member lens (adds i)) (item_begins problem member lens (adds j));
            least = item_least problem member lens (adds j);
          })
          (record { renew = None; least = 0 }) off)) refl
    ]

-- and only then
pub free_kept : (problem : Problem) (member : ℕ) (node : List Decision) (lens : Lens) (adds : ℕ → ℕ) (sink : ℕ) (line js : List ℕ)
    → IsSoundMonth problem member → IsVisited problem member node lens adds sink line js
    → Completes {E = Unit {0}} latest_extend (λ _ _. true) (record { value = 0 }) tt (along (free_step problem member lens adds) 0 js)
    → lens.free30 ≡ true → AtReports (HadDaysFree (events_of problem member line)) (coming_events problem member line)
free_kept problem member node lens adds sink line js sound visited c on =
    ran_free problem member node lens adds sink line js sound visited on c
