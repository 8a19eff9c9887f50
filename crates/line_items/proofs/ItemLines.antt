-- A line's pairings fit exactly where the items that a chain of it visits do: a clear pairing neither crosses a fixed
-- flight nor tires it, and fixed flights follow one another.
use Rattle.std.proofs.Common.{◌≡◌, ◌≢◌, ℕ, zero, suc, ◌+◌, ◌-◌, ◌<◌, ◌≤◌, Bool, true, false, not, cond, ◌&&◌, List, [], ◌∷◌, Some, length, get_or, refl, ap, sym, ◌∙◌, subst, arith, inl, inr, ◌⊎◌}
use Rattle.std.specs.Prelude.{nat_lt, filter, AllPairs, map, slice_get}
use Rattle.std.specs.List.{list_any, AllByRecursion}
use Rattle.std.specs.Option.{option_map_or}
use Rattle.std.proofs.lemmas.Bool.{and_parts, cases_lt}
use Rattle.std.proofs.lemmas.Bool.Decides.{nat_tests}
use Rattle.std.proofs.lemmas.List.Kept.{AllPairs-filter}
use Rattle.std.proofs.lemmas.Option.{slice_get_within, slice_get_past, slice_get_cases, get_or_from_slice_get}
use Rattle.duty_calendar.specs.declared.event.Event.{Event}
use Rattle.duty_calendar.specs.declared.pairing.Duty.{Duty}
use Rattle.duty_calendar.specs.declared.pairing.Pairing.{Pairing}
use Rattle.duty_calendar.specs.Minutes.{is_flight}
use Rattle.roster_model.specs.declared.problem.Problem.{Problem}
use Rattle.roster_model.specs.declared.node.Decision.{Decision}
use Rattle.roster_model.specs.declared.proof.Lens.{Lens}
use Rattle.roster_model.specs.Decided.{is_decided_as}
use Rattle.roster_model.specs.Timelines.{history_of, fixed_of}
use Rattle.roster_model.specs.Spans.{duty_event, first_report, last_release, pairing_span, event_span}
use Rattle.line_items.specs.Clear.{is_tiring, is_crossing, duties_of, is_base_rested, is_clear, may_fly, must_fly}
use Rattle.line_items.proofs.Apart.{IsApartLine, begins_at, rests_until, is_visited}
use Rattle.lens_classes.specs.declared.terms.Terms.{Terms}
use Rattle.line_items.specs.Items.{visited_flights, item_count, by_item, item_begins, item_rests, may_visit_item, must_visit_item, is_base_open}
use Rattle.line_items.proofs.Resting.{Lasts, none_parts}
use Rattle.line_items.proofs.Following.{AreDuties, last_tires}
use Rattle.line_items.proofs.LineParts.{all_second}
use Rattle.line_items.proofs.Fitting.{IsSoundMonth, found, span_lasts}
use Rattle.line_items.proofs.Fitting.{clear_parts}

-- what all elements have, those that pass a test have
pub in_filter_all : {X : Type 0} (P : X → Type 0) (t : X → Bool) (xs : List X) → AllByRecursion P xs
    → (k : ℕ) (x : X) → slice_get (filter t xs) k ≡ Some x → P x × (t x ≡ true)
in_filter_all P t [] all k x is = absurd (cc is)
in_filter_all {X} P t (y ∷ ys) all k x is = go (t y) refl k is (in_filter_all P t ys all.1)
  where
    go : (b : Bool) → t y ≡ b → (k : ℕ) → slice_get (cond b (y ∷ filter t ys) (filter t ys)) k ≡ Some x
        → ((k : ℕ) (x : X) → slice_get (filter t ys) k ≡ Some x → P x × (t x ≡ true)) → P x × (t x ≡ true)
    go true e zero is rest = let same : y ≡ x = let s : Some y ≡ Some x = is in cc in (subst P same all.0, subst (λ (z : X). t z ≡ true) same e)
    go true e (suc k) is rest = rest k x is
    go false e k is rest = rest k x is

-- a fixed flight that a pairing neither crosses nor tires comes before it, or after its rest
flight_follows : (ds : List Duty) → AreDuties ds → (begins ends : ℕ)
    → list_any (is_tiring begins) (map duty_event ds) ≡ false
    → (nat_lt begins (last_release ds) && nat_lt (first_report ds) ends) ≡ false
    → (last_release ds + 600 ≤ begins) ⊎ (ends ≤ first_report ds)
flight_follows [] are begins ends tires crosses = absurd are
flight_follows (d ∷ ds) are begins ends tires crosses =
    elim (cases_lt begins (last_release (d ∷ ds))) [
      | inl before ↦ inr (uncrossed begins (last_release (d ∷ ds)) d.report ends before crosses)
      | inr after ↦ inl (last_tires begins d ds are tires after)
    ]
  where
    uncrossed : (a b c d : ℕ) → a < b → (nat_lt a b && nat_lt c d) ≡ false → d ≤ c
    uncrossed a b c d lt h = let t : nat_lt a b ≡ true = grind (arith, nat_tests) in grind (arith, nat_tests)

pub less_true : (a b : ℕ) → a < b → nat_lt a b ≡ true
less_true a b h = grind (arith, nat_tests)

pub less_from : (a b : ℕ) → nat_lt a b ≡ true → a < b
less_from a b h = grind (arith, nat_tests)

pub not_less : (a b : ℕ) → b ≤ a → nat_lt a b ≡ false
not_less a b h = grind (arith, nat_tests)

module _ (problem : Problem) (member : ℕ) (lens : Lens) where
  abbrev pairings : ℕ
  pairings = length problem.base.pairings

  abbrev flights : List Event
  flights = visited_flights problem member lens

  pub at_pairing : {A : Type 0} (of_pairing : Pairing → A) (of_flight : Event → A) (other : A) (n : ℕ) → n < pairings
      → by_item problem member lens of_pairing of_flight other n ≡ option_map_or of_pairing (slice_get problem.base.pairings n) other
  at_pairing of_pairing of_flight other n lt = rw (less_true n pairings lt) refl

  pub at_flight : {A : Type 0} (of_pairing : Pairing → A) (of_flight : Event → A) (other : A) (n : ℕ) → pairings ≤ n
      → by_item problem member lens of_pairing of_flight other n ≡ option_map_or of_flight (slice_get flights (n - pairings)) other
  at_flight of_pairing of_flight other n le = rw (not_less n pairings le) refl

  -- when a pairing of the month begins and rests
  pub begins_of : (n : ℕ) (x : Pairing) → slice_get problem.base.pairings n ≡ Some x → item_begins problem member lens n ≡ first_report x.duties
  begins_of n x is =
      at_pairing (λ p. first_report p.duties) (λ e. e.report) 0 n (slice_get_within problem.base.pairings n x is) ∙ rw is refl

  pub rests_of : (n : ℕ) (x : Pairing) → slice_get problem.base.pairings n ≡ Some x → item_rests problem member lens n ≡ last_release x.duties + 600
  rests_of n x is =
      at_pairing (λ p. last_release p.duties + 600) (λ e. e.release) 0 n (slice_get_within problem.base.pairings n x is) ∙ rw is refl

  -- nothing rests at the number of source and sink
  pub none_rests : item_rests problem member lens (item_count problem member lens) ≡ 0
  none_rests =
      at_flight (λ p. last_release p.duties + 600) (λ e. e.release) 0 (item_count problem member lens) (omega arith)
      ∙ rw (slice_get_past flights (item_count problem member lens - pairings) (omega arith)) refl

  pub visited_pairing : (flown : ℕ → Bool) (n : ℕ) → n < pairings → is_visited problem member lens flown n ≡ flown n
  visited_pairing flown n lt = rw (less_true n pairings lt) refl

  pub visited_flight : (flown : ℕ → Bool) (n : ℕ) → pairings ≤ n → is_visited problem member lens flown n ≡ nat_lt n (item_count problem member lens)
  visited_flight flown n le = rw (not_less n pairings le) refl

  pub visited_small : (flown : ℕ → Bool) (n : ℕ) → is_visited problem member lens flown n ≡ true → n < item_count problem member lens
  visited_small flown n v = elim (cases_lt n pairings) [
    | inl lt ↦ omega arith
    | inr le ↦ less_from n (item_count problem member lens) (sym (visited_flight flown n le) ∙ v)
  ]

  -- a fixed flight by its number
  pub record FlightAt (n : ℕ) : Type 0 where
    pub event : Event
    pub is : slice_get (visited_flights problem member lens) (n - length problem.base.pairings) ≡ Some event
    pub begins : item_begins problem member lens n ≡ event.report
    pub rests : item_rests problem member lens n ≡ event.release

  pub flight_at : (n : ℕ) → pairings ≤ n → n < item_count problem member lens → FlightAt n
  flight_at n le lt = elim (slice_get_cases flights (n - pairings)).1 [
    | inl here ↦ record {
      event = here.0;
      is = here.2;
      begins = at_flight (λ p. first_report p.duties) (λ e. e.report) 0 n le ∙ rw here.2 refl;
      rests = at_flight (λ p. last_release p.duties + 600) (λ e. e.release) 0 n le ∙ rw here.2 refl;
    }
    | inr past ↦ let h = past.0 in absurd (omega (arith, h))
  ]

  -- what all fixed events have, a visited flight has
  pub flight_has : (P : Event → Type 0) → AllByRecursion P (fixed_of problem member) → (n : ℕ) → (f : FlightAt n) → P f.event × (is_flight f.event.kind ≡ true)
  flight_has P all n f = go lens.free30 refl
    where
      go : (b : Bool) → lens.free30 ≡ b → P f.event × (is_flight f.event.kind ≡ true)
      go true e =
          in_filter_all P (λ (x : Event). is_flight x.kind) (fixed_of problem member) all (n - pairings) f.event
          (ap (λ (b : Bool). slice_get (cond b (filter (λ (x : Event). is_flight x.kind) (fixed_of problem member)) []) (n - pairings)) (sym e) ∙ f.is)
      go false e =
          let none : slice_get [] (n - pairings) ≡ Some f.event = ap (λ (b : Bool). slice_get (cond b (filter (λ (x : Event). is_flight x.kind) (fixed_of problem member)) []) (n - pairings)) (sym e) ∙ f.is in
          absurd (cc none)

  flights_order : AllPairs (λ d e. d.release ≤ e.report) (fixed_of problem member) → AllPairs (λ d e. d.release ≤ e.report) flights
  flights_order order = go lens.free30
    where
      go : (b : Bool) → AllPairs (λ d e. d.release ≤ e.report) (cond b (filter (λ (x : Event). is_flight x.kind) (fixed_of problem member)) [])
      go true = AllPairs-filter (λ (d e : Event). d.release ≤ e.report) (λ (x : Event). is_flight x.kind) (fixed_of problem member) order
      go false = λ i j d a b. absurd (omega (arith, b))

  module _ (sound : IsSoundMonth problem member) where
    fixed_last : AllByRecursion Lasts (fixed_of problem member)
    fixed_last = all_second Lasts (history_of problem member) (fixed_of problem member) sound.events

    -- each item begins before its rest ends
    pub item_lasts : (n : ℕ) → n < item_count problem member lens → item_begins problem member lens n < item_rests problem member lens n
    item_lasts n lt = elim (cases_lt n pairings) [
      | inl is_pairing ↦ elim (slice_get_cases problem.base.pairings n).1 [
        | inl here ↦
            less (item_begins problem member lens n) (item_rests problem member lens n) (first_report here.0.duties) (last_release here.0.duties + 600)
            (begins_of n here.0 here.2) (rests_of n here.0 here.2)
            (let l = (span_lasts here.0 (sound.duties n here.0 here.2)).lasts in omega arith)
        | inr past ↦ let h = past.0 in absurd (omega (arith, h))
      ]
      | inr le ↦
          let f = flight_at n le lt in
          less (item_begins problem member lens n) (item_rests problem member lens n) f.event.report f.event.release f.begins f.rests
          (flight_has Lasts fixed_last n f).0.lasts
    ]
      where
        less : (a b c d : ℕ) → a ≡ c → b ≡ d → c < d → a < b
        less a b c d p q h = omega arith

    -- two fixed flights
    flights_follow : (n k : ℕ) → pairings ≤ n → n < k → k < item_count problem member lens → item_rests problem member lens n ≤ item_begins problem member lens k
    flights_follow n k le lt small =
        let f = flight_at n le (omega arith) in
        let g = flight_at k (omega arith) small in
        let within = slice_get_within flights (k - pairings) g.event g.is in
        let a = get_or_from_slice_get flights (n - pairings) f.event f.event f.is in
        let b = get_or_from_slice_get flights (k - pairings) g.event f.event g.is in
        let order = flights_order sound.fixed_order (n - pairings) (k - pairings) f.event (omega arith) within in
        le_by f.rests g.begins (subst (λ (x : Event). x.release ≤ g.event.report) a (subst (λ (y : Event). (get_or flights (n - pairings) f.event).release ≤ y.report) b order))
      where
        le_by : {a b c d : ℕ} → a ≡ c → b ≡ d → c ≤ d → a ≤ b
        le_by p q h = omega arith

    -- a clear pairing and a fixed flight
    pairing_follows : (node : List Decision) (n k : ℕ) → n < pairings → may_fly problem member node n ≡ true → pairings ≤ k → k < item_count problem member lens
        → (item_rests problem member lens n ≤ item_begins problem member lens k) ⊎ (item_rests problem member lens k ≤ item_begins problem member lens n)
    pairing_follows node n k lt may le small =
        let x = found problem n (is_clear problem member) false (and_parts (option_map_or (is_clear problem member) (slice_get problem.base.pairings n) false) (not (is_decided_as node member n false)) may).0 refl in
        let clear = clear_parts problem member node sound x.0 x.2 in
        let f = flight_at k le small in
        let tested = flight_has (λ (e : Event). (is_flight e.kind && list_any (is_tiring e.report) (duties_of x.0)) ≡ false)
        (none_parts (λ (e : Event). is_flight e.kind && list_any (is_tiring e.report) (duties_of x.0)) (fixed_of problem member) clear.1) k f in
        let crosses = flight_has (λ (e : Event). is_crossing (event_span e) (pairing_span x.0) ≡ false)
        (none_parts (λ (e : Event). is_crossing (event_span e) (pairing_span x.0)) (fixed_of problem member) clear.2) k f in
        either (last_release x.0.duties) (flight_follows x.0.duties (sound.duties n x.0 x.1) f.event.report f.event.release
        (untired (is_flight f.event.kind) (list_any (is_tiring f.event.report) (duties_of x.0)) tested.1 tested.0) crosses.0)
        (begins_of n x.0 x.1) (rests_of n x.0 x.1) f.begins f.rests
      where
        untired : (a b : Bool) → a ≡ true → (a && b) ≡ false → b ≡ false
        untired true b e h = h
        untired false b e h = cc

        either : {first report release b r c s : ℕ} (last : ℕ) → (last + 600 ≤ report) ⊎ (release ≤ first) → b ≡ first → r ≡ last + 600 → c ≡ report → s ≡ release
            → (r ≤ c) ⊎ (s ≤ b)
        either last (inl h) p q u v = inl (omega arith)
        either last (inr h) p q u v = inr (omega arith)

    module _ (node : List Decision) (flown : ℕ → Bool) (small : (p : ℕ) → flown p ≡ true → p < pairings) where
      abbrev visited : ℕ → Bool
      visited = is_visited problem member lens flown

      -- the items of a line whose pairings fit
      pub items_apart : {base : Bool} → base ≡ true
          → IsApartLine (is_base_rested problem member) (may_fly problem member node) (must_fly member node) (begins_at problem) (rests_until problem) flown
          → IsApartLine base (may_visit_item problem member node lens) (must_visit_item problem member node lens)
          (item_begins problem member lens) (item_rests problem member lens) (is_visited problem member lens flown)
      items_apart holds line = record {
        base_holds = holds;
        each_allowed = λ n v. elim (cases_lt n pairings) [
          | inl lt ↦ rw (less_true n pairings lt) (line.each_allowed n (sym (visited_pairing flown n lt) ∙ v))
          | inr le ↦ rw (not_less n pairings le) (sym (visited_flight flown n le) ∙ v)
        ];
        all_must = λ n m. elim (cases_lt n pairings) [
          | inl lt ↦ visited_pairing flown n lt ∙ line.all_must n (rw (less_true n pairings lt) at m)
          | inr le ↦ visited_flight flown n le ∙ (rw (not_less n pairings le) at m)
        ];
        each_two = λ n k v w ne. elim (cases_lt n pairings) [
          | inl n_lt ↦
              let f = sym (visited_pairing flown n n_lt) ∙ v in
              elim (cases_lt k pairings) [
                | inl k_lt ↦
                    pair_moved (line.each_two n k f (sym (visited_pairing flown k k_lt) ∙ w) ne)
                    (at_pairing (λ p. first_report p.duties) (λ e. e.report) 0 n n_lt) (at_pairing (λ p. last_release p.duties + 600) (λ e. e.release) 0 n n_lt)
                    (at_pairing (λ p. first_report p.duties) (λ e. e.report) 0 k k_lt) (at_pairing (λ p. last_release p.duties + 600) (λ e. e.release) 0 k k_lt)
                | inr k_le ↦ pairing_follows node n k n_lt (line.each_allowed n f) k_le (visited_small flown k w)
              ]
          | inr n_le ↦ elim (cases_lt k pairings) [
            | inl k_lt ↦ turned (pairing_follows node k n k_lt (line.each_allowed k (sym (visited_pairing flown k k_lt) ∙ w)) n_le (visited_small flown n v))
            | inr k_le ↦ elim (cases_lt n k) [
              | inl before ↦ inl (flights_follow n k n_le before (visited_small flown k w))
              | inr after ↦ inr (flights_follow k n k_le (later n k ne after) (visited_small flown n v))
            ]
          ]
        ];
      }
        where
          later : (n k : ℕ) → n ≢ k → k ≤ n → k < n
          later n k ne le = grind arith

          turned : {A B : Type 0} → A ⊎ B → B ⊎ A
          turned (inl a) = inr a
          turned (inr b) = inl b

          pair_moved : {b r c s b' r' c' s' : ℕ} → (r' ≤ c') ⊎ (s' ≤ b') → b ≡ b' → r ≡ r' → c ≡ c' → s ≡ s' → (r ≤ c) ⊎ (s ≤ b)
          pair_moved (inl h) p q u v = inl (omega arith)
          pair_moved (inr h) p q u v = inr (omega arith)

      -- the pairings of a line whose items fit
      pub pairings_apart : (terms : Terms) → ((p : ℕ) → must_fly member node p ≡ true → p < length problem.base.pairings)
          → IsApartLine (is_base_open problem member lens terms) (may_visit_item problem member node lens) (must_visit_item problem member node lens)
          (item_begins problem member lens) (item_rests problem member lens) (is_visited problem member lens flown)
          → IsApartLine (is_base_rested problem member) (may_fly problem member node) (must_fly member node) (begins_at problem) (rests_until problem) flown
      pairings_apart terms range line = record {
        base_holds = (and_parts (is_base_rested problem member) _ line.base_holds).0;
        each_allowed = λ p f. let lt = small p f in let may = line.each_allowed p (visited_pairing flown p lt ∙ f) in rw (less_true p pairings lt) at may;
        all_must = λ p m. let lt = range p m in
            sym (visited_pairing flown p lt) ∙ line.all_must p (rw (less_true p pairings lt) m);
        each_two = λ p q f g ne.
            let p_lt = small p f in
            let q_lt = small q g in
            pair_moved (line.each_two p q (visited_pairing flown p p_lt ∙ f) (visited_pairing flown q q_lt ∙ g) ne)
            (at_pairing (λ p. first_report p.duties) (λ e. e.report) 0 p p_lt) (at_pairing (λ p. last_release p.duties + 600) (λ e. e.release) 0 p p_lt)
            (at_pairing (λ p. first_report p.duties) (λ e. e.report) 0 q q_lt) (at_pairing (λ p. last_release p.duties + 600) (λ e. e.release) 0 q q_lt);
      }
        where
          pair_moved : {b r c s b' r' c' s' : ℕ} → (r ≤ c) ⊎ (s ≤ b) → b ≡ b' → r ≡ r' → c ≡ c' → s ≡ s' → (r' ≤ c') ⊎ (s' ≤ b')
          pair_moved (inl h) p q u v = inl (omega arith)
          pair_moved (inr h) p q u v = inr (omega arith)
