-- A graph that passes and takes stands for the lines that keep the terms.
use Rattle.std.proofs.Common.{◌≡◌, ℕ, ℤ, pos, ◌+ℤ◌, zero, suc, ◌+◌, ◌-◌, ◌^◌, ◌<◌, ◌≤◌, Bool, true, false, not, ◌&&◌, ◌||◌, ◌==◌, List, [], ◌∷◌, Some, length, map, refl, ap, sym, ◌∙◌, subst, arith, inl, inr, ◌⊎◌}
use Rattle.std.specs.Prelude.{sum_by, nat_lt, nat_le, slice_index_or}
use Rattle.std.specs.List.{list_any}
use Rattle.std.proofs.lemmas.Int.{ints}
use Rattle.std.proofs.lemmas.List.{get_or_past}
use Rattle.std.proofs.lemmas.Bool.{and_parts, false≢true, cases_Bool, cases_lt, ne_eqb}
use Rattle.std.proofs.lemmas.Bool.Decides.{nat_tests}
use Rattle.duty_calendar.specs.declared.event.Event.{Event}
use Rattle.label_lattice.specs.declared.masks.MaskEnd.{MaskEnd}
use Rattle.label_setter.specs.Chains.{GraphOf, IsFeasible, source}
use Rattle.roster_model.specs.declared.problem.Problem.{Problem}
use Rattle.roster_model.specs.declared.node.Decision.{Decision}
use Rattle.roster_model.specs.declared.proof.Lens.{Lens}
use Rattle.lens_classes.specs.declared.terms.Terms.{Terms}
use Rattle.lens_classes.specs.TermLines.{IsTermLine}
use Rattle.roster_model.specs.Timelines.{fixed_of}
use Rattle.roster_model.specs.Weights.{weight_at, weight_of, total}
use Rattle.roster_model.proofs.Counting.{filter-range-agree}
use Rattle.line_items.specs.Clear.{must_fly}
use Rattle.line_items.specs.Items.{item_count, item_begins, item_rests, may_visit_item, must_visit_item, is_base_open}
use Rattle.line_lens.specs.LineGraphs.{line_along}
use Rattle.take_graphs.specs.ArcLines.{StandsByArcs}
use Rattle.line_lens.specs.LineLabels.{EndOf, label_extend, label_done, label_start, label_end}
use Rattle.take_graphs.specs.TakeLabels.{TakeOf, TakeStepOf, TakeEndOf, take_extend, take_done, take_start}
use Rattle.take_graphs.specs.Takes.{passes_by, takes_by, AreTakeArcs}
use Rattle.line_items.proofs.Apart.{may_visit, is_near}
use Rattle.line_lens.proofs.LabelSteps.{label_step}
use Rattle.take_graphs.proofs.TakeSteps.{take_step}
use Rattle.line_items.proofs.Places.{is_added, line_of}
use Rattle.take_graphs.proofs.TakenPlaces.{steps_by, taken_by, stops_by}
use Rattle.line_items.proofs.Walks.{run, along}
use Rattle.line_lens.proofs.BaseOpen.{lens_line_fits, lens_line_opens}
use Rattle.line_lens.proofs.ChainLines.{line_stops, visited, walk_line, line_walk}
use Rattle.line_items.proofs.Completing.{Completes}
use Rattle.take_graphs.proofs.Dropping.{along_map}
use Rattle.line_items.proofs.Fitting.{IsFitLine}
use Rattle.line_lens.proofs.Gains.{gains_weigh}
use Rattle.line_items.proofs.ItemLines.{less_from, not_less}
use Rattle.line_lens.proofs.MaskBits.{AreMarked}
use Rattle.line_lens.proofs.Standing.{PartsFollow, label_passes, label_runs}
use Rattle.take_graphs.proofs.TakeParts.{stops_whole, chain_whole}
use Rattle.take_graphs.proofs.Taking.{IsPath}
use Rattle.take_graphs.proofs.Taking.{path_walks, walk_path, led, led_from}
use Rattle.line_items.proofs.Visited.{IsPlaced}
use Rattle.line_items.proofs.Visits.{IsSorted}

-- what takes nothing gains nothing
total_stops : (gain : ℕ → ℤ) (sink : ℕ) → gain 0 ≡ pos 0 → gain sink ≡ pos 0 → (ts : List ℕ) → total (map gain ts) ≡ total (map gain (stops_by sink ts))
total_stops gain sink none last [] = back (gain sink) last
  where
    back : (a : ℤ) → a ≡ pos 0 → pos 0 ≡ a +ℤ pos 0
    back a e = omega (arith, ints)
total_stops gain sink none last (zero ∷ ts) = drop (gain 0) (total (map gain ts)) none ∙ total_stops gain sink none last ts
  where
    drop : (a t : ℤ) → a ≡ pos 0 → a +ℤ t ≡ t
    drop a t e = omega (arith, ints)
total_stops gain sink none last (suc t ∷ ts) = ap (λ (x : ℤ). gain (suc t) +ℤ x) (total_stops gain sink none last ts)

-- a fit after the first place, as far as the sink
near_sink : (i j : Bool) (b : Bool) → not i ≡ true → j ≡ true → (not i && (j || b)) ≡ true
near_sink false true b p q = refl
near_sink true j b p q = p
near_sink false false b p q = absurd (false≢true q)

near_leq : (i j b : Bool) → not i ≡ true → b ≡ true → (not i && (j || b)) ≡ true
near_leq false true b p q = refl
near_leq true j b p q = p
near_leq false false b p q = q

rest_of_or : (a b : Bool) → a ≡ false → (a || b) ≡ true → b ≡ true
rest_of_or true b e h = absurd (false≢true (sym e))
rest_of_or false b e h = h

pub near_on : (count sink : ℕ) (adds begins rests : ℕ → ℕ) → IsSorted count sink adds begins rests
    → (i j k : ℕ) → 0 < j → j ≤ k → k ≤ sink → is_near begins rests adds sink i j ≡ true → is_near begins rests adds sink i k ≡ true
near_on count sink adds begins rests s i j k positive le small h =
    let parts = and_parts (not (i == sink)) _ h in
    elim (cases_Bool (k == sink)) [
      | inl last ↦ near_sink (i == sink) (k == sink) (nat_le (rests (adds i)) (begins (adds k))) parts.0 last
      | inr inner ↦
          let lt : k < sink = grind (arith, nat_tests) in
          let other : (j == sink) ≡ false = grind (arith, nat_tests) in
          let fits = rest_of_or (j == sink) (nat_le (rests (adds i)) (begins (adds j))) other parts.1 in
          near_leq (i == sink) (k == sink) (nat_le (rests (adds i)) (begins (adds k))) parts.0
          (later (cases_Bool (nat_lt j k)) lt fits)
    ]
  where
    later : (nat_lt j k ≡ true) ⊎ (nat_lt j k ≡ false) → k < sink → nat_le (rests (adds i)) (begins (adds j)) ≡ true → nat_le (rests (adds i)) (begins (adds k)) ≡ true
    later (inl less) lt fits = let up = s.sorted j k positive (grind (arith, nat_tests)) lt in grind (arith, nat_tests)
    later (inr same) lt fits = let e : j ≡ k = grind (arith, nat_tests) in ap (λ (n : ℕ). nat_le (rests (adds i)) (begins (adds n))) (sym e) ∙ fits

pub near_first : (count sink : ℕ) (adds begins rests : ℕ → ℕ) → IsSorted count sink adds begins rests
    → (k : ℕ) → 0 < k → k ≤ sink → is_near begins rests adds sink 0 k ≡ true
near_first count sink adds begins rests s k positive small =
    let none : rests (adds 0) ≡ 0 = ap rests s.order.source ∙ s.none_rests in
    let has = s.has_sink in
    let other : (0 == sink) ≡ false = grind (arith, nat_tests) in
    near_leq (0 == sink) (k == sink) (nat_le (rests (adds 0)) (begins (adds k))) (ap not other) (grind (arith, nat_tests))

-- the line of a chain, by arcs and by stops
pub same_line : (count sink : ℕ) (adds : ℕ → ℕ) (list taken : List ℕ) → count ≤ adds 0 → count ≤ adds sink
    → ((number p : ℕ) → p < count → (slice_index_or list number count == p) ≡ (adds (slice_index_or taken number 0) == p))
    → (chain : List ℕ) → line_along count list chain ≡ line_of count adds (stops_by sink (taken_by taken chain))
same_line count sink adds list taken source last same chain =
    filter-range-agree (λ p. list_any (λ j. slice_index_or list j count == p) chain) (is_added adds (stops_by sink (taken_by taken chain))) 0 count (λ p a b. each p (omega arith) chain)
  where
    other : (p n : ℕ) → p < count → count ≤ n → (n == p) ≡ false
    other p n lt le = ne_eqb n p (λ e. omega arith)

    or_none : (a b : Bool) → a ≡ false → (a || b) ≡ b
    or_none true b e = absurd (false≢true (sym e))
    or_none false b e = refl

    each : (p : ℕ) → p < count → (chain : List ℕ) → list_any (λ j. slice_index_or list j count == p) chain ≡ is_added adds (stops_by sink (taken_by taken chain)) p
    each p lt [] = sym (or_none (adds sink == p) false (other p (adds sink) lt last))
    each p lt (number ∷ chain) = go (slice_index_or taken number 0) (same number p lt) (each p lt chain)
      where
        go : (x : ℕ) → (slice_index_or list number count == p) ≡ (adds x == p)
            → list_any (λ j. slice_index_or list j count == p) chain ≡ is_added adds (stops_by sink (taken_by taken chain)) p
            → ((slice_index_or list number count == p) || list_any (λ j. slice_index_or list j count == p) chain) ≡ is_added adds (stops_by sink (x ∷ taken_by taken chain)) p
        go zero e rest =
            ap (λ (b : Bool). b || list_any (λ j. slice_index_or list j count == p) chain) (e ∙ other p (adds 0) lt source) ∙ rest
        go (suc t) e rest =
            ap (λ (b : Bool). b || list_any (λ j. slice_index_or list j count == p) chain) e ∙ ap (λ (b : Bool). (adds (suc t) == p) || b) rest

eq_self : (a : ℕ) → (a == a) ≡ true
eq_self a = grind (arith, nat_tests)

eq_from : (a b : ℕ) → (a == b) ≡ true → a ≡ b
eq_from a b h = grind (arith, nat_tests)

-- what an arc adds weighs what it takes
same_weight : (others : List ℤ) (count a b : ℕ) → length others ≡ count → ((p : ℕ) → p < count → (a == p) ≡ (b == p)) → weight_at others a ≡ weight_at others b
same_weight others count a b is each = elim (cases_lt a count) [
  | inl low ↦ ap (weight_at others) (sym (eq_from b a (sym (each a low) ∙ eq_self a)))
  | inr high ↦ elim (cases_lt b count) [
    | inl low ↦ ap (weight_at others) (eq_from a b (each b low ∙ eq_self b))
    | inr past ↦ get_or_past others a (pos 0) (omega (arith, is, high)) ∙ sym (get_or_past others b (pos 0) (omega (arith, is, past)))
  ]
]

module _ (N : ℕ) (problem : Problem) (member : ℕ) (node : List Decision) (lens : Lens) (terms : Terms)
    (adds : ℕ → ℕ) (sink : ℕ) (clear set : ℕ → ℕ) (bits : ℕ) (asks : MaskEnd)
    (follow : PartsFollow N problem member node lens terms adds sink clear set bits asks)
    (base : Bool) (base_is : base ≡ is_base_open problem member lens terms)
    (node_range : (p : ℕ) → must_fly member node p ≡ true → p < length problem.base.pairings)
    (sorted : IsSorted (item_count problem member lens) sink adds (item_begins problem member lens) (item_rests problem member lens))
    (placed : IsPlaced problem member lens adds sink)
    (marked : AreMarked problem member lens adds clear set bits)
    (small : sum_by (λ (e : Event). e.credit) (fixed_of problem member) ≤ 2 ^ 31)
    (weights : List ℤ) (long : length weights ≡ length problem.base.pairings)
    (graph : GraphOf (TakeOf N) (TakeStepOf N) TakeEndOf) (places : graph.places ≡ sink + 1)
    (start_is : graph.start ≡ take_start problem member lens bits) (end_is : graph.end ≡ label_end terms asks)
    (taken : List ℕ)
    (are : AreTakeArcs
    (passes_by (may_visit base (may_visit_item problem member node lens) adds sink) (λ j. must_visit_item problem member node lens (adds j)))
    (takes_by (may_visit base (may_visit_item problem member node lens) adds sink) (λ j. must_visit_item problem member node lens (adds j))
    (is_near (item_begins problem member lens) (item_rests problem member lens) adds sink))
    (λ t. weight_at weights (adds t)) (take_step {N = N} problem member lens terms adds clear set) graph.arcs taken) where
  abbrev may : ℕ → Bool
  may = may_visit base (may_visit_item problem member node lens) adds sink

  abbrev must : ℕ → Bool
  must j = must_visit_item problem member node lens (adds j)

  abbrev near : ℕ → ℕ → Bool
  near = is_near (item_begins problem member lens) (item_rests problem member lens) adds sink

  abbrev gain : ℕ → ℤ
  gain t = weight_at weights (adds t)

  abbrev step : ℕ → ℕ → ℕ → TakeStepOf N
  step = take_step {N = N} problem member lens terms adds clear set

  abbrev start : TakeOf N
  start = take_start {N = N} problem member lens bits

  abbrev end : EndOf
  end = label_end terms asks

  abbrev count : ℕ
  count = length problem.base.pairings

  from_source : count ≤ adds 0
  from_source = let e = placed.source in omega arith

  to_sink : count ≤ adds sink
  to_sink = let e = placed.last in omega arith

  free_source : must_visit_item problem member node lens (adds 0) ≡ false
  free_source = elim (cases_Bool (must_visit_item problem member node lens (adds 0))) [
    | inl forced ↦
        let at : must_visit_item problem member node lens (item_count problem member lens) ≡ true = ap (must_visit_item problem member node lens) (sym placed.source) ∙ forced in
        let lt = less_from (item_count problem member lens) (item_count problem member lens) (rw (not_less (item_count problem member lens) count (omega arith)) at at) in
        absurd (omega arith)
    | inr free ↦ free
  ]

  nears : (i j k : ℕ) → 0 < j → j ≤ k → k ≤ sink → near i j ≡ true → near i k ≡ true
  nears = near_on (item_count problem member lens) sink adds (item_begins problem member lens) (item_rests problem member lens) sorted

  starts : (k : ℕ) → 0 < k → k ≤ sink → near 0 k ≡ true
  starts = near_first (item_count problem member lens) sink adds (item_begins problem member lens) (item_rests problem member lens) sorted

  past_none : (others : List ℤ) (n : ℕ) → length others ≡ length problem.base.pairings → count ≤ n → weight_at others n ≡ pos 0
  past_none others n same le = get_or_past others n (pos 0) (omega (arith, same, le))

  no_gain : (t : ℕ) → count ≤ adds t → gain t ≡ pos 0
  no_gain t le = get_or_past weights (adds t) (pos 0) (omega arith)

  abbrev Runs : List ℕ → Type 0
  Runs chain = Completes (take_extend {N = N}) (take_done {N = N}) start end (steps_by step graph.arcs taken chain)

  abbrev RunsAlong : List ℕ → Type 0
  RunsAlong js = Completes (label_extend {N = N}) (label_done {N = N}) (label_start {N = N} problem member lens bits) end (along (label_step {N = N} problem member lens terms adds clear set) 0 js)

  runs_to : (number : ℕ) (chain : List ℕ) → IsPath graph.arcs 0 (number ∷ chain) sink → Runs (number ∷ chain) → RunsAlong (stops_by sink (taken_by taken (number ∷ chain)))
  runs_to number chain path c =
      stops_whole N problem member lens terms adds clear set sink bits asks from_source to_sink marked small sorted placed may must gain step graph.arcs taken are sorted.has_sink nears starts free_source number chain path c

  runs_back : (chain : List ℕ) → IsPath graph.arcs 0 chain sink → RunsAlong (stops_by sink (taken_by taken chain)) → Runs chain
  runs_back chain path c =
      chain_whole N problem member lens terms adds clear set sink bits asks from_source to_sink marked small sorted placed may must gain step graph.arcs taken are sorted.has_sink nears starts free_source chain path c

  -- what the stops of a line weigh
  weighed_by : (others : List ℤ) → length others ≡ length problem.base.pairings → (line : List ℕ) → IsFitLine problem member node line → is_base_open problem member lens terms ≡ true
      → total (map (λ t. weight_at others (adds t)) (line_stops problem member lens adds sink line)) ≡ weight_of others line
  weighed_by others same line fit wide =
      let v = visited problem member node lens terms base base_is node_range adds sink sorted placed line fit wide in
      ap total (sym (along_map (λ t. weight_at others (adds t)) 0 (line_stops problem member lens adds sink line)))
      ∙ gains_weigh others (length problem.base.pairings) adds same (λ i j lt e. placed.once i j (omega arith) e) (line_stops problem member lens adds sink line) line v.up v.line_is

  -- and gain
  weighed : (line : List ℕ) → IsFitLine problem member node line → is_base_open problem member lens terms ≡ true
      → total (map gain (line_stops problem member lens adds sink line)) ≡ weight_of weights line
  weighed line fit wide = weighed_by weights long line fit wide

  abbrev line_by : List ℕ → List ℕ
  line_by chain = line_of (length problem.base.pairings) adds (stops_by sink (taken_by taken chain))

  no_start : (a b : ℤ) → a ≡ pos 0 +ℤ b → a ≡ b
  no_start a b h = omega (arith, ints)

  from_start : (a b : ℤ) → a ≡ b → b ≡ pos 0 +ℤ a
  from_start a b h = omega (arith, ints)

  pub record IsTakenLine (chain : List ℕ) (reached : ℤ) : Type 0 where
    pub passes : IsTermLine problem member node lens terms (line_of (length problem.base.pairings) adds (stops_by sink (taken_by taken chain)))
    pub weighs : reached ≡ weight_of weights (line_of (length problem.base.pairings) adds (stops_by sink (taken_by taken chain)))
    pub once :
        (others : List ℤ) → length others ≡ length problem.base.pairings
        → total (map (λ t. weight_at others (adds t)) (taken_by taken chain)) ≡ weight_of others (line_of (length problem.base.pairings) adds (stops_by sink (taken_by taken chain)))

  -- the line of a feasible chain is a lens line, of the chain's gain
  pub chain_passes : (chain : List ℕ) (reached : ℤ) → IsFeasible (take_extend {N = N}) (take_done {N = N}) graph chain reached → IsTakenLine chain reached
  chain_passes chain reached feasible =
      let l = led are (source graph.start) chain (record { place = graph.places - 1; gain = reached; resource = feasible.last }) feasible.leads in
      let has = sorted.has_sink in
      let to : graph.places - 1 ≡ sink = omega (arith, places) in
      let path : IsPath graph.arcs 0 chain sink = subst (IsPath graph.arcs 0 chain) to l.path in
      let w = path_walks may must near sink gain step graph.arcs taken are has nears starts free_source chain path in
      let js = stops_by sink (taken_by taken chain) in
      let all = walk_line problem member node lens terms base base_is node_range adds sink sorted placed js w.0 w.1 in
      let ran : Runs chain = record {
        last = feasible.last;
        runs = subst (λ (s : TakeOf N). run (take_extend {N = N}) s (steps_by step graph.arcs taken chain) ≡ Some feasible.last) start_is l.runs;
        is_done = subst (λ (e : EndOf). take_done {N = N} feasible.last e ≡ true) end_is feasible.is_done;
      } in
      record {
        passes =
            label_passes N problem member node lens terms adds sink clear set bits asks follow base base_is node_range sorted placed (line_by chain) all.0 all.1
            (subst RunsAlong all.2 (nonempty chain path ran));
        weighs =
            no_start reached (total (map gain (taken_by taken chain))) l.gains
            ∙ total_stops gain sink (no_gain 0 from_source) (no_gain sink to_sink) (taken_by taken chain)
            ∙ ap (λ (ks : List ℕ). total (map gain ks)) all.2 ∙ weighed (line_by chain) all.0 all.1;
        once = λ others same.
            total_stops (λ t. weight_at others (adds t)) sink (past_none others (adds 0) same from_source) (past_none others (adds sink) same to_sink) (taken_by taken chain)
            ∙ ap (λ (ks : List ℕ). total (map (λ t. weight_at others (adds t)) ks)) all.2 ∙ weighed_by others same (line_by chain) all.0 all.1;
      }
    where
      nonempty : (chain : List ℕ) → IsPath graph.arcs 0 chain sink → Runs chain → RunsAlong (stops_by sink (taken_by taken chain))
      nonempty [] path ran = let has = sorted.has_sink in absurd (omega arith)
      nonempty (number ∷ chain) path ran = runs_to number chain path ran

  pub record HasTaken (line : List ℕ) : Type 0 where
    pub chain : List ℕ
    pub feasible : IsFeasible (take_extend {N = N}) (take_done {N = N}) graph chain (weight_of weights line)
    pub line_is : line_of (length problem.base.pairings) adds (stops_by sink (taken_by taken chain)) ≡ line

  -- and each lens line is that of a feasible chain
  pub line_chained : (line : List ℕ) → IsTermLine problem member node lens terms line → HasTaken line
  line_chained line is =
      let fit = lens_line_fits problem member node lens terms line is in
      let wide = lens_line_opens problem member node lens terms line is in
      let js = line_stops problem member lens adds sink line in
      let c = label_runs N problem member node lens terms adds sink clear set bits asks follow base base_is node_range sorted placed line is in
      let w = line_walk problem member node lens terms base base_is node_range adds sink sorted placed line fit wide in
      let has = sorted.has_sink in
      let way = walk_path may must near sink gain step graph.arcs taken are has nears starts free_source js (w.0, w.1) in
      let ts = taken_by taken way.chain in
      let ran = runs_back way.chain way.path (subst RunsAlong (sym way.stops) c) in
      let to : sink ≡ graph.places - 1 = omega (arith, places) in
      let gained : total (map gain ts) ≡ weight_of weights line =
      total_stops gain sink (no_gain 0 from_source) (no_gain sink to_sink) ts ∙ ap (λ (ks : List ℕ). total (map gain ks)) way.stops ∙ weighed line fit wide in
      record {
        chain = way.chain;
        feasible = record {
          last = ran.last;
          leads = led_from are (source graph.start) way.chain (record { place = graph.places - 1; gain = weight_of weights line; resource = ran.last })
              (record {
                path = subst (IsPath graph.arcs 0 way.chain) to way.path;
                gains = from_start (total (map gain ts)) (weight_of weights line) gained;
                runs = subst (λ (s : TakeOf N). run (take_extend {N = N}) s (steps_by step graph.arcs taken way.chain) ≡ Some ran.last) (sym start_is) ran.runs;
              });
          is_done = subst (λ (e : EndOf). take_done {N = N} ran.last e ≡ true) (sym end_is) ran.is_done;
        };
        line_is = ap (line_of (length problem.base.pairings) adds) way.stops ∙ w.2;
      }

  module _ (list : List ℕ) (per_arc : length list ≡ length graph.arcs)
      (same_adds : (number p : ℕ) → p < length problem.base.pairings → (slice_index_or list number (length problem.base.pairings) == p) ≡ (adds (slice_index_or taken number 0) == p)) where
    lines_same : (chain : List ℕ) → line_along (length problem.base.pairings) list chain ≡ line_of (length problem.base.pairings) adds (stops_by sink (taken_by taken chain))
    lines_same = same_line (length problem.base.pairings) sink adds list taken from_source to_sink same_adds

    same_total : (others : List ℤ) → length others ≡ count → (chain : List ℕ)
        → total (map (λ number. weight_at others (slice_index_or list number count)) chain) ≡ total (map (λ t. weight_at others (adds t)) (taken_by taken chain))
    same_total others is [] = refl
    same_total others is (number ∷ chain) =
        let here = same_weight others count (slice_index_or list number count) (adds (slice_index_or taken number 0)) is (same_adds number) in
        let rest = same_total others is chain in
        cong_sum here rest
      where
        cong_sum : {a b c d : ℤ} → a ≡ b → c ≡ d → (a +ℤ c) ≡ (b +ℤ d)
        cong_sum p q = rw (p, q) refl

    pub stands_by_arcs : StandsByArcs (take_extend {N = N}) (take_done {N = N}) graph list problem member node lens terms weights
    stands_by_arcs = record {
      per_arc = per_arc;
      lines = λ chain reached feasible. subst (IsTermLine problem member node lens terms) (sym (lines_same chain)) (chain_passes chain reached feasible).passes;
      weighs = λ chain reached feasible. subst (λ (line : List ℕ). reached ≡ weight_of weights line) (sym (lines_same chain)) (chain_passes chain reached feasible).weighs;
      once = λ chain reached feasible others is.
          same_total others is chain ∙ (chain_passes chain reached feasible).once others is
          ∙ ap (weight_of others) (sym (lines_same chain));
      chains = λ line is. let c = line_chained line is in (c.chain, c.feasible, lines_same c.chain ∙ c.line_is);
    }
