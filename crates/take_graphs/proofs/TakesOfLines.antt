-- A graph that passes and takes by a chart stands for the lines that keep the terms.
use Rattle.std.proofs.Common.{◌≡◌, ℕ, ℤ, zero, suc, ◌+◌, ◌*◌, ◌/◌, ◌^◌, ◌<◌, ◌≤◌, Bool, true, false, ◌&&◌, ◌==◌, List, [], ◌∷◌, None, length, map, refl, ap, sym, ◌∙◌, subst, arith, inl, inr}
use Rattle.std.specs.Prelude.{sum_by, slice_get, slice_index_or, nat_lt, if◌then◌else◌}
use Rattle.std.specs.Option.{option_map_or}
use Rattle.roster_model.specs.Weights.{weight_at}
use Rattle.std.proofs.lemmas.Bool.{cases_lt, ne_eqb, false≢true}
use Rattle.std.proofs.lemmas.Bool.Decides.{nat_tests}
use Rattle.std.proofs.lemmas.List.{length-map}
use Rattle.std.proofs.lemmas.List.Elements.{recursion_from_All}
use Rattle.std.proofs.lemmas.Nat.Bits.{bit_at_above}
use Rattle.label_lattice.specs.declared.masks.MaskEnd.{MaskEnd}
use Rattle.label_setter.specs.Chains.{GraphOf, FewApart}
use Rattle.duty_calendar.specs.declared.event.Event.{Event}
use Rattle.roster_model.specs.declared.problem.Problem.{Problem}
use Rattle.roster_model.specs.declared.node.Decision.{Decision}
use Rattle.roster_model.specs.declared.proof.Lens.{Lens}
use Rattle.lens_classes.specs.TermLines.{AreTermsOf}
use Rattle.lens_classes.specs.declared.terms.Terms.{Terms}
use Rattle.roster_model.specs.declared.bid.Bid.{Bid}
use Rattle.roster_model.specs.Goals.{IsNode}
use Rattle.roster_model.specs.Legality.{high_of}
use Rattle.roster_model.specs.Lenses.{IsLens, IsStandardLens, has_trackable, is_tracked}
use Rattle.roster_model.specs.Scores.{bids_of}
use Rattle.roster_model.specs.Timelines.{fixed_of}
use Rattle.roster_model.proofs.Bounds.{fixed-credit}
use Rattle.line_lens.specs.declared.chart.Chart.{Chart}
use Rattle.line_items.specs.declared.masks.Mark.{Mark}
use Rattle.line_items.specs.declared.masks.Mark.TheVariants.{Start, Set}
use Rattle.line_lens.specs.Charts.{chart_may, chart_must, chart_near, chart_gain, IsChart, IsItemOrder}
use Rattle.take_graphs.specs.TakeCharts.{chart_take}
use Rattle.line_items.specs.Items.{item_count, item_begins, item_rests, is_base_open}
use Rattle.line_lens.specs.LineGraphs.{added_by, IsHourLens}
use Rattle.take_graphs.specs.ArcLines.{StandsByArcs}
use Rattle.line_lens.specs.LineLabels.{label_end}
use Rattle.take_graphs.specs.TakeLabels.{TakeOf, TakeStepOf, TakeEndOf, take_below, take_extend, take_done, take_start}
use Rattle.line_items.specs.Masks.{IsMask, IsBidsEnd, is_bit, is_marked}
use Rattle.take_graphs.specs.Takes.{passes_by, takes_by, AreTakeArcs}
use Rattle.line_lens.proofs.Charted.{adds, clears, sets, marked, items_long, may_same}
use Rattle.take_graphs.proofs.ChartedTakes.{item_may, item_must, item_near, takes_same}
use Rattle.line_lens.proofs.Follows.{parts_follow}
use Rattle.line_lens.proofs.GraphOfLines.{decided_range, few_bits, high_few, may_within, same_adds}
use Rattle.line_lens.proofs.ItemOrder.{order_sorted, order_placed}
use Rattle.line_lens.proofs.MaskBits.{AreMarked}
use Rattle.take_graphs.proofs.TakeFew.{few_hour}
use Rattle.take_graphs.proofs.TakeStanding.{stands_by_arcs}
use Rattle.line_items.proofs.Visited.{IsPlaced}
use Rattle.line_items.proofs.Visits.{IsSorted}

-- a standard lens looks at hours and some of the first eight bids
pub hour_from_standard : (problem : Problem) (member : ℕ) (lens : Lens) → IsStandardLens problem member lens → IsHourLens lens
hour_from_standard problem member lens standard = record {
  grain = standard.grain;
  tracked = λ bid t. elim (cases_lt bid 8) [
    | inl low ↦ low
    | inr high ↦
        let past : nat_lt bid 8 ≡ false = grind (arith, nat_tests) in
        absurd (false≢true (sym (ap (λ (b : Bool). b && has_trackable problem member bid) past) ∙ sym (standard.tracked bid) ∙ t))
  ];
  free30 = standard.free30;
  days = standard.days;
  whole = standard.whole;
  windows = standard.windows;
}

-- a mask of the bids that it tracks has eight bits
pub hour_mask : (problem : Problem) (member : ℕ) (lens : Lens) (mark : Mark) (mask : ℕ) → IsHourLens lens → IsMask problem member lens mark mask → mask < 256
hour_mask problem member lens mark mask hour is = few_bits mask (λ b high. elim (cases_lt b 64) [
  | inl low ↦ is.bits b low ∙ ap (λ (t : Bool). if t then 1 else 0) (untracked b (is_tracked lens b) refl (hour.tracked b) high)
  | inr past ↦ bit_at_above mask 64 b is.within past
])
  where
    untracked : (b : ℕ) (t : Bool) → is_tracked lens b ≡ t → (is_tracked lens b ≡ true → b < 8) → 8 ≤ b → is_bit problem member lens mark b ≡ false
    untracked b false e s high = ap (λ (t : Bool). option_map_or (λ (x : Bid). is_marked problem member mark x.wish) (if t then slice_get (bids_of problem member) b else None) false) e
    untracked b true e s high = let low = s e in absurd (omega arith)

-- what arcs add, by the places that they take
arc_adds : (count total : ℕ) → count ≤ total → (items : List ℕ) → slice_index_or items 0 total ≡ total → (taken : List ℕ) (number p : ℕ) → p < count
    → (slice_index_or (map (λ t. slice_index_or (map (added_by count) items) t count) taken) number count == p) ≡ (slice_index_or items (slice_index_or taken number 0) total == p)
arc_adds count total le items source [] number p lt = ne_eqb count p (λ e. omega arith) ∙ sym (ap (λ (n : ℕ). n == p) source ∙ ne_eqb total p (λ e. omega arith))
arc_adds count total le items source (t ∷ taken) zero p lt = same_adds count total le items t p lt
arc_adds count total le items source (t ∷ taken) (suc number) p lt = arc_adds count total le items source taken number p lt

module _ {N : ℕ} (problem : Problem) (member : ℕ) (node : List Decision) (lens : Lens) (terms : Terms) (weights : List ℤ)
    (long : length weights ≡ length problem.base.pairings) (shape : IsLens problem member lens) (plain : lens.whole ≡ false) (fits : AreTermsOf problem member terms) (none : terms.counted ≡ 0) (few : length lens.windows ≤ N) (decisions : IsNode problem node)
    (items : List ℕ) (order : IsItemOrder problem member lens items)
    (chart : Chart N) (is : IsChart problem member node lens terms weights items chart)
    (bits : ℕ) (starts : IsMask problem member lens Start bits) (asks : MaskEnd) (end : IsBidsEnd problem member lens terms asks)
    (graph : GraphOf (TakeOf N) (TakeStepOf N) TakeEndOf) (places : graph.places ≡ length chart.places.items)
    (start_is : graph.start ≡ take_start problem member lens bits) (end_is : graph.end ≡ label_end terms asks)
    (taken : List ℕ)
    (are : AreTakeArcs (passes_by (chart_may chart) (chart_must chart)) (takes_by (chart_may chart) (chart_must chart) (chart_near chart)) (λ t. chart_gain chart 0 t) (chart_take chart) graph.arcs taken) where
  abbrev at : ℕ → ℕ
  at = adds problem member node lens terms weights long items order chart is

  long_items : length items ≡ item_count problem member lens + 2
  long_items = items_long problem member node lens terms weights long items order chart is

  sorted : IsSorted (item_count problem member lens) (item_count problem member lens + 1) (λ j. slice_index_or items j (item_count problem member lens)) (item_begins problem member lens) (item_rests problem member lens)
  sorted =
      subst (λ (xs : List ℕ). IsSorted (item_count problem member lens) (item_count problem member lens + 1) (λ j. slice_index_or xs j (item_count problem member lens)) (item_begins problem member lens) (item_rests problem member lens))
      (sym order.ends) (order_sorted problem member lens order.order order.moved order.sorted)

  placed : IsPlaced problem member lens (λ j. slice_index_or items j (item_count problem member lens)) (item_count problem member lens + 1)
  placed =
      subst (λ (xs : List ℕ). IsPlaced problem member lens (λ j. slice_index_or xs j (item_count problem member lens)) (item_count problem member lens + 1))
      (sym order.ends) (order_placed problem member lens order.order order.moved order.sorted)

  masks : AreMarked problem member lens at (clears problem member node lens terms weights long items order chart is) (sets problem member node lens terms weights long items order chart is) bits
  masks = marked problem member node lens terms weights long items order chart is bits starts

  small : sum_by (λ (e : Event). e.credit) (fixed_of problem member) ≤ 2 ^ 31
  small = let f = fixed-credit problem.base.rules.horizon problem.base.members member problem.valid.month.members_form.each in omega arith

  pub take_stands : StandsByArcs (take_extend {N = N}) (take_done {N = N}) graph (map (λ t. slice_index_or (map (added_by (length problem.base.pairings)) items) t (length problem.base.pairings)) taken) problem member node lens terms weights
  take_stands =
      stands_by_arcs N problem member node lens terms at (item_count problem member lens + 1)
      (clears problem member node lens terms weights long items order chart is) (sets problem member node lens terms weights long items order chart is) bits asks
      (parts_follow N problem member node lens terms at (item_count problem member lens + 1)
      (clears problem member node lens terms weights long items order chart is) (sets problem member node lens terms weights long items order chart is) bits asks fits none shape plain few masks end)
      (is_base_open problem member lens terms) refl
      (λ p must. decided_range (length problem.base.pairings) node member p true (recursion_from_All (λ d. d.pairing < length problem.base.pairings) node decisions.pairings) must)
      sorted placed masks small weights long graph
      (places ∙ (let l = is.are.long in let c = long_items in omega arith)) start_is end_is taken
      (takes_same problem member node lens terms weights long items order chart is graph.arcs taken are)
      (map (λ t. slice_index_or (map (added_by (length problem.base.pairings)) items) t (length problem.base.pairings)) taken)
      (length-map taken (λ t. slice_index_or (map (added_by (length problem.base.pairings)) items) t (length problem.base.pairings)) ∙ are.long)
      (λ number p lt. arc_adds (length problem.base.pairings) (item_count problem member lens) (omega arith) items placed.source taken number p lt)

  pub take_few : IsHourLens lens
      → FewApart take_below take_extend graph.start graph.arcs (256 * (length problem.base.pairings + 1) * (high_of problem member / 60 + 1))
  take_few hour =
      subst (λ (s : TakeOf N). FewApart take_below take_extend s graph.arcs (256 * (length problem.base.pairings + 1) * (high_of problem member / 60 + 1))) (sym start_is)
      (few_hour {N = N} problem member lens terms at (clears problem member node lens terms weights long items order chart is) (sets problem member node lens terms weights long items order chart is)
      (item_count problem member lens + 1)
      (item_may problem member node lens terms weights long items order chart is) (item_must problem member node lens terms weights long items order chart is) (item_near problem member node lens terms weights long items order chart is)
      (λ t. weight_at weights (at t)) bits graph.arcs taken hour placed inside
      (λ j. hour_mask problem member lens (Set (at j)) (sets problem member node lens terms weights long items order chart is j) hour (masks.sets j))
      (hour_mask problem member lens Start bits hour starts)
      (fixed-credit problem.base.rules.horizon problem.base.members member problem.valid.month.members_form.each) fits.high (high_few problem member) problem.valid.month.pairings_form.few
      (takes_same problem member node lens terms weights long items order chart is graph.arcs taken are))
    where
      inside : (j : ℕ) → item_may problem member node lens terms weights long items order chart is j ≡ true → j ≤ item_count problem member lens + 1
      inside j may =
          let l = is.are.long in
          let c = long_items in
          let lt = may_within chart (omega arith) j (may_same problem member node lens terms weights long items order chart is j ∙ may) in
          omega arith

  -- what the contract says of the graph
  pub record IsTakeGraph (list : List ℕ) : Type 0 where
    pub stands_for : StandsByArcs (take_extend {N = N}) (take_done {N = N}) graph list problem member node lens terms weights
    pub few_ways : length graph.arcs ≤ 2 * item_count problem member lens + 1
    pub labels : IsHourLens lens → FewApart take_below take_extend graph.start graph.arcs (256 * (length problem.base.pairings + 1) * (high_of problem member / 60 + 1))

  pub is_take_graph : (list : List ℕ) → list ≡ map (λ t. slice_index_or (map (added_by (length problem.base.pairings)) items) t (length problem.base.pairings)) taken
      → length graph.arcs + 3 ≤ 2 * graph.places → IsTakeGraph list
  is_take_graph list same few_all = record {
    stands_for = subst (λ (adds : List ℕ). StandsByArcs (take_extend {N = N}) (take_done {N = N}) graph adds problem member node lens terms weights) (sym same) take_stands;
    few_ways = let l = is.are.long in let c = long_items in let p = places in omega arith;
    labels = take_few;
  }
