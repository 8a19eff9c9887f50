-- The order of the labels of a graph that counts, and what searches by it are asked.
use Rattle.std.proofs.Common.{◌≡◌, ℕ, ℤ, ◌-◌, Bool, true, List, [], ◌∷◌, Option, Some, length, refl, ap, sym, ◌∙◌, subst, arith}
use Rattle.std.specs.Prelude.{nat_le, slice_get}
use Rattle.std.proofs.lemmas.Bool.Decides.{nat_tests}
use Rattle.std.proofs.lemmas.Bool.{and_parts, and_from}
use Rattle.label_lattice.specs.Laws.{ExtendsBelow}
use Rattle.label_lattice.specs.Mask.{mask_done, mask_extend}
use Rattle.label_lattice.specs.Span.{span_done, span_extend}
use Rattle.label_lattice.specs.Tally.{counters_less, tally_below}
use Rattle.label_lattice.specs.TallyLaws.{tally_finishes}
use Rattle.label_lattice.specs.Usage.{counters_below}
use Rattle.label_setter.specs.declared.graph.Arc.{Arc}
use Rattle.label_setter.specs.Chains.{GraphOf}
use Rattle.chain_search.specs.Orders.{IsOrder}
use Rattle.roster_model.specs.declared.node.Decision.{Decision}
use Rattle.roster_model.specs.declared.problem.Problem.{Problem}
use Rattle.roster_model.specs.declared.proof.Lens.{Lens}
use Rattle.lens_classes.specs.declared.terms.Terms.{Terms}
use Rattle.lens_classes.specs.TermLines.{AreTermsOf}
use Rattle.take_graphs.specs.ArcLines.{StandsByArcs}
use Rattle.count_graphs.specs.Counts.{amounts_of, uncounted}
use Rattle.count_graphs.specs.CountGraphs.{IsCountGraph, counted_arc}
use Rattle.graph_climbs.specs.Parts.{PartsEndOf, PartsOf, PartsStepOf, parts_done, parts_extend}
use Rattle.count_graphs.specs.CountLabels.{CountEndOf, CountOf, CountStepOf, count_done, count_extend, counted_label}
use Rattle.count_graphs.proofs.CountChains.{arc_back, back_of, done_back, done_on, on_of}
use Rattle.term_lines.specs.Counting.{bare_label, counting_spares}

le_less : (x y s : ℕ) → nat_le x y ≡ true → nat_le (x - s) (y - s) ≡ true
le_less x y s p = grind (arith, nat_tests)

le_zero : (x s : ℕ) → nat_le x 0 ≡ true → nat_le (x - s) 0 ≡ true
le_zero x s p = grind (arith, nat_tests)

-- what wants no more wants no more after a step
less_below : (xs ys amounts : List ℕ) → counters_below xs ys ≡ true → counters_below (counters_less xs amounts) (counters_less ys amounts) ≡ true
less_below [] ys amounts p = refl
less_below (x ∷ xs) [] [] p = p
less_below (x ∷ xs) [] (s ∷ amounts) p =
    let parts = and_parts (nat_le x 0) (counters_below xs []) p in
    and_from (nat_le (x - s) 0) (counters_below (counters_less xs amounts) []) (le_zero x s parts.0) (less_below xs [] amounts parts.1)
less_below (x ∷ xs) (y ∷ ys) [] p = p
less_below (x ∷ xs) (y ∷ ys) (s ∷ amounts) p =
    let parts = and_parts (nat_le x y) (counters_below xs ys) p in
    and_from (nat_le (x - s) (y - s)) (counters_below (counters_less xs amounts) (counters_less ys amounts)) (le_less x y s parts.0) (less_below xs ys amounts parts.1)

-- what spares another in the graph below, and wants no more, goes on and is done wherever that is
pub counting_order : {B S E : Type 0} (extend : B → S → Option B) (done : B → E → Bool) (problem : Problem) (member : ℕ) (terms : Terms)
    (graph : GraphOf (PartsOf B) (PartsStepOf S) (PartsEndOf E)) (adds : List ℕ) (counting : GraphOf (CountOf B) (CountStepOf S) (CountEndOf E))
    → IsCountGraph problem member terms graph adds counting → (spares : ℕ → PartsOf B → PartsOf B → Bool)
    → IsOrder (parts_extend extend) (parts_done done) graph spares → IsOrder (count_extend extend) (count_done done) counting (counting_spares spares)
counting_order {B} {S} {E} extend done problem member terms graph adds counting is spares order = record {
  along = λ number arc a b c at over extends.
      let there = subst (λ (arcs : List (Arc (CountStepOf S))). slice_get arcs number ≡ Some arc) is.arcs at in
      let found = arc_back (amounts_of problem member is.slots) (length problem.base.pairings) adds graph.arcs number arc there in
      on_arc number found.bare arc found.is found.same a b c over extends;
  final = λ a b over ends. at_end a b
      (ap (λ (n : ℕ). counting_spares spares (n - 1) a b) (sym is.places) ∙ over) ends;
}
  where
    on_arc : (number : ℕ) (bare : Arc (PartsStepOf S)) (arc : Arc (CountStepOf S)) → slice_get graph.arcs number ≡ Some bare → {ws : List ℕ} → counted_arc ws bare ≡ arc
        → (a b c : CountOf B) → counting_spares spares arc.from a b ≡ true → count_extend extend b arc.step ≡ Some c
        → ExtendsBelow (counting_spares spares arc.to) (count_extend extend) a arc.step c
    on_arc number bare arc there {ws} same a b c over extends =
        let parts = and_parts (tally_below a.second.second.first b.second.second.first) (spares arc.from (bare_label a) (bare_label b)) over in
        let step_is : count_extend extend b (counted_arc ws bare).step ≡ Some c = subst (λ (x : Arc (CountStepOf S)). count_extend extend b x.step ≡ Some c) (sym same) extends in
        let back = back_of (span_extend b.first bare.step.0) (mask_extend b.second.first bare.step.1.0)
        (record { wanted = counters_less b.second.second.first.wanted ws }) (extend b.second.second.second bare.step.1.1) c step_is in
        let here : spares bare.from (bare_label a) (bare_label b) ≡ true = ap (λ (x : Arc (CountStepOf S)). spares x.from (bare_label a) (bare_label b)) same ∙ parts.1 in
        let on = order.along number bare (bare_label a) (bare_label b) (bare_label c) there here back.there in
        let goes = on_of (span_extend a.first bare.step.0) (mask_extend a.second.first bare.step.1.0)
        (record { wanted = counters_less a.second.second.first.wanted ws }) (extend a.second.second.second bare.step.1.1) on.to on.extends in
        let to : CountOf B = counted_label (counters_less a.second.second.first.wanted ws) on.to in
        let below : counters_below (counters_less a.second.second.first.wanted ws) c.second.second.first.wanted ≡ true =
        ap (λ (xs : List ℕ). counters_below (counters_less a.second.second.first.wanted ws) xs) back.tally ∙ less_below a.second.second.first.wanted b.second.second.first.wanted ws parts.0 in
        subst (λ (x : Arc (CountStepOf S)). ExtendsBelow (counting_spares spares x.to) (count_extend extend) a x.step c) same (record {
          to = to;
          extends = goes;
          is_below = and_from (counters_below (counters_less a.second.second.first.wanted ws) c.second.second.first.wanted) (spares bare.to on.to (bare_label c)) below on.is_below;
        })

    at_end : (a b : CountOf B) → counting_spares spares (graph.places - 1) a b ≡ true → count_done done b counting.end ≡ true → count_done done a counting.end ≡ true
    at_end a b over ends =
        let parts = and_parts (tally_below a.second.second.first b.second.second.first) (spares (graph.places - 1) (bare_label a) (bare_label b)) over in
        let ends_b : count_done done b (graph.end.0, (graph.end.1.0, (tt, graph.end.1.1))) ≡ true = subst (λ (e : CountEndOf E). count_done done b e ≡ true) is.end ends in
        let both = done_back (span_done b.first graph.end.0) (mask_done b.second.first graph.end.1.0) (counters_below b.second.second.first.wanted []) (done b.second.second.second graph.end.1.1) ends_b in
        let plain = order.final (bare_label a) (bare_label b) parts.1 both.0 in
        let none = tally_finishes a.second.second.first b.second.second.first tt parts.0 both.1 in
        subst (λ (e : CountEndOf E). count_done done a e ≡ true) (sym is.end)
        (done_on (span_done a.first graph.end.0) (mask_done a.second.first graph.end.1.0) (counters_below a.second.second.first.wanted []) (done a.second.second.second graph.end.1.1) plain none)

-- terms without what they count may be the member's
pub plain_terms_of : (problem : Problem) (member : ℕ) (terms : Terms) → AreTermsOf problem member terms → AreTermsOf problem member (uncounted terms)
plain_terms_of problem member terms fits = record { low = fits.low; high = fits.high; asked = fits.asked }

-- where they count nothing they are as they were
pub uncounted_is : (terms : Terms) → terms.counted ≡ 0 → uncounted terms ≡ terms
uncounted_is terms none = same terms.counted none
  where
    same : (n : ℕ) → n ≡ 0 → uncounted terms ≡ record { low = terms.low; high = terms.high; days_off = terms.days_off; floor = terms.floor; asked = terms.asked; counted = n }
    same n e = rw e refl

-- a graph stands for lines whichever way what its arcs add is seen
pub stands_seen : {R S E : Type 0} {extend : R → S → Option R} {done : R → E → Bool} {graph : GraphOf R S E} {adds : List ℕ} {problem : Problem} {member : ℕ} {node : List Decision} {lens : Lens} {terms : Terms} {weights : List ℤ}
    → StandsByArcs extend done graph adds problem member node lens terms weights → (seen : List ℕ) → seen ≡ adds → StandsByArcs extend done graph seen problem member node lens terms weights
stands_seen {extend = extend} {done = done} {graph = graph} {problem = problem} {member = member} {node = node} {lens = lens} {terms = terms} {weights = weights} stands seen e =
    subst (λ (xs : List ℕ). StandsByArcs extend done graph xs problem member node lens terms weights) (sym e) stands

-- and for terms that are the same
pub stands_for : {R S E : Type 0} {extend : R → S → Option R} {done : R → E → Bool} {graph : GraphOf R S E} {adds : List ℕ} {problem : Problem} {member : ℕ} {node : List Decision} {lens : Lens} {terms : Terms} {weights : List ℤ}
    → StandsByArcs extend done graph adds problem member node lens terms weights → (others : Terms) → terms ≡ others → StandsByArcs extend done graph adds problem member node lens others weights
stands_for {extend = extend} {done = done} {graph = graph} {adds = adds} {problem = problem} {member = member} {node = node} {lens = lens} {weights = weights} stands others e =
    subst (λ (t : Terms). StandsByArcs extend done graph adds problem member node lens t weights) e stands
