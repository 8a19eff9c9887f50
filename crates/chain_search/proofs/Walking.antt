-- Chains on from a label, and what they gain.
use Rattle.std.proofs.Common.{◌≡◌, ◌≢◌, ℕ, ℤ, ◌-◌, ◌<◌, ◌+ℤ◌, ◌≤ℤ◌, List, [], ◌∷◌, ◌++◌, Bool, true, Option, Some, refl, sym, ◌∙◌, ap, subst, arith, length}
use Rattle.std.specs.Prelude.{All, int_le, slice_get}
use Rattle.std.proofs.lemmas.Bool.{and_parts}
use Rattle.std.proofs.lemmas.Int.{ints}
use Rattle.std.proofs.lemmas.List.Elements.{All-contains}
use Rattle.label_setter.specs.declared.graph.Arc.{Arc}
use Rattle.label_setter.specs.Graphs.{FitsPlaces, IsGraph}
use Rattle.label_setter.specs.Chains.{GraphOf, IsFeasible, Leads, Reached, Takes, source}
use Rattle.chain_search.specs.declared.marks.Mark.{Mark}
use Rattle.chain_search.specs.Bounds.{IsBound}
use Rattle.chain_search.specs.Leavings.{Leaving}
use Rattle.chain_search.specs.Marking.{dispenses}
use Rattle.chain_search.specs.Orders.{IsOrder}
use Rattle.chain_search.specs.Searches.{NoneAboveFrom, reached_mark}
use Rattle.chain_search.proofs.ListReads.{contains_read, read_contains, same_some}

pub le_through : (a b c : ℤ) → a ≤ℤ b → b ≤ℤ c → a ≤ℤ c
le_through a b c p q = omega (arith, ints)

gain_through : (a b g x y : ℤ) → a ≤ℤ b → x ≡ a +ℤ g → y ≡ b +ℤ g → x ≤ℤ y
gain_through a b g x y p e f = omega (arith, ints)

le_means : (a b : ℤ) → int_le a b ≡ true → a ≤ℤ b
le_means a b h = grind (arith, ints)

pub fits_at : {S : Type 0} (places : ℕ) (arcs : List (Arc S)) (number : ℕ) (arc : Arc S) → All (FitsPlaces places) arcs → slice_get arcs number ≡ Some arc → FitsPlaces places arc
fits_at places arcs number arc fit is = All-contains (FitsPlaces places) arcs arc fit (contains_read arcs number arc is)

module _ {R S : Type 0} (extend : R → S → Option R) (arcs : List (Arc S)) where
  -- one arc more
  pub leads_push : (a b c : Reached R) (chain : List ℕ) (number : ℕ) → Leads extend arcs a chain b → Takes extend arcs b number c → Leads extend arcs a (chain ++ number ∷ []) c
  leads_push a b c [] number leads takes = (c, subst (λ (r : Reached R). Takes extend arcs r number c) (sym leads) takes, refl)
  leads_push a b c (first ∷ chain) number leads takes = (leads.0, leads.1, leads_push leads.0 b c chain number leads.2 takes)

  -- by the same arc to one label alone
  pub same_next : (label next : Reached R) (number : ℕ) (arc : Arc S) (gain : ℤ) (resource : R) → slice_get arcs number ≡ Some arc → gain ≡ label.gain +ℤ arc.gain → extend label.resource arc.step ≡ Some resource → Takes extend arcs label number next → next ≡ record { place = arc.to; gain = gain; resource = resource }
  same_next label next number arc gain resource is sum extends takes =
      let same : takes.arc ≡ arc = same_some (slice_get arcs number) takes.arc arc takes.is is in
      let to : next.place ≡ arc.to = sym takes.to ∙ ap (λ (a : Arc S). a.to) same in
      let is_gain : next.gain ≡ gain = takes.gain ∙ (ap (λ (a : Arc S). label.gain +ℤ a.gain) same ∙ sym sum) in
      let res : next.resource ≡ resource = same_some (extend label.resource arc.step) next.resource resource (subst (λ (a : Arc S). extend label.resource a.step ≡ Some next.resource) same takes.extends) extends in
      subst (λ (x : R). next ≡ record { place = arc.to; gain = gain; resource = x }) res
      (subst (λ (x : ℤ). next ≡ record { place = arc.to; gain = x; resource = next.resource }) is_gain
      (subst (λ (x : ℕ). next ≡ record { place = x; gain = next.gain; resource = next.resource }) to refl))

module _ {R S E : Type 0} (extend : R → S → Option R) (done : R → E → Bool) (graph : GraphOf R S E) (over : ℤ) where
  -- none is above by the first of the arcs
  abbrev pub NoneByFirst : Reached R → List ℕ → ℕ → Type 0
  NoneByFirst label numbers count =
      (k number : ℕ) (next : Reached R) → k < count → slice_get numbers k ≡ Some number → Takes extend graph.arcs label number next → NoneAboveFrom extend done graph over next

  pub none_by_all : (label : Reached R) (numbers : List ℕ) → label.place ≢ graph.places - 1 → Leaving graph.arcs label.place numbers → NoneByFirst label numbers (length numbers) → NoneAboveFrom extend done graph over label
  unfolding NoneAboveFrom
  none_by_all label numbers before leaving all [] gain last leads is_done = absurd (before (ap (λ (r : Reached R). r.place) leads))
  none_by_all label numbers before leaving all (number ∷ chain) gain last leads is_done =
      let takes = leads.1 in
      let listed = leaving.listed number takes.arc takes.is takes.from in
      all listed.0 number leads.0 listed.1 (read_contains numbers number listed) takes chain gain last leads.2 is_done

  -- at the sink no arc goes on
  pub none_at_sink : (label : Reached R) → IsGraph graph.places graph.arcs → label.place ≡ graph.places - 1 → (done label.resource graph.end ≡ true → label.gain ≤ℤ over) → NoneAboveFrom extend done graph over label
  unfolding NoneAboveFrom
  none_at_sink label fit at below [] gain last leads is_done =
      let same : label.gain ≡ gain = ap (λ (r : Reached R). r.gain) leads in
      let ends : done label.resource graph.end ≡ true = ap (λ (r : Reached R). done r.resource graph.end) leads ∙ is_done in
      subst (λ g. g ≤ℤ over) same (below ends)
  none_at_sink label fit at below (number ∷ chain) gain last leads is_done =
      let takes = leads.1 in
      let fits = fits_at graph.places graph.arcs number takes.arc fit.arcs_fit takes.is in
      let forward = fits.forward in
      let within = fits.within in
      let from = takes.from in
      absurd (omega (arith, forward, within, from, at))

  -- where what may still be gained is too little
  pub none_in_rest : (rest : ℕ → R → ℤ) → IsBound extend done graph rest → (label : Reached R) → (label.gain +ℤ rest label.place label.resource) ≤ℤ over → NoneAboveFrom extend done graph over label
  unfolding NoneAboveFrom
  none_in_rest rest bound label most chain gain last leads is_done = le_through gain (label.gain +ℤ rest label.place label.resource) over (bound label chain gain last leads is_done) most

  -- a mark that dispenses with a label
  module _ (spares : ℕ → R → R → Bool) (order : IsOrder extend done graph spares) where
    -- the same chain from a label that spares this one
    record Lifted (by b : Reached R) (chain : List ℕ) : Type 0 where
      to : Reached R
      leads : Leads extend graph.arcs by chain to
      place : to.place ≡ b.place
      gain : b.gain ≤ℤ to.gain
      spared : spares to.place to.resource b.resource ≡ true

    lift : (by a b : Reached R) (chain : List ℕ) → by.place ≡ a.place → a.gain ≤ℤ by.gain → spares a.place by.resource a.resource ≡ true → Leads extend graph.arcs a chain b → Lifted by b chain
    lift by a b [] place gain spared leads = record {
      to = by;
      leads = refl;
      place = place ∙ ap (λ (r : Reached R). r.place) leads;
      gain = subst (λ g. g ≤ℤ by.gain) (ap (λ (r : Reached R). r.gain) leads) gain;
      spared = subst (λ (r : Reached R). spares by.place by.resource r.resource ≡ true) leads (subst (λ (p : ℕ). spares p by.resource a.resource ≡ true) (sym place) spared);
    }
    lift by a b (number ∷ chain) place gain spared leads =
        let takes = leads.1 in
        let mid = leads.0 in
        let at_from : spares takes.arc.from by.resource a.resource ≡ true = subst (λ (p : ℕ). spares p by.resource a.resource ≡ true) (sym takes.from) spared in
        let next = order.along number takes.arc by.resource a.resource mid.resource takes.is at_from takes.extends in
        let to : Reached R = record { place = mid.place; gain = by.gain +ℤ takes.arc.gain; resource = next.to } in
        let there : spares mid.place next.to mid.resource ≡ true = subst (λ (p : ℕ). spares p next.to mid.resource ≡ true) takes.to next.is_below in
        let more = lift to mid b chain refl (gain_through a.gain by.gain takes.arc.gain mid.gain to.gain gain takes.gain refl) there leads.2 in
        record {
          to = more.to;
          leads = (to, record { arc = takes.arc; is = takes.is; from = takes.from ∙ sym place; to = takes.to; gain = refl; extends = next.extends }, more.leads);
          place = more.place;
          gain = more.gain;
          spared = more.spared;
        }

    at_sink : (label end : Reached R) (chain : List ℕ) → end.place ≡ graph.places - 1 → Leads extend graph.arcs label chain end → Leads extend graph.arcs label chain (record { place = graph.places - 1; gain = end.gain; resource = end.resource })
    at_sink label end chain place leads = subst (λ (p : ℕ). Leads extend graph.arcs label chain (record { place = p; gain = end.gain; resource = end.resource })) place leads

    none_by : (by label : Reached R) → by.place ≡ label.place → label.gain ≤ℤ by.gain → spares label.place by.resource label.resource ≡ true → NoneAboveFrom extend done graph over by → NoneAboveFrom extend done graph over label
    unfolding NoneAboveFrom
    none_by by label place gain spared none chain best last leads is_done =
        let end : Reached R = record { place = graph.places - 1; gain = best; resource = last } in
        let lifted = lift by label end chain place gain spared leads in
        let at_end : spares (graph.places - 1) lifted.to.resource last ≡ true = subst (λ (p : ℕ). spares p lifted.to.resource last ≡ true) lifted.place lifted.spared in
        le_through best lifted.to.gain over lifted.gain
        (none chain lifted.to.gain lifted.to.resource (at_sink by lifted.to chain lifted.place lifted.leads) (order.final lifted.to.resource last at_end is_done))

    pub none_dispensed : (place : ℕ) (mark : Mark R) (gain : ℤ) (resource : R) → dispenses (spares place) mark gain resource ≡ true → NoneAboveFrom extend done graph over (reached_mark place mark) → NoneAboveFrom extend done graph over (record { place = place; gain = gain; resource = resource })
    none_dispensed place mark gain resource is none =
        let parts = and_parts (int_le gain mark.gain) (spares place mark.resource resource) is in
        none_by (reached_mark place mark) (record { place = place; gain = gain; resource = resource }) refl (le_means gain mark.gain parts.0) parts.1 none

  pub none_feasible : NoneAboveFrom extend done graph over (source graph.start) → (chain : List ℕ) (gain : ℤ) → IsFeasible extend done graph chain gain → gain ≤ℤ over
  unfolding NoneAboveFrom
  none_feasible none chain gain feasible = none chain gain feasible.last feasible.leads feasible.is_done
