-- Chains as they are seen with the times of places and the free block alone.
use Rattle.std.proofs.Common.{◌≡◌, ℕ, ℤ, ◌-◌, ◌≤◌, List, [], ◌∷◌, Bool, true, Option, Some, length, map, get_or, refl, ap, sym, ◌∙◌, subst, arith}
use Rattle.std.specs.Prelude.{All, option_map}
use Rattle.std.specs.List.{list_all}
use Rattle.std.proofs.lemmas.Option.{slice_get-map}
use Rattle.std.proofs.lemmas.List.Elements.{All-cons, All-head, All-nil, All-tail}
use Rattle.label_lattice.specs.declared.pairs.Pair.{Pair}
use Rattle.label_lattice.specs.declared.pauses.Pause.{Pause}
use Rattle.label_lattice.specs.declared.pauses.PauseStep.{PauseStep}
use Rattle.label_lattice.specs.Pair.{both_of, pair_done, pair_extend}
use Rattle.label_lattice.specs.Pause.{pause_extend}
use Rattle.label_setter.specs.declared.graph.Arc.{Arc}
use Rattle.label_setter.specs.Graphs.{FitsPlaces, IsGraph}
use Rattle.label_setter.specs.Chains.{GraphOf, Leads, Reached, Takes}
use Rattle.chain_search.specs.declared.clocks.Clock.{Clock}
use Rattle.chain_search.specs.declared.clocks.ClockStep.{ClockStep}
use Rattle.chain_search.specs.Bounds.{IsBound}
use Rattle.chain_search.specs.Clocks.{clock_at, clock_extend}
use Rattle.chain_search.specs.ClockLaws.{clock_goes}
use Rattle.chain_search.specs.FreeHours.{free_arc}
use Rattle.chain_search.specs.PartLaws.{parts_of}
use Rattle.chain_search.specs.Pauseds.{PausedLaw}

both_there : {A B : Type 0} (o : Option A) (p : Option B) (a : A) (b : B) → o ≡ Some a → p ≡ Some b → both_of o p ≡ Some (record { first = a; second = b })
both_there o p a b e f = rw (e, f) refl

le_same : (a b : ℕ) → a ≡ b → a ≤ b
le_same a b e = omega (arith, e)

-- the times of the places of an arc
ticks : (times : List ℕ) (from to a c : ℕ) → from ≡ a → to ≡ c → clock_extend (clock_at (get_or times a 0)) (record { from = get_or times from 0; to = get_or times to 0 }) ≡ Some (clock_at (get_or times c 0))
ticks times from to a c e f =
    let same : get_or times from 0 ≡ get_or times a 0 = ap (λ n. get_or times n 0) e in
    subst (λ (n : ℕ). clock_extend (clock_at (get_or times a 0)) (record { from = get_or times from 0; to = get_or times to 0 }) ≡ Some (clock_at (get_or times n 0))) f
    (clock_goes (clock_at (get_or times a 0)) (record { from = get_or times from 0; to = get_or times to 0 }) (le_same (get_or times a 0) (get_or times from 0) (sym same)) (le_same (get_or times from 0) (get_or times a 0) same))

pub all_follow : {X : Type 0} (xs : List X) → list_all (λ (x : X). true) xs ≡ true
all_follow [] = refl
all_follow (x ∷ xs) = all_follow xs

pub graph_seen : {S : Type 0} (times : List ℕ) (pause : Arc S → PauseStep) (places : ℕ) (arcs : List (Arc S)) → IsGraph places arcs → IsGraph places (map (λ (arc : Arc S). free_arc times arc (pause arc)) arcs)
graph_seen {S} times pause places arcs fits = record {
  two = fits.two;
  most = fits.most;
  arcs_fit = all arcs fits.arcs_fit;
  few = let few = fits.few in let same = long arcs in omega (arith, few, same);
} where
  all : (xs : List (Arc S)) → All (FitsPlaces places) xs → All (FitsPlaces places) (map (λ (arc : Arc S). free_arc times arc (pause arc)) xs)
  all [] h = All-nil (FitsPlaces places)
  all (x ∷ xs) h =
      let fit = All-head (FitsPlaces places) x xs h in
      All-cons (FitsPlaces places) (free_arc times x (pause x)) (map (λ (arc : Arc S). free_arc times arc (pause arc)) xs) (record { forward = fit.forward; within = fit.within; gain_low = fit.gain_low; gain_high = fit.gain_high }) (all xs (All-tail (FitsPlaces places) x xs h))

  long : (xs : List (Arc S)) → length (map (λ (arc : Arc S). free_arc times arc (pause arc)) xs) ≡ length xs
  long [] = refl
  long (x ∷ xs) = let same = long xs in omega (arith, same)

module _ {A S M T B U : Type 0} (extend_a : A → S → Option A) (extend_m : M → T → Option M) (extend : B → U → Option B)
    (pause : B → Pause) (pause_step : U → PauseStep) (law : PausedLaw extend pause pause_step) (times : List ℕ) (arcs : List (Arc (S × (T × U)))) where
  abbrev pub seen_at : Reached (Pair A (Pair M B)) → Reached (Pair Clock Pause)
  seen_at a = record { place = a.place; gain = a.gain; resource = record { first = clock_at (get_or times a.place 0); second = pause a.resource.second.second } }

  abbrev pub seen_arc : Arc (S × (T × U)) → Arc (ClockStep × PauseStep)
  seen_arc arc = free_arc times arc (pause_step arc.step.1.1)

  pub seen_leads : (a b : Reached (Pair A (Pair M B))) (chain : List ℕ) → Leads (pair_extend extend_a (pair_extend extend_m extend)) arcs a chain b
      → Leads (pair_extend clock_extend pause_extend) (map seen_arc arcs) (seen_at a) chain (seen_at b)
  seen_leads a b [] leads = ap seen_at leads
  seen_leads a b (number ∷ chain) leads =
      let c = leads.0 in
      let takes = leads.1 in
      let arc = takes.arc in
      let outer = parts_of (extend_a a.resource.first arc.step.0) (pair_extend extend_m extend a.resource.second arc.step.1) c.resource takes.extends in
      let inner = parts_of (extend_m a.resource.second.first arc.step.1.0) (extend a.resource.second.second arc.step.1.1) c.resource.second outer.second in
      let paused = law a.resource.second.second c.resource.second.second arc.step.1.1 inner.second in
      let ticked = ticks times arc.from arc.to a.place c.place takes.from takes.to in
      let one : Takes (pair_extend clock_extend pause_extend) (map seen_arc arcs) (seen_at a) number (seen_at c) = record {
        arc = seen_arc arc;
        is = slice_get-map seen_arc arcs number ∙ ap (option_map seen_arc) takes.is;
        from = takes.from;
        to = takes.to;
        gain = takes.gain;
        extends = both_there _ _ (clock_at (get_or times c.place 0)) (pause c.resource.second.second) ticked paused;
      } in
      (seen_at c, one, seen_leads c b chain leads.2)

  pub seen_bound : {E F D : Type 0} (done_a : A → E → Bool) (done_m : M → F → Bool) (done : B → D → Bool) (places : ℕ) (start : Pair A (Pair M B)) (end : E × (F × D))
      (seen : GraphOf (Pair Clock Pause) (ClockStep × PauseStep) (Unit {0} × Unit {0})) (rest : ℕ → Pair Clock Pause → ℤ)
      → seen.places ≡ places → seen.arcs ≡ map seen_arc arcs
      → IsBound (pair_extend clock_extend pause_extend) (pair_done {E = Unit {0}} {F = Unit {0}} (λ _ _. true) (λ _ _. true)) seen rest
      → IsBound (pair_extend extend_a (pair_extend extend_m extend)) (pair_done done_a (pair_done done_m done)) (record { places = places; start = start; end = end; arcs = arcs })
      (λ place a. rest place (record { first = clock_at (get_or times place 0); second = pause a.second.second }))
  seen_bound done_a done_m done places start end seen rest same_places same_arcs bound label chain gain last leads is_done =
      let at_end : Reached (Pair A (Pair M B)) = record { place = places - 1; gain = gain; resource = last } in
      let there = subst (λ (xs : List (Arc (ClockStep × PauseStep))). Leads (pair_extend clock_extend pause_extend) xs (seen_at label) chain (seen_at at_end)) (sym same_arcs) (seen_leads label at_end chain leads) in
      let there_at = subst (λ (n : ℕ). Leads (pair_extend clock_extend pause_extend) seen.arcs (seen_at label) chain (record { place = n - 1; gain = gain; resource = (seen_at at_end).resource })) (sym same_places) there in
      bound (seen_at label) chain gain (seen_at at_end).resource there_at refl

-- the same, by equations
pub graph_seen_so : {S : Type 0} (times : List ℕ) (pause : Arc S → PauseStep) (places n : ℕ) (arcs xs : List (Arc S)) (items : List (Arc (ClockStep × PauseStep)))
    → n ≡ places → xs ≡ arcs → items ≡ map (λ (arc : Arc S). free_arc times arc (pause arc)) xs → IsGraph places arcs → IsGraph n items
graph_seen_so {S} times pause places n arcs xs items e f h fits =
    subst (λ (ys : List (Arc (ClockStep × PauseStep))). IsGraph n ys) (sym h)
    (graph_seen times pause n xs (subst (λ (m : ℕ). IsGraph m xs) (sym e) (subst (λ (ys : List (Arc S)). IsGraph places ys) (sym f) fits)))
