use Rattle.std.proofs.Common.{◌≡◌, ◌++◌, ◌∷◌, [], ℤ, List, FitsSigned, Ok, arith, rules, vec_len, w64, sym, ◌∙◌, ap, subst, take}
use Rattle.std.proofs.lemmas.Int.{to_z-of_z}
use Rattle.chain_search.specs.declared.search.Outcome.{Outcome}
use Rattle.chain_search.specs.Searches.{Hunts}
use Rattle.chain_search.proofs.Climbing.{came_above, climbs_enough, climbs_top}
use Rattle.chain_search.proofs.Hunting.{hunt_over, none_left}
use Rattle.chain_search.proofs.Walking.{none_feasible}
use Rattle.chain_search.proofs.search.climb_above.Goals as goal

pub returns-then-wanted-eq0-clause-climbs : goal.returns-then-wanted-eq0-clause-climbs
returns-then-wanted-eq0-clause-climbs g c =
    let comes = ap (λ (o : Outcome). Ok o) c.in-Comes.is in
    climbs_enough g.R.Resource.extend g.R.Resource.done c.args.graph.now c.args.above.over c.in_ok-chain_of-in-Comes.field-0
    (came_above g.R.Resource.extend g.R.Resource.done c.args.graph.now c.args.above.over c.loop-next.above.over c.loop-next.best c.in_ok-chain_of-in-Comes.field-0
    (take c.in-Some-pop.next.before c.turn.new.walk.path.items ++ c.in-Some-pop.next.arc ∷ []) c.in-Some-pop.next.gain c.loop-next.invariant.found c.loop-next.invariant.raised
    (c.in_ok-turn.ensures.comes comes) (c.in_ok-turn.ensures.above comes)
    (c.in_ok-chain_of-in-Comes.ensures.arcs ∙ ap (λ (xs : List _). take c.in-Some-pop.next.before xs ++ c.in-Some-pop.next.arc ∷ []) c.deref.ensures.value) c.in_ok-chain_of-in-Comes.ensures.gain)

pub loop-next-preserved : goal.loop-next-preserved
loop-next-preserved g c =
    let range : FitsSigned w64 c.in-Some-pop.next.gain = search rules in
    let same = to_z-of_z w64 c.in-Some-pop.next.gain range in
    let comes = ap (λ (o : Outcome). Ok o) c.in-Comes.is in
    let wanted = c.loop-next.invariant.wanted in
    let more = c.if-wanted-eq0.false in
    let before = c.loop-next.invariant.steps in
    let steps = c.turn.ensures.steps in
    record {
      rest = c.loop-next.invariant.rest;
      hunts = subst (λ (x : ℤ). Hunts g.R.Resource.extend g.R.Resource.done c.args.graph.now x c.turn.new.walk.path.items c.turn.new.walk.marks c.turn.new.walk.waiting.items) (sym same) (c.in_ok-turn.ensures.rises comes);
      found = came_above g.R.Resource.extend g.R.Resource.done c.args.graph.now c.args.above.over c.loop-next.above.over c.loop-next.best c.in_ok-chain_of-in-Comes.field-0
          (take c.in-Some-pop.next.before c.turn.new.walk.path.items ++ c.in-Some-pop.next.arc ∷ []) c.in-Some-pop.next.gain c.loop-next.invariant.found c.loop-next.invariant.raised
          (c.in_ok-turn.ensures.comes comes) (c.in_ok-turn.ensures.above comes)
          (c.in_ok-chain_of-in-Comes.ensures.arcs ∙ ap (λ (xs : List _). take c.in-Some-pop.next.before xs ++ c.in-Some-pop.next.arc ∷ []) c.deref.ensures.value) c.in_ok-chain_of-in-Comes.ensures.gain;
      raised = same ∙ sym c.in_ok-chain_of-in-Comes.ensures.gain;
      wanted = omega (arith, wanted, more);
      most = (let most = c.loop-next.invariant.most in omega (arith, most));
      few = (let few = c.loop-next.invariant.few in let smaller = c.in_ok-turn.ensures.smaller in let popped = c.in-Some-pop.ensures in omega (arith, few, smaller, wanted, popped));
      steps = omega (arith, before, steps);
    }

pub returns-clause-climbs : goal.returns-clause-climbs
returns-clause-climbs g c =
    let none : c.loop-next.walk.waiting.items ≡ [] = none_left c.loop-next.walk.waiting.items c.pop.new.self.items (vec_len c.loop-next.walk.waiting) c.in_default-pop.ensures.cases.0 c.in_default-pop.ensures.rest c.in_default-pop.ensures.items in
    climbs_top g.R.Resource.extend g.R.Resource.done c.args.graph.now c.args.above.over c.loop-next.above.over c.loop-next.best c.loop-next.invariant.found c.loop-next.invariant.raised
    (none_feasible g.R.Resource.extend g.R.Resource.done c.args.graph.now c.loop-next.above.over
    (hunt_over g.R.Resource.extend g.R.Resource.done c.args.graph.now c.loop-next.above.over c.loop-next.walk.path.items c.loop-next.walk.marks (rw none at c.loop-next.invariant.hunts)))
