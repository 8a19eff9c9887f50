use Rattle.std.proofs.Common.{◌≡◌, length, arith, subst, ◌∙◌}
use Rattle.std.proofs.lemmas.List.{length-set}
use Rattle.label_setter.proofs.ArrivingArcs.{Listed, Listed-all, Grouped-start, Grouped-adds}
use Rattle.label_setter.proofs.arrivals.arriving_by_place.Goals as goal

pub loop-number-init : goal.loop-number-init
loop-number-init g c = record { count = c.in_ok-lists.ensures.count; grouped = Grouped-start c.args.arcs.now c.in_ok-lists.lists.items c.in_ok-lists.ensures.empty }

pub loop-number-preserved : goal.loop-number-preserved
loop-number-preserved g c = record {
  count = length-set _ _ _ ∙ c.loop-number.invariant.count;
  grouped = Grouped-adds c.args.arcs.now c.loop-number.lists.items c.args.places c.loop-number.number c.index-arcs-number.result c.index_mut-list.result.now c.push.new.self
      c.requires.graph.arcs_fit c.loop-number.invariant.count c.loop-number-test.true c.index-arcs-number.is c.index_mut-list.ensures.value c.in_ok-push.ensures.items c.loop-number.invariant.grouped;
}

pub returns-clause-arriving : goal.returns-clause-arriving
returns-clause-arriving g c = λ place numbers is.
    let all : c.loop-number.number ≡ length c.args.arcs.now = omega arith in
    Listed-all c.args.arcs.now place numbers (subst (λ i. Listed c.args.arcs.now place i numbers) all (c.loop-number.invariant.grouped.each place numbers is))
