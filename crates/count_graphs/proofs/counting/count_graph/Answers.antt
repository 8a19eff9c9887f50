use Rattle.count_graphs.specs.Counts.{amounts_of}
use Rattle.count_graphs.proofs.CountLines.{count_is, counted_caps, stands_counted}
use Rattle.count_graphs.proofs.CountLoops.{graph_fits}
use Rattle.count_graphs.proofs.counting.count_graph.Goals as goal

pub from_arcs-requires : goal.from_arcs-requires
from_arcs-requires g c = record {
  graph =
      graph_fits (amounts_of c.args.problem.now c.args.member c.slots_of-slots.result) c.places.result c.args.graph.now.places c.args.adds.now c.arcs.result.now c.args.graph.now.arcs
      c.in_ok-arcs.arcs.items c.in_ok-arcs.ensures.arcs c.arcs.ensures.arcs c.places.ensures.places c.arcs.ensures.graph;
}

pub returns-clause-stands : goal.returns-clause-stands
returns-clause-stands g c =
    let is = count_is c.args.problem.now c.args.member c.args.terms.now c.args.graph.now c.args.adds.now c.from_arcs.result c.slots_of-slots.result c.wanted_of-wanted.result c.places.result c.start-start.result
    c.end.result.now c.arcs.result.now c.in_ok-arcs.arcs.items c.slots_of-slots.ensures.slots c.from_arcs.ensures.graph c.places.ensures.places c.start-start.ensures.start c.wanted_of-wanted.ensures.wanted
    c.end.ensures.end c.in_ok-arcs.ensures.arcs c.arcs.ensures.arcs in
    λ node lens weights stands.
    stands_counted g.B.Resource.extend g.B.Resource.done c.args.problem.now c.args.member c.args.terms.now c.args.graph.now c.args.adds.now c.from_arcs.result is
    c.requires.counted c.requires.per_arc node lens weights stands

pub returns-clause-caps : goal.returns-clause-caps
returns-clause-caps g c =
    let is = count_is c.args.problem.now c.args.member c.args.terms.now c.args.graph.now c.args.adds.now c.from_arcs.result c.slots_of-slots.result c.wanted_of-wanted.result c.places.result c.start-start.result
    c.end.result.now c.arcs.result.now c.in_ok-arcs.arcs.items c.slots_of-slots.ensures.slots c.from_arcs.ensures.graph c.places.ensures.places c.start-start.ensures.start c.wanted_of-wanted.ensures.wanted
    c.end.ensures.end c.in_ok-arcs.ensures.arcs c.arcs.ensures.arcs in
    λ cap caps. counted_caps g.B.Resource.extend g.B.Resource.done c.args.problem.now c.args.member c.args.terms.now c.args.graph.now c.args.adds.now c.from_arcs.result is
    c.requires.counted c.requires.per_arc cap caps
