use Rattle.std.proofs.Common.{ℕ, List, ap, ◌∙◌, map}
use Rattle.label_lattice.specs.declared.pairs.Pair.{Pair}
use Rattle.label_lattice.specs.declared.pauses.Pause.{Pause}
use Rattle.label_lattice.specs.declared.pauses.PauseStep.{PauseStep}
use Rattle.label_setter.specs.declared.graph.Arc.{Arc}
use Rattle.label_setter.specs.Chains.{GraphOf}
use Rattle.chain_search.specs.declared.clocks.Clock.{Clock}
use Rattle.chain_search.specs.declared.clocks.ClockStep.{ClockStep}
use Rattle.chain_search.specs.FreeHours.{free_arc}
use Rattle.chain_search.specs.Hours.{hours_count, hours_shows}
use Rattle.chain_search.specs.Tables.{rested}
use Rattle.chain_search.proofs.FreeChains.{all_follow, graph_seen_so, seen_bound}
use Rattle.chain_search.proofs.free.free_rest.Goals as goal

pub from_arcs-seen-requires : goal.from_arcs-seen-requires
from_arcs-seen-requires g c = record {
  graph =
      graph_seen_so c.deref.result.now (λ (arc : Arc (g.row.A-Step.Denot × (g.row.M-Step.Denot × g.row.B-Step.Denot))). g.B.Paused.pause_step arc.step.1.1)
      c.args.graph.now.places c.places.result c.args.graph.now.arcs c.arcs.result.now c.in_ok-arcs.arcs.items c.places.ensures.places c.arcs.ensures.arcs c.in_ok-arcs.ensures.arcs c.arcs.ensures.graph;
}

pub coarse_rest-requires-clause-follows : goal.coarse_rest-requires-clause-follows
coarse_rest-requires-clause-follows g c = all_follow {X = Arc (ClockStep × PauseStep)} c.from_arcs-seen.result.arcs

pub returns : goal.returns
returns g c = record {
  rest =
      seen_bound g.A.Resource.extend g.M.Resource.extend g.B.Resource.extend g.B.Paused.pause g.B.Paused.pause_step g.met.B.Paused.paused_law c.in_ok-times.times.items c.args.graph.now.arcs
      g.A.Resource.done g.M.Resource.done g.B.Resource.done c.args.graph.now.places c.args.graph.now.start c.args.graph.now.end c.from_arcs-seen.result (rested hours_count hours_shows c.in_ok-table.table)
      (ap (λ (x : GraphOf (Pair Clock Pause) (ClockStep × PauseStep) (Unit {0} × Unit {0})). x.places) c.from_arcs-seen.ensures.graph ∙ c.places.ensures.places)
      (ap (λ (x : GraphOf (Pair Clock Pause) (ClockStep × PauseStep) (Unit {0} × Unit {0})). x.arcs) c.from_arcs-seen.ensures.graph
      ∙ (c.in_ok-arcs.ensures.arcs
      ∙ (ap (λ (xs : List (Arc (g.row.A-Step.Denot × (g.row.M-Step.Denot × g.row.B-Step.Denot)))). map (λ (arc : Arc (g.row.A-Step.Denot × (g.row.M-Step.Denot × g.row.B-Step.Denot))). free_arc c.deref.result.now arc (g.B.Paused.pause_step arc.step.1.1)) xs) c.arcs.ensures.arcs
      ∙ ap (λ (times : List ℕ). map (λ (arc : Arc (g.row.A-Step.Denot × (g.row.M-Step.Denot × g.row.B-Step.Denot))). free_arc times arc (g.B.Paused.pause_step arc.step.1.1)) c.args.graph.now.arcs) c.deref.ensures.value)))
      c.in_ok-table.ensures.rest;
}
