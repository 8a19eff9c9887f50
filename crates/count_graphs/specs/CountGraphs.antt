-- The graph that counts what the arcs of another add.
use Rattle.std.specs.Prelude.{◌≡◌, ℕ, List, [], ◌∷◌}
use Rattle.label_setter.specs.Chains.{GraphOf}
use Rattle.label_setter.specs.declared.graph.Arc.{Arc}
use Rattle.lens_classes.specs.declared.terms.Terms.{Terms}
use Rattle.roster_model.specs.declared.problem.Problem.{Problem}
use Rattle.count_graphs.specs.Counts.{AreSlots, amounts_of, wanted_of}
use Rattle.graph_climbs.specs.Parts.{PartsEndOf, PartsOf, PartsStepOf}
use Rattle.count_graphs.specs.CountLabels.{CountEndOf, CountOf, CountStepOf, counted_label}

-- an arc with amounts in its step
abbrev pub counted_arc : {S : Type 0} → List ℕ → Arc (PartsStepOf S) → Arc (CountStepOf S)
counted_arc amounts arc = record {
  from = arc.from;
  to = arc.to;
  gain = arc.gain;
  step = (arc.step.0, (arc.step.1.0, (record { amounts = amounts }, arc.step.1.1)));
}

-- the arcs, each with the amounts of what it adds
abbrev pub counted_arcs : {S : Type 0} → (ℕ → List ℕ) → List ℕ → List (Arc (PartsStepOf S)) → List (Arc (CountStepOf S))
counted_arcs amounts [] arcs = []
counted_arcs amounts (p ∷ adds) [] = []
counted_arcs amounts (p ∷ adds) (arc ∷ arcs) = counted_arc (amounts p) arc ∷ counted_arcs amounts adds arcs

-- it has the same places and arcs, begins with what the counted bids want, and each arc takes from that what it adds
pub record IsCountGraph {B S E : Type 0} (problem : Problem) (member : ℕ) (terms : Terms) (graph : GraphOf (PartsOf B) (PartsStepOf S) (PartsEndOf E)) (adds : List ℕ) (counting : GraphOf (CountOf B) (CountStepOf S) (CountEndOf E)) : Type 0 where
  pub slots : List ℕ
  pub are_slots : AreSlots terms slots
  pub places : counting.places ≡ graph.places
  pub start : counting.start ≡ counted_label (wanted_of problem member slots) graph.start
  pub end : counting.end ≡ (graph.end.0, (graph.end.1.0, (tt, graph.end.1.1)))
  pub arcs : counting.arcs ≡ counted_arcs (amounts_of problem member slots) adds graph.arcs
