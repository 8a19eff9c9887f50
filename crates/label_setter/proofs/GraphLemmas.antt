use Rattle.std.proofs.Common.{◌<◌, ◌+◌, ◌^◌, ℕ, List, arith, length, length-append, ◌++◌, [], ◌∷◌}
use Rattle.std.proofs.lemmas.List.Elements.{All-push}
use Rattle.label_setter.specs.declared.graph.Arc.{Arc}
use Rattle.label_setter.specs.Graphs.{IsGraph, FitsPlaces}

pub IsGraph-push : {S : Type 0} (places : ℕ) (arcs : List (Arc S)) (arc : Arc S) → IsGraph places arcs → FitsPlaces places arc → length arcs + 1 < 2 ^ 32 → IsGraph places (arcs ++ arc ∷ [])
IsGraph-push {S} places arcs arc graph fits few = record {
  two = graph.two;
  most = graph.most;
  arcs_fit = All-push (FitsPlaces places) arcs arc graph.arcs_fit fits;
  few = simp length-append (omega arith);
}
