use Rattle.std.proofs.Common.{◌≡◌, ◌++◌, drop}
use Rattle.count_graphs.specs.Counts.{amounts_of}
use Rattle.count_graphs.specs.CountGraphs.{counted_arcs}
use Rattle.count_graphs.proofs.counting.counted_arcs.Given as goal

abbrev pub invariant-loop-k : goal.invariant-loop-k
invariant-loop-k g l =
    l.counted.items ++ counted_arcs (amounts_of l.problem l.member l.slots) (drop l.k l.adds) (drop l.k l.arcs)
    ≡ counted_arcs (amounts_of l.problem l.member l.slots) l.adds l.arcs
