use Rattle.std.proofs.Common.{◌≡◌, map, take}
use Rattle.chain_search.specs.FreeHours.{free_arc}
use Rattle.chain_search.proofs.free.free_arcs.Given as goal

abbrev pub invariant-loop-arc : goal.invariant-loop-arc
invariant-loop-arc g l = l.seen.items ≡ map (λ arc. free_arc l.times arc (g.B.Paused.pause_step arc.step.1.1)) (take l.arc-index l.arcs)
