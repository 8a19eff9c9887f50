use Rattle.std.proofs.Common.{arith}
use Rattle.count_graphs.proofs.CountLoops.{map_from_each}
use Rattle.count_graphs.specs.Counts.{wanted_by}
use Rattle.count_graphs.proofs.amounts.wanted_of.Goals as goal

pub returns : goal.returns
returns c = record {
  wanted =
      map_from_each (wanted_by c.args.problem.now c.args.member) c.loop-k.wanted c.args.slots.now (let long = c.loop-k.invariant.long in omega arith)
      (λ k l. c.loop-k.invariant.each k (let long = c.loop-k.invariant.long in omega arith));
}
