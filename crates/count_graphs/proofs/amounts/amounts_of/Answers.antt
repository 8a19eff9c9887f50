use Rattle.std.proofs.Common.{arith}
use Rattle.std.specs.Prelude.{if◌then◌else◌}
use Rattle.count_graphs.proofs.CountLoops.{map_from_each}
use Rattle.count_graphs.specs.Counts.{counts_for}
use Rattle.count_graphs.proofs.amounts.amounts_of.Goals as goal

pub returns : goal.returns
returns c = record {
  amounts =
      map_from_each (λ bid. if counts_for c.args.problem.now c.args.member bid c.args.pairing then 1 else 0) c.loop-k.amounts c.args.slots.now (let long = c.loop-k.invariant.long in omega arith)
      (λ k l. c.loop-k.invariant.each k (let long = c.loop-k.invariant.long in omega arith));
}
