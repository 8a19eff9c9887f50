use Rattle.std.proofs.Common.{arith}
use Rattle.chain_search.proofs.bits.all_weights.Goals as goal

pub returns-clause-small : goal.returns-clause-small
returns-clause-small c = let small = c.loop-k.invariant.small in omega (arith, small)
