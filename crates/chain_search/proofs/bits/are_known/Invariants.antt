use Rattle.std.proofs.Common.{◌≡◌, drop}
use Rattle.chain_search.specs.BitStates.{are_known}
use Rattle.chain_search.proofs.bits.are_known.Given as goal

abbrev pub invariant-loop-bit : goal.invariant-loop-bit
invariant-loop-bit l = are_known l.used (drop l.bit-index l.chosen) l.weights ≡ are_known 0 l.chosen l.weights
