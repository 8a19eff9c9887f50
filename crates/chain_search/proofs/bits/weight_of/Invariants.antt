use Rattle.std.proofs.Common.{◌≡◌, ◌+◌, ◌*◌, ◌^◌, ◌≤◌, drop}
use Rattle.chain_search.specs.BitStates.{weight_of}
use Rattle.chain_search.proofs.bits.weight_of.Given as goal

abbrev pub invariant-loop-bit : goal.invariant-loop-bit
invariant-loop-bit l = record {
  sum : l.total + weight_of (drop l.bit-index l.chosen) l.left ≡ weight_of l.chosen l.state;
  small : l.total ≤ l.bit-index * 2 ^ 39;
}
