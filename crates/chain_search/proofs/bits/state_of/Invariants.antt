use Rattle.std.proofs.Common.{◌≡◌, ◌-◌, drop, length}
use Rattle.chain_search.specs.BitStates.{state_of}
use Rattle.chain_search.proofs.bits.state_of.Given as goal

abbrev pub invariant-loop-back : goal.invariant-loop-back
invariant-loop-back l = l.state ≡ state_of (drop (length l.chosen - l.back) l.chosen) l.bits
