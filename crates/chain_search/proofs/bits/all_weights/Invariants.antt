use Rattle.std.proofs.Common.{◌≡◌, ◌*◌, ◌^◌, ◌≤◌, take, sum}
use Rattle.chain_search.proofs.bits.all_weights.Given as goal

abbrev pub invariant-loop-k : goal.invariant-loop-k
invariant-loop-k l = record {
  sum_is : l.total ≡ sum (take l.k l.weights);
  small : l.total ≤ l.k * 2 ^ 32;
}
