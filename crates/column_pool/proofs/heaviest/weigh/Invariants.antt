use Rattle.std.proofs.Common.{◌≡◌, ◌≤◌, ◌*◌, take}
use Rattle.std.specs.Prelude.{unsigned_abs}
use Rattle.roster_model.specs.Weights.{weight_of}
use Rattle.column_pool.proofs.heaviest.weigh.Given as goal

abbrev pub invariant-loop-p : goal.invariant-loop-p
invariant-loop-p l = record {
  is : l.sum ≡ weight_of l.weights (take l.p-index l.p-items);
  small : unsigned_abs l.sum ≤ 2147483647 * l.p-index;
}
