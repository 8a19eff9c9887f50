use Rattle.std.proofs.Common.{◌≡◌, ◌≤◌, ◌*◌}
use Rattle.std.specs.Prelude.{unsigned_abs}
use Rattle.roster_model.specs.Weights.{weight_at}
use Rattle.roster_model.proofs.Sums.{product_of}
use Rattle.weight_certificates.proofs.rows.product.Given as goal

abbrev pub invariant-loop-k : goal.invariant-loop-k
invariant-loop-k l = record {
  is : l.sum ≡ product_of (weight_at l.xs) (weight_at l.ys) l.k;
  small : unsigned_abs l.sum ≤ 429496729400 * l.k;
}
