use Rattle.std.proofs.Common.{arith, sym, to_z, w64}
use Rattle.roster_model.specs.Weights.{weight_at}
use Rattle.roster_model.proofs.Sums.{sum_below-none}
use Rattle.weight_certificates.proofs.RowSums.{product-fits, sum-fits, product-turn}
use Rattle.weight_certificates.proofs.rows.product.Goals as goal

pub loop-k-init : goal.loop-k-init
loop-k-init c = record { is = sym (sum_below-none _); small = omega arith }

pub overflow_mul-sum : goal.overflow_mul-sum
overflow_mul-sum c =
    product-fits (weight_at c.args.xs.now c.loop-k.k) (weight_at c.args.ys.now c.loop-k.k)
    (c.requires.xs_small c.loop-k.k (omega arith)) (c.requires.ys_small c.loop-k.k (omega arith))

pub overflow_add-sum : goal.overflow_add-sum
overflow_add-sum c =
    sum-fits (to_z w64 c.loop-k.sum-bits) (weight_at c.args.xs.now c.loop-k.k) (weight_at c.args.ys.now c.loop-k.k) c.loop-k.k
    c.loop-k.invariant.small (omega arith) (c.requires.xs_small c.loop-k.k (omega arith)) (c.requires.ys_small c.loop-k.k (omega arith))

pub loop-k-preserved : goal.loop-k-preserved
loop-k-preserved c =
    let turn = product-turn c.args.xs.now c.args.ys.now c.loop-k.k (to_z w64 c.loop-k.sum-bits) c.loop-k.invariant.is c.loop-k.invariant.small (omega arith)
    (c.requires.xs_small c.loop-k.k (omega arith)) (c.requires.ys_small c.loop-k.k (omega arith)) in
    record { is = turn.is; small = turn.small }
