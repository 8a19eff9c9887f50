use Rattle.std.proofs.Common.{◌≡◌, arith, sym, ◌<◌, length, All, true, get_or, to_z, w64}
use Rattle.roster_model.specs.Ascending.{is_ascending}
use Rattle.roster_model.specs.Weights.{weight_at}
use Rattle.roster_model.proofs.Bounds.{ascending-length}
use Rattle.column_pool.proofs.Weighing.{weight_of-none, weigh-turn, WeighTurn}
use Rattle.column_pool.proofs.heaviest.weigh.Goals as goal

pub loop-p-init : goal.loop-p-init
loop-p-init c = record { is = sym (weight_of-none _); small = omega arith }

turn : (c : goal.After-sum-1) → WeighTurn c.args.weights.now c.pairings-p-items.result.now c.loop-p.p-index (to_z w64 c.loop-p.sum-bits) (weight_at c.args.weights.now (get_or c.pairings-p-items.result.now c.loop-p.p-index 0))
turn c =
    let same = c.pairings-p-items.ensures.numbers in
    let up : is_ascending c.pairings-p-items.result.now ≡ true = rw same c.pairings-p-items.ensures.ascending in
    let inside : All (λ p. p < length c.args.weights.now) c.pairings-p-items.result.now = rw same c.requires.in_range in
    let few = ascending-length c.pairings-p-items.result.now (length c.args.weights.now) up inside in
    weigh-turn c.args.weights.now c.pairings-p-items.result.now c.loop-p.p-index (to_z w64 c.loop-p.sum-bits) c.loop-p.invariant.is c.loop-p.invariant.small
    (omega arith) (omega (arith, few, c.requires.few)) c.requires.small (inside c.loop-p.p-index 0 (omega arith))

pub overflow_add-sum : goal.overflow_add-sum
overflow_add-sum c = (turn c).fits

pub loop-p-preserved : goal.loop-p-preserved
loop-p-preserved c = record { is = (turn c).is; small = (turn c).small }
