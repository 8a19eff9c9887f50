use Rattle.std.proofs.Common.{◌+◌, ◌<◌, ◌^◌, ℕ, arith, ap}
use Rattle.std.specs.Prelude.{slice_index}
use Rattle.std.proofs.Math.Facts.{Fits-lt-pow}
use Rattle.chain_search.specs.BitLaws.{set_sum}
use Rattle.chain_search.proofs.SetWeights.{lowest_turned, set_none, set_of_all}
use Rattle.chain_search.proofs.weighed.weight_of_set.Goals as goal

pub loop-left-preserved : goal.loop-left-preserved
loop-left-preserved c =
    let some : 0 < c.loop-left.left = (let test = c.loop-left-test.true in omega (arith, test)) in
    let turned = lowest_turned c.loop-left.left (slice_index c.args.weights.now) some (Fits-lt-pow c.loop-left.auto.left-fits) in
    let weight = c.from-total.ensures in
    let so_far = c.loop-left.invariant in
    omega (arith, turned, weight, so_far)

pub overflow_add-total : goal.overflow_add-total
overflow_add-total c =
    let some : 0 < c.loop-left.left = (let test = c.loop-left-test.true in omega (arith, test)) in
    let turned = lowest_turned c.loop-left.left (slice_index c.args.weights.now) some (Fits-lt-pow c.loop-left.auto.left-fits) in
    let all = set_of_all c.args.bits c.args.weights.now 64 c.told-weights in
    let weight = c.from-total.ensures in
    let so_far = c.loop-left.invariant in
    let small = c.requires.small in
    let less : c.loop-left.total + c.from-total.result < 2 ^ 64 = omega (arith, turned, all, weight, so_far, small) in
    record { fits = less }

pub loop-left-smaller : goal.loop-left-smaller
loop-left-smaller c =
    let some : 0 < c.loop-left.left = (let test = c.loop-left-test.true in omega (arith, test)) in
    let turned = lowest_turned c.loop-left.left (λ place. 1) some (Fits-lt-pow c.loop-left.auto.left-fits) in
    omega (arith, turned)

pub returns : goal.returns
returns c =
    let none = ap (λ (n : ℕ). set_sum n (slice_index c.args.weights.now) 64) c.loop-left-test.false in
    let zero = set_none (slice_index c.args.weights.now) 64 in
    let all = set_of_all c.args.bits c.args.weights.now 64 c.told-weights in
    let so_far = c.loop-left.invariant in
    record { weight = omega (arith, none, zero, all, so_far) }
