use Rattle.std.proofs.Common.{arith}
use Rattle.chain_search.proofs.BitLoops.{small_state, state_more}
use Rattle.chain_search.proofs.bits.state_of.Goals as goal

pub overflow_mul-state : goal.overflow_mul-state
overflow_mul-state c = let small = small_state c.args.chosen.now c.args.bits c.loop-back.back c.loop-back.state c.requires.few c.loop-back-test.true c.loop-back.invariant in omega (arith, small)

pub overflow_add-state : goal.overflow_add-state
overflow_add-state c =
    let small = small_state c.args.chosen.now c.args.bits c.loop-back.back c.loop-back.state c.requires.few c.loop-back-test.true c.loop-back.invariant in
    let low = c.all_set.ensures.small in
    omega (arith, small, low)

pub loop-back-preserved : goal.loop-back-preserved
loop-back-preserved c = state_more c.args.chosen.now c.args.bits c.loop-back.back c.loop-back.state c.all_set.result _ c.loop-back-test.true c.all_set.ensures.set c.loop-back.invariant
