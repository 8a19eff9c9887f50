use Rattle.std.proofs.Common.{arith, refl}
use Rattle.next_month.proofs.Ordered.{shares, one_passed, all_passed}
use Rattle.next_month.proofs.order.are_apart.Goals as goal

pub returns-then-event-free-clause-overlap : goal.returns-then-event-free-clause-overlap
returns-then-event-free-clause-overlap c = λ _.
    shares c.args.events.now c.loop-event.event-index c.loop-event.free c.event-item.result c.loop-event-test.true c.event-item.is c.loop-event.invariant c.requires.sorted c.requires.last c.if-event-free.true

pub loop-event-preserved : goal.loop-event-preserved
loop-event-preserved c =
    one_passed c.args.events.now c.loop-event.event-index c.loop-event.free c.event-item.result c.loop-event-test.true c.event-item.is c.loop-event.invariant
    c.event-item.result.release (omega (arith, c.if-event-free.false)) c.requires.last refl

pub returns-clause-apart : goal.returns-clause-apart
returns-clause-apart c = λ _. all_passed c.args.events.now c.loop-event.event-index c.loop-event.free (omega (arith, c.loop-event-test.false)) c.loop-event.invariant
