use Rattle.next_month.proofs.Ordered.{ArePassed}
use Rattle.next_month.proofs.order.are_apart.Given as goal

abbrev pub invariant-loop-event : goal.invariant-loop-event
invariant-loop-event l = ArePassed l.events l.event-index l.free
