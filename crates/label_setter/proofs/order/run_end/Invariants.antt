use Rattle.label_setter.proofs.Ordering.{Runs}
use Rattle.label_setter.proofs.order.run_end.Given as goal

abbrev pub invariant-loop-end : goal.invariant-loop-end
invariant-loop-end g l = Runs l.arcs l.order l.next l.end l.place
