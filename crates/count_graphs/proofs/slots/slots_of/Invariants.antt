use Rattle.lens_classes.specs.TermLines.{is_counted}
use Rattle.count_graphs.proofs.CountLoops.{AreFilled}
use Rattle.count_graphs.proofs.slots.slots_of.Given as goal

abbrev pub invariant-loop-bid : goal.invariant-loop-bid
invariant-loop-bid l = AreFilled (is_counted l.terms) l.bid l.next l.slots
