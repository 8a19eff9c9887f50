use Rattle.std.proofs.Common.{◌≡◌, ◌≤◌}
use Rattle.duty_calendar.specs.Minutes.{count_between}
use Rattle.lens_classes.specs.Classes.{is_in}
use Rattle.line_generator.proofs.sets.size_of.Given as goal

abbrev pub invariant-loop-bid : goal.invariant-loop-bid
invariant-loop-bid l = record {
  size : l.size ≡ count_between (is_in l.bids) 0 l.bid;
  small : l.size ≤ l.bid;
}
