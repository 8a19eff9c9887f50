use Rattle.std.proofs.Common.{◌≡◌, ◌≤◌}
use Rattle.duty_calendar.specs.Minutes.{count_between}
use Rattle.lens_classes.specs.Classes.{is_in}
use Rattle.line_generator.specs.ClassLines.{spread}
use Rattle.line_generator.proofs.BidSets.{Collects}
use Rattle.line_generator.proofs.sets.spread.Given as goal

abbrev pub invariant-loop-bid : goal.invariant-loop-bid
invariant-loop-bid l = record {
  collects : Collects (spread (is_in l.bids) l.number) l.bid l.granted;
  place : l.place ≡ count_between (is_in l.bids) 0 l.bid;
  small : l.place ≤ l.bid;
}
