use Rattle.std.proofs.Common.{◌≡◌, length, map}
use Rattle.label_setter.proofs.ArrivingArcs.{Grouped}
use Rattle.label_setter.proofs.arrivals.arriving_by_place.Given as goal

abbrev pub invariant-loop-number : goal.invariant-loop-number
invariant-loop-number g l = record {
  count : length l.lists.items ≡ l.places;
  grouped : Grouped l.arcs l.number (map (λ list. list.items) l.lists.items);
}
