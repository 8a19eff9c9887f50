use Rattle.std.proofs.Common.{◌≡◌, length, map}
use Rattle.chain_search.proofs.LeavingArcs.{Grouped}
use Rattle.chain_search.proofs.ways.Ways.new.Given as goal

abbrev pub invariant-loop-number : goal.invariant-loop-number
invariant-loop-number g l = record {
  count : length l.lists.items ≡ l.graph.places;
  grouped : Grouped l.graph.arcs l.number (map (λ list. list.items) l.lists.items);
}
