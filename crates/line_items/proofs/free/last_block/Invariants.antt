use Rattle.std.proofs.Common.{◌≤◌}
use Rattle.line_items.proofs.FreeTimes.{BestBefore, Ended}
use Rattle.line_items.proofs.free.last_block.Given as goal

abbrev pub invariant-loop-span : goal.invariant-loop-span
invariant-loop-span l = record {
  low : l.from ≤ l.free_from;
  ended : Ended l.times l.free_from l.span-index;
  best : BestBefore l.times l.from l.to l.free_from l.last;
}
