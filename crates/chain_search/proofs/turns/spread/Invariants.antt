use Rattle.std.proofs.Common.{◌≡◌, ◌+◌, ◌≤◌, length}
use Rattle.chain_search.proofs.Hunting.{Spreading, one_if}
use Rattle.chain_search.proofs.turns.spread.Given as goal

abbrev pub invariant-loop-number : goal.invariant-loop-number
invariant-loop-number g l = record {
  spreading : Spreading g.R.Resource.extend g.R.Resource.done l.graph l.above.over l.label l.initial.waiting.items l.waiting.items l.best l.leaving l.number-index;
  smaller : l.left + length l.waiting.items + one_if l.best ≤ l.initial.left + length l.initial.waiting.items;
  steps : l.steps + l.left ≡ l.initial.steps + l.initial.left;
}
