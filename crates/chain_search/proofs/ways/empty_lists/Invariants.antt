use Rattle.std.proofs.Common.{◌≡◌, [], length}
use Rattle.std.specs.Prelude.{All}
use Rattle.chain_search.proofs.ways.empty_lists.Given as goal

abbrev pub invariant-loop-place : goal.invariant-loop-place
invariant-loop-place l = record {
  count : length l.lists.items ≡ l._place;
  empty : All (λ list. list.items ≡ []) l.lists.items;
}
