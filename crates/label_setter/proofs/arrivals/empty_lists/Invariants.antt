use Rattle.std.proofs.Common.{◌≡◌, [], length}
use Rattle.std.specs.Prelude.{All}
use Rattle.label_setter.proofs.arrivals.empty_lists.Given as goal

abbrev pub invariant-loop-k : goal.invariant-loop-k
invariant-loop-k l = record {
  count : length l.lists.items ≡ l._k;
  empty : All (λ list. list.items ≡ []) l.lists.items;
}
