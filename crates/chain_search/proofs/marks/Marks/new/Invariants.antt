use Rattle.std.proofs.Common.{◌≡◌, [], length}
use Rattle.std.specs.Prelude.{All}
use Rattle.chain_search.proofs.marks.Marks.new.Given as goal

abbrev pub invariant-loop-place : goal.invariant-loop-place
invariant-loop-place g l = record {
  count : length l.rows.items ≡ l._place;
  bare : All (λ row. row.marks.items ≡ []) l.rows.items;
}
