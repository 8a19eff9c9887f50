use Rattle.std.proofs.Common.{◌≡◌, ◌≤◌, length, map, take, vec_capacity}
use Rattle.std.specs.Prelude.{slice_index_or}
use Rattle.take_graphs.proofs.take_lines.fill_arc_adds.Given as goal

abbrev pub invariant-loop-place : goal.invariant-loop-place
invariant-loop-place l = record {
  adds : l.out.items ≡ map (λ t. slice_index_or l.adds t l.count) (take l.place-index l.taken);
  long : length l.out.items ≡ l.place-index;
  capacity : vec_capacity l.fn.out ≤ vec_capacity l.out;
}
