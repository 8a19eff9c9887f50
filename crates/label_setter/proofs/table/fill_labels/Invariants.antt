use Rattle.std.proofs.Common.{◌≡◌, ◌≤◌, ◌+◌, ◌*◌, ℕ, Option, length, vec_capacity}
use Rattle.std.specs.Prelude.{All}
use Rattle.label_setter.specs.Chains.{FewApart}
use Rattle.label_setter.specs.Labels.{GraphLabels}
use Rattle.label_setter.specs.Arenas.{IsRow, rows_in}
use Rattle.label_setter.specs.Orders.{IsArcOrder, IsUpTo}
use Rattle.label_setter.specs.Spots.{Serves}
use Rattle.label_setter.proofs.Crowds.{standing}
use Rattle.label_setter.proofs.RoomLemmas.{IsBounded, IsLeft}
use Rattle.label_setter.proofs.table.fill_labels.Given as goal

abbrev pub invariant-loop-place : goal.invariant-loop-place
invariant-loop-place g l = record {
  labels : GraphLabels g.R.Lattice.below g.R.Resource.extend (g.P.Sieve.passes l.sieve) l.fn.start l.arcs (rows_in l.desk.labels.items l.desk.rows.items);
  count : length l.desk.rows.items ≡ l.place;
  rows : All (IsRow (length l.desk.labels.items)) l.desk.rows.items;
  left : IsLeft l.fn.room l.left (length (standing 0 (rows_in l.desk.labels.items l.desk.rows.items)));
  bounded : IsBounded l.fn.room l.left (length l.desk.labels.items);
  some : 1 ≤ l.desk.spot.most;
  order : IsArcOrder l.arcs l.desk.order.items;
  up_to : IsUpTo l.arcs l.desk.order.items l.next l.place;
  steps : (most : ℕ) → FewApart g.R.Lattice.below g.R.Resource.extend l.fn.start l.arcs most → l.steps ≤ l.initial.steps + most * l.next;
  serves : (any : Option ℕ) → Serves any l.fn.desk.spot → Serves any l.desk.spot;
  labels_kept : vec_capacity l.fn.desk.labels ≤ vec_capacity l.desk.labels;
  rows_kept : vec_capacity l.fn.desk.rows ≤ vec_capacity l.desk.rows;
  order_kept : vec_capacity l.fn.desk.order ≤ vec_capacity l.desk.order;
}
