use Rattle.std.proofs.Common.{◌+◌, ◌≤◌, length, vec_capacity}
use Rattle.label_setter.specs.Arenas.{rows_in}
use Rattle.label_setter.proofs.Trace.{IsOnWay}
use Rattle.label_setter.proofs.winner.fill_arcs.Given as goal

abbrev pub invariant-loop-label : goal.invariant-loop-label
invariant-loop-label g l = record {
  way : IsOnWay g.R.Resource.extend l.arcs (rows_in l.labels l.rows) l.initial.place l.initial.label l.place l.label l.numbers.items;
  few : length l.numbers.items + l.place ≤ l.initial.place;
  capacity : vec_capacity l.fn.numbers ≤ vec_capacity l.numbers;
}

abbrev pub decreases-loop-label : goal.decreases-loop-label
decreases-loop-label g l = l.place
