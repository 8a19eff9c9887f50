-- How much memory graphs of takes want, and what keeps it.
use Rattle.std.proofs.Common.{ℕ, ◌≤◌, arith, vec_capacity}
use Rattle.line_lens.specs.ChartRooms.{HasChartRoom}
use Rattle.take_graphs.specs.TakeRooms.{HasTakeRoom}
use Rattle.take_graphs.specs.declared.take_lines.TakeParts.{TakeParts}

pub take_room : {N : ℕ} (pairings : ℕ) (old new : TakeParts N) → HasChartRoom pairings new.desk → vec_capacity old.arcs ≤ vec_capacity new.arcs → vec_capacity old.taken ≤ vec_capacity new.taken → vec_capacity old.places ≤ vec_capacity new.places → vec_capacity old.adds ≤ vec_capacity new.adds
    → HasTakeRoom pairings old → HasTakeRoom pairings new
take_room pairings old new chart arcs taken places adds room = record {
  chart = chart;
  arcs = let r = room.arcs in omega arith;
  taken = let r = room.taken in omega arith;
  places = let r = room.places in omega arith;
  adds = let r = room.adds in omega arith;
}
