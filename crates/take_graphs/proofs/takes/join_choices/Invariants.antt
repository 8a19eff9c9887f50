use Rattle.std.proofs.Common.{◌*◌, ◌+◌, ◌<◌, ◌≤◌, length, vec_capacity}
use Rattle.std.specs.Prelude.{All}
use Rattle.label_setter.specs.Graphs.{FitsPlaces}
use Rattle.take_graphs.specs.Takes.{passes_by, takes_by, AreTakeArcsSo}
use Rattle.take_graphs.proofs.takes.join_choices.Given as goal

abbrev pub invariant-loop-from : goal.invariant-loop-from
invariant-loop-from g l =
    let m = g.M.Choices in
    record {
      so : AreTakeArcsSo (passes_by (m.may l.choices) (m.must l.choices)) (takes_by (m.may l.choices) (m.must l.choices) (m.near l.choices)) (m.gain l.choices) (m.step l.choices) (λ i. i < l.from) (λ i. i < l.from) l.arcs.items l.taken.items;
      fit : All (FitsPlaces l.places) l.arcs.items;
      few : length l.arcs.items + 1 ≤ 2 * l.from;
      arcs_kept : vec_capacity l.fn.arcs ≤ vec_capacity l.arcs;
      taken_kept : vec_capacity l.fn.taken ≤ vec_capacity l.taken;
    }
