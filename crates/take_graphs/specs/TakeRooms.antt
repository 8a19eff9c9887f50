-- Memory that suffices for the graphs of takes of any member of a problem of so many pairings.
use Rattle.std.specs.Prelude.{◌≤◌, ◌+◌, ◌*◌, ℕ, List, vec_capacity}
use Rattle.label_setter.specs.declared.graph.Arc.{Arc}
use Rattle.line_lens.specs.ChartRooms.{HasChartRoom}
use Rattle.take_graphs.specs.TakeLabels.{TakeStepOf}
use Rattle.take_graphs.specs.declared.take_lines.TakeParts.{TakeParts}

pub record HasTakeRoom {N : ℕ} (pairings : ℕ) (parts : TakeParts N) : Type 0 where
  pub chart : HasChartRoom pairings parts.desk
  pub arcs : 2 * (pairings + 62) ≤ vec_capacity parts.arcs
  pub taken : 2 * (pairings + 62) ≤ vec_capacity parts.taken
  pub places : pairings + 62 ≤ vec_capacity parts.places
  pub adds : 2 * (pairings + 62) ≤ vec_capacity parts.adds

-- a desk for graphs of takes, as contracts see it: for how many pairings it has memory, and the arcs of the last graph
-- with what each of them adds
pub record TakeDeskOf (N : ℕ) : Type 0 where
  pub pairings : ℕ
  pub arcs : List (Arc (TakeStepOf N))
  pub adds : List ℕ
