-- What holds of each graph.
use Rattle.std.specs.Prelude.{ℕ, ◌<◌, ◌≤◌, ◌^◌, pos, ◌≤ℤ◌, neg_ℤ, List, length, All}
use Rattle.label_setter.specs.declared.graph.Arc.{Arc}

-- the arc leads to a later place of the graph, and its gain is small
pub record FitsPlaces {S : Type 0} (places : ℕ) (arc : Arc S) : Type 0 where
  pub forward : arc.from < arc.to
  pub within : arc.to < places
  pub gain_low : neg_ℤ (pos (2 ^ 40)) ≤ℤ arc.gain
  pub gain_high : arc.gain ≤ℤ pos (2 ^ 40)

pub record IsGraph {S : Type 0} (places : ℕ) (arcs : List (Arc S)) : Type 0 where
  pub two : 2 ≤ places
  pub most : places ≤ 2000
  pub arcs_fit : All (FitsPlaces places) arcs
  pub few : length arcs < 2 ^ 32
