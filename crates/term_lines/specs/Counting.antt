-- The order of the labels of a graph that counts.
use Rattle.std.specs.Prelude.{ℕ, ◌&&◌, Bool}
use Rattle.label_lattice.specs.Tally.{tally_below}
use Rattle.graph_climbs.specs.Parts.{PartsOf}
use Rattle.count_graphs.specs.CountLabels.{CountOf}

-- a label without what is still wanted
abbrev pub bare_label : {B : Type 0} → CountOf B → PartsOf B
bare_label a = record {
  first = a.first;
  second = record { first = a.second.first; second = a.second.second.second };
}

-- no more is wanted, and the rest spares the other
abbrev pub counting_spares : {B : Type 0} → (ℕ → PartsOf B → PartsOf B → Bool) → ℕ → CountOf B → CountOf B → Bool
counting_spares spares place a b =
    tally_below a.second.second.first b.second.second.first && spares place (bare_label a) (bare_label b)
