-- The labels of a graph that counts: credit, bids, what is still wanted, and whatever else a label holds.
use Rattle.std.specs.Prelude.{ℕ, Bool, List, Option}
use Rattle.label_lattice.specs.Pair.{pair_done, pair_extend}
use Rattle.label_lattice.specs.Tally.{tally_done, tally_extend}
use Rattle.label_lattice.specs.declared.pairs.Pair.{Pair}
use Rattle.label_lattice.specs.declared.tallies.Tally.{Tally}
use Rattle.label_lattice.specs.declared.tallies.TallyStep.{TallyStep}
use Rattle.graph_climbs.specs.Parts.{PartsEndOf, PartsOf, PartsStepOf, parts_done, parts_extend}

abbrev pub CountOf : Type 0 → Type 0
CountOf B = PartsOf (Pair (Tally 8) B)

abbrev pub CountStepOf : Type 0 → Type 0
CountStepOf S = PartsStepOf (TallyStep 8 × S)

abbrev pub CountEndOf : Type 0 → Type 0
CountEndOf E = PartsEndOf (Unit {0} × E)

abbrev pub count_extend : {B S : Type 0} → (B → S → Option B) → CountOf B → CountStepOf S → Option (CountOf B)
count_extend extend = parts_extend (pair_extend tally_extend extend)

abbrev pub count_done : {B E : Type 0} → (B → E → Bool) → CountOf B → CountEndOf E → Bool
count_done done = parts_done (pair_done tally_done done)

-- a label with what is still wanted
abbrev pub counted_label : {B : Type 0} → List ℕ → PartsOf B → CountOf B
counted_label wanted label = record {
  first = label.first;
  second = record {
    first = label.second.first;
    second = record { first = record { wanted = wanted }; second = label.second.second };
  };
}
