-- What chains may still gain, by when the last free block began.
use Rattle.std.specs.Prelude.{ℕ, ℤ, List, get_or}
use Rattle.label_lattice.specs.declared.pairs.Pair.{Pair}
use Rattle.label_lattice.specs.declared.pauses.Pause.{Pause}
use Rattle.label_lattice.specs.declared.pauses.PauseStep.{PauseStep}
use Rattle.label_setter.specs.declared.graph.Arc.{Arc}
use Rattle.chain_search.specs.declared.clocks.ClockStep.{ClockStep}
use Rattle.chain_search.specs.declared.free.FreeRest.{FreeRest}
use Rattle.chain_search.specs.Clocks.{clock_at}
use Rattle.chain_search.specs.Hours.{hours_count, hours_shows}
use Rattle.chain_search.specs.Tables.{rested}

-- the arc as it is seen with the times of its places and the free block alone
abbrev pub free_arc : {S : Type 0} → List ℕ → Arc S → PauseStep → Arc (ClockStep × PauseStep)
free_arc times arc pause = record {
  from = arc.from;
  to = arc.to;
  gain = arc.gain;
  step = (record { from = get_or times arc.from 0; to = get_or times arc.to 0 }, pause);
}

abbrev pub free_rested : {A M B : Type 0} → (B → Pause) → FreeRest → ℕ → Pair A (Pair M B) → ℤ
free_rested pause rest place a =
    rested hours_count hours_shows rest.table place (record { first = clock_at (get_or rest.times.items place 0); second = pause a.second.second })
