-- Chains by their arcs and by their places.
use Rattle.std.specs.Prelude.{List}
use Rattle.label_setter.specs.declared.graph.Arc.{Arc}
use Rattle.label_setter.specs.declared.setter.Priced.{Priced}
use Rattle.label_setter.specs.declared.traces.Traced.{Traced}
use Rattle.label_setter.specs.Chains.{places_of}

-- the same gain, with the places of the arcs
abbrev pub priced_by : {S : Type 0} → List (Arc S) → Traced → Priced
priced_by arcs traced = record { gain = traced.gain; chain = places_of arcs traced.arcs }
