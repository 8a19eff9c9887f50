use Rattle.std.proofs.Common.{◌≡◌, ◌++◌, map, drop}
use Rattle.label_setter.specs.Chains.{end_of, places_of}
use Rattle.label_setter.proofs.winner.places_along.Given as goal

abbrev pub invariant-loop-number : goal.invariant-loop-number
invariant-loop-number g l = l.places.items ++ map (end_of l.arcs) (drop l.number-index l.numbers) ≡ places_of l.arcs l.numbers
