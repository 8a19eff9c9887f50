use Rattle.std.proofs.Common.{◌≡◌, ◌++◌, ◌∷◌, drop, flat_map}
use Rattle.crew_files.specs.Texts.{flight_text}
use Rattle.crew_files.proofs.writing.put_later_flights.Given as goal

abbrev pub invariant-loop-flight : goal.invariant-loop-flight
invariant-loop-flight l = l.out ++ flat_map (λ g. 32 ∷ flight_text l.horizon g) (drop l.flight-index l.flights) ≡ l.fn.out ++ flat_map (λ g. 32 ∷ flight_text l.horizon g) l.flights
