use Rattle.std.proofs.Common.{◌≡◌, map, take}
use Rattle.next_month.specs.Carrying.{carried_flight}
use Rattle.next_month.proofs.carrying.carried_flights.Given as goal

abbrev pub invariant-loop-flight : goal.invariant-loop-flight
invariant-loop-flight l = l.made ≡ map (carried_flight l.lag) (take l.flight-index l.flights)
