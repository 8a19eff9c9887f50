use Rattle.std.proofs.Common.{◌≡◌, drop}
use Rattle.crew_files.specs.Flights.{flights_fault}
use Rattle.crew_files.proofs.flights.flights_fault.Given as goal

abbrev pub invariant-loop-i : goal.invariant-loop-i
invariant-loop-i l = flights_fault l.i (drop l.i l.text) ≡ flights_fault 0 l.text
