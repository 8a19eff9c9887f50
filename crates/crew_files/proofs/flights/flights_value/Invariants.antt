use Rattle.std.proofs.Common.{◌≡◌, ℕ, ◌+◌, ◌*◌, ◌/◌, drop, length}
use Rattle.crew_files.specs.Flights.{flights_value, joined, gathered}
use Rattle.crew_files.proofs.FlightSteps.{appended}
use Rattle.crew_files.proofs.flights.flights_value.Given as goal

abbrev pub invariant-loop-i : goal.invariant-loop-i
invariant-loop-i l = (k : ℕ) → k + l.i ≡ (length l.text + 1) / 36 → joined appended (gathered l.fault l.flights) (flights_value l.horizon k (drop (36 * l.i) l.text)) ≡ flights_value l.horizon ((length l.text + 1) / 36) l.text
