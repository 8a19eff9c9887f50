use Rattle.std.proofs.Common.{◌≡◌, drop}
use Rattle.crew_files.specs.Events.{are_in_row}
use Rattle.crew_files.proofs.event_rows.are_in_row.Given as goal

abbrev pub invariant-loop-f : goal.invariant-loop-f
invariant-loop-f l = are_in_row l.free l.stop (drop l.f-index l.flights) ≡ are_in_row l.start l.stop l.flights
