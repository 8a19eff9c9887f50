use Rattle.std.proofs.Common.{◌≡◌, drop}
use Rattle.line_items.proofs.NightLoops.{at_flight_of}
use Rattle.line_items.proofs.nights.marks_at.Given as goal

abbrev pub invariant-loop-event : goal.invariant-loop-event
invariant-loop-event l = at_flight_of (drop l.event-index l.events) l.left l.other ≡ at_flight_of l.events l.place l.other
