use Rattle.std.proofs.Common.{◌≡◌, ◌+◌, ◌≤◌, ◌++◌, length, map, take, filter, vec_capacity}
use Rattle.duty_calendar.specs.Minutes.{is_flight}
use Rattle.roster_model.specs.Spans.{event_span}
use Rattle.line_items.proofs.items.push_flights.Given as goal

abbrev pub invariant-loop-event : goal.invariant-loop-event
invariant-loop-event l = record {
  more : l.out.items ≡ l.initial.out.items ++ map event_span (filter (λ e. is_flight e.kind) (take l.event-index l.events));
  capacity : vec_capacity l.initial.out ≤ vec_capacity l.out;
  few : length l.out.items ≤ length l.initial.out.items + l.event-index;
}
