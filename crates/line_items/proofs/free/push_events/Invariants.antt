use Rattle.std.proofs.Common.{◌≡◌, ◌+◌, ◌≤◌, ◌++◌, drop, length, vec_capacity}
use Rattle.line_items.specs.DutyTimes.{duty_spans}
use Rattle.line_items.proofs.free.push_events.Given as goal

abbrev pub invariant-loop-event : goal.invariant-loop-event
invariant-loop-event l = record {
  more : l.times.items ++ duty_spans l.from (drop l.event-index l.events) ≡ l.initial.times.items ++ duty_spans l.from l.events;
  capacity : vec_capacity l.initial.times ≤ vec_capacity l.times;
  few : length l.times.items ≤ length l.initial.times.items + l.event-index;
}
