use Rattle.std.proofs.Common.{◌≡◌, ◌+◌, ◌≤◌, ◌++◌, drop, length, map, vec_capacity}
use Rattle.roster_model.specs.Spans.{duty_event, event_span}
use Rattle.line_items.proofs.free.push_duties.Given as goal

abbrev pub invariant-loop-duty : goal.invariant-loop-duty
invariant-loop-duty l = record {
  more : l.times.items ++ map event_span (map duty_event (drop l.duty-index l.duties)) ≡ l.initial.times.items ++ map event_span (map duty_event l.duties);
  capacity : vec_capacity l.initial.times ≤ vec_capacity l.times;
  few : length l.times.items ≤ length l.initial.times.items + l.duty-index;
}
