use Rattle.std.proofs.Common.{◌≡◌, ◌++◌, drop, flat_map}
use Rattle.crew_files.specs.Texts.{event_fields}
use Rattle.field_text.specs.Rows.{line}
use Rattle.crew_files.proofs.writing.put_events.Given as goal

abbrev pub invariant-loop-event : goal.invariant-loop-event
invariant-loop-event l = l.out ++ flat_map (λ e. line (event_fields l.horizon l.name e)) (drop l.event-index l.events) ≡ l.fn.out ++ flat_map (λ e. line (event_fields l.horizon l.name e)) l.events
