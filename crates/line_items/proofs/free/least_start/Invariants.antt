use Rattle.std.proofs.Common.{◌≡◌, List, drop, map, max}
use Rattle.duty_calendar.specs.declared.event.Event.{Event}
use Rattle.roster_model.specs.Spans.{duty_event}
use Rattle.line_items.specs.DutyTimes.{AreTimes}
use Rattle.line_items.specs.FreeBlocks.{least_start}
use Rattle.line_items.proofs.free.least_start.Given as goal

abbrev pub invariant-loop-duty : goal.invariant-loop-duty
invariant-loop-duty l =
    (events : List Event) → AreTimes events l.first l.times
    → max l.least (least_start events l.first (map duty_event (drop l.duty-index l.duties))) ≡ least_start events l.first (map duty_event l.duties)
