use Rattle.std.proofs.Common.{◌≡◌, take}
use Rattle.std.specs.List.{list_any}
use Rattle.duty_calendar.specs.Minutes.{count_between}
use Rattle.part117_limits.specs.Peaks.{has_counted}
use Rattle.line_items.proofs.windows.events_minutes.Given as goal

abbrev pub invariant-loop-event : goal.invariant-loop-event
invariant-loop-event l =
    l.total ≡ count_between (λ m. list_any (λ e. has_counted l.counted.minutes e m) (take l.event-index l.events)) l.counted.from l.counted.to
