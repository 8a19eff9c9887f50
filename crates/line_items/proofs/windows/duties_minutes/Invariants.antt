use Rattle.std.proofs.Common.{◌≡◌, take}
use Rattle.std.specs.List.{list_any}
use Rattle.duty_calendar.specs.Minutes.{count_between}
use Rattle.part117_limits.specs.Peaks.{has_counted}
use Rattle.roster_model.specs.Spans.{duty_event}
use Rattle.line_items.proofs.windows.duties_minutes.Given as goal

abbrev pub invariant-loop-duty : goal.invariant-loop-duty
invariant-loop-duty l =
    l.total ≡ count_between (λ m. list_any (λ d. has_counted l.counted.minutes (duty_event d) m) (take l.duty-index l.duties)) l.counted.from l.counted.to
