use Rattle.std.proofs.Common.{take}
use Rattle.line_items.specs.DayMasks.{IsDayMask}
use Rattle.line_items.proofs.DayMaskSteps.{is_busy_by}
use Rattle.line_items.proofs.days.fixed_days.Given as goal

abbrev pub invariant-loop-event : goal.invariant-loop-event
invariant-loop-event l = IsDayMask l.days (is_busy_by (take l.event-index l.event-items)) l.mask
