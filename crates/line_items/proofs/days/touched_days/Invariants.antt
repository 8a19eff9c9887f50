use Rattle.duty_calendar.specs.Minutes.{is_touching}
use Rattle.line_items.specs.DayMasks.{IsDayMask}
use Rattle.line_items.proofs.days.touched_days.Given as goal

abbrev pub invariant-loop-place : goal.invariant-loop-place
invariant-loop-place l = IsDayMask l.place (is_touching l.span) l.mask
