use Rattle.std.proofs.Common.{◌≡◌, ◌++◌, ◌+◌, ◌-◌}
use Rattle.std.specs.List.{flat_map, range_with_len}
use Rattle.duty_calendar.specs.Calendar.{month_days}
use Rattle.roster_text.specs.MonthText.{day_line, days_text}
use Rattle.roster_text.proofs.month.put_days.Given as goal

abbrev pub invariant-loop-day : goal.invariant-loop-day
invariant-loop-day l =
    l.out ++ flat_map (day_line l.problem l.member l.line) (range_with_len l.day (365 + month_days l.problem.base.rules.horizon - l.day))
    ≡ l.fn.out ++ days_text l.problem l.member l.line
