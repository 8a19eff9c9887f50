use Rattle.std.proofs.Common.{◌+◌, arith}
use Rattle.duty_calendar.specs.Calendar.{month_days}
use Rattle.roster_text.specs.MonthText.{day_line}
use Rattle.roster_text.proofs.Months.{ranged}
use Rattle.roster_text.proofs.month.put_days.Goals as goal

pub loop-day-preserved : goal.loop-day-preserved
loop-day-preserved c =
    ranged (day_line c.args.problem.now c.args.member c.args.line.now) c.loop-day.out c.put_day_line.new.out _ c.loop-day.day
    (365 + month_days c.args.problem.now.base.rules.horizon)
    (omega (arith, c.loop-day-test.true, c.days-day-end.ensures.value)) c.in_ok-put_day_line.ensures.whole c.loop-day.invariant
