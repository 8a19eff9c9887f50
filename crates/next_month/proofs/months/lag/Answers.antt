use Rattle.std.proofs.Common.{◌≤◌, arith}
use Rattle.duty_calendar.specs.Calendar.{day_zero, month_days}
use Rattle.jiff_core.proofs.CalendarLemmas.{days_in_month_bounds}
use Rattle.next_month.proofs.Lags.{lagged}
use Rattle.next_month.proofs.months.lag.Goals as goal

pub returns-clause-moments : goal.returns-clause-moments
returns-clause-moments c =
    lagged c.days.result (month_days c.args.this.now) c.lead.result c.lead-2.result (day_zero c.args.this.now) (day_zero c.args.next.now) c.args.this.now.offset c.args.next.now.offset
    c.days.ensures.value c.lead.ensures.value c.lead-2.ensures.value c.lead-2.ensures.bound c.days.ensures.bound.0 c.requires.follows

pub returns-clause-ends : goal.returns-clause-ends
returns-clause-ends c =
    let days : 28 ≤ month_days c.args.next.now = (days_in_month_bounds c.args.next.now.year c.args.next.now.month).1 in
    omega (arith, days, c.days.ensures.value, c.lead-2.ensures.bound, c.days.ensures.bound.0)
