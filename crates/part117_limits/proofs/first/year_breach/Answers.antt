use Rattle.duty_calendar.specs.Calendar.{month_days}
use Rattle.duty_calendar.specs.Minutes.{is_flying_minute}
use Rattle.part117_limits.proofs.LightEvents.{light_years}
use Rattle.part117_limits.proofs.first.year_breach.Goals as goal

pub returns-then-window_minutes-limit : goal.returns-then-window_minutes-limit
returns-then-window_minutes-limit c = record {
  over = light_years (is_flying_minute c.args.events.now) c.args.limit (month_days c.args.horizon.now) c.window_minutes.result
      (rw c.days.ensures.value at c.window_minutes.ensures.count) c.if-window_minutes-limit.true;
}
