use Rattle.std.proofs.Common.{◌≡◌, ◌-◌, ◌-ℤ◌, pos, ap, ◌∙◌, arith}
use Rattle.jiff_core.proofs.SignedLemmas.{signed_arith}
use Rattle.jiff.specs.Words.{epoch_day}
use Rattle.duty_calendar.specs.Calendar.{day_zero, month_days}
use Rattle.bid_language.proofs.MonthDays.{one_of_same}
use Rattle.bid_language.proofs.days.in_month.Goals as goal

pub returns : goal.returns
returns c =
    let from_zero : epoch_day c.args.date -ℤ day_zero c.args.horizon.now ≡ pos (c.days_since_min-days.result - c.days_since_min-zero.result) =
    omega (arith, signed_arith, ap epoch_day c.to_plain.ensures, ap epoch_day c.to_plain-2.ensures, c.days_since_min-zero.ensures.value, c.days_since_min-days.ensures.value, c.date_of.ensures.value) in
    record { value = c.one_of.ensures.value ∙ one_of_same c.days.result (month_days c.args.horizon.now) (c.days_since_min-days.result - c.days_since_min-zero.result) (epoch_day c.args.date -ℤ day_zero c.args.horizon.now) c.days.ensures.value from_zero }
