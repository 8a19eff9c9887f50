use Rattle.duty_calendar.specs.Calendar.{day_zero, month_days}
use Rattle.next_month.proofs.Lags.{follows_yes, follows_no}
use Rattle.next_month.proofs.months.follows.Goals as goal

pub returns : goal.returns
returns c = record {
  answer = (
    follows_yes c.day_number.result c.day_number-2.result c.days.result (month_days c.args.this.now) (day_zero c.args.this.now) (day_zero c.args.next.now)
        c.day_number.ensures.value c.day_number-2.ensures.value c.days.ensures.value,
    follows_no c.day_number.result c.day_number-2.result c.days.result (month_days c.args.this.now) (day_zero c.args.this.now) (day_zero c.args.next.now)
        c.day_number.ensures.value c.day_number-2.ensures.value c.days.ensures.value,
  );
}
