use Rattle.std.proofs.Common.{◌+◌, ◌*◌, arith}
use Rattle.field_text.proofs.Days.{date-found}
use Rattle.field_text.proofs.time.day_value.Goals as goal

pub returns-in-Ok : goal.returns-in-Ok
returns-in-Ok c = record {
  value = date-found c.args.text.now (100 * c.two_digits.result + c.two_digits-2.result) c.two_digits-month.result c.two_digits-day.result c.in-Ok.date
      (omega arith) c.two_digits-month.ensures.value c.two_digits-day.ensures.value (omega arith) c.two_digits-month.ensures.bound c.two_digits-day.ensures.bound c.in-Ok.ensures.value;
}
