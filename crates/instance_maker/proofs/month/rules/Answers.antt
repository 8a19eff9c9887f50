use Rattle.std.proofs.Common.{refl}
use Rattle.instance_maker.proofs.month.rules.Goals as goal

pub returns : goal.returns
returns c = record {
  value = record {
    base = c.home.ensures.value;
    seat = c.in-Some.ensures.value;
    year = c.june.ensures.year;
    month = c.june.ensures.month;
    offset = c.june.ensures.offset;
    days_off = refl;
  };
}
