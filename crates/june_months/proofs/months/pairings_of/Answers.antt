use Rattle.std.proofs.Common.{arith}
use Rattle.june_months.proofs.months.pairings_of.Goals as goal

pub loop-number-preserved : goal.loop-number-preserved
loop-number-preserved c =
    let count = c.loop-number.invariant.count in
    record {
      count = let more = c.in_ok-list.ensures.count in omega arith;
      form = c.in_ok-list.ensures.form;
    }
