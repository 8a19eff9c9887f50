use Rattle.june_months.proofs.Held.{bids_of_two}
use Rattle.closer_tests.proofs.closers.halved.Goals as goal

pub month-requires-clause-each_bid : goal.month-requires-clause-each_bid
month-requires-clause-each_bid c = λ h long.
    bids_of_two h _ c.in_ok-senior.senior c.in_ok-junior.junior c.in_ok-bids.bids c.in_ok-bids.ensures.both
    c.in_ok-trips.ensures.count (c.in_ok-senior.ensures.form h long) (c.in_ok-junior.ensures.form h long)
