use Rattle.june_months.proofs.Held.{bids_of_one}
use Rattle.line_tests.proofs.whole_lines.month_of.Goals as goal

pub month-requires-clause-each_bid : goal.month-requires-clause-each_bid
month-requires-clause-each_bid c = λ h long. bids_of_one h _ c.args.bids c.in_ok-lists.lists c.in_ok-lists.ensures.only (c.requires.bids h _)
