use Rattle.std.proofs.Common.{◌≡◌}
use Rattle.instance_maker.specs.Months.{drawn_bids}
use Rattle.instance_maker.proofs.bids.draw_bids.Given as goal

abbrev pub invariant-loop-member : goal.invariant-loop-member
invariant-loop-member l = drawn_bids l._member l.pairings l.fn.draws.state ≡ (l.lists, l.draws.state)
