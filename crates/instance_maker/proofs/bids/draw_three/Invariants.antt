use Rattle.std.proofs.Common.{◌≡◌}
use Rattle.instance_maker.specs.Draws.{in_order}
use Rattle.instance_maker.specs.Months.{drawn_bid}
use Rattle.instance_maker.proofs.bids.draw_three.Given as goal

abbrev pub invariant-loop-number : goal.invariant-loop-number
invariant-loop-number l = in_order (λ _. drawn_bid l.pairings) l._number l.fn.draws.state ≡ (l.list, l.draws.state)
