use Rattle.std.proofs.Common.{refl, ◌+◌}
use Rattle.instance_maker.specs.Months.{drawn_bid}
use Rattle.instance_maker.proofs.InOrder.{in_order_none, in_order_more}
use Rattle.instance_maker.proofs.bids.draw_three.Goals as goal

pub loop-number-init : goal.loop-number-init
loop-number-init c =
    in_order_none (λ _. drawn_bid c.args.pairings) c.args.draws.now.state c.new-list.result c.new-list.ensures

pub loop-number-preserved : goal.loop-number-preserved
loop-number-preserved c =
    in_order_more (λ _. drawn_bid c.args.pairings) c.loop-number._number (c.loop-number._number + 1)
    c.args.draws.now.state c.loop-number.list c.add.new.list c.in_ok-made.made c.loop-number.draws.state
    c.draw_bid.new.draws.state refl c.loop-number.invariant c.in_ok-made.ensures.drawn c.in_ok-add.ensures.ok
