use Rattle.std.proofs.Common.{refl, ◌+◌}
use Rattle.instance_maker.specs.Draws.{in_order}
use Rattle.instance_maker.specs.Months.{drawn_bid}
use Rattle.instance_maker.proofs.InOrder.{in_order_none, in_order_more}
use Rattle.instance_maker.proofs.bids.draw_bids.Goals as goal

pub loop-member-init : goal.loop-member-init
loop-member-init c =
    in_order_none (λ _. in_order (λ _. drawn_bid c.args.pairings) 3) c.args.draws.now.state c.new-lists.result
    c.new-lists.ensures

pub loop-member-preserved : goal.loop-member-preserved
loop-member-preserved c =
    in_order_more (λ _. in_order (λ _. drawn_bid c.args.pairings) 3) c.loop-member._member (c.loop-member._member + 1)
    c.args.draws.now.state c.loop-member.lists c.add.new.list c.in_ok-made.made c.loop-member.draws.state
    c.draw_three.new.draws.state refl c.loop-member.invariant c.in_ok-made.ensures.drawn c.in_ok-add.ensures.ok
