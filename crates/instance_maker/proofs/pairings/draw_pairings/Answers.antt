use Rattle.std.proofs.Common.{refl, ◌+◌}
use Rattle.instance_maker.specs.Months.{drawn_pairing}
use Rattle.instance_maker.proofs.InOrder.{in_order_none, in_order_more}
use Rattle.instance_maker.proofs.pairings.draw_pairings.Goals as goal

pub loop-number-init : goal.loop-number-init
loop-number-init c =
    in_order_none (drawn_pairing c.args.members) c.args.draws.now.state c.new-list.result c.new-list.ensures

pub loop-number-preserved : goal.loop-number-preserved
loop-number-preserved c =
    in_order_more (drawn_pairing c.args.members) c.loop-number.number (c.loop-number.number + 1) c.args.draws.now.state
    c.loop-number.list c.add.new.list c.in_ok-made.made c.loop-number.draws.state c.draw_pairing.new.draws.state refl
    c.loop-number.invariant c.in_ok-made.ensures.drawn c.in_ok-add.ensures.ok
