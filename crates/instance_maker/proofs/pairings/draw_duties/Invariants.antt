use Rattle.std.proofs.Common.{◌≡◌}
use Rattle.instance_maker.specs.Draws.{in_order}
use Rattle.instance_maker.specs.Months.{drawn_duty}
use Rattle.instance_maker.proofs.pairings.draw_duties.Given as goal

abbrev pub invariant-loop-number : goal.invariant-loop-number
invariant-loop-number l = in_order (drawn_duty l.trip) l.number l.fn.draws.state ≡ (l.list, l.draws.state)
