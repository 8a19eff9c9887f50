use Rattle.std.proofs.Common.{◌≡◌}
use Rattle.instance_maker.specs.Draws.{in_order}
use Rattle.instance_maker.specs.Months.{drawn_pairing}
use Rattle.instance_maker.proofs.pairings.draw_pairings.Given as goal

abbrev pub invariant-loop-number : goal.invariant-loop-number
invariant-loop-number l = in_order (drawn_pairing l.members) l.number l.fn.draws.state ≡ (l.list, l.draws.state)
