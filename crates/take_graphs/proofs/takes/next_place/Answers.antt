use Rattle.std.proofs.Common.{rules, arith}
use Rattle.take_graphs.proofs.TakeJoining.{leads_here, leads_cut}
use Rattle.take_graphs.proofs.takes.next_place.Goals as goal

pub returns-then-may-clause-leads : goal.returns-then-may-clause-leads
returns-then-may-clause-leads g c =
    let m = g.M.Choices in
    let r = c.args.choices.now in
    leads_here (m.may r) (m.must r) c.args.from c.loop-to.to (omega arith) (search rules) c.loop-to.invariant.none

pub returns-then-must-clause-none : goal.returns-then-must-clause-none
returns-then-must-clause-none g c = λ j lt.
    let m = g.M.Choices in
    let r = c.args.choices.now in
    leads_cut (m.may r) (m.must r) c.args.from c.loop-to.to (omega arith) (search rules) (search rules) c.loop-to.invariant.none j
