use Rattle.std.proofs.Common.{◌≡◌, ◌&&◌, true, false, rules, arith}
use Rattle.take_graphs.proofs.TakeJoining.{leads_here, leads_cut}
use Rattle.take_graphs.proofs.takes.next_open.Goals as goal

pub returns-then-is_open-clause-leads : goal.returns-then-is_open-clause-leads
returns-then-is_open-clause-leads g c =
    let m = g.M.Choices in
    let r = c.args.choices.now in
    let open_way : (m.may r c.loop-to.to && m.near r c.args.from c.loop-to.to) ≡ true = search rules in
    leads_here (λ k. m.may r k && m.near r c.args.from k) (m.must r) c.args.from c.loop-to.to (omega arith) open_way c.loop-to.invariant.none

pub returns-then-must-clause-none : goal.returns-then-must-clause-none
returns-then-must-clause-none g c = λ j lt.
    let m = g.M.Choices in
    let r = c.args.choices.now in
    let shut : (m.may r c.loop-to.to && m.near r c.args.from c.loop-to.to) ≡ false = search rules in
    leads_cut (λ k. m.may r k && m.near r c.args.from k) (m.must r) c.args.from c.loop-to.to (omega arith) (search rules) shut c.loop-to.invariant.none j
