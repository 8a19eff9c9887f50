use Rattle.std.proofs.Common.{ap, arith, length, refl}
use Rattle.take_graphs.proofs.TakeJoining.{all_joined}
use Rattle.take_graphs.proofs.takes.join_choices.Goals as goal

pub returns-clause-arcs : goal.returns-clause-arcs
returns-clause-arcs g c =
    let m = g.M.Choices in
    let r = c.args.choices.now in
    all_joined (m.may r) (m.must r) (m.near r) (m.gain r) (m.step r) c.args.places c.loop-from.from c.loop-from.arcs.items c.loop-from.taken.items
    (λ j h. let i = c.requires.inside j h in let e = c.requires.places in omega arith) c.loop-from-test.false c.loop-from.invariant.so

pub returns-in_err-pass_over-clause-calm : goal.returns-in_err-pass_over-clause-calm
returns-in_err-pass_over-clause-calm g c = λ arcs taken fails.
    let none = ap length c.clear.ensures.items in
    let two = c.requires.two.0 in
    c.pass_over.ensures.calm (omega (arith, none, two, arcs)) (omega (arith, none, two, taken)) (rw c.in_err-pass_over.was refl)

pub returns-in_err-pass_over-2-clause-calm : goal.returns-in_err-pass_over-2-clause-calm
returns-in_err-pass_over-2-clause-calm g c = λ arcs taken fails.
    let few = c.loop-from.invariant.few in
    let more = c.loop-from.invariant.arcs_kept in
    let wider = c.loop-from.invariant.taken_kept in
    let test = c.loop-from-test.true in
    c.pass_over-in-loop-from.ensures.calm (omega (arith, few, more, test, arcs)) (omega (arith, few, wider, test, taken)) (rw c.in_err-pass_over-2.was refl)

pub returns-in_err-take_item-clause-calm : goal.returns-in_err-take_item-clause-calm
returns-in_err-take_item-clause-calm g c = λ arcs taken fails.
    let few = c.loop-from.invariant.few in
    let grown = c.in_ok-pass_over-2.ensures.more in
    let more = c.loop-from.invariant.arcs_kept in
    let wider = c.loop-from.invariant.taken_kept in
    let also = c.pass_over-in-loop-from.ensures.arcs_kept in
    let too = c.pass_over-in-loop-from.ensures.taken_kept in
    let test = c.loop-from-test.true in
    c.take_item.ensures.calm (omega (arith, few, grown, more, also, test, arcs)) (omega (arith, few, grown, wider, too, test, taken)) (rw c.in_err-take_item.was refl)
