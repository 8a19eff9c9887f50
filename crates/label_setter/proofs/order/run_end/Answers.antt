use Rattle.std.proofs.Common.{◌≡◌, ◌≢◌, ◌∙◌, ℕ, get_or, sym, subst, arith, length}
use Rattle.std.proofs.lemmas.Option.{slice_get-get_or}
use Rattle.label_setter.specs.Chains.{end_of}
use Rattle.label_setter.proofs.Ordering.{Runs, Runs-start, Runs-more, run_ended, run_over}
use Rattle.label_setter.proofs.order.run_end.Goals as goal

pub loop-end-init : goal.loop-end-init
loop-end-init g c = Runs-start c.args.arcs.now c.args.order.now c.requires.order c.args.next c.args.place c.requires.up_to

pub returns-then-end_of-place-clause-up_to : goal.returns-then-end_of-place-clause-up_to
returns-then-end_of-place-clause-up_to g c =
    let number : ℕ = get_or c.args.order.now c.loop-end.end 0 in
    let read = slice_get-get_or c.args.order.now c.loop-end.end 0 c.loop-end-test.true in
    let other : end_of c.args.arcs.now number ≢ c.args.place = λ e. c.if-end_of-place.true (c.end_of.ensures.end ∙ e) in
    (run_ended c.args.arcs.now c.args.order.now c.requires.order c.args.next c.args.place c.requires.up_to c.loop-end.end number read other c.loop-end.invariant).up

pub returns-then-end_of-place-clause-arriving : goal.returns-then-end_of-place-clause-arriving
returns-then-end_of-place-clause-arriving g c =
    let number : ℕ = get_or c.args.order.now c.loop-end.end 0 in
    let read = slice_get-get_or c.args.order.now c.loop-end.end 0 c.loop-end-test.true in
    let other : end_of c.args.arcs.now number ≢ c.args.place = λ e. c.if-end_of-place.true (c.end_of.ensures.end ∙ e) in
    (run_ended c.args.arcs.now c.args.order.now c.requires.order c.args.next c.args.place c.requires.up_to c.loop-end.end number read other c.loop-end.invariant).arriving

pub loop-end-preserved : goal.loop-end-preserved
loop-end-preserved g c =
    let number : ℕ = get_or c.args.order.now c.loop-end.end 0 in
    let read = slice_get-get_or c.args.order.now c.loop-end.end 0 c.loop-end-test.true in
    Runs-more c.args.arcs.now c.args.order.now c.requires.order c.args.next c.args.place c.requires.up_to c.loop-end.end number read (sym c.end_of.ensures.end ∙ c.if-end_of-place.false) c.loop-end.invariant

pub returns-clause-up_to : goal.returns-clause-up_to
returns-clause-up_to g c =
    let whole : c.loop-end.end ≡ length c.args.order.now = (let inside = c.loop-end.invariant.inside in omega arith) in
    (run_over c.args.arcs.now c.args.order.now c.requires.order c.args.next c.args.place c.requires.up_to (subst (λ n. Runs c.args.arcs.now c.args.order.now c.args.next n c.args.place) whole c.loop-end.invariant)).up

pub returns-clause-arriving : goal.returns-clause-arriving
returns-clause-arriving g c =
    let whole : c.loop-end.end ≡ length c.args.order.now = (let inside = c.loop-end.invariant.inside in omega arith) in
    (run_over c.args.arcs.now c.args.order.now c.requires.order c.args.next c.args.place c.requires.up_to (subst (λ n. Runs c.args.arcs.now c.args.order.now c.args.next n c.args.place) whole c.loop-end.invariant)).arriving
