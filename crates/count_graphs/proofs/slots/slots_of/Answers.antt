use Rattle.std.proofs.Common.{◌<◌, ◌+◌, rules, refl, sym, ◌∙◌, arith}
use Rattle.lens_classes.specs.TermLines.{is_counted}
use Rattle.count_graphs.proofs.CountLoops.{filled_skip, filled_slots, filled_take, next_within, none_filled}
use Rattle.count_graphs.proofs.slots.slots_of.Goals as goal
use Rattle.count_graphs.proofs.slots.slots_of.Goals.{then-is_set, else-is_set}

pub loop-bid-init : goal.loop-bid-init
loop-bid-init c = none_filled (is_counted c.args.terms.now)

pub offset_bounds-slots-next : goal.offset_bounds-slots-next
offset_bounds-slots-next c =
    let less : c.loop-bid.next < 8 = next_within (is_counted c.args.terms.now) c.loop-bid.bid c.loop-bid.next c.loop-bid-test.true (sym c.is_set.ensures.set ∙ c.if-is_set.true) c.loop-bid.invariant.count c.requires.few in
    omega (arith, less)

pub bounds-slots-next : goal.bounds-slots-next
bounds-slots-next c =
    next_within (is_counted c.args.terms.now) c.loop-bid.bid c.loop-bid.next c.loop-bid-test.true (sym c.is_set.ensures.set ∙ c.if-is_set.true) c.loop-bid.invariant.count c.requires.few

pub overflow_add-next : goal.overflow_add-next
overflow_add-next c =
    let less : c.loop-bid.next < 8 = next_within (is_counted c.args.terms.now) c.loop-bid.bid c.loop-bid.next c.loop-bid-test.true (sym c.is_set.ensures.set ∙ c.if-is_set.true) c.loop-bid.invariant.count c.requires.few in
    omega (arith, less)

pub loop-bid-preserved : goal.loop-bid-preserved
loop-bid-preserved c =
    elim c.if-is_set.branch [
      | then-is_set w ↦
          let here = sym c.is_set.ensures.set ∙ w.if-is_set.true in
          filled_take (is_counted c.args.terms.now) c.loop-bid.bid (c.loop-bid.bid + 1) c.loop-bid.next c.if-is_set.next c.loop-bid.slots c.if-is_set.slots refl w.next-is here
          (next_within (is_counted c.args.terms.now) c.loop-bid.bid c.loop-bid.next c.loop-bid-test.true here c.loop-bid.invariant.count c.requires.few) w.slots-is c.loop-bid.invariant
      | else-is_set w ↦
          filled_skip (is_counted c.args.terms.now) c.loop-bid.bid (c.loop-bid.bid + 1) c.loop-bid.next c.if-is_set.next c.loop-bid.slots c.if-is_set.slots refl w.next-is
          (sym c.is_set.ensures.set ∙ w.if-is_set.false) w.slots-is c.loop-bid.invariant
    ]

pub returns : goal.returns
returns c = record {
  slots = filled_slots c.args.terms.now c.loop-bid.bid c.loop-bid.next c.loop-bid.slots (search rules) (let past = c.loop-bid-test.false in omega (arith, past)) c.loop-bid.invariant;
}
