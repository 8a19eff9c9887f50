use Rattle.std.proofs.Common.{sym, subst, ◌∙◌, ◌+◌, ℕ, take}
use Rattle.line_items.specs.BusyDays.{is_fixed_busy}
use Rattle.line_items.specs.DayMasks.{IsDayMask}
use Rattle.line_items.proofs.DayMaskSteps.{is_busy_by, none_busy, one_busy, none_more, all_busy}
use Rattle.line_items.proofs.days.fixed_days.Goals.{then-is_duty, else-is_duty}
use Rattle.line_items.proofs.days.fixed_days.Goals as goal

pub loop-event-init : goal.loop-event-init
loop-event-init c = none_busy _

pub loop-event-preserved : goal.loop-event-preserved
loop-event-preserved c =
    let events = c.fixed_of-event-items.result.now in
    elim c.if-is_duty.branch [
      | then-is_duty w ↦
          subst (IsDayMask c.days-days.result (is_busy_by (take (c.loop-event.event-index + 1) events))) (sym w.mask-is)
          (one_busy c.days-days.result events c.loop-event.event-index c.event-item.result _ c.loop-event.mask _ c.loop-event-test.true c.event-item.is
          (sym c.is_duty.ensures.duty ∙ w.if-is_duty.true) w.event_span.ensures.span c.loop-event.invariant w.touched_days-mask.ensures.touched)
      | else-is_duty w ↦
          subst (IsDayMask c.days-days.result (is_busy_by (take (c.loop-event.event-index + 1) events))) (sym w.mask-is)
          (none_more c.days-days.result events c.loop-event.event-index c.event-item.result c.loop-event.mask c.loop-event-test.true c.event-item.is
          (sym c.is_duty.ensures.duty ∙ w.if-is_duty.false) c.loop-event.invariant)
    ]

pub returns : goal.returns
returns c = record {
  busy = subst (λ (days : ℕ). IsDayMask days (is_fixed_busy c.args.problem.now c.args.member) c.loop-event.mask) c.days-days.ensures.value
      (all_busy c.args.problem.now c.args.member c.days-days.result c.loop-event.event-index c.fixed_of-event-items.result.now c.loop-event.mask
      c.fixed_of-event-items.ensures.events c.loop-event-test.false c.loop-event.invariant);
}
