use Rattle.std.proofs.Common.{arith, sym, subst, ◌∙◌, ◌+◌}
use Rattle.duty_calendar.specs.Minutes.{is_touching}
use Rattle.line_items.specs.DayMasks.{IsDayMask}
use Rattle.line_items.proofs.DayMaskSteps.{no_days, day_in, day_out}
use Rattle.line_items.proofs.days.touched_days.Goals.{then-is_touching, else-is_touching}
use Rattle.line_items.proofs.days.touched_days.Goals as goal

pub loop-place-init : goal.loop-place-init
loop-place-init c = no_days _

pub loop-place-preserved : goal.loop-place-preserved
loop-place-preserved c =
    elim c.if-is_touching.branch [
      | then-is_touching w ↦
          subst (IsDayMask (c.loop-place.place + 1) (is_touching c.args.span)) (sym w.mask-is)
          (day_in c.loop-place.place (is_touching c.args.span) c.loop-place.mask (omega arith) c.loop-place.invariant (sym c.is_touching.ensures.touching ∙ w.if-is_touching.true))
      | else-is_touching w ↦
          subst (IsDayMask (c.loop-place.place + 1) (is_touching c.args.span)) (sym w.mask-is)
          (day_out c.loop-place.place (is_touching c.args.span) c.loop-place.mask c.loop-place.invariant (sym c.is_touching.ensures.touching ∙ w.if-is_touching.false))
    ]
