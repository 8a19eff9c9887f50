use Rattle.std.proofs.Common.{refl, arith, ◌≡◌, ◌+◌, take}
use Rattle.std.specs.List.{list_any}
use Rattle.duty_calendar.specs.Minutes.{is_between, count_between}
use Rattle.duty_calendar.proofs.Counting.{count_between-le}
use Rattle.part117_limits.proofs.Overlaps.{count_nothing}
use Rattle.line_items.proofs.WindowSteps.{leg_more}
use Rattle.line_items.proofs.windows.leg_minutes.Goals as goal

pub loop-leg-init : goal.loop-leg-init
loop-leg-init c = count_nothing _ c.args.counted.from c.args.counted.to c.requires.order (λ m. refl)

pub overflow_add-total : goal.overflow_add-total
overflow_add-total c =
    let more : c.loop-leg.total + c.stretch_minutes-total.result ≡ count_between (λ m. list_any (λ x. is_between x.flown.out_at x.flown.in_at m) (take (c.loop-leg.leg-index + 1) c.args.legs.now)) c.args.counted.from c.args.counted.to =
    leg_more _ _ _ _ _ _ _ c.requires.order c.requires.in_order c.loop-leg-test.true c.leg-item.is c.loop-leg.invariant c.stretch_minutes-total.ensures.count in
    omega (arith, more, count_between-le (λ m. list_any (λ x. is_between x.flown.out_at x.flown.in_at m) (take (c.loop-leg.leg-index + 1) c.args.legs.now)) c.args.counted.from c.args.counted.to)

pub loop-leg-preserved : goal.loop-leg-preserved
loop-leg-preserved c =
    leg_more _ _ _ _ _ _ _ c.requires.order c.requires.in_order c.loop-leg-test.true c.leg-item.is c.loop-leg.invariant c.stretch_minutes-total.ensures.count
