use Rattle.std.proofs.Common.{refl, arith, ◌≡◌, ◌+◌, take}
use Rattle.std.specs.List.{list_any}
use Rattle.duty_calendar.specs.Minutes.{is_between, count_between}
use Rattle.duty_calendar.proofs.Counting.{count_between-le}
use Rattle.part117_limits.proofs.Overlaps.{count_nothing}
use Rattle.line_items.proofs.WindowSteps.{flown_more}
use Rattle.line_items.proofs.windows.flown_minutes.Goals as goal

pub loop-flown-init : goal.loop-flown-init
loop-flown-init c = count_nothing _ c.args.counted.from c.args.counted.to c.requires.order (λ m. refl)

pub overflow_add-total : goal.overflow_add-total
overflow_add-total c =
    let more : c.loop-flown.total + c.stretch_minutes-total.result ≡ count_between (λ m. list_any (λ f. is_between f.out_at f.in_at m) (take (c.loop-flown.flown-index + 1) c.args.flights.now)) c.args.counted.from c.args.counted.to =
    flown_more _ _ _ _ _ _ _ c.requires.order c.requires.in_order c.loop-flown-test.true c.loop-flown.invariant c.stretch_minutes-total.ensures.count in
    omega (arith, more, count_between-le (λ m. list_any (λ f. is_between f.out_at f.in_at m) (take (c.loop-flown.flown-index + 1) c.args.flights.now)) c.args.counted.from c.args.counted.to)

pub loop-flown-preserved : goal.loop-flown-preserved
loop-flown-preserved c =
    flown_more _ _ _ _ _ _ _ c.requires.order c.requires.in_order c.loop-flown-test.true c.loop-flown.invariant c.stretch_minutes-total.ensures.count
