use Rattle.std.proofs.Common.{refl, arith, ◌≡◌, ◌+◌, take}
use Rattle.std.specs.List.{list_any}
use Rattle.duty_calendar.specs.Minutes.{count_between}
use Rattle.duty_calendar.proofs.Counting.{count_between-le}
use Rattle.part117_limits.specs.Peaks.{has_counted}
use Rattle.part117_limits.proofs.Overlaps.{count_nothing, count_more}
use Rattle.roster_model.specs.Spans.{duty_event}
use Rattle.line_items.proofs.WindowSteps.{duties_apart}
use Rattle.line_items.proofs.windows.duties_minutes.Goals as goal

pub loop-duty-init : goal.loop-duty-init
loop-duty-init c = count_nothing _ c.args.counted.from c.args.counted.to c.requires.order (λ m. refl)

pub overflow_add-total : goal.overflow_add-total
overflow_add-total c =
    let more : c.loop-duty.total + c.duty_minutes-total.result ≡ count_between (λ m. list_any (λ d. has_counted c.args.counted.minutes (duty_event d) m) (take (c.loop-duty.duty-index + 1) c.args.duties.now)) c.args.counted.from c.args.counted.to =
    count_more (λ d. has_counted c.args.counted.minutes (duty_event d)) c.args.duties.now c.loop-duty.duty-index c.duty-item.result c.args.counted.from c.args.counted.to
    c.loop-duty.total c.duty_minutes-total.result c.requires.order c.loop-duty-test.true c.duty-item.is
    (duties_apart c.args.counted.minutes c.args.duties.now c.requires.forms c.requires.in_order) c.loop-duty.invariant c.duty_minutes-total.ensures.count in
    omega (arith, more, count_between-le (λ m. list_any (λ d. has_counted c.args.counted.minutes (duty_event d) m) (take (c.loop-duty.duty-index + 1) c.args.duties.now)) c.args.counted.from c.args.counted.to)

pub loop-duty-preserved : goal.loop-duty-preserved
loop-duty-preserved c =
    count_more (λ d. has_counted c.args.counted.minutes (duty_event d)) c.args.duties.now c.loop-duty.duty-index c.duty-item.result c.args.counted.from c.args.counted.to
    c.loop-duty.total c.duty_minutes-total.result c.requires.order c.loop-duty-test.true c.duty-item.is
    (duties_apart c.args.counted.minutes c.args.duties.now c.requires.forms c.requires.in_order) c.loop-duty.invariant c.duty_minutes-total.ensures.count
