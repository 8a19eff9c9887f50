use Rattle.std.proofs.Common.{refl, arith, ◌≡◌, ◌+◌, take}
use Rattle.std.specs.List.{list_any}
use Rattle.duty_calendar.specs.Minutes.{count_between}
use Rattle.duty_calendar.proofs.Counting.{count_between-le}
use Rattle.part117_limits.specs.Peaks.{has_counted}
use Rattle.part117_limits.proofs.Overlaps.{count_nothing, count_more, counted_apart}
use Rattle.line_items.proofs.windows.events_minutes.Goals as goal

pub loop-event-init : goal.loop-event-init
loop-event-init c = count_nothing _ c.args.counted.from c.args.counted.to c.requires.order (λ m. refl)

pub overflow_add-total : goal.overflow_add-total
overflow_add-total c =
    let more : c.loop-event.total + c.event_minutes-total.result ≡ count_between (λ m. list_any (λ e. has_counted c.args.counted.minutes e m) (take (c.loop-event.event-index + 1) c.args.events.now)) c.args.counted.from c.args.counted.to =
    count_more (has_counted c.args.counted.minutes) c.args.events.now c.loop-event.event-index c.event-item.result c.args.counted.from c.args.counted.to
    c.loop-event.total c.event_minutes-total.result c.requires.order c.loop-event-test.true c.event-item.is
    (counted_apart c.args.counted.minutes c.args.events.now c.requires.forms c.requires.apart) c.loop-event.invariant c.event_minutes-total.ensures.count in
    omega (arith, more, count_between-le (λ m. list_any (λ e. has_counted c.args.counted.minutes e m) (take (c.loop-event.event-index + 1) c.args.events.now)) c.args.counted.from c.args.counted.to)

pub loop-event-preserved : goal.loop-event-preserved
loop-event-preserved c =
    count_more (has_counted c.args.counted.minutes) c.args.events.now c.loop-event.event-index c.event-item.result c.args.counted.from c.args.counted.to
    c.loop-event.total c.event_minutes-total.result c.requires.order c.loop-event-test.true c.event-item.is
    (counted_apart c.args.counted.minutes c.args.events.now c.requires.forms c.requires.apart) c.loop-event.invariant c.event_minutes-total.ensures.count
