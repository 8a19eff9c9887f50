use Rattle.std.proofs.Common.{◌≡◌, ◌++◌, take}
use Rattle.next_month.specs.Carrying.{all_carried}
use Rattle.next_month.proofs.gathering.push_events.Given as goal

abbrev pub invariant-loop-event : goal.invariant-loop-event
invariant-loop-event l = l.out.items ≡ l.initial.out.items ++ all_carried l.lag (take l.event-index l.events)
