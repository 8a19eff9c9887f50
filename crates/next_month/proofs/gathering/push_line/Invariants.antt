use Rattle.std.proofs.Common.{◌≡◌, ◌++◌, take}
use Rattle.roster_model.specs.Spans.{duty_events}
use Rattle.roster_model.specs.Timelines.{pairings_of}
use Rattle.next_month.specs.Carrying.{all_carried}
use Rattle.next_month.proofs.gathering.push_line.Given as goal

abbrev pub invariant-loop-number : goal.invariant-loop-number
invariant-loop-number l =
    l.out.items ≡ l.initial.out.items ++ all_carried l.lag (duty_events (pairings_of l.problem (take l.number-index l.number-items)))
