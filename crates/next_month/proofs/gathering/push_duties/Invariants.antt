use Rattle.std.proofs.Common.{◌≡◌, ◌++◌, map, take}
use Rattle.roster_model.specs.Spans.{duty_event}
use Rattle.next_month.specs.Carrying.{all_carried}
use Rattle.next_month.proofs.gathering.push_duties.Given as goal

abbrev pub invariant-loop-duty : goal.invariant-loop-duty
invariant-loop-duty l = l.out.items ≡ l.initial.out.items ++ all_carried l.lag (map duty_event (take l.duty-index l.duties))
