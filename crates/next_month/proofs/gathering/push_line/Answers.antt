use Rattle.std.proofs.Common.{◌++◌, List, map, ap, ◌∙◌}
use Rattle.duty_calendar.specs.declared.pairing.Duty.{Duty}
use Rattle.roster_model.specs.Spans.{duty_event}
use Rattle.next_month.specs.Carrying.{all_carried}
use Rattle.next_month.proofs.Gathered.{pairing_more}
use Rattle.next_month.proofs.gathering.push_line.Goals as goal

pub loop-number-preserved : goal.loop-number-preserved
loop-number-preserved c =
    pairing_more c.args.lag c.args.problem.now _ _ _ _ _ _ _ c.loop-number-test.true c.pairing_at-pairing.ensures.found c.loop-number.invariant
    (c.in_ok-push_duties.ensures.more ∙ ap (λ (ds : List Duty). c.loop-number.out.items ++ all_carried c.args.lag (map duty_event ds)) c.as_slice.ensures)
