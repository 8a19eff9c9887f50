use Rattle.std.proofs.Common.{sym, subst}
use Rattle.std.proofs.lemmas.List.{take_rest}
use Rattle.duty_calendar.specs.Events.{HasFlightsApart}
use Rattle.part117_limits.proofs.Recent.{recent_apart}
use Rattle.part117_limits.proofs.LightEvents.{behind_more, behind_all}
use Rattle.part117_limits.proofs.light.is_light.Goals as goal

pub window_minutes-requires-clause-apart : goal.window_minutes-requires-clause-apart
window_minutes-requires-clause-apart c =
    subst HasFlightsApart (sym (take_rest c.args.events.now c.loop-index.index)) (recent_apart c.args.events.now c.loop-index.index c.requires.apart)

pub loop-index-preserved : goal.loop-index-preserved
loop-index-preserved c =
    behind_more c.args.minutes c.args.events.now c.args.width c.args.limit c.loop-index.index c.window_minutes.result c.index-events-index.result
    c.requires.forms c.loop-index-test.true c.index-events-index.is c.loop-index.invariant c.window_minutes.ensures.count c.if-window_minutes-limit.false

pub returns : goal.returns
returns c = record {
  light = λ yes_light. behind_all c.args.minutes c.args.events.now c.args.width c.args.limit c.loop-index.index c.requires.forms c.loop-index-test.false c.loop-index.invariant;
}
