use Rattle.std.proofs.Common.{refl, sym, subst}
use Rattle.std.proofs.lemmas.List.{take_rest}
use Rattle.duty_calendar.specs.Calendar.{horizon_end}
use Rattle.duty_calendar.specs.Events.{HasFlightsApart}
use Rattle.part117_limits.proofs.Recent.{recent_apart}
use Rattle.part117_limits.proofs.LightEvents.{light_keeps}
use Rattle.part117_limits.proofs.first.window_breach.Goals as goal

pub is_light-requires-clause-apart : goal.is_light-requires-clause-apart
is_light-requires-clause-apart c =
    subst HasFlightsApart (sym (take_rest c.args.events.now c.count_past-past.result)) (recent_apart c.args.events.now c.count_past-past.result c.requires.apart)

pub returns-then-is_light : goal.returns-then-is_light
returns-then-is_light c = record {
  over = light_keeps c.args.minutes c.args.events.now c.count_past-past.result c.args.width c.args.limit (horizon_end c.args.horizon.now)
      c.requires.forms c.count_past-past.ensures.within c.count_past-past.ensures.past (c.if-is_light.ensures.light refl);
}
