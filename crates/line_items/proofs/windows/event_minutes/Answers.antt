use Rattle.std.proofs.Common.{sym, ◌∙◌}
use Rattle.part117_limits.proofs.Overlaps.{no_period}
use Rattle.line_items.proofs.windows.event_minutes.Goals as goal

pub returns-in-Period-2 : goal.returns-in-Period-2
returns-in-Period-2 c = record { count = no_period c.args.counted.minutes c.args.event.now c.args.counted.from c.args.counted.to c.requires.order c.in-Period.is (sym c.is_flight.ensures.flight ∙ c.if-is_flight.false) }
