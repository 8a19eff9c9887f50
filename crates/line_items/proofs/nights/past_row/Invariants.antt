use Rattle.std.proofs.Common.{drop}
use Rattle.line_items.proofs.NightLoops.{IsPast}
use Rattle.line_items.proofs.nights.past_row.Given as goal

abbrev pub invariant-loop-event : goal.invariant-loop-event
invariant-loop-event l = IsPast l.events (drop l.event-index l.events) l.row l.released
