use Rattle.std.proofs.Common.{◌≡◌, ◌++◌, map, take}
use Rattle.roster_text.specs.MonthEntries.{fixed_entry}
use Rattle.roster_text.proofs.month_entries.push_fixed.Given as goal

abbrev pub invariant-loop-event : goal.invariant-loop-event
invariant-loop-event l = l.out.items ≡ l.initial.out.items ++ map fixed_entry (take l.event-index l.events)
