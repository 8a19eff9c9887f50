use Rattle.std.proofs.Common.{◌≡◌, filter, take}
use Rattle.roster_text.specs.MonthEntries.{touches}
use Rattle.roster_text.proofs.month_entries.touching.Given as goal

abbrev pub invariant-loop-entry : goal.invariant-loop-entry
invariant-loop-entry l = l.kept.items ≡ filter (touches l.day) (take l.entry-index l.entries)
