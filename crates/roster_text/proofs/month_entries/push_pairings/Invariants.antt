use Rattle.std.proofs.Common.{◌≡◌, ◌++◌, map, take}
use Rattle.roster_text.specs.MonthEntries.{pairing_entry}
use Rattle.roster_text.proofs.month_entries.push_pairings.Given as goal

abbrev pub invariant-loop-pairing : goal.invariant-loop-pairing
invariant-loop-pairing l = l.out.items ≡ l.initial.out.items ++ map (pairing_entry l.problem) (take l.pairing-index l.line)
