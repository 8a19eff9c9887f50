use Rattle.std.proofs.Common.{◌≡◌, ◌++◌, drop}
use Rattle.roster_text.specs.RosterText.{rows_text}
use Rattle.roster_text.proofs.printing.put_rows.Given as goal

abbrev pub invariant-loop-member : goal.invariant-loop-member
invariant-loop-member l =
    l.out ++ rows_text l.problem l.member (drop l.member l.roster) ≡ l.fn.out ++ rows_text l.problem 0 l.roster
