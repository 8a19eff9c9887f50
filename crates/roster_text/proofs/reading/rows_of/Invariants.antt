use Rattle.std.proofs.Common.{◌≡◌, ◌-◌, length}
use Rattle.roster_text.specs.RowReading.{rows_at}
use Rattle.roster_text.proofs.RowLaws.{with_front}
use Rattle.roster_text.proofs.reading.rows_of.Given as goal

abbrev pub invariant-loop-member : goal.invariant-loop-member
invariant-loop-member l =
    with_front l.roster (rows_at l.problem l.member (length l.problem.base.members - l.member) l.rest)
    ≡ rows_at l.problem 0 (length l.problem.base.members) l.bytes
