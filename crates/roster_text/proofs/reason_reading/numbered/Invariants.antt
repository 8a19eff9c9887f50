use Rattle.std.proofs.Common.{◌≡◌, ◌-◌}
use Rattle.roster_text.specs.ReasonWords.{first_from, is_number}
use Rattle.roster_text.proofs.reason_reading.numbered.Given as goal

abbrev pub invariant-loop-number : goal.invariant-loop-number
invariant-loop-number l =
    first_from (is_number l.word) l.number (l.count - l.number) ≡ first_from (is_number l.word) 0 l.count
