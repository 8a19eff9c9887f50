use Rattle.std.proofs.Common.{◌≡◌, ◌≤◌, ◌+◌, length}
use Rattle.roster_text.specs.ReasonReading.{reasons_of}
use Rattle.roster_text.proofs.ReasonLines.{all_at, with_front}
use Rattle.roster_text.proofs.reason_reading.whole_of.Given as goal

abbrev pub invariant-loop-rest : goal.invariant-loop-rest
invariant-loop-rest l = record {
  first : 1 ≤ l.line;
  room : l.line + length l.rest ≤ length l.text + 1;
  read : with_front l.reasons (all_at l.problem l.line l.rest) ≡ reasons_of l.problem l.text;
}

abbrev pub decreases-loop-rest : goal.decreases-loop-rest
decreases-loop-rest l = length l.rest
