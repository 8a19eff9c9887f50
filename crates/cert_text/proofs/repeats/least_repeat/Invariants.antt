use Rattle.cert_text.proofs.SortedLines.{IsLeastTo}
use Rattle.cert_text.proofs.repeats.least_repeat.Given as goal

abbrev pub invariant-loop-i : goal.invariant-loop-i
invariant-loop-i l = IsLeastTo l.pairs l.count l.i l.least
