use Rattle.std.proofs.Common.{◌≡◌, true}
use Rattle.term_lines.specs.Slacks.{counters_spare}
use Rattle.term_lines.proofs.slacks.counters_spare.Given as goal

abbrev pub invariant-loop-k : goal.invariant-loop-k
invariant-loop-k g l = counters_spare l.k l.limits l.first l.second ≡ true
