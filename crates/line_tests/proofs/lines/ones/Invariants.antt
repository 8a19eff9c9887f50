use Rattle.std.proofs.Common.{◌≡◌, length}
use Rattle.line_tests.proofs.lines.ones.Given as goal

abbrev pub invariant-loop-pairing : goal.invariant-loop-pairing
invariant-loop-pairing l = record { count : length l.weights.items ≡ l._pairing }
