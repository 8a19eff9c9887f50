use Rattle.std.proofs.Common.{◌≡◌, length}
use Rattle.line_tests.proofs.lines.windows.Given as goal

abbrev pub invariant-loop-place : goal.invariant-loop-place
invariant-loop-place l = record { count : length l.list ≡ l._place }
