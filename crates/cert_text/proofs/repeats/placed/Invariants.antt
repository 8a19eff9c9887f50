use Rattle.std.proofs.Common.{take}
use Rattle.cert_text.specs.Sorting.{ArePairs}
use Rattle.cert_text.proofs.repeats.placed.Given as goal

abbrev pub invariant-loop-place : goal.invariant-loop-place
invariant-loop-place l = ArePairs (take l.place l.lines) l.made.items
