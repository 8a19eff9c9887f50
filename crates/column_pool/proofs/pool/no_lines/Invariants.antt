use Rattle.std.proofs.Common.{◌≡◌}
use Rattle.column_pool.specs.Kept.{no_lines}
use Rattle.column_pool.proofs.pool.no_lines.Given as goal

abbrev pub invariant-loop-member : goal.invariant-loop-member
invariant-loop-member l = l.lists.items ≡ no_lines l._member
