use Rattle.std.proofs.Common.{◌≡◌}
use Rattle.month_lint.proofs.linting.note_all_unread.Given as goal

abbrev pub invariant-loop-file : goal.invariant-loop-file
invariant-loop-file g l = g.S.Shelf.holds l.shelf ≡ g.S.Shelf.holds l.fn.shelf
