use Rattle.std.proofs.Common.{◌≡◌}
use Rattle.desk_cli.proofs.explain_command.explain_all.Given as goal

abbrev pub invariant-loop-number : goal.invariant-loop-number
invariant-loop-number g l = g.S.Shelf.holds l.shelf ≡ g.S.Shelf.holds l.fn.shelf
