use Rattle.std.proofs.Common.{◌≡◌}
use Rattle.desk_cli.proofs.calendars_command.texts_of_before.Given as goal

abbrev pub invariant-loop-member : goal.invariant-loop-member
invariant-loop-member g l = record {
  kept : g.S.Shelf.holds l.calendars ≡ g.S.Shelf.holds l.fn.calendars;
  folder_kept : g.S.Shelf.holds l.folder ≡ g.S.Shelf.holds l.fn.folder;
}
