use Rattle.std.proofs.Common.{◌≡◌, map, take}
use Rattle.month_files.specs.Writes.{with_files, named_bytes}
use Rattle.month_files.proofs.writing.write_all.Given as goal

abbrev pub invariant-loop-before : goal.invariant-loop-before
invariant-loop-before g l = record {
  held : g.S.Shelf.holds l.shelf ≡ with_files (g.S.Shelf.holds l.fn.shelf) (map named_bytes (take l.before l.drafts));
  counts : g.S.Shelf.tally l.shelf ≡ g.S.Shelf.tally l.fn.shelf;
  unlogged : g.S.Shelf.log l.shelf ≡ g.S.Shelf.log l.fn.shelf;
}
