use Rattle.std.proofs.Common.{◌≡◌, ◌+◌, ◌≤◌, length}
use Rattle.field_text.specs.Rows.{rows_from}
use Rattle.field_text.specs.Sizes.{longest}
use Rattle.field_text.specs.declared.file_fault.FileName.TheVariants.{Pairings}
use Rattle.pairing_files.specs.Drafts.{draft_of, IsNamed}
use Rattle.pairing_files.specs.Files.{pairing_row}
use Rattle.pairing_files.proofs.files.read_pairing_rows.Given as goal

abbrev pub invariant-rows : goal.invariant-rows
invariant-rows l = record {
  room : l.row + length l.records ≤ longest + 2;
  named : IsNamed l.tables;
  same : rows_from Pairings pairing_row l.row (draft_of l.tables) l.records ≡ rows_from Pairings pairing_row 2 (draft_of l.fn.tables) l.fn.records;
}

abbrev pub decreases-rows : goal.decreases-rows
decreases-rows l = length l.records
