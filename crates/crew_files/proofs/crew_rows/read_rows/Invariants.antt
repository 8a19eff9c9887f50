use Rattle.std.proofs.Common.{◌≡◌, ◌+◌, ◌≤◌, length}
use Rattle.field_text.specs.Rows.{rows_from}
use Rattle.field_text.specs.Sizes.{longest}
use Rattle.field_text.specs.declared.file_fault.FileName.TheVariants as file
use Rattle.crew_files.specs.Crew.{crew_row}
use Rattle.crew_files.proofs.crew_rows.read_rows.Given as goal

abbrev pub invariant-rows : goal.invariant-rows
invariant-rows l = record {
  room : l.row + length l.records ≤ longest + 2;
  same : rows_from file.Crew crew_row l.row l.crew l.records ≡ rows_from file.Crew crew_row 2 l.fn.crew l.fn.records;
}

abbrev pub decreases-rows : goal.decreases-rows
decreases-rows l = length l.records
