use Rattle.std.proofs.Common.{◌≡◌, ◌+◌, ◌≤◌, length}
use Rattle.field_text.specs.Rows.{rows_from}
use Rattle.field_text.specs.Sizes.{longest}
use Rattle.crew_files.specs.Events.{event_row}
use Rattle.crew_files.specs.Files.{file_name}
use Rattle.crew_files.proofs.event_rows.read_rows.Given as goal

abbrev pub invariant-rows : goal.invariant-rows
invariant-rows l = record {
  room : l.row + length l.records ≤ longest + 2;
  same : rows_from (file_name l.part) (event_row l.horizon l.part) l.row l.crew l.records ≡ rows_from (file_name l.part) (event_row l.horizon l.part) 2 l.fn.crew l.fn.records;
}

abbrev pub decreases-rows : goal.decreases-rows
decreases-rows l = length l.records
