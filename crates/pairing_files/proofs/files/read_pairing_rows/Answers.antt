use Rattle.std.proofs.Common.{◌∙◌, sym, ap, length, arith}
use Rattle.csv.specs.Records.{fields_of}
use Rattle.field_text.specs.declared.file_fault.FileName.TheVariants.{Pairings}
use Rattle.pairing_files.specs.Drafts.{draft_of}
use Rattle.pairing_files.specs.Files.{pairing_row}
use Rattle.pairing_files.proofs.RowsFrom.{rows-end, rows-next, row-fails}
use Rattle.pairing_files.proofs.files.read_pairing_rows.Goals as goal

pub returns-clause-rows : goal.returns-clause-rows
returns-clause-rows c =
    let none = rw c.in_default.is at c.in_ok-raw.ensures.next in
    sym c.rows.invariant.same ∙ rows-end Pairings pairing_row c.rows.row (draft_of c.rows.tables) c.rows.records none

pub returns-in-Err-clause-rows : goal.returns-in-Err-clause-rows
returns-in-Err-clause-rows c =
    let some = rw c.in-Some.is at c.in_ok-raw.ensures.next in
    row-fails Pairings pairing_row c.rows.row (draft_of c.rows.tables) c.rows.records c.next.new.records (fields_of c.in-Some.raw) c.in-Err.code c.at_row.result _
    c.rows.invariant.same some c.in-Err.ensures.fault c.at_row.ensures.code c.at_row.ensures.value

pub rows-preserved : goal.rows-preserved
rows-preserved c =
    let some = rw c.in-Some.is at c.in_ok-raw.ensures.next in
    record {
      room = omega (arith, ap length some);
      named = c.in_default-add_pairing_row.ensures.named;
      same = sym (rows-next Pairings pairing_row c.rows.row (draft_of c.rows.tables) c.rows.records c.next.new.records (fields_of c.in-Some.raw) (draft_of c.add_pairing_row.new.tables) some c.in_default-add_pairing_row.ensures.ok) ∙ c.rows.invariant.same;
    }
