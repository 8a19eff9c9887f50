use Rattle.std.proofs.Common.{◌∙◌, sym, ap, arith, Err, length}
use Rattle.csv.specs.Records.{fields_of}
use Rattle.field_text.specs.declared.file_fault.FileName.{FileName}
use Rattle.crew_files.specs.Events.{event_row}
use Rattle.crew_files.specs.Files.{file_name}
use Rattle.crew_files.proofs.RowsFrom.{rows-end, rows-next, rows-fault, fails-at}
use Rattle.crew_files.proofs.event_rows.read_rows.Goals as goal

pub returns-clause-ok : goal.returns-clause-ok
returns-clause-ok c =
    let none = rw c.in_default.is at c.in_ok-record.ensures.next in
    sym c.rows.invariant.same ∙ rows-end (file_name c.args.part) (event_row c.args.horizon.now c.args.part) c.rows.row c.rows.crew c.rows.records none

pub returns-in-Err-clause-fault : goal.returns-in-Err-clause-fault
returns-in-Err-clause-fault c =
    let some = rw c.in-Some.is at c.in_ok-record.ensures.next in
    fails-at c.in-Err.code c.at_row.result _ c.at_row.ensures.code (λ n.
    sym c.rows.invariant.same
    ∙ rows-fault (file_name c.args.part) (event_row c.args.horizon.now c.args.part) c.rows.row c.rows.crew c.rows.records c.next.new.records (fields_of c.in-Some.record) c.in-Err.code some (c.in-Err.ensures.fault n)
    ∙ ap Err (sym (c.at_row.ensures.value n ∙ ap (λ (f : FileName). record { file = f; row = c.rows.row; code = c.in-Err.code }) c.file_name-file.ensures.value)))

pub rows-preserved : goal.rows-preserved
rows-preserved c =
    let some = rw c.in-Some.is at c.in_ok-record.ensures.next in
    record {
      room = omega (arith, ap length some);
      same = sym (rows-next (file_name c.args.part) (event_row c.args.horizon.now c.args.part) c.rows.row c.rows.crew c.rows.records c.next.new.records (fields_of c.in-Some.record) c.add_row.new.crew some c.in-Ok.ensures.ok) ∙ c.rows.invariant.same;
    }
