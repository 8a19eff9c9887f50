use Rattle.std.proofs.Common.{◌∙◌, sym, ap, subst, Err, Result, List}
use Rattle.std.proofs.lemmas.Result.{on_ok_weaker, IfErr-weaker}
use Rattle.csv.specs.Records.{fields_of}
use Rattle.duty_calendar.specs.declared.member.Member.{Member}
use Rattle.field_text.specs.Rows.{Fails, file, rows_from}
use Rattle.field_text.specs.declared.file_fault.FileCode.TheVariants as code
use Rattle.field_text.specs.declared.file_fault.FileFault.{FileFault}
use Rattle.field_text.specs.declared.file_fault.FileName.{FileName}
use Rattle.crew_files.specs.Events.{event_header, event_row}
use Rattle.crew_files.specs.Files.{event_file, file_name}
use Rattle.field_text.specs.Records.{records_of}
use Rattle.crew_files.proofs.HeaderSteps.{file-none, file-other, file-rows}
use Rattle.crew_files.proofs.RowsFrom.{fails-at}
use Rattle.crew_files.proofs.event_rows.read_events.Goals as goal

pub returns-in_default-clause-fault : goal.returns-in_default-clause-fault
unfolding event_file
returns-in_default-clause-fault c =
    let none = rw c.in_default.is at c.in_ok-header.ensures.next in
    fails-at code.Header c.at_row.result _ c.at_row.ensures.code (λ n.
    file-none (file_name c.args.part) event_header (event_row c.args.horizon.now c.args.part) c.args.crew.now (records_of c.args.text.now) (sym c.new-records.ensures.value ∙ none) ∙ ap Err (sym (c.at_row.ensures.value n ∙ ap (λ (f : FileName). record { file = f; row = 1; code = code.Header }) c.file_name-file.ensures.value)))

pub returns-then-not-is_header-clause-fault : goal.returns-then-not-is_header-clause-fault
unfolding event_file
returns-then-not-is_header-clause-fault c =
    let some = rw c.in-Some.is at c.in_ok-header.ensures.next in
    fails-at code.Header c.at_row-then-not-is_header.result _ c.at_row-then-not-is_header.ensures.code (λ n.
    file-other (file_name c.args.part) event_header (event_row c.args.horizon.now c.args.part) c.args.crew.now (records_of c.args.text.now) (fields_of c.in-Some.header) c.next.new.records (sym c.new-records.ensures.value ∙ some) (sym c.is_header.ensures.value ∙ c.if-not-is_header.true)
    ∙ ap Err (sym (c.at_row-then-not-is_header.ensures.value n ∙ ap (λ (f : FileName). record { file = f; row = 1; code = code.Header }) c.file_name-file.ensures.value)))

pub returns-clause-ok : goal.returns-clause-ok
unfolding event_file
returns-clause-ok c =
    let some = rw c.in-Some.is at c.in_ok-header.ensures.next in
    let same = file-rows (file_name c.args.part) event_header (event_row c.args.horizon.now c.args.part) c.args.crew.now (records_of c.args.text.now) (fields_of c.in-Some.header) c.next.new.records (sym c.new-records.ensures.value ∙ some) (sym c.is_header.ensures.value ∙ c.if-not-is_header.false) in
    on_ok_weaker c.read_rows.result (λ h. same ∙ h) c.read_rows.ensures.ok

pub returns-clause-fault : goal.returns-clause-fault
unfolding event_file
returns-clause-fault c =
    let some = rw c.in-Some.is at c.in_ok-header.ensures.next in
    let same = file-rows (file_name c.args.part) event_header (event_row c.args.horizon.now c.args.part) c.args.crew.now (records_of c.args.text.now) (fields_of c.in-Some.header) c.next.new.records (sym c.new-records.ensures.value ∙ some) (sym c.is_header.ensures.value ∙ c.if-not-is_header.false) in
    IfErr-weaker c.read_rows.result
    (λ (e : FileFault). Fails e.code e (rows_from (file_name c.args.part) (event_row c.args.horizon.now c.args.part) 2 c.args.crew.now c.next.new.records))
    (λ (e : FileFault). Fails e.code e (file (file_name c.args.part) event_header (event_row c.args.horizon.now c.args.part) c.args.crew.now (records_of c.args.text.now)))
    (λ e f. subst (λ (r : Result (List Member) FileFault). Fails e.code e r) (sym same) f) c.read_rows.ensures.fault
