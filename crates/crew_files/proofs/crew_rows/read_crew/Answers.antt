use Rattle.std.proofs.Common.{◌∙◌, sym, ap, subst, Err, Result, List}
use Rattle.std.proofs.lemmas.Result.{on_ok_weaker, IfErr-weaker}
use Rattle.csv.specs.Records.{fields_of}
use Rattle.duty_calendar.specs.declared.member.Member.{Member}
use Rattle.field_text.specs.Rows.{Fails, file, rows_from}
use Rattle.field_text.specs.declared.file_fault.FileCode.TheVariants as code
use Rattle.field_text.specs.declared.file_fault.FileFault.{FileFault}
use Rattle.field_text.specs.declared.file_fault.FileName.TheVariants as name
use Rattle.crew_files.specs.Crew.{crew_header, crew_row}
use Rattle.crew_files.specs.Files.{crew_file}
use Rattle.field_text.specs.Records.{records_of}
use Rattle.crew_files.proofs.HeaderSteps.{file-none, file-other, file-rows}
use Rattle.crew_files.proofs.RowsFrom.{fails-at}
use Rattle.crew_files.proofs.crew_rows.read_crew.Goals as goal

pub returns-in_default-clause-fault : goal.returns-in_default-clause-fault
unfolding crew_file
returns-in_default-clause-fault c =
    let none = rw c.in_default.is at c.in_ok-header.ensures.next in
    fails-at code.Header c.at_row.result _ c.at_row.ensures.code (λ n.
    file-none name.Crew crew_header crew_row c.args.crew.now (records_of c.args.text.now) (sym c.new-records.ensures.value ∙ none) ∙ ap Err (sym (c.at_row.ensures.value n)))

pub returns-then-not-is_header-clause-fault : goal.returns-then-not-is_header-clause-fault
unfolding crew_file
returns-then-not-is_header-clause-fault c =
    let some = rw c.in-Some.is at c.in_ok-header.ensures.next in
    fails-at code.Header c.at_row-then-not-is_header.result _ c.at_row-then-not-is_header.ensures.code (λ n.
    file-other name.Crew crew_header crew_row c.args.crew.now (records_of c.args.text.now) (fields_of c.in-Some.header) c.next.new.records (sym c.new-records.ensures.value ∙ some) (sym c.is_header.ensures.value ∙ c.if-not-is_header.true)
    ∙ ap Err (sym (c.at_row-then-not-is_header.ensures.value n)))

pub returns-clause-ok : goal.returns-clause-ok
unfolding crew_file
returns-clause-ok c =
    let some = rw c.in-Some.is at c.in_ok-header.ensures.next in
    let same = file-rows name.Crew crew_header crew_row c.args.crew.now (records_of c.args.text.now) (fields_of c.in-Some.header) c.next.new.records (sym c.new-records.ensures.value ∙ some) (sym c.is_header.ensures.value ∙ c.if-not-is_header.false) in
    on_ok_weaker c.read_rows.result (λ h. same ∙ h) c.read_rows.ensures.ok

pub returns-clause-fault : goal.returns-clause-fault
unfolding crew_file
returns-clause-fault c =
    let some = rw c.in-Some.is at c.in_ok-header.ensures.next in
    let same = file-rows name.Crew crew_header crew_row c.args.crew.now (records_of c.args.text.now) (fields_of c.in-Some.header) c.next.new.records (sym c.new-records.ensures.value ∙ some) (sym c.is_header.ensures.value ∙ c.if-not-is_header.false) in
    IfErr-weaker c.read_rows.result
    (λ (e : FileFault). Fails e.code e (rows_from name.Crew crew_row 2 c.args.crew.now c.next.new.records))
    (λ (e : FileFault). Fails e.code e (file name.Crew crew_header crew_row c.args.crew.now (records_of c.args.text.now)))
    (λ e f. subst (λ (r : Result (List Member) FileFault). Fails e.code e r) (sym same) f) c.read_rows.ensures.fault
