use Rattle.std.proofs.Common.{◌≡◌, ◌≢◌, ◌∙◌, Err}
use Rattle.std.proofs.lemmas.Result.{IfErr-weaker}
use Rattle.csv.specs.Records.{fields_of}
use Rattle.field_text.specs.declared.file_fault.FileCode.{FileCode}
use Rattle.field_text.specs.declared.file_fault.FileCode.TheVariants.{NoMemory}
use Rattle.pairing_files.specs.Columns.{pairing_columns}
use Rattle.pairing_files.specs.Drafts.{draft_of}
use Rattle.pairing_files.specs.Files.{pairing_row, place_pairing}
use Rattle.pairing_files.proofs.RowSteps.{row-passes}
use Rattle.pairing_files.proofs.steps.add_pairing_row.Goals as goal

pub returns-clause-fault : goal.returns-clause-fault
returns-clause-fault c =
    IfErr-weaker c.place_pairing.result (λ (e : FileCode). e ≢ NoMemory → (place_pairing (draft_of c.args.tables.now)) c.in_ok-pairing.pairing ≡ Err e) (λ (e : FileCode). e ≢ NoMemory → pairing_row (draft_of c.args.tables.now) (fields_of c.args.raw) ≡ Err e)
    (λ e f n. row-passes 3 (fields_of c.args.raw) (fields_of c.in_ok-row.row) pairing_columns (place_pairing (draft_of c.args.tables.now)) c.in_ok-pairing.pairing c.in_ok-row.ensures.value c.in_ok-pairing.ensures.value ∙ f n)
    c.place_pairing.ensures.fault
