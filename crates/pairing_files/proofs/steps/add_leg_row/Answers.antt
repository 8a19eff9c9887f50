use Rattle.std.proofs.Common.{◌≡◌, ◌≢◌, ◌∙◌, Err}
use Rattle.std.proofs.lemmas.Result.{IfErr-weaker}
use Rattle.csv.specs.Records.{fields_of}
use Rattle.field_text.specs.declared.file_fault.FileCode.{FileCode}
use Rattle.field_text.specs.declared.file_fault.FileCode.TheVariants.{NoMemory}
use Rattle.pairing_files.specs.Columns.{leg_columns}
use Rattle.pairing_files.specs.Drafts.{draft_of}
use Rattle.pairing_files.specs.Files.{leg_row, place_leg}
use Rattle.pairing_files.proofs.RowSteps.{row-passes}
use Rattle.pairing_files.proofs.steps.add_leg_row.Goals as goal

pub returns-clause-fault : goal.returns-clause-fault
returns-clause-fault c =
    IfErr-weaker c.place_leg.result (λ (e : FileCode). e ≢ NoMemory → (place_leg (draft_of c.args.tables.now)) c.in_ok-read.read ≡ Err e) (λ (e : FileCode). e ≢ NoMemory → leg_row c.args.horizon.now (draft_of c.args.tables.now) (fields_of c.args.raw) ≡ Err e)
    (λ e f n. row-passes 6 (fields_of c.args.raw) (fields_of c.in_ok-row.row) (leg_columns c.args.horizon.now) (place_leg (draft_of c.args.tables.now)) c.in_ok-read.read c.in_ok-row.ensures.value c.in_ok-read.ensures.value ∙ f n)
    c.place_leg.ensures.fault
