use Rattle.std.proofs.Common.{◌∙◌, sym, ap, Err}
use Rattle.field_text.specs.declared.file_fault.FileCode.TheVariants as code
use Rattle.field_text.specs.declared.file_fault.FileFault.{FileFault}
use Rattle.field_text.specs.Rows.{Fails}
use Rattle.crew_files.specs.Files.{members_of, Reaches}
use Rattle.crew_files.proofs.RowsFrom.{fails-at}
use Rattle.crew_files.proofs.Steps.{if_err-at}
use Rattle.crew_files.proofs.Together.{reach-crew, reach-history, reach-fixed, crew-fails, history-fails, fixed-fails, no-member, all-members}
use Rattle.crew_files.proofs.reading.read_all.Goals as goal

pub returns-in_err-read_crew-clause-fault : goal.returns-in_err-read_crew-clause-fault
returns-in_err-read_crew-clause-fault c =
    if_err-at c.from_residual.result c.in_err-read_crew.field-0.0 (λ (e : FileFault). Fails e.code e (members_of c.args.horizon.now c.args.crew.now c.args.history.now c.args.fixed.now)) c.from_residual.ensures.1
    (crew-fails c.args.horizon.now c.args.crew.now c.args.history.now c.args.fixed.now c.args.members.now c.in_err-read_crew.field-0.0 c.requires.none c.in_err-read_crew.ensures.fault)

pub returns-in_err-read_events-clause-fault : goal.returns-in_err-read_events-clause-fault
returns-in_err-read_events-clause-fault c =
    if_err-at c.from_residual-in_err-read_events.result c.in_err-read_events.field-0.0 (λ (e : FileFault). Fails e.code e (members_of c.args.horizon.now c.args.crew.now c.args.history.now c.args.fixed.now)) c.from_residual-in_err-read_events.ensures.1
    (history-fails c.args.horizon.now c.args.crew.now c.args.history.now c.args.fixed.now c.args.members.now c.read_crew.new.crew c.requires.none c.in_ok-read_crew.ensures.ok c.in_err-read_events.field-0.0 c.in_err-read_events.ensures.fault)

pub returns-in_err-read_events-2-clause-fault : goal.returns-in_err-read_events-2-clause-fault
returns-in_err-read_events-2-clause-fault c =
    if_err-at c.from_residual-in_err-read_events-2.result c.in_err-read_events-2.field-0.0 (λ (e : FileFault). Fails e.code e (members_of c.args.horizon.now c.args.crew.now c.args.history.now c.args.fixed.now)) c.from_residual-in_err-read_events-2.ensures.1
    (fixed-fails c.args.horizon.now c.args.crew.now c.args.history.now c.args.fixed.now c.args.members.now c.read_crew.new.crew c.requires.none c.in_ok-read_crew.ensures.ok c.read_events.new.crew c.in_ok-read_events.ensures.ok c.in_err-read_events-2.field-0.0 c.in_err-read_events-2.ensures.fault)

pub returns-then-len-eq0-clause-fault : goal.returns-then-len-eq0-clause-fault
returns-then-len-eq0-clause-fault c =
    fails-at code.Empty c.at_row.result _ c.at_row.ensures.code (λ n.
    no-member c.args.horizon.now c.args.crew.now c.args.history.now c.args.fixed.now c.args.members.now c.read_crew.new.crew c.requires.none c.in_ok-read_crew.ensures.ok c.read_events.new.crew c.in_ok-read_events.ensures.ok c.read_events-2.new.crew c.in_ok-read_events-2.ensures.ok (sym c.len.ensures.value ∙ c.if-len-eq0.true)
    ∙ ap Err (sym (c.at_row.ensures.value n)))

pub returns-clause-ok : goal.returns-clause-ok
returns-clause-ok c =
    all-members c.args.horizon.now c.args.crew.now c.args.history.now c.args.fixed.now c.args.members.now c.read_crew.new.crew c.requires.none c.in_ok-read_crew.ensures.ok c.read_events.new.crew c.in_ok-read_events.ensures.ok c.read_events-2.new.crew c.in_ok-read_events-2.ensures.ok (λ z. c.if-len-eq0.false (c.len.ensures.value ∙ z))

pub returns-in_err-read_crew-clause-reached : goal.returns-in_err-read_crew-clause-reached
returns-in_err-read_crew-clause-reached c =
    if_err-at c.from_residual.result c.in_err-read_crew.field-0.0 (λ (e : FileFault). Reaches c.args.horizon.now c.args.crew.now c.args.history.now e.file) c.from_residual.ensures.1
    (reach-crew c.args.horizon.now c.args.crew.now c.args.history.now c.args.fixed.now c.in_err-read_crew.field-0.0 c.in_err-read_crew.ensures.named_file)

pub returns-in_err-read_events-clause-reached : goal.returns-in_err-read_events-clause-reached
returns-in_err-read_events-clause-reached c =
    if_err-at c.from_residual-in_err-read_events.result c.in_err-read_events.field-0.0 (λ (e : FileFault). Reaches c.args.horizon.now c.args.crew.now c.args.history.now e.file) c.from_residual-in_err-read_events.ensures.1
    (reach-history c.args.horizon.now c.args.crew.now c.args.history.now c.args.fixed.now c.args.members.now c.read_crew.new.crew c.requires.none c.in_ok-read_crew.ensures.ok c.in_err-read_events.field-0.0 c.in_err-read_events.ensures.named_file)

pub returns-in_err-read_events-2-clause-reached : goal.returns-in_err-read_events-2-clause-reached
returns-in_err-read_events-2-clause-reached c =
    if_err-at c.from_residual-in_err-read_events-2.result c.in_err-read_events-2.field-0.0 (λ (e : FileFault). Reaches c.args.horizon.now c.args.crew.now c.args.history.now e.file) c.from_residual-in_err-read_events-2.ensures.1
    (reach-fixed c.args.horizon.now c.args.crew.now c.args.history.now c.args.fixed.now c.args.members.now c.read_crew.new.crew c.requires.none c.in_ok-read_crew.ensures.ok c.read_events.new.crew c.in_ok-read_events.ensures.ok c.in_err-read_events-2.field-0.0 c.in_err-read_events-2.ensures.named_file)

pub returns-then-len-eq0-clause-reached : goal.returns-then-len-eq0-clause-reached
returns-then-len-eq0-clause-reached c = reach-crew c.args.horizon.now c.args.crew.now c.args.history.now c.args.fixed.now c.at_row.result c.at_row.ensures.file
