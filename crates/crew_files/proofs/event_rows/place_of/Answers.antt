use Rattle.std.proofs.Common.{◌≡◌, sym, Err}
use Rattle.crew_files.specs.Events.{changed, event_checked}
use Rattle.field_text.specs.declared.file_fault.FileCode.{FileCode}
use Rattle.crew_files.proofs.Steps.{if_err-at}
use Rattle.crew_files.proofs.Names.{changed-none, found-fault, found-event}
use Rattle.crew_files.proofs.event_rows.place_of.Goals as goal

pub returns-in_default-clause-fault : goal.returns-in_default-clause-fault
returns-in_default-clause-fault c =
    let none = rw c.in_default.is at c.find.ensures.none in
    changed-none c.args.name.now (event_checked c.args.horizon.now c.args.part c.args.event.now) c.args.crew.now none

pub returns-in_err-check_event-clause-fault : goal.returns-in_err-check_event-clause-fault
returns-in_err-check_event-clause-fault c =
    if_err-at c.from_residual.result c.in_err-check_event.field-0.0 (λ (e : FileCode). changed c.args.name.now (event_checked c.args.horizon.now c.args.part c.args.event.now) c.args.crew.now ≡ Err e) c.from_residual.ensures.1
    (found-fault c.args.name.now (event_checked c.args.horizon.now c.args.part c.args.event.now) c.args.crew.now c.in-Some.i c.member.result.now c.in_err-check_event.field-0.0 (sym c.in-Some.ensures.value) c.member.ensures.value c.in_err-check_event.ensures.fault)

pub returns-clause-ok : goal.returns-clause-ok
returns-clause-ok c =
    found-event c.args.name.now (event_checked c.args.horizon.now c.args.part c.args.event.now) c.args.crew.now c.in-Some.i c.member.result.now c.args.part c.args.event.now (sym c.in-Some.ensures.value) c.member.ensures.value c.in_ok-check_event.ensures.ok
