use Rattle.std.proofs.lemmas.Result.{on_ok_weaker, IfErr-weaker}
use Rattle.roster_model.proofs.Soundness.{closes_sound}
use Rattle.cert_checker.proofs.Verdicts.{none_closed, none_complete, none_refused}
use Rattle.cert_checker.proofs.award.judge_none.Goals as goal

pub returns-clause-refused : goal.returns-clause-refused
returns-clause-refused c =
    IfErr-weaker c.first_fault.result _ _ (λ why h. none_refused c.args.problem.now c.args.proof.now c.as_slice.result.now c.new.result why c.new.ensures c.as_slice.ensures h) c.first_fault.ensures.fault

pub returns-clause-none : goal.returns-clause-none
returns-clause-none c =
    on_ok_weaker c.first_fault.result (λ closes. none_complete c.args.problem.now c.args.proof.now (none_closed c.args.problem.now c.args.proof.now c.as_slice.result.now c.new.result c.new.ensures c.as_slice.ensures closes)) c.first_fault.ensures.closed

pub returns-clause-sound : goal.returns-clause-sound
returns-clause-sound c = closes_sound c.args.problem.now

pub first_fault-requires-clause-right : goal.first_fault-requires-clause-right
first_fault-requires-clause-right c = c.new-recall.ensures.right c.args.problem.now
