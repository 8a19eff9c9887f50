use Rattle.std.proofs.Common.{◌≡◌, ℕ, List, [], ◌∷◌, ◌++◌, sym, ◌∙◌, arith}
use Rattle.std.proofs.lemmas.Bool.Decides.{nat_tests}
use Rattle.roster_model.specs.declared.award.Denial.{Denial}
use Rattle.roster_text.proofs.Several.{pushed}
use Rattle.roster_text.proofs.ReasonLines.{shorter}
use Rattle.roster_text.proofs.ReasonSteps.{lines_begun, lines_on, lines_ended, lines_done}
use Rattle.roster_text.proofs.reason_reading.whole_of.Goals as goal

pub loop-rest-init : goal.loop-rest-init
loop-rest-init c = record {
  first = omega arith;
  room = omega arith;
  read = lines_begun c.args.problem.now c.new-reasons.result c.args.text.now c.new-reasons.ensures;
}

pub returns-in-Err : goal.returns-in-Err
returns-in-Err c = record {
  read = rw c.fault_at.ensures.value (lines_ended c.args.problem.now c.in-Err.code c.loop-rest.reasons c.loop-rest.line c.loop-rest.rest.now _
      (grind (arith, nat_tests, c.loop-rest-test.ensures)) c.in-Err.ensures.read c.loop-rest.invariant.read);
}

pub loop-rest-smaller : goal.loop-rest-smaller
loop-rest-smaller c = shorter c.args.problem.now c.loop-rest.rest.now (c.in-Ok.read.0, c.in-Ok.read.1.now) c.in-Ok.ensures.read

pub loop-rest-preserved : goal.loop-rest-preserved
loop-rest-preserved c =
    let x : Denial × List ℕ = (c.in-Ok.read.0, c.in-Ok.read.1.now) in
    let less = shorter c.args.problem.now c.loop-rest.rest.now x c.in-Ok.ensures.read in
    let e : c.push.new.self ≡ c.loop-rest.reasons ++ c.in-Ok.read.0 ∷ [] = pushed c.push.result c.push.ensures.ok (sym c.is_err.ensures.value ∙ c.if-is_err.false) in
    record {
      first = omega arith;
      room = omega (arith, less, c.loop-rest.invariant.room);
      read = rw e (lines_on c.args.problem.now c.loop-rest.reasons c.loop-rest.line c.loop-rest.rest.now x _ c.in-Ok.ensures.read c.loop-rest.invariant.read);
    }

pub returns : goal.returns
returns c = record {
  read = lines_done c.args.problem.now c.loop-rest.reasons c.loop-rest.line c.loop-rest.rest.now _
      (grind (arith, nat_tests, c.loop-rest-test.ensures)) c.loop-rest.invariant.read;
}
