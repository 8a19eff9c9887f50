use Rattle.std.proofs.Common.{◌≡◌, [], ◌∷◌, ◌++◌, sym, ◌∙◌, length, arith}
use Rattle.roster_text.proofs.Several.{pushed}
use Rattle.roster_text.proofs.RowSteps.{rows_on, rows_ended, rows_done}
use Rattle.roster_text.proofs.reading.rows_of.Goals as goal

pub returns-in-Err : goal.returns-in-Err
returns-in-Err c =
    record {
      read = rw c.fault_at.ensures.value (rows_ended c.args.problem.now c.in-Err.code c.loop-member.roster (length c.args.problem.now.base.members) c.loop-member.member c.loop-member.rest.now _
          (omega (arith, c.loop-member-test.true, c.len-member-end.ensures)) c.in-Err.ensures.read c.loop-member.invariant);
    }

pub loop-member-preserved : goal.loop-member-preserved
loop-member-preserved c =
    let e : c.push.new.self ≡ c.loop-member.roster ++ c.in-Ok.row.0 ∷ [] = pushed c.push.result c.push.ensures.ok (sym c.is_err.ensures.value ∙ c.if-is_err.false) in
    rw e (rows_on c.args.problem.now c.loop-member.roster (length c.args.problem.now.base.members) c.loop-member.member c.loop-member.rest.now c.in-Ok.row.0 c.in-Ok.row.1.now _
    (omega (arith, c.loop-member-test.true, c.len-member-end.ensures)) c.in-Ok.ensures.read c.loop-member.invariant)

pub returns : goal.returns
returns c =
    record {
      read = rows_done c.args.problem.now c.loop-member.roster (length c.args.problem.now.base.members) c.loop-member.member c.loop-member.rest.now _
          (omega (arith, c.loop-member-test.false, c.len-member-end.ensures)) c.loop-member.invariant;
    }
