use Rattle.roster_model.specs.Legality.{IsLegal}
use Rattle.cert_checker.proofs.Listed.{line_read}
use Rattle.cert_checker.proofs.LegalLines.{is_so, line_legal}
use Rattle.cert_checker.proofs.witness.are_legal.Goals as goal

pub loop-member-preserved : goal.loop-member-preserved
loop-member-preserved c = record {
  legal =
      line_legal c.args.problem.now c.args.roster.now c.loop-member.member c.line-item.result
      (line_read c.args.problem.now c.args.roster.now c.as_slice-line-items.result.now c.loop-member.member c.line-item.result c.as_slice-line-items.ensures c.loop-member-test.true c.line-item.is)
      (is_so (IsLegal c.args.problem.now c.loop-member.member c.line-item.result) c.in_ok-is_legal.field-0 c.if-not-branch.false c.in_ok-is_legal.ensures.legal)
      c.loop-member.invariant.legal;
  right = c.is_legal.ensures.right;
}
