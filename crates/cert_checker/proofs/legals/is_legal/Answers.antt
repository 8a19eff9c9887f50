use Rattle.roster_model.specs.Legality.{IsLegal}
use Rattle.cert_checker.proofs.LegalLines.{is_so}
use Rattle.cert_checker.proofs.legals.is_legal.Goals as goal

pub returns-in_err-keep-clause-right : goal.returns-in_err-keep-clause-right
returns-in_err-keep-clause-right c = record {
  each = c.keep.ensures.legal c.args.problem.now c.requires.right.each
      (is_so (IsLegal c.args.problem.now c.args.member c.args.line.now) c.in_ok-is_lawful.field-0 c.if-not-branch.false c.in_ok-is_lawful.ensures.legal);
}

pub returns-clause-right : goal.returns-clause-right
returns-clause-right c = record {
  each = c.keep.ensures.legal c.args.problem.now c.requires.right.each
      (is_so (IsLegal c.args.problem.now c.args.member c.args.line.now) c.in_ok-is_lawful.field-0 c.if-not-branch.false c.in_ok-is_lawful.ensures.legal);
}
