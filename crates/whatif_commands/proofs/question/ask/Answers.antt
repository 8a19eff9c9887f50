use Rattle.std.proofs.Common.{sym}
use Rattle.std.proofs.lemmas.Result.{err_from_is_err_and}
use Rattle.whatif_commands.proofs.question.ask.Goals as goal

pub returns-in_default-clause-unasked : goal.returns-in_default-clause-unasked
returns-in_default-clause-unasked c = record {
  problem = c.in_ok-problem.problem;
  other = c.in_ok-other.other;
  two = c.in_ok-other.ensures.two;
  nobody = sym c.in_default.ensures.value;
}

pub returns-in_err-awarded-clause-unasked : goal.returns-in_err-awarded-clause-unasked
returns-in_err-awarded-clause-unasked c =
    let p = err_from_is_err_and c.from_residual-in_err-awarded.result c.from_residual-in_err-awarded.ensures.1 in
    rw (p.1, p.2) (c.in_err-awarded.ensures.unasked c.args.name.now (record {
      problem = c.in_ok-problem.problem;
      other = c.in_ok-other.other;
      two = c.in_ok-other.ensures.two;
      member = c.in-Some.member;
      named = sym c.in-Some.ensures.value;
    }))

pub returns-in_err-other-clause-unasked : goal.returns-in_err-other-clause-unasked
returns-in_err-other-clause-unasked c =
    let p = err_from_is_err_and c.from_residual-in_err-other.result c.from_residual-in_err-other.ensures.1 in
    rw (p.1, p.2) (c.in_err-other.ensures.unasked c.args.name.now)
