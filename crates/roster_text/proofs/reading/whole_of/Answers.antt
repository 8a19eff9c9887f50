use Rattle.std.proofs.lemmas.Result.{err_from_is_err_and}
use Rattle.roster_text.proofs.RowSteps.{rest_wrong}
use Rattle.roster_text.proofs.reading.whole_of.Goals as goal

pub returns-in_err-roster : goal.returns-in_err-roster
returns-in_err-roster c =
    let p = err_from_is_err_and c.from_residual.result c.from_residual.ensures.1 in
    record {
      read = rw (p.1, p.2) (λ some. rest_wrong c.args.problem.now c.args.text.now c.in-Some.rest.now c.in_err-roster.field-0.0 c.in-Some.ensures.value (c.in_err-roster.ensures.read some));
    }
