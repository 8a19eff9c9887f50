use Rattle.cert_checker.proofs.Taken.{some_at}
use Rattle.cert_checker.proofs.Together.{line_within}
use Rattle.cert_checker.proofs.bests.heaviest_line.Goals as goal

pub returns-in-Ok-Some-clause-within : goal.returns-in-Ok-Some-clause-within
returns-in-Ok-Some-clause-within c =
    line_within c.args.problem.now c.args.member c.args.goal.now c.args.node.now c.args.lens.now c.args.weights.now _ c.in-Ok-Some.priced.weight c.requires.asked.small
    (some_at c.in-Ok-Some.field-0 c.in-Ok-Some.priced _ c.in-Ok-Some.field-0-is c.in-Ok-Some.ensures.line)
    (some_at c.in-Ok-Some.field-0 c.in-Ok-Some.priced _ c.in-Ok-Some.field-0-is c.in-Ok-Some.ensures.weight)
