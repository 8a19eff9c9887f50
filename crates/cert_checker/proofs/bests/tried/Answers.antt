use Rattle.cert_checker.proofs.Taken.{line_at}
use Rattle.cert_checker.proofs.Together.{line_within}
use Rattle.cert_checker.proofs.bests.tried.Goals as goal

pub returns-in-Ok-Line-clause-within : goal.returns-in-Ok-Line-clause-within
returns-in-Ok-Line-clause-within c =
    line_within c.args.problem.now c.args.member c.args.goal.now c.args.node.now c.args.lens.now c.args.weights.now _ c.in-Ok-Line.priced.weight c.requires.asked.small
    (line_at c.in-Ok-Line.field-0 c.in-Ok-Line.priced _ c.in-Ok-Line.field-0-is c.in-Ok-Line.ensures.line)
    (line_at c.in-Ok-Line.field-0 c.in-Ok-Line.priced _ c.in-Ok-Line.field-0-is c.in-Ok-Line.ensures.weight)
