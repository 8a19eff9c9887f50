use Rattle.line_bounds.proofs.Passing.{serving_passes}
use Rattle.line_bounds.proofs.over.has_line.Goals as goal

pub returns-then-branch : goal.returns-then-branch
returns-then-branch c = record {
  line = λ yes shape.
      serving_passes c.args.problem.now c.args.member c.args.goal.now c.args.node.now c.args.lens.now c.in-Some.line.now
      (c.in_ok-is_serving.ensures.serving c.if-branch.true) shape;
}
