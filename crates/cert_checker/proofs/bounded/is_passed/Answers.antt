use Rattle.line_bounds.proofs.Passing.{serving_passes}
use Rattle.cert_checker.proofs.bounded.is_passed.Goals as goal

pub returns-then-branch : goal.returns-then-branch
returns-then-branch c =
    let serving = c.in_ok-is_any_serving.ensures.serving c.if-branch.true in
    record {
      line = λ yes.
          serving_passes c.args.problem.now c.args.member c.args.goal.now c.args.node.now c.args.lens.now serving.0 serving.1 c.requires.shape;
    }
