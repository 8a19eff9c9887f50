use Rattle.line_bounds.proofs.Obeyed.{kept_obeys_turned}
use Rattle.line_bounds.proofs.serving.obeys.Goals as goal

pub returns : goal.returns
returns c = record {
  obeys = λ yes.
      kept_obeys_turned c.args.node.now c.decisions.result.now c.args.member c.args.line.now c.decisions.ensures.order (c.keeps_all.ensures.keeps yes);
}
