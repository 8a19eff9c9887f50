use Rattle.std.proofs.Common.{◌∙◌}
use Rattle.cert_checker.proofs.Recalls.{sheet_right}
use Rattle.cert_checker.proofs.recall.sheet_of.Goals as goal

pub returns : goal.returns
returns c = record {
  right = λ problem. sheet_right problem c.args.weights.now c.from_vec.result c.new-answers.result c.add.new.answers c.args.answer
      c.new-answers.ensures (c.from_vec.ensures.elements ∙ c.in_ok-from_slice.ensures.items) c.add.ensures.right;
}
