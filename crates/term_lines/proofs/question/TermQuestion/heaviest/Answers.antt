use Rattle.term_lines.proofs.FoundLines.{bests_more}
use Rattle.term_lines.proofs.question.TermQuestion.heaviest.Goals as goal

pub returns : goal.returns
returns g c = record {
  best = bests_more _ _ _ _ _ (λ line is. (c.in_ok-lens.ensures.same c.args.self.now.node.now line).1 is) (λ line is. (c.in_ok-lens.ensures.same c.args.self.now.node.now line).0 is) c.heaviest_by_width.result c.heaviest_by_width.ensures.best;
}
