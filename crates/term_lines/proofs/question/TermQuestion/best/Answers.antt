use Rattle.term_lines.proofs.FoundLines.{bests_more}
use Rattle.term_lines.proofs.question.TermQuestion.best.Goals as goal

pub returns-clause-best : goal.returns-clause-best
returns-clause-best g c =
    bests_more _ _ _ _ _ (λ line is. (c.in_ok-lens.ensures.same c.args.self.now.node.now line).1 is) (λ line is. (c.in_ok-lens.ensures.same c.args.self.now.node.now line).0 is) c.best_by_width.result c.best_by_width.ensures.best
