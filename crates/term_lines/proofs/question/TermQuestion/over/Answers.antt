use Rattle.term_lines.proofs.Overs.{overs_more}
use Rattle.term_lines.proofs.question.TermQuestion.over.Goals as goal

pub returns-clause-over : goal.returns-clause-over
returns-clause-over g c =
    overs_more _ _ _ _ _ _ (λ line is. (c.in_ok-lens.ensures.same c.args.self.now.node.now line).1 is) (λ line is. (c.in_ok-lens.ensures.same c.args.self.now.node.now line).0 is) c.over_by_width.result c.over_by_width.ensures.over
