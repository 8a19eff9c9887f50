use Rattle.term_lines.proofs.Overs.{overs_more}
use Rattle.line_generator.proofs.question.Question.over.Goals as goal

pub returns-clause-over : goal.returns-clause-over
returns-clause-over g c =
    let same = c.plain_terms-terms.ensures.same c.args.self.now.node.now in
    overs_more _ _ _ _ _ _ (λ line is. (same line).1 is) (λ line is. (same line).0 is) c.over.result c.over.ensures.over
