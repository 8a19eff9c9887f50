use Rattle.term_lines.proofs.FoundLines.{best_more}
use Rattle.line_generator.proofs.climbs.heaviest.Goals as goal

pub returns-clause-line : goal.returns-clause-line
returns-clause-line g c =
    let same = c.plain_terms-terms.ensures.same c.args.node.now in
    (best_more _ _ _ _ _ (λ line is. (same line).1 is) (λ line is. (same line).0 is) c.in_ok-heaviest.field-0 c.in_ok-heaviest.ensures.best).line

pub returns-clause-most : goal.returns-clause-most
returns-clause-most g c =
    let same = c.plain_terms-terms.ensures.same c.args.node.now in
    (best_more _ _ _ _ _ (λ line is. (same line).1 is) (λ line is. (same line).0 is) c.in_ok-heaviest.field-0 c.in_ok-heaviest.ensures.best).most

pub returns-clause-none : goal.returns-clause-none
returns-clause-none g c =
    let same = c.plain_terms-terms.ensures.same c.args.node.now in
    (best_more _ _ _ _ _ (λ line is. (same line).1 is) (λ line is. (same line).0 is) c.in_ok-heaviest.field-0 c.in_ok-heaviest.ensures.best).none
