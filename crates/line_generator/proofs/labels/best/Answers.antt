use Rattle.take_graphs.proofs.TakesOfLines.{hour_from_standard}
use Rattle.term_lines.proofs.FoundLines.{best_more}
use Rattle.line_generator.proofs.labels.best.Goals as goal

pub returns-in_err-best-clause-steps : goal.returns-in_err-best-clause-steps
returns-in_err-best-clause-steps g c standard =
    (c.best.ensures.few c.plain_terms-terms.ensures.none (hour_from_standard c.args.problem.now c.args.member c.args.lens.now standard)).steps

pub returns-clause-steps : goal.returns-clause-steps
returns-clause-steps g c standard =
    (c.best.ensures.few c.plain_terms-terms.ensures.none (hour_from_standard c.args.problem.now c.args.member c.args.lens.now standard)).steps

pub returns-clause-line : goal.returns-clause-line
returns-clause-line g c =
    let same = c.plain_terms-terms.ensures.same c.args.node.now in
    (best_more _ _ _ _ _ (λ line is. (same line).1 is) (λ line is. (same line).0 is) c.in_ok-best.field-0 c.in_ok-best.ensures.best).line

pub returns-clause-most : goal.returns-clause-most
returns-clause-most g c =
    let same = c.plain_terms-terms.ensures.same c.args.node.now in
    (best_more _ _ _ _ _ (λ line is. (same line).1 is) (λ line is. (same line).0 is) c.in_ok-best.field-0 c.in_ok-best.ensures.best).most

pub returns-clause-none : goal.returns-clause-none
returns-clause-none g c =
    let same = c.plain_terms-terms.ensures.same c.args.node.now in
    (best_more _ _ _ _ _ (λ line is. (same line).1 is) (λ line is. (same line).0 is) c.in_ok-best.field-0 c.in_ok-best.ensures.best).none

pub returns-in_err-best-clause-fewer : goal.returns-in_err-best-clause-fewer
returns-in_err-best-clause-fewer g c hour = (c.best.ensures.few c.plain_terms-terms.ensures.none hour).fewer

pub returns-clause-fewer : goal.returns-clause-fewer
returns-clause-fewer g c hour = (c.best.ensures.few c.plain_terms-terms.ensures.none hour).fewer
