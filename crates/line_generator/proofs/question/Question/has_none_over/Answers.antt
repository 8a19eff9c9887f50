use Rattle.std.proofs.Common.{sym, subst}
use Rattle.lens_classes.specs.TermLines.{IsTermLine}
use Rattle.lens_classes.specs.declared.terms.Terms.{Terms}
use Rattle.line_generator.proofs.LooseLines.{loosened}
use Rattle.line_generator.proofs.question.Question.has_none_over.Goals as goal

pub returns-clause-none : goal.returns-clause-none
returns-clause-none g c = λ told line is.
    let q = c.args.self.now in
    let kept = c.plain_terms.result in
    let keeps : IsTermLine q.problem.now q.member q.node.now q.lens.now kept line = (c.plain_terms.ensures.same q.node.now line).0 is in
    let loose = subst (λ (t : Terms). IsTermLine q.problem.now q.member q.node.now q.lens.now t line) (sym c.without_low-terms.ensures.loose)
    (loosened q.problem.now q.member q.node.now q.lens.now kept line keeps) in
    c.in_ok-answer.ensures.over.none (c.is_nothing.ensures.nothing (cc told)) line loose
