use Rattle.lens_classes.specs.Classes.{is_in}
use Rattle.line_generator.proofs.ClassBests.{class_keeps, class_passes, term_question}
use Rattle.term_lines.proofs.FoundLines.{at_none, at_some}
use Rattle.term_lines.proofs.Overs.{overs_more}
use Rattle.line_generator.proofs.question.Question.over_of_class.Goals as goal

pub returns-in_default-clause-over : goal.returns-in_default-clause-over
returns-in_default-clause-over g c = record {
  line = tt;
  weight = tt;
  above = tt;
  most = λ heaviest. tt;
  none = λ told line is. absurd (at_none _ _ c.in_default.is c.in_ok-class.ensures.none c.args.self.now.node.now line is);
}

pub over-requires : goal.over-requires
over-requires g c =
    let q = c.args.self.now in
    record {
      asked = term_question q.problem.now q.member q.goal.now q.node.now q.lens.now q.weights.now (is_in c.args.granted) c.in-Some.class c.requires.asked (at_some _ _ _ c.in-Some.is c.in_ok-class.ensures.class);
    }

pub returns-clause-over : goal.returns-clause-over
returns-clause-over g c =
    let q = c.args.self.now in
    let of = at_some _ _ _ c.in-Some.is c.in_ok-class.ensures.class in
    overs_more _ _ _ _ _ _
    (λ line is. class_passes q.problem.now q.member q.goal.now q.node.now q.lens.now q.weights.now (is_in c.args.granted) c.in-Some.class line c.requires.asked.shape of is)
    (λ line is. class_keeps q.problem.now q.member q.goal.now q.node.now q.lens.now q.weights.now (is_in c.args.granted) c.in-Some.class line of is)
    c.over.result c.over.ensures.over
