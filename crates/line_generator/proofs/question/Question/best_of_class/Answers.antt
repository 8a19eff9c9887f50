use Rattle.lens_classes.specs.Classes.{is_in}
use Rattle.line_generator.proofs.ClassBests.{class_keeps, class_passes, term_question}
use Rattle.term_lines.proofs.FoundLines.{at_none, at_some, bests_more}
use Rattle.line_generator.proofs.question.Question.best_of_class.Goals as goal

pub returns-in_default : goal.returns-in_default
returns-in_default g c = record {
  best = record { line = tt; weight = tt; most = tt; none = λ line is. at_none _ _ c.in_default.is c.in_ok-class.ensures.none c.args.self.now.node.now line is };
}

pub best_by-requires : goal.best_by-requires
best_by-requires g c =
    let q = c.args.self.now in
    record {
      asked = term_question q.problem.now q.member q.goal.now q.node.now q.lens.now q.weights.now (is_in c.args.granted) c.in-Some.class c.requires.asked (at_some _ _ _ c.in-Some.is c.in_ok-class.ensures.class);
    }

pub returns : goal.returns
returns g c =
    let q = c.args.self.now in
    let of = at_some _ _ _ c.in-Some.is c.in_ok-class.ensures.class in
    record {
      best = bests_more _ _ _ _ _
          (λ line is. class_passes q.problem.now q.member q.goal.now q.node.now q.lens.now q.weights.now (is_in c.args.granted) c.in-Some.class line c.requires.asked.shape of is)
          (λ line is. class_keeps q.problem.now q.member q.goal.now q.node.now q.lens.now q.weights.now (is_in c.args.granted) c.in-Some.class line of is)
          c.best_by.result c.best_by.ensures.best;
    }
