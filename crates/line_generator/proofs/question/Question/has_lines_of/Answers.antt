use Rattle.lens_classes.specs.Classes.{is_in}
use Rattle.line_generator.proofs.SparedClasses.{lines_of, none_lost}
use Rattle.line_generator.proofs.question.Question.has_lines_of.Goals as goal

pub returns : goal.returns
returns c = record {
  lines = λ e set terms. lines_of c.args.self.now.problem.now c.args.self.now.member c.args.self.now.goal.now c.args.self.now.lens.now c.args.narrow.now (is_in c.args.granted) set c.in-Some.wide c.args.terms.now
      c.in-Some.ensures.class c.in-Some.ensures.terms (c.loses_implied.ensures.kept (none_lost c.loses_implied.result e)) terms c.requires.narrow (c.is_wider.ensures.wider c.if-not-is_wider.false);
}
