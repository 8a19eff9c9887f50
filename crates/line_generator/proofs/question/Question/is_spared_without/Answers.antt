use Rattle.lens_classes.specs.Classes.{is_in}
use Rattle.line_generator.specs.ClassLines.{spread}
use Rattle.line_generator.proofs.SparedClasses.{lines_at}
use Rattle.line_generator.proofs.question.Question.is_spared_without.Goals as goal

pub returns : goal.returns
returns c = record {
  spared = λ e. lines_at c.args.self.now.problem.now c.args.self.now.member c.args.self.now.goal.now c.args.self.now.lens.now c.args.bids c.in-Some.less c.args.number c.spread-granted.result
      c.in-Some.ensures.less c.spread-granted.ensures.spread (c.has_lines_of.ensures.lines e (spread (is_in c.args.bids) c.args.number) c.requires.terms);
}
