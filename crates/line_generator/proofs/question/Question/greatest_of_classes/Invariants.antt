use Rattle.std.proofs.Common.{◌≡◌}
use Rattle.std.specs.Prelude.{IfSome}
use Rattle.roster_model.specs.Weights.{weight_of}
use Rattle.lens_classes.specs.Classes.{is_in}
use Rattle.line_generator.specs.ClassLines.{AllBelow, AtMost}
use Rattle.line_generator.specs.Questions.{Passes}
use Rattle.line_generator.proofs.question.Question.greatest_of_classes.Given as goal

abbrev pub invariant-loop-number : goal.invariant-loop-number
invariant-loop-number g l = record {
  line : IfSome l.best (λ b. Passes l.self b.line);
  weight : IfSome l.best (λ b. weight_of l.self.weights.now b.line ≡ b.weight);
  most : AllBelow l.self.problem.now l.self.member l.self.goal.now l.self.node.now l.self.lens.now l.self.weights.now (is_in l.bids) l.number (AtMost l.best);
}
