use Rattle.std.proofs.Common.{◌≡◌, ℕ, ℤ, List, Some, refl, subst}
use Rattle.term_lines.specs.Overs.{IsBestAnswer, IsOverAnswer}
use Rattle.term_lines.specs.declared.above.Over.{Over}
use Rattle.term_lines.specs.declared.above.Over.TheVariants.{Line}
use Rattle.term_lines.specs.declared.above.Sought.{Sought}
use Rattle.term_lines.specs.declared.above.Wanted.TheVariants.{Heaviest}
use Rattle.term_lines.specs.declared.priced.PricedLine.{PricedLine}
use Rattle.term_lines.proofs.LineWeights.{none_heavy}
use Rattle.line_generator.proofs.question.Question.heaviest_of_classes.Goals as goal

-- a heaviest line above a bound is a best one
heaviest_best : {Given Lines : List ℕ → Type 0} {weights : List ℤ} {sought : Sought} (answer : Over) (b : PricedLine)
    → IsOverAnswer Given Lines weights sought answer → answer ≡ Line b → sought.wanted ≡ Heaviest → IsBestAnswer Given Lines weights (Some b)
heaviest_best {Given} {Lines} {weights} {sought} answer b told is heaviest =
    let says : IsOverAnswer Given Lines weights sought (Line b) = subst (λ (o : Over). IsOverAnswer Given Lines weights sought o) is told in
    record { line = says.line; weight = says.weight; most = says.most heaviest; none = tt }

pub returns-in-Line : goal.returns-in-Line
returns-in-Line g c = record { best = heaviest_best c.in_ok-over.over c.in-Line.priced c.in_ok-over.ensures.over c.in-Line.is refl }

pub returns-in-Nothing : goal.returns-in-Nothing
returns-in-Nothing g c =
    let q = c.args.self.now in
    record {
      best = record {
        line = tt;
        weight = tt;
        most = tt;
        none = none_heavy q.problem.now q.member q.goal.now q.node.now q.lens.now q.weights.now c.requires.asked.small (c.in_ok-over.ensures.over.none c.in-Nothing.is);
      };
    }
