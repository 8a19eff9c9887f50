-- What a search for a member's line is asked of the lines that pass a lens.
use Rattle.std.specs.Prelude.{◌≡◌, ℕ, ℤ, ◌<◌, ◌^◌, List, length}
use Rattle.lens_classes.specs.declared.terms.Terms.{Terms}
use Rattle.roster_model.specs.declared.goal.Goal.{Goal}
use Rattle.roster_model.specs.declared.node.Decision.{Decision}
use Rattle.roster_model.specs.declared.problem.Problem.{Problem}
use Rattle.roster_model.specs.declared.proof.Lens.{Lens}
use Rattle.roster_model.specs.Goals.{IsGoal, IsNode}
use Rattle.roster_model.specs.Lenses.{IsLens, IsLensLine}
use Rattle.roster_model.specs.Weights.{AreSmallWeights}
use Rattle.line_generator.specs.declared.question.Question.{Question}

-- a member, a goal, a lens of either kind, and a small weight for each pairing
pub record IsQuestionOf (problem : Problem) (member : ℕ) (goal : Goal) (node : List Decision) (lens : Lens) (weights : List ℤ) : Type 0 where
  pub in_range : member < length problem.base.members
  pub asks : IsGoal problem goal
  pub decisions : IsNode problem node
  pub shape : IsLens problem member lens
  pub per_pairing : length weights ≡ length problem.base.pairings
  pub small : AreSmallWeights weights

-- the same of what a question holds
abbrev pub IsQuestion : Question → Type 0
IsQuestion asked =
    IsQuestionOf asked.problem.now asked.member asked.goal.now asked.node.now asked.lens.now asked.weights.now

-- the same where it is not known whether the lens has its shape
pub record IsUnchecked (asked : Question) : Type 0 where
  pub in_range : asked.member < length asked.problem.now.base.members
  pub asks : IsGoal asked.problem.now asked.goal.now
  pub decisions : IsNode asked.problem.now asked.node.now
  pub listed : length asked.lens.now.windows < 2 ^ 32
  pub per_pairing : length asked.weights.now ≡ length asked.problem.now.base.pairings
  pub small : AreSmallWeights asked.weights.now

-- the lines that are asked for
abbrev pub Passes : Question → List ℕ → Type 0
Passes asked = IsLensLine asked.problem.now asked.member asked.goal.now asked.node.now asked.lens.now

-- the same terms with a least credit of 0
abbrev pub without_low : Terms → Terms
without_low terms = record {
  low = 0;
  high = terms.high;
  days_off = terms.days_off;
  floor = terms.floor;
  asked = terms.asked;
  counted = terms.counted;
}
