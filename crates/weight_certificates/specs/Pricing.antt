-- Heaviest lines of the members.
use Rattle.std.specs.Prelude.{◌≡◌, ℕ, ◌<◌, ℤ, List, length, slice_get, Some}
use Rattle.roster_model.specs.declared.problem.Problem.{Problem}
use Rattle.roster_model.specs.declared.goal.Goal.{Goal}
use Rattle.roster_model.specs.declared.node.Decision.{Decision}
use Rattle.roster_model.specs.declared.proof.Lens.{Lens}
use Rattle.roster_model.specs.Rosters.{line_at}
use Rattle.roster_model.specs.Lenses.{AreLenses, HasNoLine, IsLensLine, IsMostWeight, IsStandardLens}
use Rattle.roster_model.specs.Effort.{AreStandardLenses}
use Rattle.roster_model.specs.Weights.{weight_of}
use Rattle.line_bounds.specs.Bounds.{IsShapedBound}

-- a line that passes the lens, and none that does weighs more
pub record IsHeaviestLine (problem : Problem) (member : ℕ) (goal : Goal) (node : List Decision) (lens : Lens) (weights : List ℤ) (line : List ℕ) : Type 0 where
  pub passes : IsLensLine problem member goal node lens line
  pub most : IsMostWeight problem member goal node lens weights (weight_of weights line)

-- the standard lens of each member
pub record AreStandard (problem : Problem) (lenses : List Lens) : Type 0 where
  pub per_member : length lenses ≡ length problem.base.members
  pub standard : AreStandardLenses problem lenses
  pub shapes : AreLenses problem lenses

-- a heaviest line of each of the first members
pub record AreHeaviest (problem : Problem) (goal : Goal) (node : List Decision) (weights : List ℤ) (lenses : List Lens) (count : ℕ) (round : List (List ℕ)) : Type 0 where
  pub lines : length round ≡ count
  pub each :
      (m : ℕ) (lens : Lens) → m < count → slice_get lenses m ≡ Some lens
      → IsHeaviestLine problem m goal node lens weights (line_at round m)

-- no line of the member passes the standard lens
pub record IsWithoutLine (problem : Problem) (goal : Goal) (node : List Decision) (member : ℕ) : Type 0 where
  pub in_range : member < length problem.base.members
  pub none : (lens : Lens) → IsStandardLens problem member lens → HasNoLine problem member goal node lens

-- bounds on what the lines of the first members weigh, each by a lens of its shape
abbrev pub AreShapedBounds : Problem → Goal → List Decision → List ℤ → List Lens → List ℤ → ℕ → Type 0
AreShapedBounds problem goal node weights lenses bounds count =
    (m : ℕ) (lens : Lens) (bound : ℤ) → m < count → slice_get lenses m ≡ Some lens → slice_get bounds m ≡ Some bound
    → IsShapedBound problem m goal node lens weights bound
