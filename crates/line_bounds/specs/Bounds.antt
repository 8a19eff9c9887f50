-- Bounds on what a member's lines weigh that pass a lens of its shape.
use Rattle.std.specs.Prelude.{ℕ, ℤ, List}
use Rattle.roster_model.specs.declared.problem.Problem.{Problem}
use Rattle.roster_model.specs.declared.goal.Goal.{Goal}
use Rattle.roster_model.specs.declared.node.Decision.{Decision}
use Rattle.roster_model.specs.declared.proof.Lens.{Lens}
use Rattle.roster_model.specs.Lenses.{IsLens, IsMostWeight, IsWeightBound}

-- the lens has its shape, and no line that passes weighs more than the bound
pub record IsShapedMost (problem : Problem) (member : ℕ) (goal : Goal) (node : List Decision) (lens : Lens) (weights : List ℤ) (bound : ℤ) : Type 0 where
  pub shape : IsLens problem member lens
  pub most : IsMostWeight problem member goal node lens weights bound

-- and some line does pass
pub record IsShapedBound (problem : Problem) (member : ℕ) (goal : Goal) (node : List Decision) (lens : Lens) (weights : List ℤ) (bound : ℤ) : Type 0 where
  pub shape : IsLens problem member lens
  pub is_bound : IsWeightBound problem member goal node lens weights bound
