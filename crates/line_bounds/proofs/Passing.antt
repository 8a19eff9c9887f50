-- Lines that serve pass.
use Rattle.std.proofs.Common.{ℕ, List}
use Rattle.roster_model.specs.declared.problem.Problem.{Problem}
use Rattle.roster_model.specs.declared.goal.Goal.{Goal}
use Rattle.roster_model.specs.declared.node.Decision.{Decision}
use Rattle.roster_model.specs.declared.proof.Lens.{Lens}
use Rattle.roster_model.specs.Lenses.{HasSomeLine, IsLens}
use Rattle.roster_model.proofs.Relaxation.{relaxation}
use Rattle.line_bounds.specs.Serving.{IsServing}

-- a line that serves at the node passes each lens of its member
pub serving_passes : (problem : Problem) (member : ℕ) (goal : Goal) (node : List Decision) (lens : Lens) (line : List ℕ)
    → IsServing problem goal node member line → IsLens problem member lens → HasSomeLine problem member goal node lens
serving_passes problem member goal node lens line is shape =
    (line, relaxation problem member goal node lens line shape is.serves.legal is.serves.meets is.obeys)
