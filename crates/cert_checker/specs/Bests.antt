-- Best lines, and what they weigh together.
use Rattle.std.specs.Prelude.{◌≡◌, ℕ, ℤ, pos, neg_ℤ, ◌≤ℤ◌, List, length}
use Rattle.roster_model.specs.declared.problem.Problem.{Problem}
use Rattle.roster_model.specs.declared.goal.Goal.{Goal}
use Rattle.roster_model.specs.declared.node.Decision.{Decision}
use Rattle.roster_model.specs.declared.proof.Lens.{Lens}
use Rattle.roster_model.specs.Lenses.{HasNoLine, AreBestWeights, AreWeightBounds}
use Rattle.roster_model.specs.Weights.{total}
use Rattle.line_lens.specs.LensFaults.{IsLensFault}
use Rattle.cert_checker.specs.declared.refusal.ItemFault.{ItemFault}
use Rattle.cert_checker.specs.declared.refusal.ItemFault.TheVariants as fault
use Rattle.cert_checker.specs.Faults.{IsFirstLineless}

-- no farther than the bound from zero
abbrev pub IsWithin : ℕ → ℤ → Type 0
IsWithin bound z = (neg_ℤ (pos bound) ≤ℤ z) × (z ≤ℤ pos bound)

-- so many best lines, one for each of the first members' lenses, weigh so much together
pub record WeighTogether (problem : Problem) (goal : Goal) (node : List Decision)
    (weights : List ℤ) (lenses : List Lens) (count : ℕ) (sum : ℤ) : Type 0 where
  pub bests : List ℤ
  pub each : length bests ≡ count
  pub best : AreBestWeights problem goal node weights lenses bests
  pub sum_is : sum ≡ total bests

-- the best lines, one for each lens, weigh so much together
abbrev pub LinesWeigh : Problem → Goal → List Decision → List ℤ → List Lens → ℤ → Type 0
LinesWeigh problem goal node weights lenses =
    WeighTogether problem goal node weights lenses (length lenses)

-- so many bounds on what lines weigh, one for each of the first members' lenses, are so much together
pub record BoundTogether (problem : Problem) (goal : Goal) (node : List Decision)
    (weights : List ℤ) (lenses : List Lens) (count : ℕ) (sum : ℤ) : Type 0 where
  pub bounds : List ℤ
  pub each : length bounds ≡ count
  pub bound : AreWeightBounds problem goal node weights lenses bounds
  pub sum_is : sum ≡ total bounds

-- bounds, one for each lens, are so much together
abbrev pub BoundsWeigh : Problem → Goal → List Decision → List ℤ → List Lens → ℤ → Type 0
BoundsWeigh problem goal node weights lenses =
    BoundTogether problem goal node weights lenses (length lenses)

-- the lens of the member has not its shape
abbrev pub IsShapeFault : Problem → ℕ → Lens → ItemFault → Type 0
IsShapeFault problem member lens fault.Index = ⊥
IsShapeFault problem member lens fault.Decided = ⊥
IsShapeFault problem member lens fault.Covered = ⊥
IsShapeFault problem member lens (fault.Undecided q) = ⊥
IsShapeFault problem member lens fault.Fits = ⊥
IsShapeFault problem member lens (fault.Lens k why) =
    (k ≡ member) × IsLensFault problem member lens why
IsShapeFault problem member lens (fault.Line k) = ⊥
IsShapeFault problem member lens (fault.Nothing k) = ⊥
IsShapeFault problem member lens (fault.Sum lines needs) = ⊥
IsShapeFault problem member lens (fault.Width w l) = ⊥

-- no line of the member passes the lens
abbrev pub IsNothingFault : Problem → Goal → List Decision → ℕ → Lens → ItemFault → Type 0
IsNothingFault problem goal node member lens fault.Index = ⊥
IsNothingFault problem goal node member lens fault.Decided = ⊥
IsNothingFault problem goal node member lens fault.Covered = ⊥
IsNothingFault problem goal node member lens (fault.Undecided q) = ⊥
IsNothingFault problem goal node member lens fault.Fits = ⊥
IsNothingFault problem goal node member lens (fault.Lens k why) = ⊥
IsNothingFault problem goal node member lens (fault.Line k) = ⊥
IsNothingFault problem goal node member lens (fault.Nothing k) =
    (k ≡ member) × HasNoLine problem member goal node lens
IsNothingFault problem goal node member lens (fault.Sum lines needs) = ⊥
IsNothingFault problem goal node member lens (fault.Width w l) = ⊥

-- the first member of whom no line passes the lens
abbrev pub IsLinelessFault : Problem → Goal → List Decision → List Lens → ItemFault → Type 0
IsLinelessFault problem goal node lenses fault.Index = ⊥
IsLinelessFault problem goal node lenses fault.Decided = ⊥
IsLinelessFault problem goal node lenses fault.Covered = ⊥
IsLinelessFault problem goal node lenses (fault.Undecided q) = ⊥
IsLinelessFault problem goal node lenses fault.Fits = ⊥
IsLinelessFault problem goal node lenses (fault.Lens k why) = ⊥
IsLinelessFault problem goal node lenses (fault.Line k) = ⊥
IsLinelessFault problem goal node lenses (fault.Nothing k) =
    IsFirstLineless problem goal node lenses k
IsLinelessFault problem goal node lenses (fault.Sum lines needs) = ⊥
IsLinelessFault problem goal node lenses (fault.Width w l) = ⊥
