-- Lenses that look at the same, and track no bids that do not matter.
use Rattle.std.specs.Prelude.{◌≡◌, ℕ, ◌⊎◌}
use Rattle.roster_model.specs.declared.problem.Problem.{Problem}
use Rattle.roster_model.specs.declared.proof.Lens.{Lens}
use Rattle.lens_classes.specs.declared.terms.Terms.{Terms}
use Rattle.line_lens.specs.Loose.{AsksNothing}

-- the second lens is as the first, or tracks nothing where the terms ask nothing of what the first tracks
pub record IsNarrow (problem : Problem) (member : ℕ) (lens : Lens) (terms : Terms) (narrow : Lens) : Type 0 where
  pub grain : narrow.grain ≡ lens.grain
  pub tracked : (narrow.tracked ≡ lens.tracked) ⊎ (AsksNothing problem member lens terms × (narrow.tracked ≡ 0))
  pub free30 : narrow.free30 ≡ lens.free30
  pub days : narrow.days ≡ lens.days
  pub whole : narrow.whole ≡ lens.whole
  pub windows : narrow.windows ≡ lens.windows
