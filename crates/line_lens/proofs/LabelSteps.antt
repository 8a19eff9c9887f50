-- What the way from one item to another makes of a label.
use Rattle.std.specs.Prelude.{ℕ}
use Rattle.roster_model.specs.Lenses.{floor_to, ceil_to}
use Rattle.roster_model.specs.declared.problem.Problem.{Problem}
use Rattle.roster_model.specs.declared.proof.Lens.{Lens}
use Rattle.lens_classes.specs.declared.terms.Terms.{Terms}
use Rattle.line_lens.specs.LineLabels.{StepOf}
use Rattle.line_items.proofs.ItemSteps.{day_step, credit_at, span_step, mask_step, free_step, night_step, usage_step}

-- what the way from one place to another makes of a label
abbrev pub label_step : {N : ℕ} → Problem → ℕ → Lens → Terms → (ℕ → ℕ) → (ℕ → ℕ) → (ℕ → ℕ) → ℕ → ℕ → StepOf N
label_step problem member lens terms adds clear set i j = (
  span_step
      (credit_at problem (floor_to lens.grain) adds)
      (credit_at problem (ceil_to lens.grain) adds)
      terms.high i j,
  (
    mask_step clear set i j,
    (
      free_step problem member lens adds i j,
      (
        day_step problem member lens terms adds i j,
        (night_step problem member lens adds i j, usage_step problem member lens adds i j),
      ),
    ),
  ),
)
