-- What taking an item makes of a label.
use Rattle.std.specs.Prelude.{ℕ}
use Rattle.roster_model.specs.Lenses.{floor_to, ceil_to}
use Rattle.roster_model.specs.declared.problem.Problem.{Problem}
use Rattle.roster_model.specs.declared.proof.Lens.{Lens}
use Rattle.lens_classes.specs.declared.terms.Terms.{Terms}
use Rattle.take_graphs.specs.TakeLabels.{TakeStepOf}
use Rattle.line_items.proofs.ItemSteps.{credit_at, span_step, mask_step, pause_step, nights_step, daily_step, usage_step}

-- what taking the item of place t makes of a label, on the way from place i to place j
abbrev pub take_step : {N : ℕ} → Problem → ℕ → Lens → Terms → (ℕ → ℕ) → (ℕ → ℕ) → (ℕ → ℕ) → ℕ → ℕ → ℕ → TakeStepOf N
take_step problem member lens terms adds clear set t i j = (
  span_step
      (credit_at problem (floor_to lens.grain) adds)
      (credit_at problem (ceil_to lens.grain) adds)
      terms.high i t,
  (
    mask_step clear set i t,
    (
      pause_step problem member lens adds t i j,
      (
        daily_step problem member lens terms adds t i j,
        (nights_step problem member lens adds t i j, usage_step problem member lens adds i t),
      ),
    ),
  ),
)
