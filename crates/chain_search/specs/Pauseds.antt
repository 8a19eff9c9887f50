-- Resources that hold a last free block.
use Rattle.std.specs.Prelude.{◌≡◌, Option, Some}
use Rattle.label_lattice.specs.declared.pauses.Pause.{Pause}
use Rattle.label_lattice.specs.declared.pauses.PauseStep.{PauseStep}
use Rattle.label_lattice.specs.Pair.{pair_extend}
use Rattle.label_lattice.specs.Pause.{pause_extend}
use Rattle.chain_search.specs.PartLaws.{parts_of}

-- where a step extends the resource, it extends the last free block
abbrev pub PausedLaw : {R S : Type 0} → (R → S → Option R) → (R → Pause) → (S → PauseStep) → Type 0
PausedLaw {R} {S} extend pause pause_step = (a b : R) (step : S) → extend a step ≡ Some b → pause_extend (pause a) (pause_step step) ≡ Some (pause b)

pub first_paused : {B T : Type 0} (extend : B → T → Option B) → PausedLaw (pair_extend pause_extend extend) (λ a. a.first) (λ step. step.0)
first_paused extend a b step is = (parts_of (pause_extend a.first step.0) (extend a.second step.1) b is).first

pub later_paused : {A B S T : Type 0} (extend_a : A → S → Option A) (extend : B → T → Option B) (pause : B → Pause) (pause_step : T → PauseStep)
    → PausedLaw extend pause pause_step → PausedLaw (pair_extend extend_a extend) (λ a. pause a.second) (λ step. pause_step step.1)
later_paused extend_a extend pause pause_step law a b step is = law a.second b.second step.1 (parts_of (extend_a a.first step.0) (extend a.second step.1) b is).second
