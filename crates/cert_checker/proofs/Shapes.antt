-- Lenses that have their shape, and faults of one lens among the faults of items.
use Rattle.std.proofs.Common.{◌≡◌, ℕ, List, Some, sym, subst, ◌∙◌, arith}
use Rattle.std.specs.Prelude.{All, ℤ, slice_get}
use Rattle.std.proofs.lemmas.Bool.{false≢true}
use Rattle.std.proofs.lemmas.Option.{get_or_from_slice_get, slice_get_within}
use Rattle.roster_model.specs.declared.problem.Problem.{Problem}
use Rattle.roster_model.specs.declared.goal.Goal.{Goal}
use Rattle.roster_model.specs.declared.node.Decision.{Decision}
use Rattle.roster_model.specs.declared.proof.Lens.{Lens}
use Rattle.roster_model.specs.Lenses.{IsLens, IsBestWeight, IsWindow}
use Rattle.line_lens.specs.declared.lens_fault.LensFault.{LensFault}
use Rattle.line_lens.specs.declared.lens_fault.LensFault.TheVariants as lens_fault
use Rattle.line_lens.specs.LensFaults.{IsLensFault}
use Rattle.cert_checker.specs.Faults.{HasLine}

-- what is true of each element is true of one that is read
pub all_at : {X : Type 0} (P : X → Type 0) (xs : List X) (k : ℕ) (x : X) → All P xs → slice_get xs k ≡ Some x → P x
all_at P xs k x all e = subst P (get_or_from_slice_get xs k x x e) (all k x (slice_get_within xs k x e))

-- a lens of its shape has no fault
pub lens_excluded : (problem : Problem) (m : ℕ) (lens : Lens) (why : LensFault)
    → IsLens problem m lens → IsLensFault problem m lens why → ⊥
lens_excluded problem m lens (lens_fault.Untrackable bid) ok h = false≢true (sym h.wrong ∙ ok.trackable bid h.tracked)
lens_excluded problem m lens (lens_fault.Windows count) ok h = omega (arith, h.many, h.count_is, ok.few_windows)
lens_excluded problem m lens (lens_fault.Window index) ok h =
    h.first.wrong (all_at (IsWindow problem) lens.windows index h.first.window ok.windows h.first.here)
lens_excluded problem m lens lens_fault.Grain ok h = false≢true (sym h.wrong ∙ ok.grain)

-- where a line is the best, there is one
pub has_line : (problem : Problem) (goal : Goal) (node : List Decision) (m : ℕ) (lens : Lens) (weights : List ℤ) (best : ℤ)
    → IsLens problem m lens → IsBestWeight problem m goal node lens weights best → HasLine problem goal node m lens
has_line problem goal node m lens weights best shape is = record { shape = shape; line = is.attained.0; passes = is.attained.1 }
