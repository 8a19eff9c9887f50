-- Lenses that have their shape have no fault.
use Rattle.std.proofs.Common.{ℕ, sym, ◌∙◌, arith}
use Rattle.std.proofs.lemmas.Bool.{false≢true}
use Rattle.roster_model.specs.declared.problem.Problem.{Problem}
use Rattle.roster_model.specs.declared.proof.Lens.{Lens}
use Rattle.roster_model.specs.Lenses.{IsLens, IsWindow}
use Rattle.line_lens.specs.declared.lens_fault.LensFault.{LensFault}
use Rattle.line_lens.specs.declared.lens_fault.LensFault.TheVariants as lens_fault
use Rattle.line_lens.specs.LensFaults.{IsLensFault}
use Rattle.weight_certificates.proofs.Facts.{all_at}

pub lens_excluded : (problem : Problem) (m : ℕ) (lens : Lens) (why : LensFault)
    → IsLens problem m lens → IsLensFault problem m lens why → ⊥
lens_excluded problem m lens (lens_fault.Untrackable bid) ok h = false≢true (sym h.wrong ∙ ok.trackable bid h.tracked)
lens_excluded problem m lens (lens_fault.Windows count) ok h = omega (arith, h.many, h.count_is, ok.few_windows)
lens_excluded problem m lens (lens_fault.Window index) ok h =
    h.first.wrong (all_at (IsWindow problem) lens.windows index h.first.window ok.windows h.first.here)
lens_excluded problem m lens lens_fault.Grain ok h = false≢true (sym h.wrong ∙ ok.grain)
