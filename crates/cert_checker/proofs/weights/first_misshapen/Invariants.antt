use Rattle.std.proofs.Common.{◌≡◌, ℕ, ◌<◌, Some}
use Rattle.std.specs.Prelude.{slice_get}
use Rattle.roster_model.specs.declared.proof.Lens.{Lens}
use Rattle.roster_model.specs.Lenses.{IsLens}
use Rattle.cert_checker.proofs.weights.first_misshapen.Given as goal

abbrev pub invariant-loop-member : goal.invariant-loop-member
invariant-loop-member l = (m : ℕ) (lens : Lens) → m < l.member → slice_get l.lenses m ≡ Some lens → IsLens l.problem m lens
