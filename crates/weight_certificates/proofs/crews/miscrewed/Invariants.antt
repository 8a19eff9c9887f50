use Rattle.std.proofs.Common.{ℕ, ◌<◌}
use Rattle.roster_model.specs.Closing.{IsMiscrewed}
use Rattle.weight_certificates.proofs.crews.miscrewed.Given as goal

abbrev pub invariant-loop-pairing : goal.invariant-loop-pairing
invariant-loop-pairing l = (p : ℕ) → p < l.pairing → IsMiscrewed l.problem l.node p → ⊥
