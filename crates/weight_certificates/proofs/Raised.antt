-- Bounds below what any line weighs.
use Rattle.std.proofs.Common.{◌≡◌, ℕ, List, [], ◌∷◌, ap, refl, ◌∙◌, arith}
use Rattle.std.specs.Prelude.{ℤ, pos, neg_ℤ, replicate}
use Rattle.std.proofs.lemmas.Int.{ints}
use Rattle.roster_model.specs.declared.problem.Problem.{Problem}
use Rattle.roster_model.specs.declared.goal.Goal.{Goal}
use Rattle.roster_model.specs.declared.node.Decision.{Decision}
use Rattle.roster_model.specs.declared.proof.Lens.{Lens}
use Rattle.roster_model.specs.Lenses.{HasNoLine, IsMostWeight}
use Rattle.roster_model.specs.Weights.{weight_at, weight_of}
use Rattle.weight_certificates.proofs.Evened.{get_or-replicate}

-- lines weigh nothing under weights of 0
weight_of-zeros : (weights : List ℤ) (line : List ℕ) → ((p : ℕ) → weight_at weights p ≡ pos 0) → weight_of weights line ≡ pos 0
unfolding weight_of
weight_of-zeros weights [] zeros = refl
weight_of-zeros weights (p ∷ line) zeros = omega (arith, ints, zeros p, weight_of-zeros weights line zeros)

pub zeros_at : (weights : List ℤ) (n : ℕ) → weights ≡ replicate n (pos 0) → (p : ℕ) → weight_at weights p ≡ pos 0
zeros_at weights n zeros p = ap (λ (xs : List ℤ). weight_at xs p) zeros ∙ get_or-replicate n p

-- where no line weighs more than -1, there is none
pub none_above : (problem : Problem) (member : ℕ) (goal : Goal) (node : List Decision) (lens : Lens) (weights : List ℤ)
    → ((p : ℕ) → weight_at weights p ≡ pos 0) → IsMostWeight problem member goal node lens weights (neg_ℤ (pos 1))
    → HasNoLine problem member goal node lens
none_above problem member goal node lens weights zeros most line passes =
    let least = most line passes in
    omega (arith, ints, least, weight_of-zeros weights line zeros)
