-- Bounds on what the lines of all members weigh: one more, their sum, and what they say where they are less than the needs.
use Rattle.std.proofs.Common.{◌≡◌, ℕ, zero, suc, ◌+◌, ◌<◌, ◌≤◌, List, [], ◌∷◌, length, take, get_or, Some, ap, sym, subst, ◌∙◌, arith, inl, inr}
use Rattle.std.specs.Prelude.{ℤ, pos, ◌+ℤ◌, ◌*ℤ◌, ◌<ℤ◌, slice_get}
use Rattle.std.proofs.lemmas.Bool.{cases_lt}
use Rattle.std.proofs.lemmas.Int.{ints}
use Rattle.std.proofs.lemmas.Option.{slice_get-get_or, slice_get_within}
use Rattle.roster_model.specs.declared.problem.Problem.{Problem}
use Rattle.roster_model.specs.declared.goal.Goal.{Goal}
use Rattle.roster_model.specs.declared.node.Decision.{Decision}
use Rattle.roster_model.specs.declared.proof.Lens.{Lens}
use Rattle.roster_model.specs.Rosters.{need_of}
use Rattle.roster_model.specs.Lenses.{IsOutweighed}
use Rattle.roster_model.specs.Weights.{AreSmallWeights, weight_at, sum_below, needed_weight, total}
use Rattle.roster_model.proofs.Sums.{sum_below-same, product-comm}
use Rattle.line_bounds.specs.Bounds.{IsShapedBound}
use Rattle.weight_certificates.specs.Rows as rows
use Rattle.weight_certificates.specs.Pricing.{AreShapedBounds}

-- the sum of one more
taken : (xs : List ℤ) (k : ℕ) (x : ℤ) → slice_get xs k ≡ Some x → total (take (suc k) xs) ≡ total (take k xs) +ℤ x
taken [] k x e = absurd (cc e)
taken (y ∷ ys) zero x e = let same : y ≡ x = cc e in omega (arith, ints, same)
taken (y ∷ ys) (suc k) x e = let rest = taken ys k x e in omega (arith, ints, rest)

pub total-take : (xs : List ℤ) (k : ℕ) (x : ℤ) → slice_get xs k ≡ Some x → total (take (k + 1) xs) ≡ total (take k xs) +ℤ x
total-take xs k x e = let next : k + 1 ≡ suc k = omega arith in ap (λ (n : ℕ). total (take n xs)) next ∙ taken xs k x e

-- what is needed, as an inner product
pub product-needs : (problem : Problem) (weights needs : List ℤ)
    → ((p : ℕ) → p < length problem.base.pairings → weight_at needs p ≡ pos (need_of problem p))
    → length weights ≡ length problem.base.pairings
    → rows.product_of weights needs ≡ needed_weight problem weights
product-needs problem weights needs are per_pairing =
    product-comm (weight_at weights) (weight_at needs) (length weights)
    ∙ sum_below-same _ _ (length weights) (λ p lt. ap (λ (z : ℤ). z *ℤ weight_at weights p) (are p (omega (arith, lt, per_pairing))))
    ∙ ap (λ (n : ℕ). sum_below (λ p. pos (need_of problem p) *ℤ weight_at weights p) n) per_pairing

module _ (problem : Problem) (goal : Goal) (node : List Decision) (weights : List ℤ) (lenses : List Lens) (bounds : List ℤ) where
  -- a bound on the lines of one member more
  pub bounds_more : (k : ℕ) (own : Lens) (most : ℤ) → AreShapedBounds problem goal node weights lenses bounds k
      → slice_get lenses k ≡ Some own → slice_get bounds k ≡ Some most → IsShapedBound problem k goal node own weights most
      → AreShapedBounds problem goal node weights lenses bounds (k + 1)
  bounds_more k own most before here got is m lens bound lt at value =
      elim (cases_lt m k) [
        | inl less ↦ before m lens bound less at value
        | inr more ↦
            let same : m ≡ k = omega (arith, lt, more) in
            let lens_is : own ≡ lens = let e : Some own ≡ Some lens = sym here ∙ ap (slice_get lenses) (sym same) ∙ at in cc in
            let bound_is : most ≡ bound = let e : Some most ≡ Some bound = sym got ∙ ap (slice_get bounds) (sym same) ∙ value in cc in
            subst (λ (n : ℕ). IsShapedBound problem n goal node lens weights bound) (sym same)
            (subst (λ (l : Lens). IsShapedBound problem k goal node l weights bound) lens_is
            (subst (λ (z : ℤ). IsShapedBound problem k goal node own weights z) bound_is is))
      ]

  -- bounds on the lines of all members
  pub bounds_all : (k : ℕ) → length lenses ≤ k → AreShapedBounds problem goal node weights lenses bounds k
      → AreShapedBounds problem goal node weights lenses bounds (length lenses)
  bounds_all k le before m lens bound lt at got = before m lens bound (omega (arith, lt, le)) at got

  -- bounds that are less than the needs
  pub bounds_outweighed : AreShapedBounds problem goal node weights lenses bounds (length lenses)
      → length weights ≡ length problem.base.pairings → length lenses ≡ length problem.base.members
      → length bounds ≡ length problem.base.members → AreSmallWeights weights → total bounds <ℤ needed_weight problem weights
      → IsOutweighed problem goal node weights lenses
  bounds_outweighed are per_pairing per_member each small less = record {
    per_pairing = per_pairing;
    per_member = per_member;
    small = small;
    shapes =
        λ m lens at.
        let lt = slice_get_within lenses m lens at in
        (are m lens (get_or bounds m (pos 0)) lt at (slice_get-get_or bounds m (pos 0) (omega (arith, lt, per_member, each)))).shape;
    bounds = bounds;
    each = each;
    bound = λ m lens bound at got. (are m lens bound (slice_get_within lenses m lens at) at got).is_bound;
    less = less;
  }
