-- Weighing the pairings of a line one after another.
use Rattle.std.proofs.Common.{◌≡◌, ℕ, ◌+◌, ◌*◌, ◌<◌, ◌≤◌, List, [], ◌∷◌, ◌++◌, length, take, get_or, refl, ap, sym, ◌∙◌, arith, to_z, of_z, w64, FitsSigned}
use Rattle.std.specs.Prelude.{ℤ, pos, ◌+ℤ◌, unsigned_abs}
use Rattle.std.proofs.lemmas.Int.{ints, fits_signed_from_abs, to_z-of_z}
use Rattle.std.proofs.lemmas.List.{take_more}
use Rattle.roster_model.specs.Weights.{AreSmallWeights, weight_at, weight_of}

back : (z : ℤ) → unsigned_abs z ≤ 1288490188200 → to_z w64 (of_z w64 z) ≡ z
back z small = to_z-of_z w64 z (fits_signed_from_abs w64 z (omega arith))

pub weight_of-none : (weights : List ℤ) → weight_of weights [] ≡ pos 0
unfolding weight_of
weight_of-none weights = refl

weight_of-push : (weights : List ℤ) (line : List ℕ) (p : ℕ) → weight_of weights (line ++ p ∷ []) ≡ weight_of weights line +ℤ weight_at weights p
unfolding weight_of
weight_of-push weights [] p = omega (arith, ints)
weight_of-push weights (q ∷ line) p = omega (arith, ints, weight_of-push weights line p)

-- one turn of the loop over the pairings
pub record WeighTurn (weights : List ℤ) (line : List ℕ) (i : ℕ) (sum x : ℤ) : Type 0 where
  pub fits : FitsSigned w64 (sum +ℤ to_z w64 (of_z w64 x))
  pub is : to_z w64 (of_z w64 (sum +ℤ to_z w64 (of_z w64 x))) ≡ weight_of weights (take (i + 1) line)
  pub small : unsigned_abs (to_z w64 (of_z w64 (sum +ℤ to_z w64 (of_z w64 x)))) ≤ 2147483647 * (i + 1)

pub weigh-turn : (weights : List ℤ) (line : List ℕ) (i : ℕ) (sum : ℤ)
    → sum ≡ weight_of weights (take i line) → unsigned_abs sum ≤ 2147483647 * i
    → i < length line → length line ≤ 600 → AreSmallWeights weights → get_or line i 0 < length weights
    → WeighTurn weights line i sum (weight_at weights (get_or line i 0))
weigh-turn weights line i sum is so_far inside few small within =
    let x = weight_at weights (get_or line i 0) in
    let here = small (get_or line i 0) (pos 0) within in
    let x_small : unsigned_abs (weight_at weights (get_or line i 0)) ≤ 2147483647 = omega (arith, ints, here.0, here.1) in
    let x_back = back (weight_at weights (get_or line i 0)) (omega (arith, x_small)) in
    let sum_small : unsigned_abs (sum +ℤ weight_at weights (get_or line i 0)) ≤ 2147483647 * (i + 1) = omega (arith, ints, x_small, so_far) in
    let sum_back = back (sum +ℤ weight_at weights (get_or line i 0)) (omega (arith, sum_small, inside, few)) in
    let more = ap (weight_of weights) (take_more line i 0 inside) ∙ weight_of-push weights (take i line) (get_or line i 0) in
    record {
      fits = rw x_back (fits_signed_from_abs w64 (sum +ℤ weight_at weights (get_or line i 0)) (omega (arith, sum_small, inside, few)));
      is = rw x_back (sum_back ∙ ap (λ (z : ℤ). z +ℤ weight_at weights (get_or line i 0)) is ∙ sym more);
      small = rw (x_back, sum_back) sum_small;
    }
