-- The test of a line by the standard lens, and the weight of the heaviest line so far.
use Rattle.std.proofs.Common.{◌≡◌, ◌↔◌, ◌+◌, true, Bool, IsTrue, ℕ, ℤ, ◌≤ℤ◌, List, Option, Some, None, Result, Ok, Err, subst, sym, arith, inl, inr}
use Rattle.std.specs.Prelude.{IfOk}
use Rattle.std.proofs.lemmas.Bool.{cases_lt}
use Rattle.std.proofs.lemmas.Int.{ints, by_lt_z}
use Rattle.roster_model.specs.declared.problem.Problem.{Problem}
use Rattle.roster_model.specs.declared.goal.Goal.{Goal}
use Rattle.roster_model.specs.declared.node.Decision.{Decision}
use Rattle.roster_model.specs.declared.proof.Lens.{Lens}
use Rattle.roster_model.specs.Lenses.{IsLensLine, IsStandardLens}
use Rattle.roster_model.specs.Rounds.{IsStandardLine}
use Rattle.roster_model.proofs.Standard.{standard-passes}
use Rattle.column_pool.specs.Heaviest.{IsStandardAt, IsFirstHeaviest, IsHeaviest, IsAbove, weight_at_place}

abbrev pub HasWeight : List ℤ → List (List ℕ) → Option ℕ → ℤ → Type 0
HasWeight weights lines None most = Unit {0}
HasWeight weights lines (Some place) most = weight_at_place weights lines place ≡ most

-- one standard lens tells of all
pub standard_tested : {E : Type 0} (r : Result Bool E) (problem : Problem) (member : ℕ) (goal : Goal) (node : List Decision) (lens : Lens) (line : List ℕ)
    → IsStandardLens problem member lens
    → IfOk r (λ yes. yes ≡ true ↔ IsLensLine problem member goal node lens line)
    → IfOk r (λ yes. IsTrue yes ↔ IsStandardLine problem goal node member line)
standard_tested (Ok b) problem member goal node lens line standard is = (
  (λ t. record { lens = lens; standard = standard; passes = is.0 t }),
  (λ any. is.1 (standard-passes problem member any.lens lens any.standard standard line goal node any.passes)),
)
standard_tested (Err e) problem member goal node lens line standard is = tt

module _ (problem : Problem) (goal : Goal) (node : List Decision) (member : ℕ) (weights : List ℤ) (lines : List (List ℕ)) (count : ℕ) where
  -- a line more that is no heavier, or none by the lens
  pub heaviest_kept : (heaviest : Option ℕ) (most weight : ℤ)
      → IsHeaviest problem goal node member weights lines count heaviest
      → HasWeight weights lines heaviest most → weight ≡ weight_at_place weights lines count
      → (IsAbove heaviest most weight → IsStandardAt problem goal node member lines count → ⊥)
      → IsHeaviest problem goal node member weights lines (count + 1) heaviest
  heaviest_kept None most weight old is here other = λ k lt standard.
      elim (cases_lt k count) [
        | inl before ↦ old k before standard
        | inr last ↦
            let same : k ≡ count = omega (arith, lt, last) in
            other tt (subst (λ (n : ℕ). IsStandardAt problem goal node member lines n) same standard)
      ]
  heaviest_kept (Some place) most weight old is here other = record {
    within = omega (arith, old.within);
    standard = old.standard;
    most =
        λ k lt standard.
        elim (cases_lt k count) [
          | inl before ↦ old.most k before standard
          | inr last ↦
              let same : k ≡ count = omega (arith, lt, last) in
              let standard_here = subst (λ (n : ℕ). IsStandardAt problem goal node member lines n) same standard in
              subst (λ (n : ℕ). weight_at_place weights lines n ≤ℤ weight_at_place weights lines place) (sym same)
              (by_lt_z most weight (λ above. absurd (other above standard_here)) (λ below. omega (arith, ints, below, is, here)))
        ];
    first = old.first;
  }

  -- a heavier line by the lens
  pub heaviest_taken : (heaviest : Option ℕ) (most weight : ℤ)
      → IsHeaviest problem goal node member weights lines count heaviest
      → HasWeight weights lines heaviest most → weight ≡ weight_at_place weights lines count
      → IsAbove heaviest most weight → IsStandardAt problem goal node member lines count
      → IsFirstHeaviest problem goal node member weights lines (count + 1) count
  heaviest_taken None most weight old is here above standard = record {
    within = omega arith;
    standard = standard;
    most =
        λ k lt other.
        elim (cases_lt k count) [
          | inl before ↦ absurd (old k before other)
          | inr last ↦
              let same : k ≡ count = omega (arith, lt, last) in
              subst (λ (n : ℕ). weight_at_place weights lines n ≤ℤ weight_at_place weights lines count) (sym same) (omega (arith, ints))
        ];
    first = λ k lt other. absurd (old k lt other);
  }
  heaviest_taken (Some place) most weight old is here above standard = record {
    within = omega arith;
    standard = standard;
    most =
        λ k lt other.
        elim (cases_lt k count) [
          | inl before ↦ omega (arith, ints, old.most k before other, is, here, above)
          | inr last ↦
              let same : k ≡ count = omega (arith, lt, last) in
              subst (λ (n : ℕ). weight_at_place weights lines n ≤ℤ weight_at_place weights lines count) (sym same) (omega (arith, ints))
        ];
    first = λ k lt other. omega (arith, ints, old.most k lt other, is, here, above);
  }
