-- Lines above a bound, class by class: the bound of each class is the weight of the line that was found last.
use Rattle.std.proofs.Common.{◌≡◌, ℕ, ℤ, ◌+◌, ◌*◌, ◌<◌, ◌≤◌, ◌≤ℤ◌, List, Option, Some, None, refl, subst, arith}
use Rattle.std.specs.Prelude.{IfSome}
use Rattle.std.specs.Int.Signed.{◌<ℤ◌}
use Rattle.std.proofs.lemmas.Int.{ints}
use Rattle.std.proofs.Math.Nat.{mul-le-mul_right}
use Rattle.roster_model.specs.declared.problem.Problem.{Problem}
use Rattle.roster_model.specs.declared.goal.Goal.{Goal}
use Rattle.roster_model.specs.declared.node.Decision.{Decision}
use Rattle.roster_model.specs.declared.proof.Lens.{Lens}
use Rattle.roster_model.specs.Lenses.{IsLensLine, IsMostWeight}
use Rattle.roster_model.specs.Weights.{weight_of}
use Rattle.lens_classes.specs.Classes.{is_in}
use Rattle.term_lines.specs.declared.above.Over.{Over}
use Rattle.term_lines.specs.declared.above.Over.TheVariants.{Line, Nothing, Limit}
use Rattle.term_lines.specs.declared.priced.PricedLine.{PricedLine}
use Rattle.line_generator.specs.ClassLines.{AllBelow, AllOfClass, raised, spread}
use Rattle.term_lines.specs.Overs.{IfLine}
use Rattle.line_generator.specs.Overs.{over_of_best, with_answer}
use Rattle.line_generator.proofs.ClassBests.{below_more}

-- steps of so many classes, each with a limit
pub steps_within : (old now number limit : ℕ) → number < 256 → now ≤ old + number * limit + limit → now ≤ old + 256 * limit
steps_within old now number limit less most =
    let up : number + 1 ≤ 256 = omega (arith, less) in
    let le = mul-le-mul_right limit up in
    omega (arith, most, le)

pub steps_at_end : (old now number limit : ℕ) → number ≤ 256 → now ≤ old + number * limit → now ≤ old + 256 * limit
steps_at_end old now number limit less most =
    let le = mul-le-mul_right limit less in
    omega (arith, most, le)

-- what holds where a fact does
pub line_if : (F : Type 0) (P : PricedLine → Type 0) (o : Over) → IfLine o (λ b. F) → (F → IfLine o P) → IfLine o P
line_if F P (Line b) f h = h f
line_if F P Nothing f h = tt
line_if F P Limit f h = tt

pub line_never : (F : Type 0) (P : PricedLine → Type 0) (o : Over) → IfLine o (λ b. F) → (F → ⊥) → IfLine o P
line_never F P (Line b) f never = absurd (never f)
line_never F P Nothing f never = tt
line_never F P Limit f never = tt

-- a line above the bound of its class is above the first bound
pub above_first : (over from : ℤ) (best : Option PricedLine) (answer : Over) → from ≡ raised best over → IfSome best (λ b. over <ℤ b.weight)
    → IfLine answer (λ b. from <ℤ b.weight) → IfLine answer (λ b. over <ℤ b.weight)
above_first over from None (Line b) at old new = let e : from ≡ over = at in omega (arith, ints, e, new)
above_first over from (Some a) (Line b) at old new = let e : from ≡ a.weight = at in let lt : over <ℤ a.weight = old in omega (arith, ints, e, lt, new)
above_first over from best Nothing at old new = tt
above_first over from best Limit at old new = tt

pub answer_has : (P : PricedLine → Type 0) (best : Option PricedLine) (answer : Over) → IfSome best P → IfLine answer P → IfSome (with_answer best answer) P
answer_has P best (Line b) old new = new
answer_has P best Nothing old new = old
answer_has P best Limit old new = old

pub end_has : (P : PricedLine → Type 0) (best : Option PricedLine) → IfSome best P → IfLine (over_of_best best) P
end_has P (Some b) p = p
end_has P None p = tt

pub end_told : (best : Option PricedLine) → over_of_best best ≡ Limit → ⊥
end_told (Some b) e = cc
end_told None e = cc

module _ (problem : Problem) (member : ℕ) (goal : Goal) (node : List Decision) (lens : Lens) (weights : List ℤ) (bids n granted : ℕ) (over from : ℤ) where
  pub below_answer : (best : Option PricedLine) (answer : Over) → from ≡ raised best over → ((bid : ℕ) → is_in granted bid ≡ spread (is_in bids) n bid)
      → (answer ≡ Limit → ⊥) → IfLine answer (λ b. from <ℤ b.weight)
      → IfLine answer (λ b. AllOfClass problem member goal node lens weights (is_in granted) (λ w. w ≤ℤ b.weight))
      → (answer ≡ Nothing → AllOfClass problem member goal node lens weights (is_in granted) (λ w. w ≤ℤ from))
      → AllBelow problem member goal node lens weights (is_in bids) n (λ w. w ≤ℤ raised best over)
      → AllBelow problem member goal node lens weights (is_in bids) (n + 1) (λ w. w ≤ℤ raised (with_answer best answer) over)
  below_answer best (Line b) at are go above most none below =
      let lt : from <ℤ b.weight = above in
      below_more problem member goal node lens weights bids n granted (λ w. w ≤ℤ raised best over) (λ w. w ≤ℤ b.weight) (λ w. w ≤ℤ b.weight)
      (λ z le. let e : from ≡ raised best over = at in omega (arith, ints, e, lt, le)) (λ z le. le) are below most
  below_answer best Nothing at are go above most none below =
      below_more problem member goal node lens weights bids n granted (λ w. w ≤ℤ raised best over) (λ w. w ≤ℤ from) (λ w. w ≤ℤ raised best over)
      (λ z le. le) (λ z le. subst (λ (x : ℤ). z ≤ℤ x) at le) are below (none refl)
  below_answer best Limit at are go above most none below = absurd (go refl)

module _ (problem : Problem) (member : ℕ) (goal : Goal) (node : List Decision) (lens : Lens) (weights : List ℤ) (over : ℤ) where
  pub end_most : (best : Option PricedLine) → ((line : List ℕ) → IsLensLine problem member goal node lens line → weight_of weights line ≤ℤ raised best over)
      → IfLine (over_of_best best) (λ b. IsMostWeight problem member goal node lens weights b.weight)
  end_most (Some b) most = most
  end_most None most = tt

  pub end_none : (best : Option PricedLine) → over_of_best best ≡ Nothing → ((line : List ℕ) → IsLensLine problem member goal node lens line → weight_of weights line ≤ℤ raised best over)
      → IsMostWeight problem member goal node lens weights over
  end_none (Some b) e most = absurd (cc e)
  end_none None e most = most
