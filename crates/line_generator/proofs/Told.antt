-- What an answer above a bound says, clause by clause.
use Rattle.std.proofs.Common.{◌≡◌, ℕ, ℤ, List, Ok, Err, subst}
use Rattle.std.specs.Prelude.{IfOk, Result}
use Rattle.std.specs.Int.Signed.{◌<ℤ◌}
use Rattle.roster_model.specs.Weights.{weight_of}
use Rattle.term_lines.specs.Overs.{IfLine, IsMost, IsOverAnswer}
use Rattle.term_lines.specs.declared.above.Over.{Over}
use Rattle.term_lines.specs.declared.above.Over.TheVariants.{Nothing}
use Rattle.term_lines.specs.declared.above.Sought.{Sought}
use Rattle.term_lines.specs.declared.above.Wanted.TheVariants.{Heaviest}

module _ {E : Type 0} (Lines : List ℕ → Type 0) (weights : List ℤ) (sought : Sought) where
  pub told_line : (r : Result Over E) → IfOk r (IsOverAnswer Lines Lines weights sought) → IfOk r (λ answer. IfLine answer (λ b. Lines b.line))
  told_line (Ok answer) says = says.line
  told_line (Err fault) says = tt

  pub told_weight : (r : Result Over E) → IfOk r (IsOverAnswer Lines Lines weights sought) → IfOk r (λ answer. IfLine answer (λ b. weight_of weights b.line ≡ b.weight))
  told_weight (Ok answer) says = says.weight
  told_weight (Err fault) says = tt

  pub told_above : (over : ℤ) → sought.over ≡ over → (r : Result Over E) → IfOk r (IsOverAnswer Lines Lines weights sought) → IfOk r (λ answer. IfLine answer (λ b. over <ℤ b.weight))
  told_above over same (Ok answer) says = subst (λ (z : ℤ). IfLine answer (λ b. z <ℤ b.weight)) same says.above
  told_above over same (Err fault) says = tt

  pub told_most : sought.wanted ≡ Heaviest → (r : Result Over E) → IfOk r (IsOverAnswer Lines Lines weights sought) → IfOk r (λ answer. IfLine answer (λ b. IsMost Lines weights b.weight))
  told_most heaviest (Ok answer) says = says.most heaviest
  told_most heaviest (Err fault) says = tt

  pub told_none : (over : ℤ) → sought.over ≡ over → (r : Result Over E) → IfOk r (IsOverAnswer Lines Lines weights sought) → r ≡ Ok Nothing → IsMost Lines weights over
  told_none over same (Ok answer) says told = let nothing : answer ≡ Nothing = cc in subst (λ (z : ℤ). IsMost Lines weights z) same (says.none nothing)
  told_none over same (Err fault) says told = absurd (cc told)
