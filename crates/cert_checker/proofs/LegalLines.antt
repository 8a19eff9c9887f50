-- Lines that were found legal: what is kept of one, and one more of a roster.
use Rattle.std.proofs.Common.{◌≡◌, ℕ, ◌+◌, Bool, true, List, sym, subst}
use Rattle.roster_model.specs.declared.problem.Problem.{Problem}
use Rattle.roster_model.specs.Legality.{IsLegal}
use Rattle.roster_model.specs.Rosters.{line_at}
use Rattle.line_legality.specs.Shortfalls.{AreLegalBefore}
use Rattle.line_legality.proofs.Shortfalls.{legal_more}
use Rattle.cert_checker.specs.Reasons.{Decides}

-- where the answer is yes, this holds
pub is_so : (fact : Type 0) (answer : Bool) → answer ≡ true → Decides fact answer → fact
is_so fact answer e is = subst (λ (b : Bool). Decides fact b) e is

-- a copy of a legal line is legal
pub copy_legal : (problem : Problem) (member : ℕ) (line copied : List ℕ) → copied ≡ line → IsLegal problem member line → IsLegal problem member copied
copy_legal problem member line copied e legal = subst (λ (xs : List ℕ). IsLegal problem member xs) (sym e) legal

-- the line that is read is the member's
pub line_legal : (problem : Problem) (roster : List (List ℕ)) (member : ℕ) (line : List ℕ) → line ≡ line_at roster member
    → IsLegal problem member line → AreLegalBefore problem roster member → AreLegalBefore problem roster (member + 1)
line_legal problem roster member line e legal before =
    legal_more problem roster member before (subst (λ (xs : List ℕ). IsLegal problem member xs) e legal)
