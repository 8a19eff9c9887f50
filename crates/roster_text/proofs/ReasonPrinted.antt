-- A place and its member, as they are written.
use Rattle.std.proofs.Common.{◌≡◌, ℕ, zero, suc, ◌-◌, ◌<◌, List, [], ◌∷◌, ◌++◌, ap, ◌∙◌, append_assoc, arith}
use Rattle.std.specs.Prelude.{codes}
use Rattle.field_text.specs.Spelling.{number_text}
use Rattle.roster_model.specs.declared.problem.Problem.{Problem}
use Rattle.roster_model.specs.declared.award.Cause.TheVariants.{Place}
use Rattle.roster_text.specs.RosterText.{member_name}
use Rattle.roster_text.specs.ReasonText.{cause_text}

joined : (out a b d : List ℕ) → (((out ++ a) ++ b) ++ (32 ∷ [])) ++ d ≡ out ++ ((a ++ b) ++ (32 ∷ d))
joined out a b d = simp append_assoc

pub place_put : (problem : Problem) (out : List ℕ) (place : ℕ) → 0 < place
    → (((out ++ codes "place ") ++ number_text place) ++ (32 ∷ [])) ++ member_name problem (place - 1) ≡ out ++ cause_text problem (Place place)
unfolding cause_text
place_put problem out zero some = absurd (omega arith)
place_put problem out (suc m) some =
    let k : suc m - 1 ≡ m = omega arith in
    ap (λ (i : ℕ). (((out ++ codes "place ") ++ number_text (suc m)) ++ (32 ∷ [])) ++ member_name problem i) k
    ∙ joined out (codes "place ") (number_text (suc m)) (member_name problem m)
