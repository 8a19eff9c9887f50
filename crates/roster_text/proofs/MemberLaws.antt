-- A member's name and a comma are read where they stand.
use Rattle.std.proofs.Common.{◌≡◌, ℕ, List, [], ◌∷◌, ◌++◌, Some, refl, ap, ◌∙◌}
use Rattle.roster_model.specs.declared.problem.Problem.{Problem}
use Rattle.roster_text.specs.RosterText.{member_name}
use Rattle.roster_text.specs.NameReading.{word_at, member_at}
use Rattle.roster_text.proofs.Words.{bind_some, word_takes, word_again}

pub member_take : (problem : Problem) (m : ℕ) (bytes rest : List ℕ) → member_at problem m bytes ≡ Some rest → bytes ≡ member_name problem m ++ (44 ∷ rest)
unfolding member_at
member_take problem m bytes rest e =
    let a = bind_some (word_at (member_name problem m) bytes) (word_at (44 ∷ [])) rest e in
    word_takes (member_name problem m) bytes a.0 a.1 ∙ ap (λ (t : List ℕ). member_name problem m ++ t) (word_takes (44 ∷ []) a.0 rest a.2)

pub member_again : (problem : Problem) (m : ℕ) (rest : List ℕ) → member_at problem m (member_name problem m ++ (44 ∷ rest)) ≡ Some rest
unfolding member_at
member_again problem m rest = rw (word_again (member_name problem m) (44 ∷ rest)) refl
