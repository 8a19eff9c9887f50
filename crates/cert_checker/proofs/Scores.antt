-- Scores are small.
use Rattle.std.proofs.Common.{◌≡◌, ℕ, ◌+◌, ◌^◌, ◌<◌, List, length, get_or, arith, sym, subst, ap, ◌∙◌}
use Rattle.std.specs.Prelude.{All}
use Rattle.std.specs.List.{range_with_len}
use Rattle.std.proofs.lemmas.List.Elements.{All-map}
use Rattle.std.proofs.lemmas.List.FromFn.{length-map-range_with_len}
use Rattle.roster_model.specs.declared.problem.Problem.{Problem}
use Rattle.roster_model.specs.Scores.{score_of}
use Rattle.roster_model.specs.Rosters.{scores_of, line_at}
use Rattle.roster_model.proofs.Bounds.{score_bound}

-- one more than a score has 32 bits
pub scores_of-small : (problem : Problem) (roster : List (List ℕ)) → All (λ s. s + 1 < 2 ^ 32) (scores_of problem roster)
unfolding scores_of
scores_of-small problem roster =
    let members = range_with_len 0 (length problem.base.members) in
    All-map (λ s. s + 1 < 2 ^ 32) (λ m. score_of problem m (line_at roster m)) members
    (λ k d lt. omega (arith, score_bound problem (get_or members k d) (line_at roster (get_or members k d))))

pub length_scores_of : (problem : Problem) (roster : List (List ℕ)) → length (scores_of problem roster) ≡ length problem.base.members
unfolding scores_of
length_scores_of problem roster =
    length-map-range_with_len (λ m. score_of problem m (line_at roster m)) 0 (length problem.base.members)

-- the same of a slice that holds the scores
pub scores-length : (problem : Problem) (roster : List (List ℕ)) (scores : List ℕ) → scores ≡ scores_of problem roster
    → length scores ≡ length problem.base.members
scores-length problem roster scores e = ap (λ (xs : List ℕ). length xs) e ∙ length_scores_of problem roster

pub scores-small : (problem : Problem) (roster : List (List ℕ)) (scores : List ℕ) → scores ≡ scores_of problem roster
    → All (λ s. s + 1 < 2 ^ 32) scores
scores-small problem roster scores e = subst (λ (xs : List ℕ). All (λ s. s + 1 < 2 ^ 32) xs) (sym e) (scores_of-small problem roster)
