-- What an award once more answers.
use Rattle.std.specs.Prelude.{◌≡◌, ℕ, ◌<◌, All, List, length, map, take}
use Rattle.roster_model.specs.declared.problem.Problem.{Problem}
use Rattle.roster_model.specs.declared.goal.Goal.{Goal}
use Rattle.roster_model.specs.declared.proof.Item.{Item}
use Rattle.roster_model.specs.Rosters.{scores_of}
use Rattle.roster_model.specs.Awards.{IsBest}
use Rattle.branch_log.specs.Book.{Book}
use Rattle.completion_search.specs.Found.{HasRoom, IsFull}
use Rattle.award_loop.specs.declared.outcome.Outcome.{Outcome}
use Rattle.award_loop.specs.declared.outcome.Outcome.TheVariants.{Award, NoRoster, Spent}
use Rattle.what_if.specs.Reused.{reused}

-- An award of the new problem with a proof for each place: those before the member's place are the old ones as they
-- serve both problems, and the scores before it are the old ones.
pub record IsAwardAgain (old new : Problem) (kept : List (List ℕ)) (proved : List (List Item))
    (member : ℕ) (after : Book) (roster : List (List ℕ)) (proofs : List (List Item)) : Type 0 where
  pub room : HasRoom after
  pub best : IsBest new roster proofs
  pub reuses : take member proofs ≡ map (reused member) (take member proved)
  pub same : take member (scores_of new roster) ≡ take member (scores_of old kept)

-- spent exactly where the ledger is full; there is a complete roster, so that no proof can say that there is none
abbrev pub IsAnswer : Problem → Problem → List (List ℕ) → List (List Item) → ℕ → Book → Outcome → Type 0
IsAnswer old new kept proved member after (Award roster proofs) =
    IsAwardAgain old new kept proved member after roster proofs
IsAnswer old new kept proved member after (NoRoster proof) = ⊥
IsAnswer old new kept proved member after Spent = IsFull after

-- the scores are those of every roster of the problem with a proof for each place
abbrev pub HasScoresOfAwards : Problem → Outcome → Type 0
HasScoresOfAwards problem (Award roster proofs) =
    (other : List (List ℕ)) (others : List (List Item)) → IsBest problem other others
    → scores_of problem roster ≡ scores_of problem other
HasScoresOfAwards problem (NoRoster proof) = Unit {0}
HasScoresOfAwards problem Spent = Unit {0}

-- each goal has a floor for this member, and none is left out before
abbrev pub AreBehind : ℕ → List Goal → Type 0
AreBehind member goals = All (λ goal. member < length goal.floors) goals
