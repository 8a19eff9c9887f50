-- What an award answers.
use Rattle.std.specs.Prelude.{◌≡◌, ℕ, ◌+◌, ◌*◌, ◌^◌, ◌<◌, ◌≤◌, ◌⊎◌, List, [], length, take, slice_get, Some}
use Rattle.roster_model.specs.declared.problem.Problem.{Problem}
use Rattle.roster_model.specs.declared.goal.Goal.{Goal}
use Rattle.roster_model.specs.declared.proof.Item.{Item}
use Rattle.roster_model.specs.Rosters.{IsComplete, scores_of}
use Rattle.roster_model.specs.Closing.{Closes}
use Rattle.roster_model.specs.Awards.{IsBest, IsGreatest, above_at, no_goal}
use Rattle.roster_model.specs.Ledgers.{pairs_of}
use Rattle.roster_model.specs.Lawful.{AreGreatest, IsPlaceGoal, total_bids}
use Rattle.roster_model.specs.Splits.{splits_in, all_splits}
use Rattle.branch_log.specs.Book.{Book}
use Rattle.completion_search.specs.Found.{HasRoom, IsFull}
use Rattle.award_loop.specs.declared.outcome.Outcome.{Outcome}
use Rattle.award_loop.specs.declared.outcome.Outcome.TheVariants.{Award, NoRoster, Spent}

-- an award with a proof for each place
pub record IsAward (problem : Problem) (after : Book) (roster : List (List ℕ)) (proofs : List (List Item)) : Type 0 where
  pub room : HasRoom after
  pub best : IsBest problem roster proofs

-- a proof that there is no complete roster
pub record IsNone (problem : Problem) (after : Book) (proof : List Item) : Type 0 where
  pub room : HasRoom after
  pub closes : Closes problem no_goal [] proof

-- spent exactly where the ledger is full
abbrev pub IsOutcome : Problem → Book → Outcome → Type 0
IsOutcome problem after (Award roster proofs) = IsAward problem after roster proofs
IsOutcome problem after (NoRoster proof) = IsNone problem after proof
IsOutcome problem after Spent = IsFull after

-- the proofs, of which the first is that of this place, close the goals of all places from there on
pub record ArePlaceProofs (problem : Problem) (scores : List ℕ) (place : ℕ) (proofs : List (List Item)) : Type 0 where
  pub count : length proofs + place ≡ length scores
  pub places :
      (k : ℕ) (proof : List Item) → slice_get proofs k ≡ Some proof
      → Closes problem (above_at scores (place + k)) [] proof

-- an award with the scores of a roster before a place, the greatest of all, and the proofs from that place on
pub record IsAwardFrom (problem : Problem) (kept : List (List ℕ)) (place : ℕ) (after : Book) (roster : List (List ℕ)) (proofs : List (List Item)) : Type 0 where
  pub room : HasRoom after
  pub complete : IsComplete problem roster
  pub same : take place (scores_of problem roster) ≡ take place (scores_of problem kept)
  pub greatest : IsGreatest problem roster
  pub proved : ArePlaceProofs problem (scores_of problem roster) place proofs

-- there is a complete roster, so that no proof can say that there is none
abbrev pub IsOutcomeFrom : Problem → List (List ℕ) → ℕ → Book → Outcome → Type 0
IsOutcomeFrom problem kept place after (Award roster proofs) = IsAwardFrom problem kept place after roster proofs
IsOutcomeFrom problem kept place after (NoRoster proof) = ⊥
IsOutcomeFrom problem kept place after Spent = IsFull after

-- at each place the first scores of the award are the greatest list of as many
abbrev pub HasGreatestScores : Problem → Outcome → Type 0
HasGreatestScores problem (Award roster proofs) =
    (k : ℕ) → k ≤ length problem.base.members → AreGreatest problem (take k (scores_of problem roster))
HasGreatestScores problem (NoRoster proof) = Unit {0}
HasGreatestScores problem Spent = Unit {0}

-- how many searches an award makes at most: one for nothing, and at each place as many as its bids weigh and one more
abbrev pub place_searches : Problem → ℕ
place_searches problem = 1 + length problem.base.members + total_bids problem

-- there is more room than so many searches take
abbrev pub FitsAward : Problem → Book → Type 0
FitsAward problem book =
    length book.entries + place_searches problem * 2 ^ pairs_of problem < book.cap

-- the award came to an end
abbrev pub IsNotSpent : Outcome → Type 0
IsNotSpent (Award roster proofs) = Unit {0}
IsNotSpent (NoRoster proof) = Unit {0}
IsNotSpent Spent = ⊥

-- the proofs have together at most as many splits as entries were added
abbrev pub HasFewSplits : Book → Book → Outcome → Type 0
HasFewSplits before after (Award roster proofs) = all_splits proofs + length before.entries ≤ length after.entries
HasFewSplits before after (NoRoster proof) = splits_in proof + length before.entries ≤ length after.entries
HasFewSplits before after Spent = Unit {0}

-- a goal that an award asks for
abbrev pub IsAwardGoal : Problem → Goal → Type 0
IsAwardGoal problem goal = (goal ≡ no_goal) ⊎ IsPlaceGoal problem goal

-- a goal that it asks for from a place on: one of this place or of a later one
pub record IsLaterGoal (problem : Problem) (place : ℕ) (goal : Goal) : Type 0 where
  pub later : place < length goal.floors
  pub of_place : IsPlaceGoal problem goal
