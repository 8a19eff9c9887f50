-- The greatest score of one place.
use Rattle.std.specs.Prelude.{◌≡◌, ℕ, ◌+◌, ◌<◌, ◌≤◌, ◌⊎◌, List, [], length, take}
use Rattle.roster_model.specs.declared.problem.Problem.{Problem}
use Rattle.roster_model.specs.declared.goal.Goal.{Goal}
use Rattle.roster_model.specs.declared.proof.Item.{Item}
use Rattle.roster_model.specs.Scores.{score_of}
use Rattle.roster_model.specs.Rosters.{IsComplete, scores_of, line_at}
use Rattle.roster_model.specs.Closing.{Closes}
use Rattle.roster_model.specs.Awards.{floor_goal}
use Rattle.roster_model.specs.Lawful.{AreGreatest, IsPlaceGoal, bids_weight, bids_before}
use Rattle.roster_model.specs.Splits.{splits_in}
use Rattle.branch_log.specs.Book.{Book}
use Rattle.completion_search.specs.Added.{TakesSearches}
use Rattle.completion_search.specs.Found.{HasRoom, IsFull}
use Rattle.award_loop.specs.Outcomes.{ArePlaceProofs}
use Rattle.award_loop.specs.declared.raise.Raised.{Raised}
use Rattle.award_loop.specs.declared.raise.Raised.TheVariants.{Top, Spent}

-- a complete roster with these scores before the place behind them
pub record HasScores (problem : Problem) (before : List ℕ) (roster : List (List ℕ)) : Type 0 where
  pub complete : IsComplete problem roster
  pub same : take (length before) (scores_of problem roster) ≡ before

-- the score of the place in the roster, and a proof that no roster with the scores before has a greater one
pub record IsTop (problem : Problem) (before : List ℕ) (old new : Book) (roster : List (List ℕ)) (score : ℕ) (proof : List Item) : Type 0 where
  pub room : HasRoom new
  pub has : HasScores problem before roster
  pub score_is : score ≡ score_of problem (length before) (line_at roster (length before))
  pub closes : Closes problem (floor_goal before (score + 1)) [] proof
  pub short : splits_in proof + length old.entries ≤ length new.entries

abbrev pub IsRaised : Problem → List ℕ → Book → Book → List (List ℕ) → Raised → Type 0
IsRaised problem before old new roster (Top score proof) = IsTop problem before old new roster score proof
IsRaised problem before old new roster Spent = IsFull new

-- a goal of the place behind these scores
pub record IsGoalBehind (problem : Problem) (before : List ℕ) (goal : Goal) : Type 0 where
  pub behind : length goal.floors ≡ length before + 1
  pub of_place : IsPlaceGoal problem goal

-- A goal of that place that was asked for: its floor is reached, or refuted.
pub record IsSettled (problem : Problem) (before : List ℕ) (score refuted : ℕ) (goal : Goal) : Type 0 where
  pub floor : ℕ
  pub is : goal ≡ floor_goal before floor
  pub least : 1 ≤ floor
  pub most : floor ≤ bids_weight problem (length before) + 1
  pub settled : (floor ≤ score) ⊎ (refuted ≤ floor)

-- so few searches were made at the place that each of them brought score and refuted floor closer
pub record TakesSteps (problem : Problem) (most score refuted : ℕ) (before after : Book) : Type 0 where
  pub count : ℕ
  pub few : count + refuted ≤ most + 2 + score
  pub takes : TakesSearches problem count before after

-- the places from the first on are done up to here: the scores so far, a roster that has them, and their proofs
pub record HasClimbed (problem : Problem) (first place : ℕ) (roster : List (List ℕ)) (scores : List ℕ) (best : List (List ℕ)) (proofs : List (List Item)) : Type 0 where
  pub count : length scores ≡ place
  pub has : HasScores problem scores best
  pub greatest : AreGreatest problem scores
  pub kept : take first scores ≡ take first (scores_of problem roster)
  pub proved : ArePlaceProofs problem scores first proofs

-- so few searches were made at the places from the first on that each place has at most one more than its bids weigh
pub record TakesPlaces (problem : Problem) (first place : ℕ) (before after : Book) : Type 0 where
  pub count : ℕ
  pub few : count + first + bids_before problem first ≤ place + bids_before problem place
  pub takes : TakesSearches problem count before after

-- a goal of a place from the first on, before another
pub record IsGoalBetween (problem : Problem) (first place : ℕ) (goal : Goal) : Type 0 where
  pub later : first < length goal.floors
  pub earlier : length goal.floors ≤ place
  pub of_place : IsPlaceGoal problem goal
