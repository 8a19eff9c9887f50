-- The goals of the searches for what denies bids.
use Rattle.std.specs.Prelude.{◌≡◌, ℕ, ◌+◌, ◌<◌, ◌≤◌, ◌⊎◌, List, length}
use Rattle.roster_model.specs.declared.problem.Problem.{Problem}
use Rattle.roster_model.specs.declared.goal.Goal.{Goal}
use Rattle.roster_model.specs.declared.goal.BidRef.{BidRef}
use Rattle.roster_model.specs.Goals.{IsBidOf}
use Rattle.roster_model.specs.Denials.{granting}
use Rattle.branch_log.specs.Book.{Book}
use Rattle.completion_search.specs.Added.{TakesSearches}

-- a goal of a place for one of these bids
pub record IsAskedFor (problem : Problem) (scores : List ℕ) (Among : BidRef → Type 0) (goal : Goal) : Type 0 where
  pub bid : BidRef
  pub place : ℕ
  pub known : IsBidOf problem bid
  pub among : Among bid
  pub within : place ≤ length problem.base.members
  pub is : goal ≡ granting scores place bid

-- a goal of a place for the bid, of which it is known whether it can be met
pub record IsAnsweredFor (problem : Problem) (scores : List ℕ) (bid : BidRef) (low high : ℕ) (goal : Goal) : Type 0 where
  pub place : ℕ
  pub within : place ≤ length problem.base.members
  pub settled : (place < low) ⊎ (high ≤ place)
  pub is : goal ≡ granting scores place bid

-- so few searches were made that each of them narrowed the places in between
pub record NarrowsBy (problem : Problem) (low high : ℕ) (before after : Book) : Type 0 where
  pub count : ℕ
  pub few : count + high ≤ length problem.base.members + 1 + low
  pub takes : TakesSearches problem count before after
