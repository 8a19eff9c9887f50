-- Rosters that were found, and may serve another bid.
use Rattle.std.specs.Prelude.{◌≡◌, ℕ, ◌+◌, ◌<◌, ◌≤◌, All, List, length, slice_get, slice_index, Some}
use Rattle.roster_model.specs.declared.problem.Problem.{Problem}
use Rattle.roster_model.specs.declared.goal.BidRef.{BidRef}
use Rattle.roster_model.specs.Rosters.{IsComplete, line_at}
use Rattle.roster_model.specs.Scores.{score_of}
use Rattle.roster_model.specs.Denials.{Grants, ReachesBefore}
use Rattle.denials.specs.declared.known.Known.{Known}

-- a complete roster that has the scores, or higher ones, at the places before its own
pub record IsFound (problem : Problem) (scores : List ℕ) (known : Known) : Type 0 where
  pub complete : IsComplete problem known.roster
  pub within : known.place ≤ length problem.base.members + 1
  pub reaches : ReachesBefore problem scores known.place known.roster

abbrev pub AreFound : Problem → List ℕ → List Known → Type 0
AreFound problem scores known = All (IsFound problem scores) known

-- the roster falls below the score at this place, unless it is the one behind the last
abbrev pub MissesAt : Problem → List ℕ → ℕ → List (List ℕ) → Type 0
MissesAt problem scores place roster =
    (m : ℕ) → m < length problem.base.members → place ≡ m + 1
    → score_of problem m (line_at roster m) < slice_index scores m

-- a complete roster that grants the bid and has the scores, or higher ones, at the places before this one
pub record IsReached (problem : Problem) (scores : List ℕ) (bid : BidRef) (place : ℕ) (roster : List (List ℕ)) : Type 0 where
  pub grants : Grants problem bid roster
  pub reaches : ReachesBefore problem scores place roster

-- the roster with this number is one
pub record IsKnown (problem : Problem) (scores : List ℕ) (bid : BidRef) (known : List Known) (at place : ℕ) : Type 0 where
  pub one : Known
  pub here : slice_get known at ≡ Some one
  pub reached : IsReached problem scores bid place one.roster
