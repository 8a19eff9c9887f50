-- Lines that are legal, meet a goal and obey a node, and so pass each lens of their member.
use Rattle.std.specs.Prelude.{◌≡◌, ℕ, ◌≤◌, true, List, slice_get}
use Rattle.std.specs.Option.{ForSome}
use Rattle.roster_model.specs.declared.problem.Problem.{Problem}
use Rattle.roster_model.specs.declared.goal.Goal.{Goal}
use Rattle.roster_model.specs.declared.node.Decision.{Decision}
use Rattle.roster_model.specs.Scores.{score_of, is_flown, is_granted}
use Rattle.roster_model.specs.Legality.{IsLegal}
use Rattle.roster_model.specs.Goals.{MeetsGoal, Obeys}

-- the two parts of meeting a goal
abbrev pub IsFloorMet : Problem → Goal → ℕ → List ℕ → Type 0
IsFloorMet problem goal member line =
    ForSome (slice_get goal.floors member) (λ floor. floor ≤ score_of problem member line)

abbrev pub IsBidMet : Problem → Goal → ℕ → List ℕ → Type 0
IsBidMet problem goal member line =
    ForSome goal.grant (λ b. b.member ≡ member → is_granted problem member b.bid line ≡ true)

-- the line is legal and meets the goal
pub record Serves (problem : Problem) (goal : Goal) (member : ℕ) (line : List ℕ) : Type 0 where
  pub legal : IsLegal problem member line
  pub meets : MeetsGoal problem goal member line

-- and it obeys the node
pub record IsServing (problem : Problem) (goal : Goal) (node : List Decision) (member : ℕ) (line : List ℕ) : Type 0 where
  pub serves : Serves problem goal member line
  pub obeys : Obeys node member line

-- the member's line is as the decision wants it, if that is about the member
abbrev pub Keeps : ℕ → List ℕ → Decision → Type 0
Keeps member line d = d.member ≡ member → is_flown line d.pairing ≡ d.flies

-- some line of the member serves at the node
abbrev pub HasServing : Problem → Goal → List Decision → ℕ → Type 0
HasServing problem goal node member = (line : List ℕ) × IsServing problem goal node member line
