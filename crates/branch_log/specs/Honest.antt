-- What a verdict on a node promises.
use Rattle.std.specs.Prelude.{ℕ, List}
use Rattle.roster_model.specs.declared.problem.Problem.{Problem}
use Rattle.roster_model.specs.declared.goal.Goal.{Goal}
use Rattle.roster_model.specs.declared.node.Decision.{Decision}
use Rattle.roster_model.specs.Rosters.{IsComplete}
use Rattle.roster_model.specs.Goals.{RosterMeets, RosterObeys}
use Rattle.roster_model.specs.Closing.{IsAccepted, IsOpenPair}
use Rattle.roster_model.specs.OpenNodes.{IsOpenNode}
use Rattle.roster_model.specs.Effort.{BoundsGaps}
use Rattle.branch_log.specs.declared.closer.Verdict.{Verdict}
use Rattle.branch_log.specs.declared.closer.Verdict.TheVariants.{Closed, Whole, Branch}

-- the roster is complete, meets the goal and obeys the node
pub record IsWhole (problem : Problem) (goal : Goal) (node : List Decision) (roster : List (List ℕ)) : Type 0 where
  pub complete : IsComplete problem roster
  pub meets : RosterMeets problem goal roster
  pub obeys : RosterObeys node roster

-- The node is open, the pair is one to branch on, and gaps are small there against any weights that leave them.
pub record IsBranch (problem : Problem) (rounds : ℕ) (goal : Goal) (node : List Decision) (member pairing : ℕ) : Type 0 where
  pub node_open : IsOpenNode problem rounds goal node
  pub pair : IsOpenPair problem node member pairing
  pub gaps : BoundsGaps problem goal node rounds

-- closed only by a leaf that is accepted there, whole only with such a roster, and to be branched on only where open
abbrev pub IsHonest : Problem → ℕ → Goal → List Decision → Verdict → Type 0
IsHonest problem rounds goal node (Closed leaf) = IsAccepted problem goal node leaf
IsHonest problem rounds goal node (Whole roster) = IsWhole problem goal node roster
IsHonest problem rounds goal node (Branch m p) = IsBranch problem rounds goal node m p
