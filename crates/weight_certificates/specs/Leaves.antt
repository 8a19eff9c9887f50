-- Nodes that neither crews nor decided lines close.
use Rattle.std.specs.Prelude.{◌≡◌, ℕ, ◌<◌, false, List, length}
use Rattle.roster_model.specs.declared.problem.Problem.{Problem}
use Rattle.roster_model.specs.declared.goal.Goal.{Goal}
use Rattle.roster_model.specs.declared.node.Decision.{Decision}
use Rattle.roster_model.specs.Decided.{is_decided}
use Rattle.line_bounds.specs.Serving.{Serves}
use Rattle.roster_model.specs.Closing.{decided_line, IsDecidedLine, IsMiscrewed}

-- each pairing can have its crew
abbrev pub HaveCrews : Problem → List Decision → Type 0
HaveCrews problem node = (p : ℕ) → IsMiscrewed problem node p → ⊥

-- the member's line serves, if it is decided
abbrev pub IsFitting : Problem → Goal → List Decision → ℕ → Type 0
IsFitting problem goal node member =
    IsDecidedLine problem node member → Serves problem goal member (decided_line problem node member)

abbrev pub AreFitting : Problem → Goal → List Decision → Type 0
AreFitting problem goal node = (m : ℕ) → m < length problem.base.members → IsFitting problem goal node m

-- the pairing is one of the problem, and undecided for the member
pub record IsOpenFor (problem : Problem) (node : List Decision) (member pairing : ℕ) : Type 0 where
  pub in_range : pairing < length problem.base.pairings
  pub undecided : is_decided node member pairing ≡ false

-- every pair is decided
abbrev pub IsAllDecided : Problem → List Decision → Type 0
IsAllDecided problem node = (m : ℕ) → m < length problem.base.members → IsDecidedLine problem node m
