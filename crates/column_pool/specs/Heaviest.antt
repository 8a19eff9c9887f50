-- The heaviest of some lines.
use Rattle.std.specs.Prelude.{ℕ, ◌<◌, ℤ, ◌≤ℤ◌, ◌<ℤ◌, List, Option, Some, None}
use Rattle.roster_model.specs.declared.problem.Problem.{Problem}
use Rattle.roster_model.specs.declared.goal.Goal.{Goal}
use Rattle.roster_model.specs.declared.node.Decision.{Decision}
use Rattle.roster_model.specs.Rosters.{line_at}
use Rattle.roster_model.specs.Rounds.{IsStandardLine}
use Rattle.roster_model.specs.Weights.{weight_of}

-- the line at a place is one by the member's standard lens
abbrev pub IsStandardAt : Problem → Goal → List Decision → ℕ → List (List ℕ) → ℕ → Type 0
IsStandardAt problem goal node member lines place = IsStandardLine problem goal node member (line_at lines place)

abbrev pub weight_at_place : List ℤ → List (List ℕ) → ℕ → ℤ
weight_at_place weights lines place = weight_of weights (line_at lines place)

-- of the lines before `count`, the one at this place is the first of the greatest weight of those by the standard lens
pub record IsFirstHeaviest (problem : Problem) (goal : Goal) (node : List Decision) (member : ℕ) (weights : List ℤ) (lines : List (List ℕ)) (count place : ℕ) : Type 0 where
  pub within : place < count
  pub standard : IsStandardAt problem goal node member lines place
  pub most :
      (k : ℕ) → k < count → IsStandardAt problem goal node member lines k
      → weight_at_place weights lines k ≤ℤ weight_at_place weights lines place
  pub first :
      (k : ℕ) → k < place → IsStandardAt problem goal node member lines k
      → weight_at_place weights lines k <ℤ weight_at_place weights lines place

-- a weight above that of the heaviest line, where there is one
abbrev pub IsAbove : Option ℕ → ℤ → ℤ → Type 0
IsAbove None most weight = Unit {0}
IsAbove (Some place) most weight = most <ℤ weight

-- no line before `count` is one by the standard lens
abbrev pub HasNoStandardLine : Problem → Goal → List Decision → ℕ → List (List ℕ) → ℕ → Type 0
HasNoStandardLine problem goal node member lines count =
    (k : ℕ) → k < count → IsStandardAt problem goal node member lines k → ⊥

-- the place of the first of greatest weight, or none where no line is one by the standard lens
abbrev pub IsHeaviest : Problem → Goal → List Decision → ℕ → List ℤ → List (List ℕ) → ℕ → Option ℕ → Type 0
IsHeaviest problem goal node member weights lines count None = HasNoStandardLine problem goal node member lines count
IsHeaviest problem goal node member weights lines count (Some place) =
    IsFirstHeaviest problem goal node member weights lines count place
