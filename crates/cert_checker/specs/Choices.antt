-- What a node says of one member: for each pairing whether the member flies it, where that is
-- decided.
use Rattle.std.specs.Prelude.{◌≡◌, ℕ, Bool, true, false, List, length, slice_get, Option, Some, Result, MatchOption, MatchResult}
use Rattle.roster_model.specs.declared.problem.Problem.{Problem}
use Rattle.roster_model.specs.declared.node.Decision.{Decision}
use Rattle.roster_model.specs.Decided.{is_decided, is_decided_as}
use Rattle.roster_model.specs.Closing.{decided_line, IsDecidedLine}
use Rattle.cert_checker.specs.Faults.{IsFirstUndecided}

-- what the node says of the pair
abbrev pub IsChoice : List Decision → ℕ → ℕ → Option Bool → Type 0
IsChoice node member pairing choice =
    MatchOption choice (is_decided node member pairing ≡ false)
    (λ flies. is_decided_as node member pairing flies ≡ true)

-- what it says of each of the first pairings, so many
pub record AreChoices (node : List Decision) (member count : ℕ)
    (choices : List (Option Bool)) : Type 0 where
  pub each : length choices ≡ count
  pub here :
      (p : ℕ) (choice : Option Bool) → slice_get choices p ≡ Some choice
      → IsChoice node member p choice

-- the member's line, where each pairing is decided
pub record IsLineDecided (problem : Problem) (node : List Decision) (member : ℕ)
    (line : List ℕ) : Type 0 where
  pub decided : IsDecidedLine problem node member
  pub value : line ≡ decided_line problem node member

-- that line, else the first pairing that is not decided
abbrev pub FindsLine : Problem → List Decision → ℕ → Result (List ℕ) ℕ → Type 0
FindsLine problem node member found =
    MatchResult found (IsLineDecided problem node member) (IsFirstUndecided problem node member)
