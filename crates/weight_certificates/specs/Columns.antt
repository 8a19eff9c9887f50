-- Lines of the members by their standard lenses, and rounds that weigh enough.
use Rattle.std.specs.Prelude.{◌≡◌, ℕ, ◌<◌, ◌≤ℤ◌, ℤ, pos, All, List, [], length, slice_index_or}
use Rattle.roster_model.specs.declared.problem.Problem.{Problem}
use Rattle.roster_model.specs.declared.goal.Goal.{Goal}
use Rattle.roster_model.specs.declared.node.Decision.{Decision}
use Rattle.roster_model.specs.Rounds.{IsStandardLine, IsRound, miss_of}
use Rattle.roster_model.specs.Weights.{weight_at}
use Rattle.weight_certificates.specs.Rows.{AreWithin, product_of}

-- the lines of a member
abbrev pub lines_of : List (List (List ℕ)) → ℕ → List (List ℕ)
lines_of columns member = slice_index_or columns member []

-- some lines of each member, each by the member's standard lens
pub record AreColumns (problem : Problem) (goal : Goal) (node : List Decision) (columns : List (List (List ℕ))) : Type 0 where
  pub per_member : length columns ≡ length problem.base.members
  pub standard : (m : ℕ) → m < length columns → All (IsStandardLine problem goal node m) (lines_of columns m)

-- a round that weighs no less than the needs, and its miss
pub record IsHeavyEnough (problem : Problem) (goal : Goal) (node : List Decision) (weights miss : List ℤ) (round : List (List ℕ)) : Type 0 where
  pub is_round : IsRound problem goal node round
  pub per_pairing : length miss ≡ length problem.base.pairings
  pub is_miss :
      (p : ℕ) → p < length problem.base.pairings → weight_at miss p ≡ miss_of problem round p
  pub within : AreWithin 200 miss
  pub not_less : pos 0 ≤ℤ product_of weights miss
