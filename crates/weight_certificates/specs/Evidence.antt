-- Rounds of heaviest lines: what their misses add up to, and how they end.
use Rattle.std.specs.Prelude.{◌≡◌, ℕ, ◌*◌, ◌<◌, ℤ, neg_ℤ, ◌≤ℤ◌, All, List, length}
use Rattle.roster_model.specs.declared.problem.Problem.{Problem}
use Rattle.roster_model.specs.declared.goal.Goal.{Goal}
use Rattle.roster_model.specs.declared.node.Decision.{Decision}
use Rattle.roster_model.specs.declared.proof.Lens.{Lens}
use Rattle.roster_model.specs.Lenses.{IsOutweighed}
use Rattle.roster_model.specs.Rounds.{IsRound, HasEvenRounds, missed, squares_of, squared_misses}
use Rattle.roster_model.specs.Weights.{weight_at}
use Rattle.weight_certificates.specs.declared.rounds.Priced.{Priced}
use Rattle.weight_certificates.specs.declared.rounds.Priced.TheVariants as priced
use Rattle.branch_log.specs.Honest.{IsWhole}
use Rattle.weight_certificates.specs.declared.rounds.Next.{Next}
use Rattle.weight_certificates.specs.declared.rounds.Next.TheVariants as next
use Rattle.weight_certificates.specs.declared.rounds.Ended.{Ended}
use Rattle.weight_certificates.specs.declared.rounds.Ended.TheVariants as ended
use Rattle.weight_certificates.specs.declared.rounds.Evidence.{Evidence}
use Rattle.weight_certificates.specs.declared.rounds.Evidence.TheVariants as evidence
use Rattle.weight_certificates.specs.Columns.{IsHeavyEnough}
use Rattle.weight_certificates.specs.Pricing.{AreHeaviest, IsWithoutLine}
use Rattle.weight_certificates.specs.Rows.{AreWithin}

-- the heaviest lines of all members, or a member without a line
abbrev pub IsPriced : Problem → Goal → List Decision → List ℤ → List Lens → Priced → Type 0
IsPriced problem goal node weights lenses (priced.Round round) =
    AreHeaviest problem goal node weights lenses (length problem.base.members) round
IsPriced problem goal node weights lenses (priced.NoLine m) = IsWithoutLine problem goal node m

-- the weights are the negated sums of the misses of the rounds
pub record AreSummed (problem : Problem) (rounds : List (List (List ℕ))) (weights : List ℤ) : Type 0 where
  pub per_pairing : length weights ≡ length problem.base.pairings
  pub negated : (p : ℕ) → p < length problem.base.pairings → weight_at weights p ≡ neg_ℤ (missed problem rounds p)
  pub small : AreWithin (200 * length rounds) weights

-- so many even rounds, whose misses the weights sum
pub record HaveEvened (problem : Problem) (goal : Goal) (node : List Decision) (count : ℕ) (weights : List ℤ) : Type 0 where
  pub rounds : List (List (List ℕ))
  pub count_is : length rounds ≡ count
  pub each : All (IsRound problem goal node) rounds
  pub even : squares_of problem (missed problem rounds) ≤ℤ squared_misses problem rounds
  pub summed : AreSummed problem rounds weights

-- so many even rounds, with one of them
pub record HasLastRound (problem : Problem) (goal : Goal) (node : List Decision) (count : ℕ) (last : List (List ℕ)) : Type 0 where
  pub even : HasEvenRounds problem goal node count
  pub round : IsRound problem goal node last

-- a round that weighs no less than the needs with its miss, or why there is none
abbrev pub IsNext : Problem → Goal → List Decision → List ℤ → List Lens → List ℤ → Next → Type 0
IsNext problem goal node weights lenses miss (next.Round round) = IsHeavyEnough problem goal node weights miss round
IsNext problem goal node weights lenses miss (next.NoLine m) = IsWithoutLine problem goal node m
IsNext problem goal node weights lenses miss next.Outweighed = IsOutweighed problem goal node weights lenses

-- a member without a line, weights under which the lines fall short of the needs, a whole roster, or so many even
-- rounds
abbrev pub HasEnded : Problem → Goal → List Decision → List Lens → ℕ → List ℤ → Ended → Type 0
HasEnded problem goal node lenses count weights (ended.NoLine m) = IsWithoutLine problem goal node m
HasEnded problem goal node lenses count weights ended.Outweighed = IsOutweighed problem goal node weights lenses
HasEnded problem goal node lenses count weights (ended.Whole round) = IsWhole problem goal node round
HasEnded problem goal node lenses count weights (ended.Even last) = HasLastRound problem goal node count last

-- the same, with the weights
abbrev pub IsEvidence : Problem → Goal → List Decision → List Lens → ℕ → Evidence → Type 0
IsEvidence problem goal node lenses count (evidence.NoLine m) = IsWithoutLine problem goal node m
IsEvidence problem goal node lenses count (evidence.Outweighed weights) = IsOutweighed problem goal node weights.items lenses
IsEvidence problem goal node lenses count (evidence.Whole round) = IsWhole problem goal node round
IsEvidence problem goal node lenses count (evidence.Even last) = HasLastRound problem goal node count last
