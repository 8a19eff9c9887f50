-- What is known of the places of a bid.
use Rattle.std.specs.Prelude.{◌≡◌, ℕ, ◌+◌, ◌≤◌, nat_lt, nat_le, List, [], length, Option, Some, None}
use Rattle.std.specs.Option.{ForSome, is_some}
use Rattle.roster_model.specs.declared.problem.Problem.{Problem}
use Rattle.roster_model.specs.declared.goal.BidRef.{BidRef}
use Rattle.roster_model.specs.declared.proof.Item.{Item}
use Rattle.roster_model.specs.Closing.{Closes}
use Rattle.roster_model.specs.Denials.{granting}
use Rattle.roster_model.specs.Splits.{splits_of}
use Rattle.branch_log.specs.Book.{Book}
use Rattle.completion_search.specs.Found.{HasRoom, IsFull}
use Rattle.denials.specs.Known.{IsReached}
use Rattle.denials.specs.declared.places.Settled.{Settled}

-- A roster is known that reaches the places before low, unless low is 0; and a proof of place high, unless that is
-- above the last.
pub record IsBracketed (problem : Problem) (scores : List ℕ) (bid : BidRef) (low high : ℕ) (roster : Option (List (List ℕ))) (proof : Option (List Item)) : Type 0 where
  pub within : high ≤ length problem.base.members + 1
  pub has_roster : is_some roster ≡ nat_lt 0 low
  pub roster_is : ForSome roster (IsReached problem scores bid low)
  pub has_proof : is_some proof ≡ nat_le high (length problem.base.members)
  pub proof_is : ForSome proof (Closes problem (granting scores high bid) [])

-- no place is left between: all before it are reached, and it is not
pub record IsSettled (problem : Problem) (scores : List ℕ) (bid : BidRef) (before after : Book) (settled : Settled) : Type 0 where
  pub room : HasRoom after
  pub bracketed : IsBracketed problem scores bid settled.place settled.place settled.roster settled.proof
  pub short : splits_of settled.proof + length before.entries ≤ length after.entries

abbrev pub IsSettling : Problem → List ℕ → BidRef → Book → Book → Option Settled → Type 0
IsSettling problem scores bid before after None = IsFull after
IsSettling problem scores bid before after (Some settled) = IsSettled problem scores bid before after settled
