-- What stands of the reasons while bids are explained one after another.
use Rattle.std.specs.Prelude.{◌≡◌, ℕ, ◌+◌, ◌<◌, ◌≤◌, false, nat_lt, List, length, take, slice_get, Some, sum_by, if◌then◌else◌}
use Rattle.roster_model.specs.declared.problem.Problem.{Problem}
use Rattle.roster_model.specs.declared.goal.BidRef.{BidRef}
use Rattle.roster_model.specs.declared.award.Cause.{Cause}
use Rattle.roster_model.specs.declared.award.Cause.TheVariants.{Tie, Place}
use Rattle.roster_model.specs.declared.award.Denial.{Denial}
use Rattle.roster_model.specs.declared.award.Shown.{Shown}
use Rattle.roster_model.specs.Goals.{IsBidOf}
use Rattle.roster_model.specs.Rosters.{scores_of}
use Rattle.roster_model.specs.Denials.{IsBefore, IsListed, IsShown, is_granted_by, place_of}
use Rattle.roster_model.specs.Splits.{shown_splits}
use Rattle.branch_log.specs.Book.{Book}
use Rattle.completion_search.specs.Found.{HasRoom}
use Rattle.denials.specs.Known.{AreFound}
use Rattle.denials.specs.declared.bids.Made.{Made}

-- the reasons and parts are right for all bids before this one
pub record AreExplained (problem : Problem) (roster : List (List ℕ)) (reasons : List Denial) (shown : List Shown) (bid : BidRef) : Type 0 where
  pub bids : (at : ℕ) (denial : Denial) → slice_get reasons at ≡ Some denial → IsBidOf problem denial.bid
  pub before : (at : ℕ) (denial : Denial) → slice_get reasons at ≡ Some denial → IsBefore denial.bid bid
  pub denied :
      (at : ℕ) (denial : Denial) → slice_get reasons at ≡ Some denial
      → is_granted_by problem roster denial.bid ≡ false
  pub all :
      (other : BidRef) → IsBidOf problem other → IsBefore other bid → is_granted_by problem roster other ≡ false
      → IsListed reasons other
  pub ordered :
      (sooner later : ℕ) (first second : Denial) → sooner < later → slice_get reasons sooner ≡ Some first
      → slice_get reasons later ≡ Some second → IsBefore first.bid second.bid
  pub places :
      (at : ℕ) (denial : Denial) → slice_get reasons at ≡ Some denial
      → place_of denial.cause ≤ length problem.base.members
  pub count : length shown ≡ length reasons
  pub each :
      (at : ℕ) (denial : Denial) (part : Shown) → slice_get reasons at ≡ Some denial → slice_get shown at ≡ Some part
      → IsShown problem (scores_of problem roster) denial part

-- all bids before this one are explained, what was found is known, and the proofs that were added have at most as many
-- splits as entries were added
pub record GoesOn (problem : Problem) (roster : List (List ℕ)) (next : BidRef) (before after : Book) (had made : Made) : Type 0 where
  pub room : HasRoom after
  pub explained : AreExplained problem roster made.reasons made.shown next
  pub known : AreFound problem (scores_of problem roster) made.known
  pub short : shown_splits made.shown + length before.entries ≤ shown_splits had.shown + length after.entries

-- the bid behind this one of the same member, and the first one of a member
abbrev pub bid_behind : BidRef → BidRef
bid_behind bid = record { member = bid.member; bid = bid.bid + 1 }

abbrev pub first_bid : ℕ → BidRef
first_bid member = record { member = member; bid = 0 }

-- the cause that a place shows: a tie where it is above the last
abbrev pub cause_at : ℕ → ℕ → Cause
cause_at members place = if nat_lt members place then Tie else Place place

-- how many bids the first members have
unfoldable pub bids_below : Problem → ℕ → ℕ
bids_below problem member = sum_by (λ bids. length bids) (take member problem.bids)
