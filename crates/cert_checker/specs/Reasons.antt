-- What is wrong with the reasons as a list.
use Rattle.std.specs.Prelude.{◌≡◌, ℕ, ◌<◌, ◌⊎◌, Bool, true, false, List, length, slice_get, Option, Some, MatchBool, MatchOption}
use Rattle.roster_model.specs.declared.problem.Problem.{Problem}
use Rattle.roster_model.specs.declared.goal.BidRef.{BidRef}
use Rattle.roster_model.specs.declared.award.Denial.{Denial}
use Rattle.roster_model.specs.Scores.{bids_of, is_granted}
use Rattle.roster_model.specs.Goals.{IsBidOf}
use Rattle.roster_model.specs.Denials.{IsBefore, IsListed, is_granted_by, place_of}

-- the answer is whether this holds
abbrev pub Decides : Type 0 → Bool → Type 0
Decides fact answer = MatchBool answer fact (fact → ⊥)

-- the bid is listed a second time, or behind a later bid
pub record IsMisplaced (reasons : List Denial) (bid : BidRef) : Type 0 where
  pub sooner : ℕ
  pub later : ℕ
  pub first : Denial
  pub second : Denial
  pub order : sooner < later
  pub first_here : slice_get reasons sooner ≡ Some first
  pub second_here : slice_get reasons later ≡ Some second
  pub is : second.bid ≡ bid
  pub behind : (first.bid ≡ bid) ⊎ IsBefore bid first.bid

-- the bid is listed with a place above the last
pub record IsPlacedPast (members : ℕ) (reasons : List Denial) (bid : BidRef) : Type 0 where
  pub at : ℕ
  pub denial : Denial
  pub here : slice_get reasons at ≡ Some denial
  pub is : denial.bid ≡ bid
  pub past : members < place_of denial.cause

-- what is wrong with the reasons at a bid, where there are so many members and the bid is granted
-- or not
pub data IsMislisted (members : ℕ) (granted : Bool) (reasons : List Denial)
    (bid : BidRef) : Type 0 where
  misplaced : IsMisplaced reasons bid → IsMislisted members granted reasons bid
  past_last : IsPlacedPast members reasons bid → IsMislisted members granted reasons bid
  granted_listed : granted ≡ true → IsListed reasons bid → IsMislisted members granted reasons bid
  denied_missing :
      granted ≡ false → (IsListed reasons bid → ⊥) → IsMislisted members granted reasons bid

-- the same in a roster
abbrev pub IsMislistedIn : Problem → List (List ℕ) → List Denial → BidRef → Type 0
IsMislistedIn problem roster reasons bid =
    IsMislisted (length problem.base.members) (is_granted_by problem roster bid) reasons bid

-- nothing is wrong at any bid
abbrev pub IsRightList : Problem → List (List ℕ) → List Denial → Type 0
IsRightList problem roster reasons =
    (bid : BidRef) → IsBidOf problem bid → IsMislistedIn problem roster reasons bid → ⊥

-- the first bid at which something is wrong
pub record IsFirstMislisted (problem : Problem) (roster : List (List ℕ)) (reasons : List Denial)
    (bid : BidRef) : Type 0 where
  pub known : IsBidOf problem bid
  pub wrong : IsMislistedIn problem roster reasons bid
  pub before :
      (other : BidRef) → IsBidOf problem other → IsBefore other bid
      → IsMislistedIn problem roster reasons other → ⊥

-- the first such bid, if there is one
abbrev pub FindsMislisted : Problem → List (List ℕ) → List Denial → Option BidRef → Type 0
FindsMislisted problem roster reasons found =
    MatchOption found (IsRightList problem roster reasons) (IsFirstMislisted problem roster reasons)

-- one of the reasons is the bid's or a later bid's
pub record IsPassed (reasons : List Denial) (bid : BidRef) : Type 0 where
  pub at : ℕ
  pub denial : Denial
  pub here : slice_get reasons at ≡ Some denial
  pub behind : (denial.bid ≡ bid) ⊎ IsBefore bid denial.bid

-- something is wrong with the reasons at a bid of a member who has the line
abbrev pub IsWrongOf : Problem → ℕ → List ℕ → List Denial → ℕ → Type 0
IsWrongOf problem member line reasons number =
    IsMislisted (length problem.base.members) (is_granted problem member number line) reasons
    (record { member = member; bid = number })

-- nothing is wrong at the member's first bids, so many
abbrev pub AreRightOf : Problem → ℕ → List ℕ → List Denial → ℕ → Type 0
AreRightOf problem member line reasons count =
    (number : ℕ) → number < count → IsWrongOf problem member line reasons number → ⊥

-- the first bid of the member at which something is wrong
pub record IsFirstOf (problem : Problem) (member : ℕ) (line : List ℕ) (reasons : List Denial)
    (number : ℕ) : Type 0 where
  pub known : number < length (bids_of problem member)
  pub wrong : IsWrongOf problem member line reasons number
  pub before : AreRightOf problem member line reasons number

-- the first such bid of the member, if there is one
abbrev pub FindsFirstOf : Problem → ℕ → List ℕ → List Denial → Option ℕ → Type 0
FindsFirstOf problem member line reasons found =
    MatchOption found (AreRightOf problem member line reasons (length (bids_of problem member)))
    (IsFirstOf problem member line reasons)
