-- Months with vacant lines: members without a name of their own, events or bids, who may fly what the crew cannot.
use Rattle.std.specs.Prelude.{◌≡◌, ℕ, ◌+◌, ◌<◌, ◌≤◌, All, List, [], ◌++◌, codes, decimal, length, map, slice_get, Some}
use Rattle.std.specs.List.{range_with_len}
use Rattle.duty_calendar.specs.declared.member.Member.{Member}
use Rattle.roster_model.specs.declared.bid.Bid.{Bid}
use Rattle.roster_model.specs.declared.problem.Problem.{Problem}
use Rattle.roster_model.specs.Rosters.{IsComplete}
use Rattle.roster_model.specs.Awards.{HasNoRoster}
use Rattle.open_time.specs.declared.fault.OpenFault.{OpenFault}
use Rattle.open_time.specs.declared.fault.OpenFault.TheVariants.{NoMemory, Members, NameTaken}

-- the name of a vacant line, by its number from 1
unfoldable pub vacant_name : ℕ → List ℕ
vacant_name number = codes "vacant-" ++ decimal number

-- a vacant line, by its number from 0: any credit from 0:00 to 200:00, and no events
abbrev pub vacant_member : ℕ → Member
vacant_member number = record {
  name = vacant_name (number + 1);
  low = 0;
  high = 12000;
  history = [];
  fixed = [];
}

-- so many, named in order
abbrev pub vacant_members : ℕ → List Member
vacant_members count = map vacant_member (range_with_len 0 count)

-- and none of them bids
abbrev pub no_bids : ℕ → List Bid
no_bids number = []

-- the month has so many vacant lines behind all its members, and is else the same
pub record IsWithVacant (problem : Problem) (count : ℕ) (made : Problem) : Type 0 where
  pub rules : made.base.rules ≡ problem.base.rules
  pub pairings : made.base.pairings ≡ problem.base.pairings
  pub members : made.base.members ≡ problem.base.members ++ vacant_members count
  pub bids : made.bids ≡ problem.bids ++ map no_bids (range_with_len 0 count)

-- the name is that of one of so many vacant lines
abbrev pub IsVacantName : ℕ → List ℕ → Type 0
IsVacantName count name = (number : ℕ) × (number < count) × (name ≡ vacant_name (number + 1))

-- so many vacant lines can be added: at most 200 lines are then to be filled, and no member has the name of one
pub record HasRoomFor (problem : Problem) (count : ℕ) : Type 0 where
  pub few : length problem.base.members + count ≤ 200
  pub free : All (λ m. IsVacantName count m.name → ⊥) problem.base.members

-- the first member who has the name of a vacant line, where they are few enough
pub record IsFirstTaken (problem : Problem) (count member : ℕ) : Type 0 where
  pub few : length problem.base.members + count ≤ 200
  pub has : Member
  pub here : slice_get problem.base.members member ≡ Some has
  pub taken : IsVacantName count has.name
  pub first :
      (sooner : ℕ) (other : Member) → sooner < member → slice_get problem.base.members sooner ≡ Some other
      → IsVacantName count other.name → ⊥

-- why so many cannot be added
abbrev pub IsOpenFault : Problem → ℕ → OpenFault → Type 0
IsOpenFault problem count NoMemory = Unit {0}
IsOpenFault problem count (Members total) =
    (total ≡ length problem.base.members + count) × (200 < total)
IsOpenFault problem count (NameTaken member) = IsFirstTaken problem count member

-- with so many vacant lines there is a complete roster
abbrev pub IsFilledWith : Problem → ℕ → Type 0
IsFilledWith problem count =
    (made : Problem) × IsWithVacant problem count made × ((roster : List (List ℕ)) × IsComplete made roster)

-- with so many there is none
abbrev pub IsUnfilledWith : Problem → ℕ → Type 0
IsUnfilledWith problem count = (made : Problem) → IsWithVacant problem count made → HasNoRoster made

-- one vacant line less is not enough
abbrev pub IsUnfilledBelow : Problem → ℕ → Type 0
IsUnfilledBelow problem count = (less : ℕ) → less + 1 ≡ count → IsUnfilledWith problem less

-- none of the lesser numbers is enough
abbrev pub IsUnfilledUnder : Problem → ℕ → Type 0
IsUnfilledUnder problem count = (less : ℕ) → less < count → IsUnfilledWith problem less

-- the month needs so many vacant lines: with them it is filled, and with one less it is not
pub record NeedsVacant (problem : Problem) (count : ℕ) : Type 0 where
  pub filled : IsFilledWith problem count
  pub fewer : IsUnfilledBelow problem count
