-- Why what is shown for a reason does not show it.
use Rattle.std.specs.Prelude.{◌≡◌, ℕ, ◌+◌, ◌<◌, ◌⊎◌, List, [], length, slice_get, Some}
use Rattle.std.specs.Option.{ForSome}
use Rattle.roster_model.specs.declared.problem.Problem.{Problem}
use Rattle.roster_model.specs.declared.proof.Item.{Item}
use Rattle.roster_model.specs.declared.award.Denial.{Denial}
use Rattle.roster_model.specs.declared.award.Shown.{Shown}
use Rattle.roster_model.specs.Closing.{Closes}
use Rattle.roster_model.specs.Denials.{HasItsParts, IsShown, IsWitness, granting, place_of}
use Rattle.cert_checker.specs.declared.refusal.No.{No}
use Rattle.cert_checker.specs.declared.refusal.No.TheVariants as no
use Rattle.cert_checker.specs.Stops.{Stops}

-- the proof of the reason closes its goal
abbrev pub IsProofShown : Problem → List ℕ → Denial → Shown → Type 0
IsProofShown problem scores denial shown =
    ForSome shown.proof (Closes problem (granting scores (place_of denial.cause) denial.bid) [])

-- the roster is as it is to be shown for the reason
abbrev pub IsWitnessOf : Problem → List ℕ → Denial → List (List ℕ) → Type 0
IsWitnessOf problem scores denial = IsWitness problem scores denial.bid denial.cause

abbrev pub IsRosterShown : Problem → List ℕ → Denial → Shown → Type 0
IsRosterShown problem scores denial shown = ForSome shown.roster (IsWitnessOf problem scores denial)

-- the proof of the reason does not close its goal, and what is wrong with it
pub record IsProofStopped (problem : Problem) (scores : List ℕ) (search : ℕ) (denial : Denial)
    (shown : Shown) (why : No) : Type 0 where
  pub items : List Item
  pub here : shown.proof ≡ Some items
  pub stops : Stops problem (granting scores (place_of denial.cause) denial.bid) search items why

-- the roster of the reason is not as it is to be shown
pub record IsRosterWrong (problem : Problem) (scores : List ℕ) (denial : Denial)
    (shown : Shown) : Type 0 where
  pub roster : List (List ℕ)
  pub here : shown.roster ≡ Some roster
  pub wrong : IsWitnessOf problem scores denial roster → ⊥

-- the bid is that of the reason
abbrev pub IsItsBid : Denial → ℕ → ℕ → Type 0
IsItsBid denial member bid = (member ≡ denial.bid.member) × (bid ≡ denial.bid.bid)

-- what is wrong with the roster of a reason
abbrev pub RosterFails : Problem → List ℕ → Denial → Shown → No → Type 0
RosterFails problem scores denial shown no.NoMemory = Unit {0}
RosterFails problem scores denial shown (no.Member m why) = ⊥
RosterFails problem scores denial shown (no.Cover p count) = ⊥
RosterFails problem scores denial shown (no.Amount found) = ⊥
RosterFails problem scores denial shown (no.Item k at why) = ⊥
RosterFails problem scores denial shown (no.Left k) = ⊥
RosterFails problem scores denial shown (no.Reason m b) = ⊥
RosterFails problem scores denial shown (no.Shown m b) =
    IsItsBid denial m b × IsRosterWrong problem scores denial shown

-- what is wrong with the proof of a reason
abbrev pub ProofFails : Problem → List ℕ → ℕ → Denial → Shown → No → Type 0
ProofFails problem scores search denial shown no.NoMemory = Unit {0}
ProofFails problem scores search denial shown (no.Member m why) = ⊥
ProofFails problem scores search denial shown (no.Cover p count) = ⊥
ProofFails problem scores search denial shown (no.Amount found) = ⊥
ProofFails problem scores search denial shown (no.Item k at why) =
    IsProofStopped problem scores search denial shown (no.Item k at why)
ProofFails problem scores search denial shown (no.Left k) =
    IsProofStopped problem scores search denial shown (no.Left k)
ProofFails problem scores search denial shown (no.Reason m b) = ⊥
ProofFails problem scores search denial shown (no.Shown m b) = ⊥

-- what is wrong with a reason, in the order: its parts, its proof, its roster
abbrev pub IsUnshown : Problem → List ℕ → ℕ → Denial → Shown → No → Type 0
IsUnshown problem scores search denial shown no.NoMemory = Unit {0}
IsUnshown problem scores search denial shown (no.Member m why) = ⊥
IsUnshown problem scores search denial shown (no.Cover p count) = ⊥
IsUnshown problem scores search denial shown (no.Amount found) = ⊥
IsUnshown problem scores search denial shown (no.Item k at why) =
    HasItsParts denial.cause shown
    × IsProofStopped problem scores search denial shown (no.Item k at why)
IsUnshown problem scores search denial shown (no.Left k) =
    HasItsParts denial.cause shown × IsProofStopped problem scores search denial shown (no.Left k)
IsUnshown problem scores search denial shown (no.Reason m b) = ⊥
IsUnshown problem scores search denial shown (no.Shown m b) =
    IsItsBid denial m b
    × ((HasItsParts denial.cause shown → ⊥)
    ⊎ (HasItsParts denial.cause shown × IsProofShown problem scores denial shown
    × IsRosterWrong problem scores denial shown))

-- the reasons before this one are shown
abbrev pub AreShownBefore : Problem → List ℕ → List Denial → List Shown → ℕ → Type 0
AreShownBefore problem scores reasons shown count =
    (at : ℕ) (denial : Denial) (part : Shown) → at < count → slice_get reasons at ≡ Some denial
    → slice_get shown at ≡ Some part → IsShown problem scores denial part

-- all reasons are shown
abbrev pub AreAllShown : Problem → List ℕ → List Denial → List Shown → Type 0
AreAllShown problem scores reasons shown =
    AreShownBefore problem scores reasons shown (length reasons)

-- the reasons before this one are shown, and this one is not; its search is numbered behind those
-- of the places
pub record IsFirstUnshown (problem : Problem) (scores : List ℕ) (reasons : List Denial)
    (shown : List Shown) (why : No) : Type 0 where
  pub at : ℕ
  pub denial : Denial
  pub part : Shown
  pub reason : slice_get reasons at ≡ Some denial
  pub beside : slice_get shown at ≡ Some part
  pub before : AreShownBefore problem scores reasons shown at
  pub unshown : IsUnshown problem scores (length problem.base.members + at) denial part why
