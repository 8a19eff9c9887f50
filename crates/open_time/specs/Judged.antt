-- When the award of a month with vacant lines is accepted, and the first test that fails.
use Rattle.std.specs.Prelude.{◌≡◌, ◌≢◌, ℕ, zero, suc, nat_lt, List, [], Option, Some, Result, IfErr}
use Rattle.std.specs.Option.{is_some}
use Rattle.roster_model.specs.declared.award.Awarded.{Awarded}
use Rattle.roster_model.specs.declared.award.Denial.{Denial}
use Rattle.roster_model.specs.declared.problem.Problem.{Problem}
use Rattle.roster_model.specs.declared.proof.Item.{Item}
use Rattle.roster_model.specs.Awards.{no_goal}
use Rattle.roster_model.specs.Closing.{Closes}
use Rattle.roster_model.specs.Denials.{IsAwarded}
use Rattle.cert_checker.specs.declared.refusal.No.{No}
use Rattle.cert_checker.specs.declared.refusal.No.TheVariants as no
use Rattle.cert_checker.specs.Awards.{IsFirstNo}
use Rattle.cert_checker.specs.Stops.{Stops}
use Rattle.open_time.specs.declared.fault.OpenFault.TheVariants as fault
use Rattle.open_time.specs.declared.refusal.OpenNo.{OpenNo}
use Rattle.open_time.specs.declared.refusal.OpenNo.TheVariants.{NoMemory, Open, NoneProof, Fewer, Award}
use Rattle.open_time.specs.Vacant.{IsWithVacant, HasRoomFor, IsOpenFault}
use Rattle.open_time.specs.Refuted.{IsRefutedWith, IsRefutedBelow}

-- a proof is there for a count of 0, or is not there for one above it
abbrev pub IsNoneMisplaced : ℕ → Option (List Item) → Type 0
IsNoneMisplaced count below = is_some below ≢ nat_lt 0 count

-- the vacant lines cannot be added, for this reason
abbrev pub OpeningFails : Problem → ℕ → OpenNo → Type 0
OpeningFails problem count NoMemory = Unit {0}
OpeningFails problem count (Open why) = (why ≢ fault.NoMemory) × IsOpenFault problem count why
OpeningFails problem count NoneProof = ⊥
OpeningFails problem count (Fewer why) = ⊥
OpeningFails problem count (Award why) = ⊥

-- this is what is wrong with the proof as one for so many vacant lines, so that it does not close their empty goal
pub record IsFewerWrong (problem : Problem) (less : ℕ) (proof : List Item) (why : No) : Type 0 where
  pub made : Problem
  pub of : IsWithVacant problem less made
  pub known : why ≢ no.NoMemory
  pub stops : Stops made no_goal 0 proof why
  pub closes_not : Closes made no_goal [] proof → ⊥

abbrev pub FewerFails : Problem → ℕ → List Item → OpenNo → Type 0
FewerFails problem less proof NoMemory = Unit {0}
FewerFails problem less proof (Open why) = ⊥
FewerFails problem less proof NoneProof = ⊥
FewerFails problem less proof (Fewer why) = IsFewerWrong problem less proof why
FewerFails problem less proof (Award why) = ⊥

-- a proof is there for a count of 0, or is not there for one above it; or this is what is wrong with it
abbrev pub IsBelowWrong : Problem → ℕ → Option (List Item) → No → Type 0
IsBelowWrong problem zero below why = ⊥
IsBelowWrong problem (suc less) below why =
    (proof : List Item) × (below ≡ Some proof) × IsFewerWrong problem less proof why

abbrev pub BelowFails : Problem → ℕ → Option (List Item) → OpenNo → Type 0
BelowFails problem count below NoMemory = Unit {0}
BelowFails problem count below (Open why) = ⊥
BelowFails problem count below NoneProof = IsNoneMisplaced count below
BelowFails problem count below (Fewer why) = IsBelowWrong problem count below why
BelowFails problem count below (Award why) = ⊥

-- the given proof is due, and closes the empty goal of the month with one vacant line less
abbrev pub IsRefutedBy : Problem → ℕ → List Item → Type 0
IsRefutedBy problem count proof = (less : ℕ) × (count ≡ suc less) × IsRefutedWith problem less proof

-- the given proof is not due, or this is what is wrong with it
abbrev pub GivenFails : Problem → ℕ → List Item → OpenNo → Type 0
GivenFails problem count proof NoMemory = Unit {0}
GivenFails problem count proof (Open why) = ⊥
GivenFails problem count proof NoneProof = count ≡ 0
GivenFails problem count proof (Fewer why) = (less : ℕ) × (count ≡ suc less) × IsFewerWrong problem less proof why
GivenFails problem count proof (Award why) = ⊥

-- this is what is wrong with the award, which is not accepted
abbrev pub AwardFails : Problem → List (List ℕ) → List Denial → Awarded → OpenNo → Type 0
AwardFails made roster reasons awarded NoMemory = Unit {0}
AwardFails made roster reasons awarded (Open why) = ⊥
AwardFails made roster reasons awarded NoneProof = ⊥
AwardFails made roster reasons awarded (Fewer why) = ⊥
AwardFails made roster reasons awarded (Award why) =
    (why ≢ no.NoMemory) × IsFirstNo made roster reasons awarded why × (IsAwarded made roster reasons awarded → ⊥)

-- one vacant line less is not enough, and this is what is wrong with the award
pub record IsAwardWrong (problem : Problem) (count : ℕ) (below : Option (List Item)) (roster : List (List ℕ)) (reasons : List Denial) (awarded : Awarded) (why : No) : Type 0 where
  pub room : HasRoomFor problem count
  pub fewer : IsRefutedBelow problem count below
  pub made : Problem
  pub of : IsWithVacant problem count made
  pub known : why ≢ no.NoMemory
  pub first : IsFirstNo made roster reasons awarded why

-- the first test that fails
abbrev pub IsFirstOpenNo : Problem → ℕ → Option (List Item) → List (List ℕ) → List Denial → Awarded → OpenNo → Type 0
IsFirstOpenNo problem count below roster reasons awarded NoMemory = Unit {0}
IsFirstOpenNo problem count below roster reasons awarded (Open why) =
    (why ≢ fault.NoMemory) × IsOpenFault problem count why
IsFirstOpenNo problem count below roster reasons awarded NoneProof =
    HasRoomFor problem count × IsNoneMisplaced count below
IsFirstOpenNo problem count below roster reasons awarded (Fewer why) =
    HasRoomFor problem count × IsBelowWrong problem count below why
IsFirstOpenNo problem count below roster reasons awarded (Award why) =
    IsAwardWrong problem count below roster reasons awarded why

-- any answer but want of memory
abbrev pub NamesOpenFault : OpenNo → Type 0
NamesOpenFault NoMemory = ⊥
NamesOpenFault (Open why) = Unit {0}
NamesOpenFault NoneProof = Unit {0}
NamesOpenFault (Fewer why) = Unit {0}
NamesOpenFault (Award why) = Unit {0}

-- where the answer names a fault, this does not hold
abbrev pub ExcludesOpen : {A : Type 0} → Result A OpenNo → Type 0 → Type 0
ExcludesOpen answer fact = IfErr answer (λ why. NamesOpenFault why → fact → ⊥)
