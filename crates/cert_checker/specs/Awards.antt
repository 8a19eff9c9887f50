-- The first test of an award that fails.
use Rattle.std.specs.Prelude.{◌≡◌, ◌≢◌, ℕ, ◌<◌, ◌≤◌, ◌⊎◌, List, [], length, slice_get, Some, Result, IfErr}
use Rattle.roster_model.specs.declared.problem.Problem.{Problem}
use Rattle.roster_model.specs.declared.goal.Goal.{Goal}
use Rattle.roster_model.specs.declared.node.Decision.{Decision}
use Rattle.roster_model.specs.declared.proof.Item.{Item}
use Rattle.roster_model.specs.declared.goal.BidRef.{BidRef}
use Rattle.roster_model.specs.declared.award.Denial.{Denial}
use Rattle.roster_model.specs.declared.award.Shown.{Shown}
use Rattle.roster_model.specs.declared.award.Awarded.{Awarded}
use Rattle.roster_model.specs.Rosters.{IsComplete, scores_of}
use Rattle.roster_model.specs.Closing.{Closes, IsHopeless}
use Rattle.roster_model.specs.Awards.{above_at, IsBest}
use Rattle.roster_model.specs.Denials.{AreReasons, DenialsAreAnswered, place_of}
use Rattle.line_legality.specs.declared.shortfall.RosterFault.TheVariants as roster_fault
use Rattle.line_legality.specs.Shortfalls.{IsFirstShortfall}
use Rattle.cert_checker.specs.declared.refusal.No.{No}
use Rattle.cert_checker.specs.declared.refusal.No.TheVariants as no
use Rattle.cert_checker.specs.Stops.{Stops}
use Rattle.cert_checker.specs.Reasons.{IsFirstMislisted}
use Rattle.cert_checker.specs.Unshown.{IsFirstUnshown}

-- the proofs of the places before this one close their goals
abbrev pub AreClosed : Problem → List ℕ → List (List Item) → ℕ → Type 0
AreClosed problem scores proofs place =
    (k : ℕ) (items : List Item) → k < place → slice_get proofs k ≡ Some items
    → Closes problem (above_at scores k) [] items

-- those of all places do
abbrev pub AreAllClosed : Problem → List ℕ → List (List Item) → Type 0
AreAllClosed problem scores proofs = AreClosed problem scores proofs (length proofs)

-- the proofs before this one close their goals, and this one does not, for this reason
pub record IsFirstOpen (problem : Problem) (scores : List ℕ) (proofs : List (List Item))
    (place : ℕ) (why : No) : Type 0 where
  pub before : AreClosed problem scores proofs place
  pub items : List Item
  pub here : slice_get proofs place ≡ Some items
  pub stops : Stops problem (above_at scores place) place items why

-- what is wrong with the proofs of the places
abbrev pub IsFirstOfPlaces : Problem → List ℕ → List (List Item) → No → Type 0
IsFirstOfPlaces problem scores proofs no.NoMemory = Unit {0}
IsFirstOfPlaces problem scores proofs (no.Member m why) = ⊥
IsFirstOfPlaces problem scores proofs (no.Cover p count) = ⊥
IsFirstOfPlaces problem scores proofs (no.Amount found) = ⊥
IsFirstOfPlaces problem scores proofs (no.Item k at why) =
    IsFirstOpen problem scores proofs k (no.Item k at why)
IsFirstOfPlaces problem scores proofs (no.Left k) = IsFirstOpen problem scores proofs k (no.Left k)
IsFirstOfPlaces problem scores proofs (no.Reason m b) = ⊥
IsFirstOfPlaces problem scores proofs (no.Shown m b) = ⊥

-- the roster is complete, and there are not as many proofs as members but so many
pub record IsWrongAmount (problem : Problem) (roster : List (List ℕ))
    (proofs : List (List Item)) (found : ℕ) : Type 0 where
  pub complete : IsComplete problem roster
  pub amount : found ≡ length proofs
  pub wrong : found ≢ length problem.base.members

-- the roster is complete and each place has a proof, of which one does not close the place's goal
pub record IsWrongPlace (problem : Problem) (roster : List (List ℕ)) (proofs : List (List Item))
    (why : No) : Type 0 where
  pub complete : IsComplete problem roster
  pub amount : length proofs ≡ length problem.base.members
  pub place : IsFirstOfPlaces problem (scores_of problem roster) proofs why

-- the first line that is illegal, else the first pairing without its crew
abbrev pub IsIncomplete : Problem → List (List ℕ) → No → Type 0
IsIncomplete problem roster no.NoMemory = Unit {0}
IsIncomplete problem roster (no.Member m why) =
    IsFirstShortfall problem roster (roster_fault.Line m why)
IsIncomplete problem roster (no.Cover p count) =
    IsFirstShortfall problem roster (roster_fault.Cover p count)
IsIncomplete problem roster (no.Amount found) = ⊥
IsIncomplete problem roster (no.Item k at why) = ⊥
IsIncomplete problem roster (no.Left k) = ⊥
IsIncomplete problem roster (no.Reason m b) = ⊥
IsIncomplete problem roster (no.Shown m b) = ⊥

-- the first test of the roster and the places that fails, in the order: lines and crews, the number
-- of proofs, the proofs
abbrev pub PlacesFail : Problem → List (List ℕ) → List (List Item) → No → Type 0
PlacesFail problem roster proofs no.NoMemory = Unit {0}
PlacesFail problem roster proofs (no.Member m why) = IsIncomplete problem roster (no.Member m why)
PlacesFail problem roster proofs (no.Cover p count) = IsIncomplete problem roster (no.Cover p count)
PlacesFail problem roster proofs (no.Amount found) = IsWrongAmount problem roster proofs found
PlacesFail problem roster proofs (no.Item k at why) =
    IsWrongPlace problem roster proofs (no.Item k at why)
PlacesFail problem roster proofs (no.Left k) = IsWrongPlace problem roster proofs (no.Left k)
PlacesFail problem roster proofs (no.Reason m b) = ⊥
PlacesFail problem roster proofs (no.Shown m b) = ⊥

-- there are not as many parts shown as reasons but so many
pub record IsWrongCount (reasons : List Denial) (shown : List Shown) (found : ℕ) : Type 0 where
  pub amount : found ≡ length shown
  pub wrong : found ≢ length reasons

-- each reason has its part, and this is the first bid at which the list of the reasons is wrong
pub record IsWrongList (problem : Problem) (roster : List (List ℕ)) (reasons : List Denial)
    (shown : List Shown) (bid : BidRef) : Type 0 where
  pub amount : length shown ≡ length reasons
  pub first : IsFirstMislisted problem roster reasons bid

-- no place is above the last
abbrev pub HaveRightPlaces : Problem → List Denial → Type 0
HaveRightPlaces problem reasons =
    (at : ℕ) (denial : Denial) → slice_get reasons at ≡ Some denial
    → place_of denial.cause ≤ length problem.base.members

-- each reason has its part, the list of the reasons is right, and one of them is not shown
pub record IsWrongReason (problem : Problem) (roster : List (List ℕ)) (reasons : List Denial)
    (shown : List Shown) (why : No) : Type 0 where
  pub amount : length shown ≡ length reasons
  pub listed : AreReasons problem roster reasons
  pub places : HaveRightPlaces problem reasons
  pub first : IsFirstUnshown problem (scores_of problem roster) reasons shown why

-- the first test of the denials that fails, in the order: the number of parts, the list of the
-- reasons, the reasons
abbrev pub DenialsFail : Problem → List (List ℕ) → List Denial → List Shown → No → Type 0
DenialsFail problem roster reasons shown no.NoMemory = Unit {0}
DenialsFail problem roster reasons shown (no.Member m why) = ⊥
DenialsFail problem roster reasons shown (no.Cover p count) = ⊥
DenialsFail problem roster reasons shown (no.Amount found) = IsWrongCount reasons shown found
DenialsFail problem roster reasons shown (no.Item k at why) =
    IsWrongReason problem roster reasons shown (no.Item k at why)
DenialsFail problem roster reasons shown (no.Left k) =
    IsWrongReason problem roster reasons shown (no.Left k)
DenialsFail problem roster reasons shown (no.Reason m b) =
    IsWrongList problem roster reasons shown (record { member = m; bid = b })
DenialsFail problem roster reasons shown (no.Shown m b) =
    IsWrongReason problem roster reasons shown (no.Shown m b)

-- where items close a node, no complete roster meets the goal and obeys the node
abbrev pub IsClosingSound : Problem → Type 0
IsClosingSound problem =
    (goal : Goal) (node : List Decision) (items : List Item) → Closes problem goal node items
    → IsHopeless problem goal node

-- the first test that fails: one of the roster and the places, else one of the denials
abbrev pub IsFirstNo : Problem → List (List ℕ) → List Denial → Awarded → No → Type 0
IsFirstNo problem roster reasons awarded why =
    PlacesFail problem roster awarded.proofs why
    ⊎ (IsBest problem roster awarded.proofs × DenialsFail problem roster reasons awarded.shown why)

-- any answer but want of memory
abbrev pub NamesFault : No → Type 0
NamesFault no.NoMemory = ⊥
NamesFault (no.Member m why) = Unit {0}
NamesFault (no.Cover p count) = Unit {0}
NamesFault (no.Amount found) = Unit {0}
NamesFault (no.Item k at why) = Unit {0}
NamesFault (no.Left k) = Unit {0}
NamesFault (no.Reason m b) = Unit {0}
NamesFault (no.Shown m b) = Unit {0}

-- where the answer names a fault, this does not hold
abbrev pub Excludes : {A : Type 0} → Result A No → Type 0 → Type 0
Excludes answer fact = IfErr answer (λ why. NamesFault why → fact → ⊥)

-- each bid that the award does not grant has a reason that is true
abbrev pub AreAnswered : Problem → List (List ℕ) → List Denial → Awarded → Type 0
AreAnswered problem roster reasons awarded = DenialsAreAnswered problem roster reasons awarded.shown
