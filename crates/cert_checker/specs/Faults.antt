-- What is wrong with an item at a node. Each fault says that the tests before it are passed.
use Rattle.std.specs.Prelude.{◌≡◌, ◌≢◌, ℕ, ◌<◌, ◌≤◌, ℤ, ◌≤ℤ◌, ◌⊎◌, true, false, List, length, slice_get, Option, Some, MatchOption}
use Rattle.std.specs.Option.{ForSome}
use Rattle.roster_model.specs.declared.problem.Problem.{Problem}
use Rattle.roster_model.specs.declared.goal.Goal.{Goal}
use Rattle.roster_model.specs.declared.node.Decision.{Decision}
use Rattle.roster_model.specs.declared.proof.Lens.{Lens}
use Rattle.roster_model.specs.declared.proof.Item.{Item}
use Rattle.roster_model.specs.declared.proof.Item.TheVariants.{Split, Count, Fixed, NoLine, Weights}
use Rattle.roster_model.specs.Decided.{is_decided}
use Rattle.roster_model.specs.Scores.{score_of, is_granted}
use Rattle.roster_model.specs.Rosters.{need_of}
use Rattle.roster_model.specs.Legality.{IsLegal}
use Rattle.roster_model.specs.Goals.{MeetsGoal}
use Rattle.roster_model.specs.Weights.{needed_weight, total}
use Rattle.roster_model.specs.Lenses.{IsLens, IsLensLine, HasNoLine, AreLenses, AreBestWeights}
use Rattle.roster_model.specs.Closing.{decided_crew, possible_crew, decided_line, IsDecidedLine}
use Rattle.line_lens.specs.declared.lens_fault.LensFault.{LensFault}
use Rattle.line_lens.specs.LensFaults.{IsLensFault}
use Rattle.cert_checker.specs.declared.refusal.ItemFault.{ItemFault}
use Rattle.cert_checker.specs.declared.refusal.ItemFault.TheVariants as fault
use Rattle.cert_checker.specs.declared.refusal.StepFault.{StepFault}
use Rattle.cert_checker.specs.declared.refusal.StepFault.TheVariants as step

-- a pair of the problem that the node decides already
pub record IsDecidedPair (problem : Problem) (node : List Decision)
    (member pairing : ℕ) : Type 0 where
  pub member_in_range : member < length problem.base.members
  pub pairing_in_range : pairing < length problem.base.pairings
  pub decided : is_decided node member pairing ≡ true

-- a pairing with no more members decided to fly it than needed, and no fewer left for it
pub record IsCoverable (problem : Problem) (node : List Decision) (pairing : ℕ) : Type 0 where
  pub in_range : pairing < length problem.base.pairings
  pub not_more : decided_crew problem node pairing ≤ need_of problem pairing
  pub not_fewer : need_of problem pairing ≤ possible_crew problem node pairing

-- the first pairing that is not decided for the member
pub record IsFirstUndecided (problem : Problem) (node : List Decision)
    (member pairing : ℕ) : Type 0 where
  pub in_range : pairing < length problem.base.pairings
  pub undecided : is_decided node member pairing ≡ false
  pub before : (p : ℕ) → p < pairing → is_decided node member p ≡ true

-- the line is legal and meets the goal
pub record Serves (problem : Problem) (goal : Goal) (member : ℕ) (line : List ℕ) : Type 0 where
  pub legal : IsLegal problem member line
  pub meets : MeetsGoal problem goal member line

-- the two parts of meeting a goal
abbrev pub IsFloorMet : Problem → Goal → ℕ → List ℕ → Type 0
IsFloorMet problem goal member line =
    ForSome (slice_get goal.floors member) (λ floor. floor ≤ score_of problem member line)

abbrev pub IsBidMet : Problem → Goal → ℕ → List ℕ → Type 0
IsBidMet problem goal member line =
    ForSome goal.grant (λ b. b.member ≡ member → is_granted problem member b.bid line ≡ true)

-- the lens has its shape, and a line of the member passes it
pub record HasLine (problem : Problem) (goal : Goal) (node : List Decision) (member : ℕ)
    (lens : Lens) : Type 0 where
  pub shape : IsLens problem member lens
  pub line : List ℕ
  pub passes : IsLensLine problem member goal node lens line

-- one weight for each pairing, and one lens for each member
pub record AreWide (problem : Problem) (weights : List ℤ) (lenses : List Lens) : Type 0 where
  pub per_pairing : length weights ≡ length problem.base.pairings
  pub per_member : length lenses ≡ length problem.base.members

-- so many weights and so many lenses, of which one number is wrong
pub record IsWrongWidth (problem : Problem) (weights : List ℤ) (lenses : List Lens)
    (found_weights found_lenses : ℕ) : Type 0 where
  pub weights_are : found_weights ≡ length weights
  pub lenses_are : found_lenses ≡ length lenses
  pub wrong :
      (found_weights ≢ length problem.base.pairings) ⊎ (found_lenses ≢ length problem.base.members)

-- the first member whose lens has not its shape
pub record IsFirstMisshapen (problem : Problem) (lenses : List Lens) (member : ℕ)
    (why : LensFault) : Type 0 where
  pub lens : Lens
  pub here : slice_get lenses member ≡ Some lens
  pub fault : IsLensFault problem member lens why
  pub before :
      (m : ℕ) (other : Lens) → m < member → slice_get lenses m ≡ Some other
      → IsLens problem m other

-- the first such member and the lens's fault, if there is one
abbrev pub FindsMisshapen : Problem → List Lens → Option (ℕ × LensFault) → Type 0
FindsMisshapen problem lenses found =
    MatchOption found (AreLenses problem lenses) (λ f. IsFirstMisshapen problem lenses f.0 f.1)

-- the first member of whom no line passes the lens
pub record IsFirstLineless (problem : Problem) (goal : Goal) (node : List Decision)
    (lenses : List Lens) (member : ℕ) : Type 0 where
  pub lens : Lens
  pub here : slice_get lenses member ≡ Some lens
  pub none : HasNoLine problem member goal node lens
  pub before :
      (m : ℕ) (other : Lens) → m < member → slice_get lenses m ≡ Some other
      → HasLine problem goal node m other

-- the best lines weigh so much together, and the needs no more
pub record IsHeavyEnough (problem : Problem) (goal : Goal) (node : List Decision)
    (weights : List ℤ) (lenses : List Lens) (lines needs : ℤ) : Type 0 where
  pub bests : List ℤ
  pub each : length bests ≡ length problem.base.members
  pub best : AreBestWeights problem goal node weights lenses bests
  pub lines_are : lines ≡ total bests
  pub needs_are : needs ≡ needed_weight problem weights
  pub enough : needs ≤ℤ lines

-- the faults of each kind of item
abbrev pub SplitFails : Problem → List Decision → ℕ → ℕ → ItemFault → Type 0
SplitFails problem node m p fault.Index =
    (length problem.base.members ≤ m) ⊎ (length problem.base.pairings ≤ p)
SplitFails problem node m p fault.Decided = IsDecidedPair problem node m p
SplitFails problem node m p fault.Covered = ⊥
SplitFails problem node m p (fault.Undecided q) = ⊥
SplitFails problem node m p fault.Fits = ⊥
SplitFails problem node m p (fault.Lens k lens_why) = ⊥
SplitFails problem node m p (fault.Line k) = ⊥
SplitFails problem node m p (fault.Nothing k) = ⊥
SplitFails problem node m p (fault.Sum lines needs) = ⊥
SplitFails problem node m p (fault.Width w l) = ⊥

abbrev pub CountFails : Problem → List Decision → ℕ → ItemFault → Type 0
CountFails problem node p fault.Index = length problem.base.pairings ≤ p
CountFails problem node p fault.Decided = ⊥
CountFails problem node p fault.Covered = IsCoverable problem node p
CountFails problem node p (fault.Undecided q) = ⊥
CountFails problem node p fault.Fits = ⊥
CountFails problem node p (fault.Lens k lens_why) = ⊥
CountFails problem node p (fault.Line k) = ⊥
CountFails problem node p (fault.Nothing k) = ⊥
CountFails problem node p (fault.Sum lines needs) = ⊥
CountFails problem node p (fault.Width w l) = ⊥

abbrev pub FixedFails : Problem → Goal → List Decision → ℕ → ItemFault → Type 0
FixedFails problem goal node m fault.Index = length problem.base.members ≤ m
FixedFails problem goal node m fault.Decided = ⊥
FixedFails problem goal node m fault.Covered = ⊥
FixedFails problem goal node m (fault.Undecided q) =
    (m < length problem.base.members) × IsFirstUndecided problem node m q
FixedFails problem goal node m fault.Fits =
    (m < length problem.base.members) × IsDecidedLine problem node m
    × Serves problem goal m (decided_line problem node m)
FixedFails problem goal node m (fault.Lens k lens_why) = ⊥
FixedFails problem goal node m (fault.Line k) = ⊥
FixedFails problem goal node m (fault.Nothing k) = ⊥
FixedFails problem goal node m (fault.Sum lines needs) = ⊥
FixedFails problem goal node m (fault.Width w l) = ⊥

abbrev pub NoLineFails : Problem → Goal → List Decision → ℕ → Lens → ItemFault → Type 0
NoLineFails problem goal node m lens fault.Index = length problem.base.members ≤ m
NoLineFails problem goal node m lens fault.Decided = ⊥
NoLineFails problem goal node m lens fault.Covered = ⊥
NoLineFails problem goal node m lens (fault.Undecided q) = ⊥
NoLineFails problem goal node m lens fault.Fits = ⊥
NoLineFails problem goal node m lens (fault.Lens k lens_why) =
    (m < length problem.base.members) × (k ≡ m) × IsLensFault problem m lens lens_why
NoLineFails problem goal node m lens (fault.Line k) =
    (m < length problem.base.members) × (k ≡ m) × HasLine problem goal node m lens
NoLineFails problem goal node m lens (fault.Nothing k) = ⊥
NoLineFails problem goal node m lens (fault.Sum lines needs) = ⊥
NoLineFails problem goal node m lens (fault.Width w l) = ⊥

abbrev pub WeightsFails : Problem → Goal → List Decision → List ℤ → List Lens → ItemFault → Type 0
WeightsFails problem goal node weights lenses fault.Index = ⊥
WeightsFails problem goal node weights lenses fault.Decided = ⊥
WeightsFails problem goal node weights lenses fault.Covered = ⊥
WeightsFails problem goal node weights lenses (fault.Undecided q) = ⊥
WeightsFails problem goal node weights lenses fault.Fits = ⊥
WeightsFails problem goal node weights lenses (fault.Lens k lens_why) =
    AreWide problem weights lenses × IsFirstMisshapen problem lenses k lens_why
WeightsFails problem goal node weights lenses (fault.Line k) = ⊥
WeightsFails problem goal node weights lenses (fault.Nothing k) =
    AreWide problem weights lenses × AreLenses problem lenses
    × IsFirstLineless problem goal node lenses k
WeightsFails problem goal node weights lenses (fault.Sum lines needs) =
    AreWide problem weights lenses × AreLenses problem lenses
    × IsHeavyEnough problem goal node weights lenses lines needs
WeightsFails problem goal node weights lenses (fault.Width w l) =
    IsWrongWidth problem weights lenses w l

-- the fault of an item
abbrev pub Fails : Problem → Goal → List Decision → Item → ItemFault → Type 0
Fails problem goal node (Split m p) why = SplitFails problem node m p why
Fails problem goal node (Count p) why = CountFails problem node p why
Fails problem goal node (Fixed m) why = FixedFails problem goal node m why
Fails problem goal node (NoLine m lens) why = NoLineFails problem goal node m lens why
Fails problem goal node (Weights ys lenses) why = WeightsFails problem goal node ys lenses why

-- such a fault, or want of memory
abbrev pub IsStepFault : (ItemFault → Type 0) → StepFault → Type 0
IsStepFault fails (step.Of why) = fails why
IsStepFault fails step.NoMemory = Unit {0}
