-- What the judge asks of a roster and of proofs.
use Rattle.std.specs.Prelude.{◌≡◌, ℕ, ◌<◌, ◌≤◌, ◌^◌, ℤ, List, All, length}
use Rattle.std.specs.Option.{ForSome}
use Rattle.roster_model.specs.declared.problem.Problem.{Problem}
use Rattle.roster_model.specs.declared.goal.Goal.{Goal}
use Rattle.roster_model.specs.declared.node.Decision.{Decision}
use Rattle.roster_model.specs.declared.award.Denial.{Denial}
use Rattle.roster_model.specs.declared.award.Shown.{Shown}
use Rattle.roster_model.specs.Goals.{IsBidOf, IsGoal, IsNode}
use Rattle.roster_model.specs.Denials.{place_of}
use Rattle.roster_model.specs.declared.proof.Item.{Item}
use Rattle.roster_model.specs.declared.proof.Item.TheVariants.{Split, Count, Fixed, NoLine, Weights}
use Rattle.roster_model.specs.declared.proof.Lens.{Lens}
use Rattle.roster_model.specs.Lenses.{AreLenses}
use Rattle.roster_model.specs.Weights.{AreSmallWeights}

-- each line names pairings of the problem
abbrev pub AreInRange : Problem → List (List ℕ) → Type 0
AreInRange problem roster = All (All (λ p. p < length problem.base.pairings)) roster

-- the weights of an item are within their limit
abbrev pub HasSmallWeights : Item → Type 0
HasSmallWeights (Split m p) = Unit {0}
HasSmallWeights (Count p) = Unit {0}
HasSmallWeights (Fixed m) = Unit {0}
HasSmallWeights (NoLine m lens) = Unit {0}
HasSmallWeights (Weights ys lenses) = AreSmallWeights ys

abbrev pub HaveSmallWeights : List (List Item) → Type 0
HaveSmallWeights proofs = All (All HasSmallWeights) proofs

-- 32 bits count the parts of an item
abbrev pub HasFewWindows : Lens → Type 0
HasFewWindows lens = length lens.windows < 2 ^ 32

abbrev pub AreFewParts : List ℤ → List Lens → Type 0
AreFewParts weights lenses =
    (length weights < 2 ^ 32) × (length lenses < 2 ^ 32) × All HasFewWindows lenses

abbrev pub HasFewParts : Item → Type 0
HasFewParts (Split m p) = Unit {0}
HasFewParts (Count p) = Unit {0}
HasFewParts (Fixed m) = Unit {0}
HasFewParts (NoLine m lens) = HasFewWindows lens
HasFewParts (Weights ys lenses) = AreFewParts ys lenses

-- what is asked of each item: a goal and a node of the problem
pub record IsAsked (problem : Problem) (goal : Goal) (node : List Decision) : Type 0 where
  pub goal_fits : IsGoal problem goal
  pub node_fits : IsNode problem node

-- What is asked of a best line: a member's, at a goal and a node of the problem, by a lens whose
-- windows 32 bits count, and with a small weight for each pairing.
pub record IsQuestion (problem : Problem) (member : ℕ) (goal : Goal) (node : List Decision)
    (lens : Lens) (weights : List ℤ) : Type 0 where
  pub member_in_range : member < length problem.base.members
  pub asked : IsAsked problem goal node
  pub few_windows : HasFewWindows lens
  pub per_pairing : length weights ≡ length problem.base.pairings
  pub small : AreSmallWeights weights

-- what is asked of the best lines of all members: the same, by a lens of its shape for each member
pub record AreQuestions (problem : Problem) (goal : Goal) (node : List Decision)
    (weights : List ℤ) (lenses : List Lens) : Type 0 where
  pub asked : IsAsked problem goal node
  pub few_windows : All HasFewWindows lenses
  pub shapes : AreLenses problem lenses
  pub per_member : length lenses ≡ length problem.base.members
  pub per_pairing : length weights ≡ length problem.base.pairings
  pub small : AreSmallWeights weights

-- the items of a proof, and their parts
pub record IsCountableProof (items : List Item) : Type 0 where
  pub few_items : length items < 2 ^ 32
  pub few_parts : All HasFewParts items

-- the proofs, and what is in each
pub record IsCountable (proofs : List (List Item)) : Type 0 where
  pub few_proofs : length proofs < 2 ^ 32
  pub each : All IsCountableProof proofs

-- the weights of what is shown, and 32 bits that count its parts
abbrev pub HasSmallProof : Shown → Type 0
HasSmallProof shown = ForSome shown.proof (All HasSmallWeights)

abbrev pub HasCountableProof : Shown → Type 0
HasCountableProof shown = ForSome shown.proof IsCountableProof

-- the parts that are shown, and what is in each
pub record AreCountableParts (shown : List Shown) : Type 0 where
  pub few_parts : length shown < 2 ^ 32
  pub each : All HasCountableProof shown

-- each reason names a bid of the problem
abbrev pub NameBids : Problem → List Denial → Type 0
NameBids problem reasons = All (λ d. IsBidOf problem d.bid) reasons

-- What is asked of a reason and of its part: it names a bid and a place of the problem, there is a
-- score for each member, and its proof has small weights and parts that 32 bits count.
pub record IsReasonAsked (problem : Problem) (scores : List ℕ) (denial : Denial)
    (shown : Shown) : Type 0 where
  pub per_member : length scores ≡ length problem.base.members
  pub is_bid : IsBidOf problem denial.bid
  pub within : place_of denial.cause ≤ length problem.base.members
  pub small : HasSmallProof shown
  pub countable : HasCountableProof shown
