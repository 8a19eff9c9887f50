-- What is remembered of a judgement: answers that are right wherever they are asked again.
use Rattle.std.specs.Prelude.{◌≡◌, ◌≢◌, ℕ, ℤ, List, [], All, Option, Some, IfNone, IfSome, slice_get}
use Rattle.std.specs.Option.{ForSome}
use Rattle.roster_model.specs.declared.problem.Problem.{Problem}
use Rattle.roster_model.specs.declared.goal.Goal.{Goal}
use Rattle.roster_model.specs.declared.proof.Lens.{Lens}
use Rattle.roster_model.specs.Lenses.{HasNoLine, IsBestWeight}
use Rattle.cert_checker.specs.declared.recall.Answer.{Answer}
use Rattle.cert_checker.specs.declared.recall.Sheet.{Sheet}
use Rattle.cert_checker.specs.declared.recall.Recall.{Recall}
use Rattle.cert_checker.specs.Bests.{IsWithin}

-- a goal that asks of the member this floor, or none, and no bid
pub record AsksAlone (goal : Goal) (member : ℕ) (floor : Option ℕ) : Type 0 where
  pub same_floor : slice_get goal.floors member ≡ floor
  pub no_bid : ForSome goal.grant (λ b. b.member ≢ member)

-- at the goal and the node without decisions, this is what the member's heaviest line weighs, no
-- farther than the bound from zero; or no line passes
pub record IsRightAt (problem : Problem) (goal : Goal) (weights : List ℤ)
    (answer : Answer) : Type 0 where
  pub best : IfSome answer.best (IsBestWeight problem answer.member goal [] answer.lens weights)
  pub within : IfSome answer.best (IsWithin 1288490188200)
  pub none : IfNone answer.best (HasNoLine problem answer.member goal [] answer.lens)

-- at each goal that asks of the member the answer's floor alone
pub record IsRightAnswer (problem : Problem) (weights : List ℤ) (answer : Answer) : Type 0 where
  pub at :
      (goal : Goal) → AsksAlone goal answer.member answer.floor
      → IsRightAt problem goal weights answer

-- each answer of a sheet is right under its weights
pub record IsRightSheet (problem : Problem) (sheet : Sheet) : Type 0 where
  pub each : All (IsRightAnswer problem sheet.weights) sheet.answers

-- each answer that is kept is right
pub record IsRight (problem : Problem) (recall : Recall) : Type 0 where
  pub each : All (IsRightSheet problem) recall.sheets

-- an answer of these parts
abbrev pub answer_of : ℕ → Option ℕ → Lens → Option ℤ → Answer
answer_of member floor lens best =
    record { member = member; floor = floor; lens = lens; best = best }

-- the answer's member, floor and lens are these
pub record IsAnswerTo (answer : Answer) (member : ℕ) (floor : Option ℕ) (lens : Lens) : Type 0 where
  pub same_member : answer.member ≡ member
  pub same_floor : answer.floor ≡ floor
  pub same_lens : answer.lens ≡ lens

-- at the place stands a sheet of these weights
pub record IsSheetOf (sheets : List Sheet) (weights : List ℤ) (place : ℕ) : Type 0 where
  pub sheet : Sheet
  pub here : slice_get sheets place ≡ Some sheet
  pub same_weights : sheet.weights ≡ weights
