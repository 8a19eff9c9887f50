-- What classes and their terms mean for the lines of a lens.
use Rattle.std.specs.Prelude.{◌≡◌, ℕ, ◌^◌, ◌<◌, ◌≤◌, max, Bool, true, false, List, Some, slice_get}
use Rattle.duty_calendar.specs.Minutes.{count_between}
use Rattle.roster_model.specs.declared.bid.Bid.{Bid}
use Rattle.roster_model.specs.declared.problem.Problem.{Problem}
use Rattle.roster_model.specs.declared.goal.Goal.{Goal}
use Rattle.roster_model.specs.declared.node.Decision.{Decision}
use Rattle.roster_model.specs.declared.proof.Lens.{Lens}
use Rattle.roster_model.specs.Goals.{MeetsGoal, Obeys}
use Rattle.roster_model.specs.Legality.{IsLegal}
use Rattle.roster_model.specs.Lenses.{IsLens, IsLensLine, is_tracked, is_whole_tracked}
use Rattle.roster_model.specs.Scores.{bids_of}
use Rattle.lens_classes.specs.declared.terms.Terms.{Terms}
use Rattle.lens_classes.specs.TermLines.{IsTermLine, is_counted, loose_weight}
use Rattle.lens_classes.specs.Classes.{IsClass, IsClassLens, IsImplied, IsTerms, is_in}
use Rattle.lens_classes.specs.Today.{IsLensLineBefore}

-- the line keeps the terms of the class by its lens, whichever way these are written down
abbrev pub KeepsClass : Problem → ℕ → Goal → List Decision → Lens → (ℕ → Bool) → List ℕ → Type 0
KeepsClass problem member goal node lens granted line =
    (terms : Terms) (narrow : Lens) → IsTerms problem member goal lens granted terms
    → IsClassLens problem member lens terms.days_off narrow → IsTermLine problem member node narrow terms line

-- a line of the lens is in a class, with all that this class asks, by a set of tracked bids that only a whole line
-- decides: those that the class grants, as bits, with each tracked bid that is implied by these
pub record IsInClass (problem : Problem) (member : ℕ) (goal : Goal) (node : List Decision) (lens : Lens) (line : List ℕ) : Type 0 where
  pub granted : ℕ
  pub within : granted < 2 ^ 64
  pub only : (bid : ℕ) → is_in granted bid ≡ true → is_whole_tracked problem member lens bid ≡ true
  pub closed :
      (bid : ℕ) (b : Bid) → slice_get (bids_of problem member) bid ≡ Some b → is_tracked lens bid ≡ true
      → IsImplied problem member lens (is_in granted) b.wish → is_in granted bid ≡ true
  pub class : IsClass problem member goal lens (is_in granted)
  pub keeps : KeepsClass problem member goal node lens (is_in granted) line

-- the lines of a lens are those of its classes, which are few: at most six bids can be in the sets that tell them
-- apart
pub record PassesByClasses (problem : Problem) (member : ℕ) (goal : Goal) (node : List Decision) (lens : Lens) : Type 0 where
  pub few : (bids : ℕ) → count_between (is_whole_tracked problem member lens) 0 bids ≤ 6
  pub some :
      (line : List ℕ) → IsLensLine problem member goal node lens line
      → IsInClass problem member goal node lens line
  pub each :
      (granted : ℕ → Bool) (terms : Terms) (narrow : Lens) (line : List ℕ) → IsClass problem member goal lens granted
      → IsTerms problem member goal lens granted terms → IsClassLens problem member lens terms.days_off narrow
      → IsTermLine problem member node narrow terms line → IsLensLine problem member goal node lens line

abbrev pub WholeLensesPassByClasses : Problem → Type 0
WholeLensesPassByClasses problem =
    (member : ℕ) (goal : Goal) (node : List Decision) (lens : Lens) → IsLens problem member lens
    → PassesByClasses problem member goal node lens

-- the same lines as before
pub record PassesAsBefore (problem : Problem) (member : ℕ) (goal : Goal) (node : List Decision) (lens : Lens) : Type 0 where
  pub before :
      (line : List ℕ) → IsLensLine problem member goal node lens line
      → IsLensLineBefore problem member goal node lens line
  pub since :
      (line : List ℕ) → IsLensLineBefore problem member goal node lens line
      → IsLensLine problem member goal node lens line

abbrev pub PlainLensesPassAsBefore : Problem → Type 0
PlainLensesPassAsBefore problem =
    (member : ℕ) (goal : Goal) (node : List Decision) (lens : Lens) → IsLens problem member lens
    → lens.whole ≡ false → PassesAsBefore problem member goal node lens

-- terms that ask no more, or for no more weight than all lines of the lens have
pub record IsWider (problem : Problem) (member : ℕ) (lens : Lens) (wide terms : Terms) : Type 0 where
  pub low : wide.low ≤ terms.low
  pub high : terms.high ≤ wide.high
  pub days_off : wide.days_off ≤ terms.days_off
  pub floor : wide.floor ≤ max terms.floor (loose_weight problem member lens)
  pub asked : wide.asked ≡ terms.asked
  pub counted : (bid : ℕ) → is_counted wide bid ≡ true → is_counted terms bid ≡ true

abbrev pub WiderTermsPassMore : Problem → Type 0
WiderTermsPassMore problem =
    (member : ℕ) (node : List Decision) (lens first second : Lens) (wide terms : Terms) (line : List ℕ)
    → IsClassLens problem member lens wide.days_off first → IsClassLens problem member lens terms.days_off second
    → IsWider problem member first wide terms → IsTermLine problem member node second terms line
    → IsTermLine problem member node first wide line

-- a legal line that meets the goal and obeys the node passes the lens
abbrev pub LegalLinesPass : Problem → Type 0
LegalLinesPass problem =
    (member : ℕ) (goal : Goal) (node : List Decision) (lens : Lens) (line : List ℕ) → IsLens problem member lens
    → IsLegal problem member line → MeetsGoal problem goal member line → Obeys node member line
    → IsLensLine problem member goal node lens line
