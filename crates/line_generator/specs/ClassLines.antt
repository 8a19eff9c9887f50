-- The lines of the classes of a lens, set by set of the bids that a class grants.
use Rattle.std.specs.Prelude.{◌≡◌, ℕ, ℤ, ◌<◌, ◌≤◌, ◌≤ℤ◌, ◌&&◌, Bool, true, false, List, Option, Some, None, int_lt, slice_get, if◌then◌else◌}
use Rattle.duty_calendar.specs.Minutes.{count_between}
use Rattle.roster_model.specs.declared.bid.Bid.{Bid}
use Rattle.roster_model.specs.declared.bid.Wish.{Wish}
use Rattle.roster_model.specs.declared.goal.Goal.{Goal}
use Rattle.roster_model.specs.declared.node.Decision.{Decision}
use Rattle.roster_model.specs.declared.problem.Problem.{Problem}
use Rattle.roster_model.specs.declared.proof.Lens.{Lens}
use Rattle.roster_model.specs.Lenses.{IsLens, is_tracked, is_whole}
use Rattle.roster_model.specs.Scores.{bids_of}
use Rattle.roster_model.specs.Weights.{weight_of}
use Rattle.lens_classes.specs.Classes.{IsClass, IsClassLens, IsImplied, IsTerms, beyond_for, days_for, is_counting, is_in, least_for}
use Rattle.lens_classes.specs.Laws.{KeepsClass}
use Rattle.lens_classes.specs.TermLines.{AreTermsOf}
use Rattle.lens_classes.specs.declared.terms.Terms.{Terms}
use Rattle.line_generator.specs.declared.classes.Class.{Class}
use Rattle.term_lines.specs.declared.priced.PricedLine.{PricedLine}

-- a wish on credit or days off that all lines grant which keep the terms
pub record IsImpliedBy (wish : Wish) (terms : Terms) : Type 0 where
  pub whole : is_whole wish ≡ true
  pub single : is_counting wish ≡ false
  pub low : least_for wish ≤ terms.low
  pub beyond : (base : ℕ) → terms.high < base → terms.high < beyond_for base wish
  pub days : days_for wish ≤ terms.days_off

-- a tracked bid that the set leaves out, though all lines that keep the terms grant it
pub record LosesImplied (problem : Problem) (member : ℕ) (lens : Lens) (granted : ℕ → Bool) (terms : Terms) : Type 0 where
  pub bid : ℕ
  pub lost : Bid
  pub there : slice_get (bids_of problem member) bid ≡ Some lost
  pub tracked : is_tracked lens bid ≡ true
  pub left : granted bid ≡ false
  pub implied : IsImpliedBy lost.wish terms

-- the set has each tracked bid that all lines grant which keep the terms
abbrev pub KeepsImplied : Problem → ℕ → Lens → (ℕ → Bool) → Terms → Type 0
KeepsImplied problem member lens granted terms =
    (bid : ℕ) (b : Bid) → slice_get (bids_of problem member) bid ≡ Some b → is_tracked lens bid ≡ true
    → IsImpliedBy b.wish terms → granted bid ≡ true

-- the bids are a class with each bid that is implied by it, and the line is in it
pub record IsClassLine (problem : Problem) (member : ℕ) (goal : Goal) (node : List Decision) (lens : Lens) (granted : ℕ → Bool) (line : List ℕ) : Type 0 where
  pub is : IsClass problem member goal lens granted
  pub closed :
      (bid : ℕ) (b : Bid) → slice_get (bids_of problem member) bid ≡ Some b → is_tracked lens bid ≡ true
      → IsImplied problem member lens granted b.wish → granted bid ≡ true
  pub keeps : KeepsClass problem member goal node lens granted line

-- the terms and the lens of the class that grants these bids
pub record IsClassOf (problem : Problem) (member : ℕ) (goal : Goal) (lens : Lens) (granted : ℕ → Bool) (class : Class) : Type 0 where
  pub is : IsClass problem member goal lens granted
  pub are_terms : IsTerms problem member goal lens granted class.terms
  pub is_lens : IsClassLens problem member lens class.terms.days_off class.lens
  pub fits : AreTermsOf problem member class.terms
  pub shape : IsLens problem member lens → IsLens problem member class.lens

-- each line of one class is a line of another, whatever is decided
abbrev pub HasLinesOf : Problem → ℕ → Goal → Lens → (ℕ → Bool) → (ℕ → Bool) → Type 0
HasLinesOf problem member goal lens wide granted =
    (node : List Decision) (line : List ℕ) → IsClassLine problem member goal node lens granted line
    → IsClassLine problem member goal node lens wide line

-- all lines of the class weigh so that the fact holds
abbrev pub AllOfClass : Problem → ℕ → Goal → List Decision → Lens → List ℤ → (ℕ → Bool) → (ℤ → Type 0) → Type 0
AllOfClass problem member goal node lens weights granted P =
    (line : List ℕ) → IsClassLine problem member goal node lens granted line → P (weight_of weights line)

-- of some bids the set with this number: each bit of the number tells of one of them, in order
abbrev pub spread : (ℕ → Bool) → ℕ → ℕ → Bool
spread bids number bid = bids bid && is_in number (count_between bids 0 bid)

-- a class with a smaller number has all lines of that with this number
pub record IsSpared (problem : Problem) (member : ℕ) (goal : Goal) (lens : Lens) (bids : ℕ → Bool) (number : ℕ) : Type 0 where
  pub less : ℕ
  pub below : less < number
  pub lines : HasLinesOf problem member goal lens (spread bids less) (spread bids number)

-- the same of the sets with smaller numbers
abbrev pub AllBelow : Problem → ℕ → Goal → List Decision → Lens → List ℤ → (ℕ → Bool) → ℕ → (ℤ → Type 0) → Type 0
AllBelow problem member goal node lens weights bids count P =
    (number : ℕ) → number < count
    → AllOfClass problem member goal node lens weights (spread bids number) P

-- no more than what the line weighs; nothing where there is no line
abbrev pub AtMost : Option PricedLine → ℤ → Type 0
AtMost (Some b) weight = weight ≤ℤ b.weight
AtMost None weight = ⊥

-- the heavier of two lines
abbrev pub heavier : Option PricedLine → Option PricedLine → Option PricedLine
heavier (Some a) (Some b) = if int_lt a.weight b.weight then Some b else Some a
heavier (Some a) None = Some a
heavier None found = found

-- the weight of the line, where there is one, else the bound
abbrev pub raised : Option PricedLine → ℤ → ℤ
raised (Some b) over = b.weight
raised None over = over
