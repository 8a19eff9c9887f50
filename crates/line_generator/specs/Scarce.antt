-- Bids that want more pairings of a kind than the month has.
use Rattle.std.specs.Prelude.{◌≡◌, ℕ, ◌<◌, true, Some, length, slice_get}
use Rattle.duty_calendar.specs.Minutes.{count_between}
use Rattle.roster_model.specs.declared.bid.Bid.{Bid}
use Rattle.roster_model.specs.declared.bid.Wish.{Wish}
use Rattle.roster_model.specs.declared.bid.Wish.TheVariants.{Fly, Avoid, Prefer, Off, CreditBelow, CreditAbove, DaysOff}
use Rattle.roster_model.specs.declared.problem.Problem.{Problem}
use Rattle.roster_model.specs.Filters.{is_kept}
use Rattle.roster_model.specs.Scores.{bids_of}
use Rattle.lens_classes.specs.TermLines.{is_counted}
use Rattle.lens_classes.specs.declared.terms.Terms.{Terms}

-- a wish for more pairings of a kind than the month has
abbrev pub IsScarce : Problem → Wish → Type 0
IsScarce problem (Fly p) = ⊥
IsScarce problem (Avoid f) = ⊥
IsScarce problem (Prefer n f) = count_between (is_kept problem f) 0 (length problem.base.pairings) < n
IsScarce problem (Off first last) = ⊥
IsScarce problem (CreditBelow m) = ⊥
IsScarce problem (CreditAbove m) = ⊥
IsScarce problem (DaysOff n) = ⊥

-- terms that count pairings for such a wish
pub record CountsScarce (problem : Problem) (member : ℕ) (terms : Terms) : Type 0 where
  pub bid : ℕ
  pub scarce : Bid
  pub there : slice_get (bids_of problem member) bid ≡ Some scarce
  pub counted : is_counted terms bid ≡ true
  pub few : IsScarce problem scarce.wish
