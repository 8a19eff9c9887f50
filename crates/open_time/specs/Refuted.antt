-- What shows how many vacant lines a month needs.
use Rattle.std.specs.Prelude.{◌≡◌, ℕ, zero, suc, List, [], Option, None, Some}
use Rattle.roster_model.specs.declared.award.Awarded.{Awarded}
use Rattle.roster_model.specs.declared.award.Denial.{Denial}
use Rattle.roster_model.specs.declared.problem.Problem.{Problem}
use Rattle.roster_model.specs.declared.proof.Item.{Item}
use Rattle.roster_model.specs.Awards.{no_goal}
use Rattle.roster_model.specs.Closing.{Closes}
use Rattle.roster_model.specs.Denials.{IsAwarded}
use Rattle.open_time.specs.Vacant.{IsWithVacant, HasRoomFor}

-- the proof closes the empty goal of the month with so many vacant lines
pub record IsRefutedWith (problem : Problem) (count : ℕ) (proof : List Item) : Type 0 where
  pub made : Problem
  pub of : IsWithVacant problem count made
  pub closes : Closes made no_goal [] proof

-- a proof is there exactly for a count above 0, and closes the empty goal of the month with one vacant line less
abbrev pub IsRefutedBelow : Problem → ℕ → Option (List Item) → Type 0
IsRefutedBelow problem zero below = below ≡ None
IsRefutedBelow problem (suc less) below =
    (proof : List Item) × (below ≡ Some proof) × IsRefutedWith problem less proof

-- the award of the month with so many vacant lines is accepted
pub record IsAwardedWith (problem : Problem) (count : ℕ) (roster : List (List ℕ)) (reasons : List Denial) (awarded : Awarded) : Type 0 where
  pub made : Problem
  pub of : IsWithVacant problem count made
  pub accepted : IsAwarded made roster reasons awarded

-- so many vacant lines can be added, one less is not enough, and with them there is this award
pub record IsOpenAward (problem : Problem) (count : ℕ) (below : Option (List Item)) (roster : List (List ℕ)) (reasons : List Denial) (awarded : Awarded) : Type 0 where
  pub room : HasRoomFor problem count
  pub fewer : IsRefutedBelow problem count below
  pub award : IsAwardedWith problem count roster reasons awarded
