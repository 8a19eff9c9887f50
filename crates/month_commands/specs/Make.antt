-- What `make` writes: the files of a month that is made of a number.
use Rattle.std.specs.Prelude.{◌≡◌, ℕ, List, Result, Ok, Err}
use Rattle.instance_maker.specs.Months.{IsMade}
use Rattle.month_files.specs.Drafts.{inputs_of, input_drafts}
use Rattle.month_files.specs.Months.{Names}
use Rattle.month_files.specs.Reading.{AreShort}
use Rattle.month_files.specs.Writes.{IsStop}
use Rattle.month_files.specs.declared.writing.Draft.{Draft}
use Rattle.month_files.specs.declared.writing.Unwritten.{Unwritten}
use Rattle.roster_model.specs.declared.problem.Problem.{Problem}
use Rattle.month_commands.specs.declared.make_stop.MakeStop.{MakeStop}
use Rattle.month_commands.specs.declared.make_stop.MakeStop.TheVariants as stop

-- the month that is made for so many members and pairings is this problem, of which P holds
pub record OfMade (number members pairings : ℕ) (P : Problem → Type 0) : Type 0 where
  pub problem : Problem
  pub made : IsMade number members pairings problem
  pub found : P problem

-- these are the files of the problem; their texts name it, and none is longer than its limit
pub record AreItsFiles (drafts : List Draft) (problem : Problem) : Type 0 where
  pub drafts_are : drafts ≡ input_drafts (inputs_of problem)
  pub names : Names (inputs_of problem) problem
  pub short : AreShort (inputs_of problem)

abbrev pub IsMadeMonth : ℕ → ℕ → ℕ → List Draft → Type 0
IsMadeMonth number members pairings drafts = OfMade number members pairings (AreItsFiles drafts)

-- these are the files, and the one behind those that were written was not
pub record IsTorn (number members pairings : ℕ) (drafts : List Draft) (u : Unwritten) : Type 0 where
  pub made : IsMadeMonth number members pairings drafts
  pub stopped : IsStop drafts u

abbrev pub IsMake : ℕ → ℕ → ℕ → Result (List Draft) MakeStop → Type 0
IsMake number members pairings (Ok drafts) = IsMadeMonth number members pairings drafts
IsMake number members pairings (Err (stop.Unwritten drafts u)) = IsTorn number members pairings drafts u
IsMake number members pairings (Err stop.NoMemory) = Unit {0}
