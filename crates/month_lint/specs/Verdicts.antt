-- What a verdict says of the files.
use Rattle.std.specs.Prelude.{◌≡◌, Ok}
use Rattle.shelf.specs.Files.{Files}
use Rattle.month_files.specs.Months.{Names, HasFault}
use Rattle.month_files.specs.Reading.{Inputs, texts_in}
use Rattle.month_files.specs.declared.fault.InputFault.{InputFault}
use Rattle.month_lint.specs.declared.verdict.Verdict.{Verdict}
use Rattle.month_lint.specs.declared.verdict.Verdict.TheVariants.{Clean, Odd, Faulty, Unread}
use Rattle.roster_model.specs.declared.problem.Problem.{Problem}

-- the texts name a month
pub record NameMonth (texts : Inputs) : Type 0 where
  pub problem : Problem
  pub names : Names texts problem

-- the texts have a first fault
pub record AreFaulty (texts : Inputs) : Type 0 where
  pub fault : InputFault
  pub here : HasFault texts fault

-- the files have eight texts, of which P holds
pub record HaveTexts (files : Files) (P : Inputs → Type 0) : Type 0 where
  pub texts : Inputs
  pub are : texts_in files ≡ Ok texts
  pub holds : P texts

-- what the verdict on eight texts says of them
abbrev pub Judges : Inputs → Verdict → Type 0
Judges texts Clean = NameMonth texts
Judges texts Odd = NameMonth texts
Judges texts Faulty = AreFaulty texts
Judges texts Unread = ⊥

-- what the verdict on a folder says of its files
abbrev pub IsVerdict : Files → Verdict → Type 0
IsVerdict files Clean = HaveTexts files NameMonth
IsVerdict files Odd = HaveTexts files NameMonth
IsVerdict files Faulty = HaveTexts files AreFaulty
IsVerdict files Unread = Unit {0}
