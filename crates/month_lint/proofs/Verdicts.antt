-- What the verdict on eight texts says of the files that have them.
use Rattle.std.proofs.Common.{◌≡◌, Option, Result, Ok, Err}
use Rattle.std.specs.Prelude.{IfOk}
use Rattle.std.specs.Option.{ForSome}
use Rattle.duty_calendar.specs.declared.memory.Memory.{Memory}
use Rattle.month_files.specs.Months.{Names, HasFault}
use Rattle.month_files.specs.Reading.{Inputs, texts_in}
use Rattle.month_files.specs.declared.fault.InputFault.{InputFault}
use Rattle.month_lint.specs.Verdicts.{NameMonth, AreFaulty, HaveTexts, Judges, IsVerdict}
use Rattle.month_lint.specs.declared.verdict.Verdict.{Verdict}
use Rattle.month_lint.specs.declared.verdict.Verdict.TheVariants.{Clean, Odd, Faulty, Unread}
use Rattle.roster_model.specs.declared.problem.Problem.{Problem}
use Rattle.shelf.specs.Files.{Files}

pub names_month : (t : Inputs) (problem : Problem) → Names t problem → NameMonth t
names_month t problem h = record { problem = problem; names = h }

pub is_faulty : (t : Inputs) (fault : InputFault) → HasFault t fault → AreFaulty t
is_faulty t fault h = record { fault = fault; here = h }

of_texts : (files : Files) (t : Inputs) (r : Result Verdict Memory) → texts_in files ≡ Ok t → IfOk r (Judges t) → IfOk r (IsVerdict files)
of_texts files t (Err e) are h = tt
of_texts files t (Ok Clean) are h = record { texts = t; are = are; holds = h }
of_texts files t (Ok Odd) are h = record { texts = t; are = are; holds = h }
of_texts files t (Ok Faulty) are h = record { texts = t; are = are; holds = h }
of_texts files t (Ok Unread) are h = tt

pub verdict_told : (shelf : Option Files) (t : Inputs) (r : Result Verdict Memory) → ForSome shelf (λ files. texts_in files ≡ Ok t) → IfOk r (Judges t)
    → ForSome shelf (λ files. IfOk r (IsVerdict files))
verdict_told shelf t r told h = λ files e. of_texts files t r (told files e) h
