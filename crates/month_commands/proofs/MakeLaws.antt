-- The files of a month that is made.
use Rattle.std.proofs.Common.{◌≡◌, ℕ, List, Result, Ok, Err}
use Rattle.std.specs.Prelude.{IfOk, OnOk}
use Rattle.duty_calendar.specs.declared.memory.Memory.{Memory}
use Rattle.instance_maker.specs.Months.{IsMade}
use Rattle.month_files.specs.Drafts.{inputs_of, input_drafts}
use Rattle.month_files.specs.Months.{Names}
use Rattle.month_files.specs.declared.writing.Draft.{Draft}
use Rattle.roster_model.specs.declared.problem.Problem.{Problem}
use Rattle.month_commands.specs.Make.{IsMadeMonth}
use Rattle.month_commands.proofs.MadeSizes.{made_short}

pub is_made : (number members pairings : ℕ) (problem : Problem) → IsMade number members pairings problem → (r : Result (List Draft) Memory)
    → IfOk r (λ drafts. drafts ≡ input_drafts (inputs_of problem)) → OnOk r (Names (inputs_of problem) problem) → IfOk r (IsMadeMonth number members pairings)
is_made number members pairings problem made (Ok drafts) is names =
    record { problem = problem; made = made; found = record { drafts_are = is; names = names; short = made_short number members pairings problem made } }
is_made number members pairings problem made (Err want) is names = tt
