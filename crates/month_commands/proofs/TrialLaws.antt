-- What comes of the trial of a made month.
use Rattle.std.proofs.Common.{ℕ, Result, Ok, Err}
use Rattle.instance_maker.specs.Months.{IsMade}
use Rattle.month_commands.specs.Trial.{IsTried, IsTrial}
use Rattle.month_commands.specs.declared.award_stop.Miss.{Miss}
use Rattle.month_commands.specs.declared.award_stop.Miss.TheVariants as miss
use Rattle.month_commands.specs.declared.trying.Tried.{Tried}
use Rattle.roster_model.specs.declared.problem.Problem.{Problem}

pub is_trial : (number members pairings nodes : ℕ) (problem : Problem) → IsMade number members pairings problem → (r : Result Tried Miss) → IsTried problem nodes r
    → IsTrial number members pairings nodes r
is_trial number members pairings nodes problem made (Ok t) h = record { problem = problem; made = made; found = h }
is_trial number members pairings nodes problem made (Err (miss.Budget ledger)) h = record { problem = problem; made = made; found = h }
is_trial number members pairings nodes problem made (Err miss.NoMemory) h = tt
