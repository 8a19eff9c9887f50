-- What `trial` finds of a month that is made of a number.
use Rattle.std.specs.Prelude.{◌≡◌, ℕ, List, length, Result, Ok, Err}
use Rattle.branch_log.specs.Book.{Book}
use Rattle.month_award.specs.declared.outcome.AwardedMonth.{AwardedMonth}
use Rattle.month_award.specs.declared.outcome.UnfillableMonth.{UnfillableMonth}
use Rattle.month_award.specs.declared.outcome.MonthAward.TheVariants.{Award as MonthIsAwarded}
use Rattle.month_award.specs.Months.{IsAwardedMonth, IsUnfillableMonth, GivesGreatestScores}
use Rattle.roster_model.specs.declared.problem.Problem.{Problem}
use Rattle.roster_model.specs.Rosters.{scores_of}
use Rattle.month_commands.specs.declared.award_stop.Found.{Found}
use Rattle.month_commands.specs.declared.award_stop.Found.TheVariants as found
use Rattle.month_commands.specs.declared.award_stop.Miss.{Miss}
use Rattle.month_commands.specs.declared.award_stop.Miss.TheVariants as miss
use Rattle.month_commands.specs.declared.trying.Tried.{Tried}
use Rattle.month_commands.specs.Award.{SpendsBudget}
use Rattle.month_commands.specs.Make.{OfMade}

-- an award with its certificate and reasons, whose first scores are the greatest at each place
pub record TriesAward (problem : Problem) (nodes : ℕ) (scores : List ℕ) (denied : ℕ) (ledger : Book) : Type 0 where
  pub month : AwardedMonth
  pub awarded : IsAwardedMonth problem nodes month
  pub seniors : GivesGreatestScores problem (MonthIsAwarded month)
  pub scores_are : scores ≡ scores_of problem month.roster
  pub denied_are : denied ≡ length month.reasons
  pub ledger_is : ledger ≡ month.ledger

-- a certificate that there is no complete roster
pub record TriesNone (problem : Problem) (nodes : ℕ) (ledger : Book) : Type 0 where
  pub month : UnfillableMonth
  pub unfillable : IsUnfillableMonth problem nodes month
  pub ledger_is : ledger ≡ month.ledger

abbrev pub Tries : Problem → ℕ → Found → Book → Type 0
Tries problem nodes (found.Award scores denied) ledger = TriesAward problem nodes scores denied ledger
Tries problem nodes found.NoRoster ledger = TriesNone problem nodes ledger

-- what the search comes to
abbrev pub IsTried : Problem → ℕ → Result Tried Miss → Type 0
IsTried problem nodes (Ok t) = Tries problem nodes t.found t.ledger
IsTried problem nodes (Err (miss.Budget ledger)) = SpendsBudget problem nodes ledger
IsTried problem nodes (Err miss.NoMemory) = Unit {0}

-- and of which month
abbrev pub IsTrial : ℕ → ℕ → ℕ → ℕ → Result Tried Miss → Type 0
IsTrial number members pairings nodes (Ok t) =
    OfMade number members pairings (λ problem. Tries problem nodes t.found t.ledger)
IsTrial number members pairings nodes (Err (miss.Budget ledger)) =
    OfMade number members pairings (λ problem. SpendsBudget problem nodes ledger)
IsTrial number members pairings nodes (Err miss.NoMemory) = Unit {0}
