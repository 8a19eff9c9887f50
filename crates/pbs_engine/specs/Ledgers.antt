-- What a run says of the ledgers of its searches: that there is one.
use Rattle.std.specs.Prelude.{◌≡◌, ℕ, ◌*◌, ◌^◌, ◌<◌, ◌≤◌, length}
use Rattle.branch_log.specs.Book.{Book}
use Rattle.month_award.specs.Months.{IsLedgerOf}
use Rattle.open_time.specs.Opened.{IsRunWith}
use Rattle.open_commands.specs.Opening as opening
use Rattle.roster_model.specs.declared.problem.Problem.{Problem}
use Rattle.roster_model.specs.Lawful.{most_searches}
use Rattle.roster_model.specs.Ledgers.{pairs_of}
use Rattle.whatif_commands.specs.Asking.{IsLaterLedger}

-- a lawful ledger of the problem, by 400 rounds and with room for so many nodes, has so many entries
pub record HasLedger (problem : Problem) (nodes entries : ℕ) : Type 0 where
  pub book : Book
  pub is : IsLedgerOf problem nodes book
  pub counted : entries ≡ length book.entries

-- fewer than there are nodes
pub record IsCounted (problem : Problem) (nodes entries : ℕ) : Type 0 where
  pub ledger : HasLedger problem nodes entries
  pub room : entries < nodes

-- as many as there are nodes, which are so few that an award may take more
pub record IsSpent (problem : Problem) (nodes : ℕ) : Type 0 where
  pub ledger : HasLedger problem nodes nodes
  pub few : nodes ≤ most_searches problem * 2 ^ pairs_of problem

-- such a ledger, of which each search has a floor for this member
pub record HasLaterLedger (problem : Problem) (member nodes entries : ℕ) : Type 0 where
  pub book : Book
  pub is : IsLaterLedger problem member nodes book
  pub counted : entries ≡ length book.entries

-- and such a ledger of the month with so many vacant lines
pub record HasLedgerWith (problem : Problem) (count nodes entries : ℕ) : Type 0 where
  pub book : Book
  pub run : IsRunWith problem count nodes book
  pub counted : entries ≡ length book.entries

-- for one of the numbers up to the most, one vacant line less is not enough, and such a ledger is full
abbrev pub SpendsWith : Problem → ℕ → ℕ → Type 0
SpendsWith problem most nodes = (book : Book) × opening.IsSpent problem most nodes book
