-- What a ledger is when the denials are to be explained.
use Rattle.std.specs.Prelude.{◌≡◌, ℕ, ◌≤◌, All, None, List, length}
use Rattle.roster_model.specs.declared.problem.Problem.{Problem}
use Rattle.roster_model.specs.declared.proof.Item.{Item}
use Rattle.roster_model.specs.Awards.{IsBest}
use Rattle.roster_model.specs.Splits.{all_splits}
use Rattle.branch_log.specs.Book.{Book, IsLawfulBook}
use Rattle.completion_search.specs.Found.{HasRoom}

-- a lawful ledger of 400 rounds, with few searches
pub record IsRun (problem : Problem) (book : Book) : Type 0 where
  pub few : book.cap ≤ 20000
  pub rounds : book.rounds ≡ 400
  pub searches : length book.goals ≤ 2000000000
  pub lawful : IsLawfulBook problem book

-- with room left, no search for a bid so far, and at least as many entries as the proofs for a roster have splits
pub record HasAwarded (problem : Problem) (book : Book) (roster : List (List ℕ)) (proofs : List (List Item)) : Type 0 where
  pub run : IsRun problem book
  pub room : HasRoom book
  pub no_bid : All (λ goal. goal.grant ≡ None) book.goals
  pub best : IsBest problem roster proofs
  pub short : all_splits proofs ≤ length book.entries
