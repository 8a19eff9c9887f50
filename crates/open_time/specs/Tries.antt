-- What one number of vacant lines comes to.
use Rattle.std.specs.Prelude.{◌≡◌, ℕ, ◌+◌, ◌≤◌, All, List, [], length, None}
use Rattle.roster_model.specs.declared.award.Awarded.{Awarded}
use Rattle.roster_model.specs.declared.award.Denial.{Denial}
use Rattle.roster_model.specs.declared.problem.Problem.{Problem}
use Rattle.roster_model.specs.declared.proof.Item.{Item}
use Rattle.roster_model.specs.Awards.{IsBest, no_goal}
use Rattle.roster_model.specs.Closing.{Closes}
use Rattle.roster_model.specs.Denials.{IsAwarded}
use Rattle.roster_model.specs.Splits.{splits_in, all_splits, shown_splits}
use Rattle.branch_log.specs.Book.{Book, IsLawfulBook}
use Rattle.completion_search.specs.Found.{HasRoom, IsFull}
use Rattle.open_time.specs.declared.tries.Tried.{Tried}
use Rattle.open_time.specs.declared.tries.Tried.TheVariants.{Award, NoRoster, Spent}
use Rattle.open_time.specs.declared.tries.Attempt.{Attempt}
use Rattle.open_time.specs.Moves.{IsSettled}

-- a lawful ledger of the month, of 400 rounds and with room for so many nodes
pub record IsRunOf (problem : Problem) (nodes : ℕ) (book : Book) : Type 0 where
  pub cap : book.cap ≡ nodes
  pub rounds : book.rounds ≡ 400
  pub lawful : IsLawfulBook problem book

-- an award without its reasons: room is left, searches were few and none was for a bid, and the proofs have at most as
-- many splits as the ledger has entries
pub record HasAwarded (problem : Problem) (book : Book) (roster : List (List ℕ)) (proofs : List (List Item)) : Type 0 where
  pub searches : length book.goals ≤ 2000000000
  pub lawful : IsLawfulBook problem book
  pub no_bid : All (λ goal. goal.grant ≡ None) book.goals
  pub room : HasRoom book
  pub best : IsBest problem roster proofs
  pub short : all_splits proofs ≤ length book.entries

-- an award that is accepted, with at most as many splits as the ledger has entries, in which no line from `crew` on can give a
-- pairing to one before
pub record IsTriedAward (problem : Problem) (crew : ℕ) (after : Book) (roster : List (List ℕ)) (awarded : Awarded) (reasons : List Denial) : Type 0 where
  pub room : HasRoom after
  pub accepted : IsAwarded problem roster reasons awarded
  pub settled : IsSettled problem crew roster
  pub splits : all_splits awarded.proofs + shown_splits awarded.shown ≤ length after.entries

-- a proof that there is no complete roster
pub record IsTriedNone (problem : Problem) (after : Book) (proof : List Item) : Type 0 where
  pub room : HasRoom after
  pub closes : Closes problem no_goal [] proof
  pub splits : splits_in proof ≤ length after.entries

-- spent exactly where the ledger is full
abbrev pub IsTried : Problem → ℕ → Book → Tried → Type 0
IsTried problem crew after (Award roster awarded reasons) = IsTriedAward problem crew after roster awarded reasons
IsTried problem crew after (NoRoster proof) = IsTriedNone problem after proof
IsTried problem crew after Spent = IsFull after

-- what one number comes to, over a ledger of its own
pub record IsAttempt (problem : Problem) (crew nodes : ℕ) (attempt : Attempt) : Type 0 where
  pub run : IsRunOf problem nodes attempt.ledger
  pub tried : IsTried problem crew attempt.ledger attempt.tried
