-- What the search for the fewest vacant lines comes to.
use Rattle.std.specs.Prelude.{ℕ, ◌+◌, ◌≤◌, List, length, Option}
use Rattle.roster_model.specs.declared.award.Awarded.{Awarded}
use Rattle.roster_model.specs.declared.award.Denial.{Denial}
use Rattle.roster_model.specs.declared.problem.Problem.{Problem}
use Rattle.roster_model.specs.declared.proof.Item.{Item}
use Rattle.roster_model.specs.Splits.{splits_in, splits_of, all_splits, shown_splits}
use Rattle.branch_log.specs.Book.{Book}
use Rattle.completion_search.specs.Found.{HasRoom, IsFull}
use Rattle.open_time.specs.declared.opened.Opened.{Opened}
use Rattle.open_time.specs.declared.opened.Opened.TheVariants.{Award, NoRoster, Spent}
use Rattle.open_time.specs.Moves.{IsSettled}
use Rattle.open_time.specs.Vacant.{IsWithVacant, IsUnfilledBelow, IsUnfilledUnder, NeedsVacant}
use Rattle.open_time.specs.Refuted.{IsRefutedWith, IsOpenAward}
use Rattle.open_time.specs.Tries.{IsRunOf}

-- a lawful ledger of the month with so many vacant lines, with room for so many nodes
pub record IsRunWith (problem : Problem) (count nodes : ℕ) (book : Book) : Type 0 where
  pub made : Problem
  pub of : IsWithVacant problem count made
  pub run : IsRunOf made nodes book

-- no vacant line can give a pairing to a member so that the roster stays complete and each score what it is
pub record IsSettledWith (problem : Problem) (count : ℕ) (roster : List (List ℕ)) : Type 0 where
  pub made : Problem
  pub of : IsWithVacant problem count made
  pub settled : IsSettled made (length problem.base.members) roster

-- So many are needed, and no lesser number is enough; the proof refutes one less, and the award with them is accepted. The ledger is that of this number;
-- its entries are at least as many as the certificate has splits.
pub record IsOpenedAward (problem : Problem) (ceiling nodes count : ℕ) (below : Option (List Item)) (roster : List (List ℕ)) (awarded : Awarded) (reasons : List Denial) (book : Book) : Type 0 where
  pub within : count ≤ ceiling
  pub needs : NeedsVacant problem count
  pub fewest : IsUnfilledUnder problem count
  pub award : IsOpenAward problem count below roster reasons awarded
  pub settled : IsSettledWith problem count roster
  pub short : splits_of below ≤ nodes
  pub run : IsRunWith problem count nodes book
  pub room : HasRoom book
  pub splits : all_splits awarded.proofs + shown_splits awarded.shown ≤ length book.entries

-- the proof refutes the most that were asked for, and has at most as many splits as the ledger has entries
pub record IsOpenedNone (problem : Problem) (ceiling nodes : ℕ) (proof : List Item) (book : Book) : Type 0 where
  pub refuted : IsRefutedWith problem ceiling proof
  pub run : IsRunWith problem ceiling nodes book
  pub room : HasRoom book
  pub splits : splits_in proof ≤ length book.entries

-- the ledger of this number is full, and one less is not enough
pub record IsOpenedSpent (problem : Problem) (ceiling nodes count : ℕ) (book : Book) : Type 0 where
  pub within : count ≤ ceiling
  pub fewer : IsUnfilledBelow problem count
  pub run : IsRunWith problem count nodes book
  pub full : IsFull book

-- spent exactly where the ledger of the last number tried is full
abbrev pub IsOpened : Problem → ℕ → ℕ → Opened → Type 0
IsOpened problem ceiling nodes (Award count below roster awarded reasons ledger) =
    IsOpenedAward problem ceiling nodes count below roster awarded reasons ledger
IsOpened problem ceiling nodes (NoRoster proof ledger) = IsOpenedNone problem ceiling nodes proof ledger
IsOpened problem ceiling nodes (Spent count ledger) = IsOpenedSpent problem ceiling nodes count ledger
