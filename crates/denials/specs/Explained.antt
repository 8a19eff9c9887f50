-- What explains the denials of an award, and how much room its searches take.
use Rattle.std.specs.Prelude.{ℕ, ◌+◌, ◌*◌, ◌^◌, ◌<◌, ◌≤◌, List, length}
use Rattle.roster_model.specs.declared.problem.Problem.{Problem}
use Rattle.roster_model.specs.declared.award.Denial.{Denial}
use Rattle.roster_model.specs.declared.award.Shown.{Shown}
use Rattle.roster_model.specs.Denials.{DenialsFit}
use Rattle.roster_model.specs.Lawful.{bid_count}
use Rattle.roster_model.specs.Ledgers.{pairs_of}
use Rattle.roster_model.specs.Splits.{shown_splits}
use Rattle.branch_log.specs.Book.{Book}
use Rattle.completion_search.specs.Found.{HasRoom, IsFull}
use Rattle.denials.specs.declared.explained.Explained.{Explained}
use Rattle.denials.specs.declared.explained.Explained.TheVariants.{All, Spent}

-- reasons and parts that fit, as an award has them
pub record IsExplained (problem : Problem) (roster : List (List ℕ)) (after : Book) (reasons : List Denial) (shown : List Shown) : Type 0 where
  pub room : HasRoom after
  pub fit : DenialsFit problem roster reasons shown

-- spent exactly where the ledger is full
abbrev pub IsExplanation : Problem → List (List ℕ) → Book → Explained → Type 0
IsExplanation problem roster after (All reasons shown) = IsExplained problem roster after reasons shown
IsExplanation problem roster after Spent = IsFull after

-- how many searches the bids of these numbers take at most: for each, one at each place and one at place 0
abbrev pub bid_searches : Problem → ℕ → ℕ
bid_searches problem bids = bids * (length problem.base.members + 1)

-- there is more room than two searches more than there are members take for each bid
abbrev pub FitsDenials : Problem → Book → Type 0
FitsDenials problem book =
    length book.entries + bid_count problem * (length problem.base.members + 2) * 2 ^ pairs_of problem < book.cap

-- all denied bids were explained
abbrev pub IsNotSpent : Explained → Type 0
IsNotSpent (All reasons shown) = Unit {0}
IsNotSpent Spent = ⊥

-- the proofs have together at most as many splits as entries were added
abbrev pub HasFewSplits : Book → Book → Explained → Type 0
HasFewSplits before after (All reasons shown) =
    shown_splits shown + length before.entries ≤ length after.entries
HasFewSplits before after Spent = Unit {0}
