-- What the award of a month comes to.
use Rattle.std.specs.Prelude.{◌≡◌, ℕ, ◌+◌, ◌<◌, ◌≤◌, true, List, [], length, take}
use Rattle.roster_model.specs.declared.problem.Problem.{Problem}
use Rattle.roster_model.specs.declared.proof.Item.{Item}
use Rattle.roster_model.specs.declared.award.Awarded.{Awarded}
use Rattle.roster_model.specs.declared.award.Certificate.{Certificate}
use Rattle.roster_model.specs.declared.award.Certificate.TheVariants as form
use Rattle.roster_model.specs.Rosters.{scores_of}
use Rattle.roster_model.specs.Closing.{Closes}
use Rattle.roster_model.specs.Awards.{no_goal}
use Rattle.roster_model.specs.Denials.{IsAwarded}
use Rattle.roster_model.specs.Lawful.{AreGreatest}
use Rattle.roster_model.specs.Splits.{splits_in, all_splits, shown_splits}
use Rattle.branch_log.specs.Book.{Book, IsLawfulBook}
use Rattle.completion_search.specs.Found.{IsFull}
use Rattle.cert_text.specs.Limits.{is_certificate}
use Rattle.cert_text.specs.Spelling.{written_text}
use Rattle.month_award.specs.declared.outcome.AwardedMonth.{AwardedMonth}
use Rattle.month_award.specs.declared.outcome.UnfillableMonth.{UnfillableMonth}
use Rattle.month_award.specs.declared.outcome.MonthAward.{MonthAward}
use Rattle.month_award.specs.declared.outcome.MonthAward.TheVariants.{Award, NoRoster, Budget}

-- the certificate has a text that is read, and that is no longer than its file may be
pub record IsWritable (certificate : Certificate) : Type 0 where
  pub limits : is_certificate certificate ≡ true
  pub bytes : length (written_text certificate) ≤ 2147483648

-- a lawful ledger of the problem, by 400 rounds and with room for so many nodes
pub record IsLedgerOf (problem : Problem) (nodes : ℕ) (book : Book) : Type 0 where
  pub cap : book.cap ≡ nodes
  pub rounds : book.rounds ≡ 400
  pub lawful : IsLawfulBook problem book

-- and it is full
pub record IsFullLedger (problem : Problem) (nodes : ℕ) (book : Book) : Type 0 where
  pub is : IsLedgerOf problem nodes book
  pub full : IsFull book

-- A roster, the reasons of the bids that it does not grant, no more of them than their text may have, and a certificate
-- that is accepted for both and that has no more splits than the ledger has entries, which are fewer than there are nodes.
pub record IsAwardedMonth (problem : Problem) (nodes : ℕ) (month : AwardedMonth) : Type 0 where
  pub awarded : Awarded
  pub of_award : month.certificate ≡ form.Award awarded
  pub accepted : IsAwarded problem month.roster month.reasons awarded
  pub few : length month.reasons ≤ 12800
  pub writable : IsWritable month.certificate
  pub ledger : IsLedgerOf problem nodes month.ledger
  pub room : length month.ledger.entries < nodes
  pub splits : all_splits awarded.proofs + shown_splits awarded.shown ≤ length month.ledger.entries

-- a certificate with a proof that there is no complete roster; the same of the ledger
pub record IsUnfillableMonth (problem : Problem) (nodes : ℕ) (month : UnfillableMonth) : Type 0 where
  pub proof : List Item
  pub of_none : month.certificate ≡ form.NoRoster proof
  pub closes : Closes problem no_goal [] proof
  pub writable : IsWritable month.certificate
  pub ledger : IsLedgerOf problem nodes month.ledger
  pub room : length month.ledger.entries < nodes
  pub splits : splits_in proof ≤ length month.ledger.entries

-- spent exactly where the ledger of the searches is full
abbrev pub IsMonthAward : Problem → ℕ → MonthAward → Type 0
IsMonthAward problem nodes (Award month) = IsAwardedMonth problem nodes month
IsMonthAward problem nodes (NoRoster month) = IsUnfillableMonth problem nodes month
IsMonthAward problem nodes (Budget ledger) = IsFullLedger problem nodes ledger

-- at each place the first scores of the roster are the greatest list of as many
abbrev pub GivesGreatestScores : Problem → MonthAward → Type 0
GivesGreatestScores problem (Award month) =
    (k : ℕ) → k ≤ length problem.base.members → AreGreatest problem (take k (scores_of problem month.roster))
GivesGreatestScores problem (NoRoster month) = Unit {0}
GivesGreatestScores problem (Budget ledger) = Unit {0}

-- the award came to an end
abbrev pub IsNotBudget : MonthAward → Type 0
IsNotBudget (Award month) = Unit {0}
IsNotBudget (NoRoster month) = Unit {0}
IsNotBudget (Budget ledger) = ⊥
