-- What an answer of `whatif` says of the files of a folder: of the month in them with the other bids, and of the roster that
-- is written.
use Rattle.std.specs.Prelude.{◌≡◌, ◌≢◌, ℕ, ◌<◌, ◌≤◌, List, length, Option, Some, Ok}
use Rattle.shelf.specs.Files.{Files, file}
use Rattle.shelf.specs.Logs.{Entries}
use Rattle.shelf.specs.Puts.{with_piece}
use Rattle.bid_language.specs.Lines.{bids_in}
use Rattle.month_commands.specs.Award.{OfMonth}
use Rattle.month_files.specs.FileNames.{name_of, limit_of}
use Rattle.month_files.specs.Handing.{FromReads}
use Rattle.month_files.specs.declared.file.File.TheVariants.{OtherBids, OtherRoster}
use Rattle.whatif_commands.specs.Asking.{HasUnasked, asking_order}
use Rattle.whatif_commands.specs.declared.asking_stop.Unasked.{Unasked}
use Rattle.roster_model.specs.declared.problem.Problem.{Problem}
use Rattle.roster_text.specs.ReasonWords.{member_named}
use Rattle.roster_text.specs.RosterText.{roster_text}
use Rattle.what_if.specs.Reused.{AgreeBut}
use Rattle.answer_texts.specs.WhatIfTexts.{whatif_lines, unasked_text}
use Rattle.answer_texts.specs.declared.status.Status.{Status}
use Rattle.answer_texts.specs.declared.status.Status.TheVariants as status
use Rattle.pbs_engine.specs.AwardHeadline.{IsAwardOf, Tells, budget_line}
use Rattle.pbs_engine.specs.Ledgers.{HasLaterLedger}

-- the file of the other bids is the text of bids that make the other problem of the same base; a member has the name, and
-- all other members bid as they did
pub record BidsAgain (files : Files) (name : List ℕ) (problem other : Problem) (member : ℕ) : Type 0 where
  pub text : List ℕ
  pub bids_file : file files (name_of OtherBids) ≡ Some text
  pub read : bids_in problem.base text ≡ Ok other.bids
  pub named : member_named problem name ≡ Some member
  pub agree : AgreeBut problem other member

-- The roster is complete for the problem with the other bids and has these scores, which no complete roster exceeds; a
-- lawful ledger has as many entries as were counted, fewer than were allowed, and none of its searches is for a place
-- before the member's.
pub record IsAwardAgain (files : Files) (name : List ℕ) (nodes entries : ℕ) (scores : List ℕ) (problem other : Problem)
    (roster : List (List ℕ)) : Type 0 where
  pub member : ℕ
  pub bids : BidsAgain files name problem other member
  pub award : IsAwardOf other roster scores
  pub ledger : HasLaterLedger other member nodes entries
  pub room : entries < nodes

-- the file of the other roster is now the text of that roster, and each other file is as before
pub record AgainIsWritten (old new : Files) (name : List ℕ) (nodes entries : ℕ) (scores : List ℕ)
    (problem : Problem) : Type 0 where
  pub other : Problem
  pub roster : List (List ℕ)
  pub award : IsAwardAgain old name nodes entries scores problem other roster
  pub roster_file : file new (name_of OtherRoster) ≡ Some (roster_text other roster)
  pub fits : length (roster_text other roster) ≤ limit_of OtherRoster
  pub others : (name : List ℕ) → name ≢ name_of OtherRoster → file new name ≡ file old name

-- a lawful ledger with as many entries as were allowed, whose searches are for the member's place and later ones
pub record SpendsAgain (files : Files) (name : List ℕ) (nodes : ℕ) (problem : Problem) : Type 0 where
  pub other : Problem
  pub member : ℕ
  pub bids : BidsAgain files name problem other member
  pub ledger : HasLaterLedger other member nodes nodes

pub record EndsAgain (old : Files) (new : Option Files) (name : List ℕ) (nodes : ℕ) (before after : Option (List ℕ)) : Type 0 where
  pub scores : List ℕ
  pub entries : ℕ
  pub files : Tells new (λ files. OfMonth old (AgainIsWritten old files name nodes entries scores))
  pub put : after ≡ with_piece before (whatif_lines scores entries)

-- this is the first of the reasons why nothing is answered
pub record EndsUnasked (old : Files) (new : Option Files) (name : List ℕ) (before after : Option (List ℕ)) : Type 0 where
  pub why : Unasked
  pub unasked : HasUnasked old name why
  pub same : new ≡ Some old
  pub put : after ≡ with_piece before (unasked_text name why)

pub record EndsSpent (old : Files) (new : Option Files) (name : List ℕ) (nodes : ℕ) (before after : Option (List ℕ)) : Type 0 where
  pub month : OfMonth old (SpendsAgain old name nodes)
  pub same : new ≡ Some old
  pub put : after ≡ with_piece before (budget_line nodes)

-- what a run of `whatif` with this name and so many nodes says by its status
abbrev pub WhatIfs : Files → Option Files → List ℕ → ℕ → Option (List ℕ) → Option (List ℕ) → Status → Type 0
WhatIfs old new name nodes before after status.Done = EndsAgain old new name nodes before after
WhatIfs old new name nodes before after status.No = EndsUnasked old new name before after
WhatIfs old new name nodes before after status.Budget = EndsSpent old new name nodes before after
WhatIfs old new name nodes before after status.Usage = ⊥
WhatIfs old new name nodes before after status.NoRoster = ⊥
WhatIfs old new name nodes before after status.BadInput = new ≡ Some old
WhatIfs old new name nodes before after status.Missing = new ≡ Some old
WhatIfs old new name nodes before after status.ReadFault = new ≡ Some old
WhatIfs old new name nodes before after status.TooLong = new ≡ Some old
WhatIfs old new name nodes before after status.WriteFault = Unit {0}
WhatIfs old new name nodes before after status.NoMemory = Unit {0}

-- ---- of the texts that reads handed in, be files told or not

abbrev pub HasAgain : Files → List ℕ → ℕ → ℕ → List ℕ → Problem → Type 0
HasAgain files name nodes entries scores problem =
    (other : Problem) × (roster : List (List ℕ)) × IsAwardAgain files name nodes entries scores problem other roster

pub record ReadsAgain (old new : Entries) (name : List ℕ) (nodes : ℕ) (before after : Option (List ℕ)) : Type 0 where
  pub scores : List ℕ
  pub entries : ℕ
  pub found : FromReads asking_order old new (λ files. OfMonth files (HasAgain files name nodes entries scores))
  pub put : after ≡ with_piece before (whatif_lines scores entries)

pub record ReadsUnasked (old new : Entries) (name : List ℕ) (before after : Option (List ℕ)) : Type 0 where
  pub why : Unasked
  pub unasked : FromReads asking_order old new (λ files. HasUnasked files name why)
  pub put : after ≡ with_piece before (unasked_text name why)

pub record ReadsSpent (old new : Entries) (name : List ℕ) (nodes : ℕ) (before after : Option (List ℕ)) : Type 0 where
  pub month : FromReads asking_order old new (λ files. OfMonth files (SpendsAgain files name nodes))
  pub put : after ≡ with_piece before (budget_line nodes)

abbrev pub WhatIfsRead : Entries → Entries → List ℕ → ℕ → Option (List ℕ) → Option (List ℕ) → Status → Type 0
WhatIfsRead old new name nodes before after status.Done = ReadsAgain old new name nodes before after
WhatIfsRead old new name nodes before after status.No = ReadsUnasked old new name before after
WhatIfsRead old new name nodes before after status.Budget = ReadsSpent old new name nodes before after
WhatIfsRead old new name nodes before after status.Usage = ⊥
WhatIfsRead old new name nodes before after status.NoRoster = ⊥
WhatIfsRead old new name nodes before after status.BadInput = Unit {0}
WhatIfsRead old new name nodes before after status.Missing = Unit {0}
WhatIfsRead old new name nodes before after status.ReadFault = Unit {0}
WhatIfsRead old new name nodes before after status.TooLong = Unit {0}
WhatIfsRead old new name nodes before after status.WriteFault = Unit {0}
WhatIfsRead old new name nodes before after status.NoMemory = Unit {0}
