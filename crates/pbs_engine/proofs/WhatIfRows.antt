-- What an end of `whatif` says, which way leads to it, and which counts it speaks of.
use Rattle.std.proofs.Common.{◌≡◌, ℕ, List, Result, Ok, Err, inl, inr, refl}
use Rattle.std.specs.Prelude.{◌⊎◌}
use Rattle.branch_log.specs.Book.{Book}
use Rattle.shelf.specs.Files.{Files}
use Rattle.shelf.specs.declared.tally.Tally.{Tally}
use Rattle.command_words.specs.declared.command.Command.TheVariants as command
use Rattle.month_files.specs.FileNames.{name_of}
use Rattle.month_files.specs.declared.fault.BadInput.TheVariants as bad
use Rattle.month_files.specs.declared.fault.InputFault.TheVariants as input
use Rattle.month_files.specs.declared.unread.Unread.TheVariants as unread
use Rattle.month_files.specs.declared.writing.WriteStop.{WriteStop}
use Rattle.month_files.specs.declared.writing.WriteStop.TheVariants as write
use Rattle.whatif_commands.specs.Asking.{Claimed, OfClaim, IsAnswered, IsSpent, IsRun}
use Rattle.whatif_commands.specs.AskingEnds.{AskingCause}
use Rattle.whatif_commands.specs.declared.question.Question.{Question}
use Rattle.whatif_commands.specs.declared.asking_stop.WhatIf.{WhatIf}
use Rattle.whatif_commands.specs.declared.asking_stop.WhatIfStop.{WhatIfStop}
use Rattle.whatif_commands.specs.declared.asking_stop.WhatIfStop.TheVariants as stop
use Rattle.answer_texts.specs.WhatIfTexts.{whatif_status}
use Rattle.answer_texts.specs.WriteEnds.{write_status}
use Rattle.answer_texts.specs.declared.status.Status.TheVariants as status
use Rattle.pbs_engine.specs.Rows.{IsQuiet, HasAgain, HasSpent, MayAsk}
use Rattle.pbs_engine.specs.Runs.{RunCause}
use Rattle.pbs_engine.proofs.AwardRows.{unwritten_caused}
use Rattle.pbs_engine.proofs.Meaning.{CommandMeans}
use Rattle.pbs_engine.proofs.Settled.{unwritten_means}
use Rattle.pbs_engine.proofs.WhatIfWays.{WhatIfPath, asked_path, unasked_path, bad_asked_path, unread_asked_path}

-- what holds of the question and the texts of its award holds of them in another way
on_claim : (files : Files) (name : List ℕ) (P Q : Question → Claimed → Type 0) → OfClaim files name P → ((q : Question) (claimed : Claimed) → P q claimed → Q q claimed)
    → OfClaim files name Q
on_claim files name P Q h f = record { q = h.q; before = h.before; claimed = h.claimed; there = h.there; found = f h.q h.claimed h.found }

pub whatif_means : (files : Files) (name : List ℕ) (nodes : ℕ) (end : Result WhatIf WhatIfStop) → IsRun files name nodes end
    → CommandMeans files (command.WhatIf name nodes) (whatif_status end)
whatif_means files name nodes (Ok w) h = inr (inr (inr (on_claim files name (IsAnswered nodes w) (HasAgain nodes) h (λ q claimed found. (w, found)))))
whatif_means files name nodes (Err (stop.Unread (unread.Missing f))) h = (f, h)
whatif_means files name nodes (Err (stop.Unread (unread.ReadFault f))) h = tt
whatif_means files name nodes (Err (stop.Unread (unread.TooLong f))) h = (f, h)
whatif_means files name nodes (Err (stop.Unread unread.NoMemory)) h = tt
whatif_means files name nodes (Err (stop.BadInput (bad.Fault fault))) h = (fault, inl h)
whatif_means files name nodes (Err (stop.BadInput bad.NoMemory)) h = tt
whatif_means files name nodes (Err (stop.BadBids fault)) h = (input.Bids fault, inr (fault, refl, h))
whatif_means files name nodes (Err (stop.No why)) h = (why, h)
whatif_means files name nodes (Err (stop.Budget ledger)) h = on_claim files name (IsSpent nodes ledger) (HasSpent nodes) h (λ q claimed found. (ledger, found))
whatif_means files name nodes (Err (stop.Unwritten w u)) h = unwritten_means files (command.WhatIf name nodes) u.why
whatif_means files name nodes (Err stop.NoMemory) h = tt

-- what is answered may be asked
may_answered : (files : Files) (name : List ℕ) (nodes : ℕ) (w : WhatIf) → OfClaim files name (IsAnswered nodes w) → OfClaim files name (MayAsk nodes)
may_answered files name nodes w h = on_claim files name (IsAnswered nodes w) (MayAsk nodes) h (λ q claimed found. (found.kept, found.before))

may_spend : (files : Files) (name : List ℕ) (nodes : ℕ) (ledger : Book) → OfClaim files name (IsSpent nodes ledger) → OfClaim files name (MayAsk nodes)
may_spend files name nodes ledger h = on_claim files name (IsSpent nodes ledger) (MayAsk nodes) h (λ q claimed found. (found.kept, found.before))

unwritten_way : (files : Files) (name : List ℕ) (nodes : ℕ) (why : WriteStop) → OfClaim files name (MayAsk nodes)
    → WhatIfPath files name (write_status why) ⊎ (write_status why ≡ status.NoMemory)
unwritten_way files name nodes write.Fault h = inl (asked_path files name status.WriteFault tt nodes h)
unwritten_way files name nodes write.NoMemory h = inr refl

module _ (old new : Tally) (before after : ℕ) where
  pub whatif_way : (files : Files) (name : List ℕ) (nodes : ℕ) (end : Result WhatIf WhatIfStop) → IsQuiet old new before after → IsRun files name nodes end → AskingCause old new end
      → WhatIfPath files name (whatif_status end) ⊎ (whatif_status end ≡ status.NoMemory)
  whatif_way files name nodes (Ok w) quiet h cause = inl (asked_path files name status.Done tt nodes (may_answered files name nodes w h))
  whatif_way files name nodes (Err (stop.Unread (unread.Missing f))) quiet h cause = inl (unread_asked_path files name (unread.Missing f) h)
  whatif_way files name nodes (Err (stop.Unread (unread.ReadFault f))) quiet h cause = absurd (quiet.reads cause.rose)
  whatif_way files name nodes (Err (stop.Unread (unread.TooLong f))) quiet h cause = inl (unread_asked_path files name (unread.TooLong f) h)
  whatif_way files name nodes (Err (stop.Unread unread.NoMemory)) quiet h cause = inr refl
  whatif_way files name nodes (Err (stop.BadInput (bad.Fault fault))) quiet h cause = inl (bad_asked_path files name fault (inl h))
  whatif_way files name nodes (Err (stop.BadInput bad.NoMemory)) quiet h cause = inr refl
  whatif_way files name nodes (Err (stop.BadBids fault)) quiet h cause = inl (bad_asked_path files name (input.Bids fault) (inr (fault, refl, h)))
  whatif_way files name nodes (Err (stop.No why)) quiet h cause = inl (unasked_path files name why h)
  whatif_way files name nodes (Err (stop.Budget ledger)) quiet h cause = inl (asked_path files name status.Budget tt nodes (may_spend files name nodes ledger h))
  whatif_way files name nodes (Err (stop.Unwritten w u)) quiet h cause = unwritten_way files name nodes u.why (may_answered files name nodes w h.found)
  whatif_way files name nodes (Err stop.NoMemory) quiet h cause = inr refl

  pub whatif_caused : (end : Result WhatIf WhatIfStop) → AskingCause old new end → after ≡ before → RunCause old new before after (whatif_status end)
  whatif_caused (Ok w) cause put = (cause, put)
  whatif_caused (Err (stop.Unread (unread.Missing f))) cause put = cause.rose
  whatif_caused (Err (stop.Unread (unread.ReadFault f))) cause put = cause.rose
  whatif_caused (Err (stop.Unread (unread.TooLong f))) cause put = cause.rose
  whatif_caused (Err (stop.Unread unread.NoMemory)) cause put = tt
  whatif_caused (Err (stop.BadInput (bad.Fault fault))) cause put = (cause, put)
  whatif_caused (Err (stop.BadInput bad.NoMemory)) cause put = tt
  whatif_caused (Err (stop.BadBids fault)) cause put = (cause, put)
  whatif_caused (Err (stop.No why)) cause put = (cause, put)
  whatif_caused (Err (stop.Budget ledger)) cause put = (cause, put)
  whatif_caused (Err (stop.Unwritten w u)) cause put = unwritten_caused old new before after (name_of u.file) u.why cause
  whatif_caused (Err stop.NoMemory) cause put = tt
