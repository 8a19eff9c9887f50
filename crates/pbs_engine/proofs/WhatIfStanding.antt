-- What an end of `whatif` says of the files before and after it, told or handed in.
use Rattle.std.proofs.Common.{◌≡◌, ℕ, List, map, take, length, Option, Some, Result, Ok, Err, refl, sym, ap, subst, ◌∙◌, arith}
use Rattle.std.proofs.lemmas.List.{length-take-le}
use Rattle.std.specs.FinMap.{insert}
use Rattle.branch_log.specs.Book.{Book}
use Rattle.shelf.specs.Files.{Files, file}
use Rattle.shelf.specs.Logs.{Entries}
use Rattle.shelf.specs.Puts.{with_piece}
use Rattle.command_words.specs.declared.command.Command.{Command}
use Rattle.command_words.specs.declared.command.Command.TheVariants as command
use Rattle.month_commands.specs.Award.{OfMonth}
use Rattle.month_files.specs.FileNames.{name_of}
use Rattle.month_files.specs.Reading.{◌>>=◌, text_in, texts_in}
use Rattle.month_files.specs.Writes.{Leaves, named_bytes, with_files, written}
use Rattle.month_files.specs.declared.fault.BadInput.TheVariants as bad
use Rattle.month_files.specs.declared.file.File.TheVariants.{Certificate as CertificateFile, OtherBids, OtherRoster}
use Rattle.month_files.specs.declared.unread.Unread.{Unread}
use Rattle.month_files.specs.declared.unread.Unread.TheVariants as unread
use Rattle.month_files.specs.declared.writing.Draft.{Draft}
use Rattle.month_files.specs.declared.writing.WriteStop.{WriteStop}
use Rattle.month_files.specs.declared.writing.WriteStop.TheVariants as write
use Rattle.whatif_commands.specs.Asking.{Asked, asked_in, Claimed, IsAskedIn, OfClaim, MayAnswer, SpendsLater, IsSpent, HasWhatIf, IsRun, IsRunHanded, asking_order}
use Rattle.whatif_commands.specs.AskingEnds.{whatif_written}
use Rattle.whatif_commands.specs.declared.question.Question.{Question}
use Rattle.whatif_commands.specs.declared.asking_stop.WhatIf.{WhatIf}
use Rattle.whatif_commands.specs.declared.asking_stop.WhatIfStop.{WhatIfStop}
use Rattle.whatif_commands.specs.declared.asking_stop.WhatIfStop.TheVariants as stop
use Rattle.roster_model.proofs.Greatest.{length-scores}
use Rattle.roster_model.proofs.Seniority.{greatest-first}
use Rattle.roster_model.specs.Awards.{IsGreatest}
use Rattle.roster_model.specs.Lawful.{AreGreatest}
use Rattle.roster_model.specs.Rosters.{IsComplete, IsGreater, scores_of}
use Rattle.roster_model.specs.declared.problem.Problem.{Problem}
use Rattle.roster_text.specs.RosterText.{roster_text}
use Rattle.answer_texts.specs.WhatIfTexts.{whatif_status, whatif_text}
use Rattle.answer_texts.specs.WriteEnds.{write_status}
use Rattle.answer_texts.specs.declared.status.Status.{Status}
use Rattle.pbs_engine.specs.AwardHeadline.{IsAwardOf, Tells, budget_line}
use Rattle.pbs_engine.specs.WhatIfHeadline.{BidsAgain, IsAwardAgain, AgainIsWritten, SpendsAgain, HasAgain, WhatIfs, WhatIfsRead}
use Rattle.pbs_engine.specs.Outcomes.{status_of, text_of, written_by, IsRight, IsHandedIn}
use Rattle.pbs_engine.specs.Runs.{Shelved, Sunk, ComesTo, Says}
use Rattle.pbs_engine.specs.declared.outcome.Outcome.{Outcome}
use Rattle.pbs_engine.specs.declared.outcome.Outcome.TheVariants as outcome
use Rattle.pbs_engine.proofs.Answering.{of_whatif, said_by, on_reads, file_given}
use Rattle.pbs_engine.proofs.AwardStanding.{other_file}
use Rattle.pbs_engine.proofs.Standing.{bind_ok, there}

-- ---- the files that are read

record Reads (files : Files) (asked : Asked) : Type 0 where
  inputs : texts_in files ≡ Ok asked.inputs
  bids : text_in files OtherBids ≡ Ok asked.bids

asked_reads : (files : Files) (asked : Asked) → asked_in files ≡ Ok asked → Reads files asked
unfolding asked_in
asked_reads files asked e =
    let a = bind_ok (texts_in files) (λ inputs. text_in files CertificateFile >>= λ certificate. text_in files OtherBids >>= λ bids. Ok (record { inputs = inputs; certificate = certificate; bids = bids })) asked e in
    let b = bind_ok (text_in files CertificateFile) (λ certificate. text_in files OtherBids >>= λ bids. Ok (record { inputs = a.0; certificate = certificate; bids = bids })) asked a.2 in
    let d = bind_ok (text_in files OtherBids) (λ bids. Ok (record { inputs = a.0; certificate = b.0; bids = bids })) asked b.2 in
    let whole : record { inputs = a.0; certificate = b.0; bids = d.0 } ≡ asked = same_ok _ _ _ refl d.2 in
    record {
      inputs = a.1 ∙ ap (λ (o : Asked). Ok o.inputs) whole;
      bids = d.1 ∙ ap (λ (o : Asked). Ok o.bids) whole;
    }
  where
    same_ok : (r : Result Asked Unread) (x y : Asked) → r ≡ Ok x → r ≡ Ok y → x ≡ y
    same_ok r x y a b = cc

bids_again : (files : Files) (name : List ℕ) (q : Question) (before : IsAskedIn files name q) (claimed : Claimed) (kept : List (List ℕ)) → MayAnswer q claimed kept
    → BidsAgain files name q.problem q.other q.member
bids_again files name q before claimed kept may = record {
  text = before.asked.bids;
  bids_file = there OtherBids (file files (name_of OtherBids)) before.asked.bids (asked_reads files before.asked before.read).bids;
  read = before.question.two.bids;
  named = before.question.named;
  agree = may.agree;
}

-- a greatest roster is an award, at each place
pub award_of : (problem : Problem) (roster : List (List ℕ)) (scores : List ℕ) → IsComplete problem roster → IsGreatest problem roster → scores ≡ scores_of problem roster
    → IsAwardOf problem roster scores
award_of problem roster scores complete greatest is = record {
  complete = complete;
  scores_are = is;
  greatest = λ other whole more. greatest other whole (subst (λ (s : List ℕ). IsGreater (scores_of problem other) s) is more);
  seniors = λ k few other whole more.
      let first : AreGreatest problem (take k (scores_of problem roster)) = greatest-first problem roster k complete greatest few in
      let mine : AreGreatest problem (take k scores) = subst (λ (s : List ℕ). AreGreatest problem (take k s)) (sym is) first in
      let all : length scores ≡ length problem.base.members = ap length is ∙ length-scores problem roster in
      let cut : length (take k scores) ≡ k = length-take-le k scores (omega (arith, all, few)) in
      mine.most other whole (subst (λ (n : ℕ). IsGreater (take n (scores_of problem other)) (take k scores)) (sym cut) more);
}

award_again : (files : Files) (name : List ℕ) (nodes : ℕ) (w : WhatIf) (h : HasWhatIf files name nodes w)
    → IsAwardAgain files name nodes (length w.ledger.entries) w.scores h.q.problem h.q.other h.found.again.roster
award_again files name nodes w h = record {
  member = h.q.member;
  bids = bids_again files name h.q h.before h.claimed h.found.kept h.found.before;
  award = award_of h.q.other h.found.again.roster w.scores h.found.again.best.complete h.found.again.greatest h.found.again.scores_are;
  ledger = record { book = w.ledger; is = h.found.again.ledger; counted = refl };
  room = h.found.again.room;
}

-- a fact of the month that the inputs name
of_question : (files : Files) (name : List ℕ) (q : Question) (before : IsAskedIn files name q) (P : Problem → Type 0) → P q.problem → OfMonth files P
of_question files name q before P h = record {
  inputs = before.asked.inputs;
  read = (asked_reads files before.asked before.read).inputs;
  problem = q.problem;
  names = before.question.two.names;
  found = h;
}

has_again : (files : Files) (name : List ℕ) (nodes : ℕ) (w : WhatIf) → HasWhatIf files name nodes w → OfMonth files (HasAgain files name nodes (length w.ledger.entries) w.scores)
has_again files name nodes w h =
    of_question files name h.q h.before (HasAgain files name nodes (length w.ledger.entries) w.scores) (h.q.other, h.found.again.roster, award_again files name nodes w h)

-- a ledger that is full has as many entries as there are nodes
all_spent : (q : Question) (nodes : ℕ) (ledger : Book) → SpendsLater q nodes ledger → length ledger.entries ≡ nodes
all_spent q nodes ledger h = h.full ∙ h.is.is.cap

spends_again : (files : Files) (name : List ℕ) (nodes : ℕ) (ledger : Book) → OfClaim files name (IsSpent nodes ledger) → OfMonth files (SpendsAgain files name nodes)
spends_again files name nodes ledger h =
    of_question files name h.q h.before (SpendsAgain files name nodes)
    (record {
      other = h.q.other;
      member = h.q.member;
      bids = bids_again files name h.q h.before h.claimed h.found.kept h.found.before;
      ledger = record { book = ledger; is = h.found.spends.is; counted = sym (all_spent h.q nodes ledger h.found.spends) };
    })

-- ---- the roster that is written

again_left : (old : Files) (new : Option Files) (name : List ℕ) (nodes : ℕ) (w : WhatIf) → HasWhatIf old name nodes w → Leaves (Some old) new (written w.drafts (Ok tt))
    → Tells new (λ files. OfMonth old (AgainIsWritten old files name nodes (length w.ledger.entries) w.scores))
again_left old new name nodes w h left =
    let bytes : List ℕ = roster_text h.q.other h.found.again.roster in
    record {
      files = insert old (name_of OtherRoster) bytes;
      told = left ∙ ap (λ (ds : List Draft). with_files (Some old) (map named_bytes ds)) h.found.again.drafts_are;
      found = of_question old name h.q h.before (AgainIsWritten old (insert old (name_of OtherRoster) bytes) name nodes (length w.ledger.entries) w.scores)
          (record {
            other = h.q.other;
            roster = h.found.again.roster;
            award = award_again old name nodes w h;
            roster_file = file_given old (name_of OtherRoster) bytes;
            fits = h.found.again.readable.fits;
            others = λ n apart. other_file old (name_of OtherRoster) bytes n apart;
          });
    }

unwritten_whatifs : (old : Files) (new : Option Files) (name : List ℕ) (nodes : ℕ) (why : WriteStop) (before after : Option (List ℕ))
    → WhatIfs old new name nodes before after (write_status why)
unwritten_whatifs old new name nodes write.Fault before after = tt
unwritten_whatifs old new name nodes write.NoMemory before after = tt

-- the budget that was spent is the one that was given
pub budget_put : (nodes spent : ℕ) (before after : Option (List ℕ)) → spent ≡ nodes → after ≡ with_piece before (budget_line spent) → after ≡ with_piece before (budget_line nodes)
budget_put nodes spent before after same put = put ∙ ap (λ (n : ℕ). with_piece before (budget_line n)) same

end_whatifs : (old : Files) (new : Option Files) (name : List ℕ) (nodes : ℕ) (end : Result WhatIf WhatIfStop) → IsRun old name nodes end → Leaves (Some old) new (whatif_written end)
    → (before after : Option (List ℕ)) → after ≡ with_piece before (whatif_text name end) → WhatIfs old new name nodes before after (whatif_status end)
end_whatifs old new name nodes (Ok w) right left before after put =
    record { scores = w.scores; entries = length w.ledger.entries; files = again_left old new name nodes w right left; put = put }
end_whatifs old new name nodes (Err (stop.Unread (unread.Missing f))) right left before after put = left
end_whatifs old new name nodes (Err (stop.Unread (unread.ReadFault f))) right left before after put = left
end_whatifs old new name nodes (Err (stop.Unread (unread.TooLong f))) right left before after put = left
end_whatifs old new name nodes (Err (stop.Unread unread.NoMemory)) right left before after put = tt
end_whatifs old new name nodes (Err (stop.BadInput (bad.Fault fault))) right left before after put = left
end_whatifs old new name nodes (Err (stop.BadInput bad.NoMemory)) right left before after put = tt
end_whatifs old new name nodes (Err (stop.BadBids fault)) right left before after put = left
end_whatifs old new name nodes (Err (stop.No why)) right left before after put = record { why = why; unasked = right; same = left; put = put }
end_whatifs old new name nodes (Err (stop.Budget ledger)) right left before after put =
    record { month = spends_again old name nodes ledger right; same = left; put = budget_put nodes (length ledger.entries) before after (all_spent right.q nodes ledger right.found.spends) put }
end_whatifs old new name nodes (Err (stop.Unwritten w u)) right left before after put = unwritten_whatifs old new name nodes u.why before after
end_whatifs old new name nodes (Err stop.NoMemory) right left before after put = tt

unwritten_read : (old new : Entries) (name : List ℕ) (nodes : ℕ) (why : WriteStop) (before after : Option (List ℕ)) → WhatIfsRead old new name nodes before after (write_status why)
unwritten_read old new name nodes write.Fault before after = tt
unwritten_read old new name nodes write.NoMemory before after = tt

end_read : (old new : Entries) (name : List ℕ) (nodes : ℕ) (end : Result WhatIf WhatIfStop) → IsRunHanded old new name nodes end → (before after : Option (List ℕ))
    → after ≡ with_piece before (whatif_text name end) → WhatIfsRead old new name nodes before after (whatif_status end)
end_read old new name nodes (Ok w) read before after put = record {
  scores = w.scores;
  entries = length w.ledger.entries;
  found = on_reads asking_order old new _ _ read (λ files h. has_again files name nodes w h);
  put = put;
}
end_read old new name nodes (Err (stop.Unread (unread.Missing f))) read before after put = tt
end_read old new name nodes (Err (stop.Unread (unread.ReadFault f))) read before after put = tt
end_read old new name nodes (Err (stop.Unread (unread.TooLong f))) read before after put = tt
end_read old new name nodes (Err (stop.Unread unread.NoMemory)) read before after put = tt
end_read old new name nodes (Err (stop.BadInput (bad.Fault fault))) read before after put = tt
end_read old new name nodes (Err (stop.BadInput bad.NoMemory)) read before after put = tt
end_read old new name nodes (Err (stop.BadBids fault)) read before after put = tt
end_read old new name nodes (Err (stop.No why)) read before after put = record { why = why; unasked = read; put = put }
end_read old new name nodes (Err (stop.Budget ledger)) read before after put = record {
  month = on_reads asking_order old new _ _ read (λ files h. spends_again files name nodes ledger h);
  put = budget_put nodes (length ledger.entries) before after (all_spent read.found.q nodes ledger read.found.found.spends) put;
}
end_read old new name nodes (Err (stop.Unwritten w u)) read before after put = unwritten_read old new name nodes u.why before after
end_read old new name nodes (Err stop.NoMemory) read before after put = tt

module _ (c : Option Command) (files : Files) (at to : Shelved) (before after : Sunk) where
  whole : (o : Outcome) (name : List ℕ) (nodes : ℕ) (end : Result WhatIf WhatIfStop) → o ≡ outcome.WhatIf name nodes end → IsRight files o → Leaves (Some files) to.files (written_by o)
      → after.bytes ≡ with_piece before.bytes (text_of o) → WhatIfs files to.files name nodes before.bytes after.bytes (status_of o)
  whole o name nodes end e =
      subst (λ (x : Outcome). IsRight files x → Leaves (Some files) to.files (written_by x) → after.bytes ≡ with_piece before.bytes (text_of x)
      → WhatIfs files to.files name nodes before.bytes after.bytes (status_of x)) (sym e)
      (λ right left put. end_whatifs files to.files name nodes end right left before.bytes after.bytes put)

  pub run_whatifs : (o : Outcome) (result : Status) (name : List ℕ) (nodes : ℕ) → ComesTo c at to o → at.files ≡ Some files → c ≡ Some (command.WhatIf name nodes)
      → Says o before after result → WhatIfs files to.files name nodes before.bytes after.bytes result
  run_whatifs o result name nodes comes told asked says =
      let t = of_whatif o name nodes (sym comes.asked ∙ asked) in
      said_by (λ (s : Status). WhatIfs files to.files name nodes before.bytes after.bytes s) o before after result tt tt
      (whole o name nodes t.0 t.1 (comes.right files told) (subst (λ (held : Option Files). Leaves held to.files (written_by o)) told comes.left)) says

module _ (c : Option Command) (at to : Shelved) (before after : Sunk) where
  whole_read : (o : Outcome) (name : List ℕ) (nodes : ℕ) (end : Result WhatIf WhatIfStop) → o ≡ outcome.WhatIf name nodes end → IsHandedIn at.log to.log o
      → after.bytes ≡ with_piece before.bytes (text_of o) → WhatIfsRead at.log to.log name nodes before.bytes after.bytes (status_of o)
  whole_read o name nodes end e =
      subst (λ (x : Outcome). IsHandedIn at.log to.log x → after.bytes ≡ with_piece before.bytes (text_of x)
      → WhatIfsRead at.log to.log name nodes before.bytes after.bytes (status_of x)) (sym e)
      (λ read put. end_read at.log to.log name nodes end read before.bytes after.bytes put)

  pub run_whatifs_read : (o : Outcome) (result : Status) (name : List ℕ) (nodes : ℕ) → ComesTo c at to o → c ≡ Some (command.WhatIf name nodes)
      → Says o before after result → WhatIfsRead at.log to.log name nodes before.bytes after.bytes result
  run_whatifs_read o result name nodes comes asked says =
      let t = of_whatif o name nodes (sym comes.asked ∙ asked) in
      said_by (λ (s : Status). WhatIfsRead at.log to.log name nodes before.bytes after.bytes s) o before after result tt tt
      (whole_read o name nodes t.0 t.1 comes.handed) says
