-- What an end of `opencheck` says of the files, told or handed in.
use Rattle.std.proofs.Common.{◌≡◌, ℕ, zero, suc, List, Option, Some, None, Result, Ok, Err, refl, sym, ap, subst, ◌∙◌}
use Rattle.shelf.specs.Files.{Files, file}
use Rattle.shelf.specs.Logs.{Entries}
use Rattle.shelf.specs.Puts.{with_piece}
use Rattle.cert_text.proofs.WholeLaws.{certificate_takes}
use Rattle.command_words.specs.declared.command.Command.{Command}
use Rattle.command_words.specs.declared.command.Command.TheVariants as command
use Rattle.month_files.specs.FileNames.{name_of}
use Rattle.month_files.specs.Reading.{◌>>=◌, text_in, texts_in}
use Rattle.month_files.specs.declared.fault.BadInput.TheVariants as bad
use Rattle.month_files.specs.declared.file.File.TheVariants.{OpenNone, OpenCertificate, OpenReasons, OpenRoster}
use Rattle.month_files.specs.declared.unread.Unread.{Unread}
use Rattle.month_files.specs.declared.unread.Unread.TheVariants as unread
use Rattle.open_commands.proofs.OpeningLaws.{award_of as accepted_of}
use Rattle.open_commands.specs.OpenChecking.{Lodged, lodged_in, none_in, IsNoneText, IsOpenCheck, IsOpenCheckHanded, checking_order}
use Rattle.open_commands.specs.declared.open_check_stop.OpenCheckStop.{OpenCheckStop}
use Rattle.open_commands.specs.declared.open_check_stop.OpenCheckStop.TheVariants as stop
use Rattle.roster_model.specs.declared.award.Certificate.TheVariants.{Award, NoRoster}
use Rattle.roster_model.specs.declared.proof.Item.{Item}
use Rattle.answer_texts.specs.OpenCheckTexts.{open_check_status, open_check_text}
use Rattle.answer_texts.specs.declared.status.Status.{Status}
use Rattle.pbs_engine.specs.OpenCheckHeadline.{BelowIsRead, OpenChecks, OpenChecksRead, OpenStands}
use Rattle.pbs_engine.specs.Outcomes.{status_of, text_of, IsRight, IsHandedIn}
use Rattle.pbs_engine.specs.Rows.{HasShown}
use Rattle.pbs_engine.specs.Runs.{Shelved, Sunk, ComesTo, Says}
use Rattle.pbs_engine.specs.declared.outcome.Outcome.{Outcome}
use Rattle.pbs_engine.specs.declared.outcome.Outcome.TheVariants as outcome
use Rattle.pbs_engine.proofs.Answering.{of_open_check, said_by, on_reads}
use Rattle.pbs_engine.proofs.Standing.{bind_ok, there}
use Rattle.pbs_engine.proofs.WhatIfStanding.{award_of}

-- ---- the files that are read

record Reads (files : Files) (count : ℕ) (lodged : Lodged) : Type 0 where
  inputs : texts_in files ≡ Ok lodged.inputs
  below : none_in files count ≡ Ok lodged.below
  certificate : text_in files OpenCertificate ≡ Ok lodged.certificate
  reasons : text_in files OpenReasons ≡ Ok lodged.reasons
  roster : text_in files OpenRoster ≡ Ok lodged.roster

lodged_reads : (files : Files) (count : ℕ) (lodged : Lodged) → lodged_in files count ≡ Ok lodged → Reads files count lodged
unfolding lodged_in
lodged_reads files count lodged e =
    let a = bind_ok (texts_in files) (λ inputs. none_in files count >>= λ below. text_in files OpenCertificate >>= λ certificate. text_in files OpenReasons >>= λ reasons. text_in files OpenRoster >>= λ roster. Ok (record { inputs = inputs; below = below; certificate = certificate; reasons = reasons; roster = roster })) lodged e in
    let b = bind_ok (none_in files count) (λ below. text_in files OpenCertificate >>= λ certificate. text_in files OpenReasons >>= λ reasons. text_in files OpenRoster >>= λ roster. Ok (record { inputs = a.0; below = below; certificate = certificate; reasons = reasons; roster = roster })) lodged a.2 in
    let c = bind_ok (text_in files OpenCertificate) (λ certificate. text_in files OpenReasons >>= λ reasons. text_in files OpenRoster >>= λ roster. Ok (record { inputs = a.0; below = b.0; certificate = certificate; reasons = reasons; roster = roster })) lodged b.2 in
    let d = bind_ok (text_in files OpenReasons) (λ reasons. text_in files OpenRoster >>= λ roster. Ok (record { inputs = a.0; below = b.0; certificate = c.0; reasons = reasons; roster = roster })) lodged c.2 in
    let f = bind_ok (text_in files OpenRoster) (λ roster. Ok (record { inputs = a.0; below = b.0; certificate = c.0; reasons = d.0; roster = roster })) lodged d.2 in
    let whole : record { inputs = a.0; below = b.0; certificate = c.0; reasons = d.0; roster = f.0 } ≡ lodged = same_ok _ _ _ refl f.2 in
    record {
      inputs = a.1 ∙ ap (λ (o : Lodged). Ok o.inputs) whole;
      below = b.1 ∙ ap (λ (o : Lodged). Ok o.below) whole;
      certificate = c.1 ∙ ap (λ (o : Lodged). Ok o.certificate) whole;
      reasons = d.1 ∙ ap (λ (o : Lodged). Ok o.reasons) whole;
      roster = f.1 ∙ ap (λ (o : Lodged). Ok o.roster) whole;
    }
  where
    same_ok : (r : Result Lodged Unread) (x y : Lodged) → r ≡ Ok x → r ≡ Ok y → x ≡ y
    same_ok r x y a b = cc

-- the text of the proof, where there is one, is that of its file
below_text : (files : Files) (count : ℕ) (text : List ℕ) → none_in files count ≡ Ok (Some text) → text_in files OpenNone ≡ Ok text
below_text files zero text e = absurd cc
below_text files (suc less) text e =
    let a = bind_ok (text_in files OpenNone) (λ bytes. Ok (Some bytes)) (Some text) e in
    a.1 ∙ ap (λ (bytes : List ℕ). Ok bytes) (same_text (Ok (Some a.0)) a.0 text refl a.2)
  where
    same_text : (r : Result (Option (List ℕ)) Unread) (x y : List ℕ) → r ≡ Ok (Some x) → r ≡ Ok (Some y) → x ≡ y
    same_text r x y p q = cc

below_read : (files : Files) (count : ℕ) (text : Option (List ℕ)) (below : Option (List Item)) → none_in files count ≡ Ok text → IsNoneText text below → BelowIsRead files below
below_read files count None below read says = subst (λ (o : Option (List Item)). BelowIsRead files o) (sym says) tt
below_read files count (Some text) below read says =
    let takes = certificate_takes text (NoRoster says.0) says.2 in
    subst (λ (o : Option (List Item)). BelowIsRead files o) (sym says.1)
    (takes.0, there OpenNone (file files (name_of OpenNone)) text (below_text files count text read) ∙ ap Some takes.1, takes.3)

-- ---- what a yes says of them

open_stands : (files : Files) (count : ℕ) (scores : List ℕ) → HasShown files count scores → OpenStands files count scores
open_stands files count scores h =
    let shown = h.found in
    let lodged = h.lodged in
    let reads = lodged_reads files count lodged h.read in
    let accepted = accepted_of h.problem count shown.below shown.roster shown.reasons shown.awarded shown.made shown.accepted shown.says.proofs.of in
    let takes = certificate_takes lodged.certificate (Award shown.awarded) shown.says.proofs.award_read in
    record {
      inputs = lodged.inputs;
      read = reads.inputs;
      problem = h.problem;
      names = h.names;
      made = shown.made;
      of = shown.says.proofs.of;
      needs = shown.needs;
      fewest = shown.fewest;
      roster = shown.roster;
      roster_file = there OpenRoster (file files (name_of OpenRoster)) lodged.roster reads.roster ∙ ap Some shown.says.roster_read.1;
      award = award_of shown.made shown.roster scores accepted.best.complete shown.greatest shown.scores_are;
      below = shown.below;
      below_file = below_read files count lodged.below shown.below reads.below shown.says.proofs.none_read;
      awarded = shown.awarded;
      version = takes.0;
      certificate_file = there OpenCertificate (file files (name_of OpenCertificate)) lodged.certificate reads.certificate ∙ ap Some takes.1;
      sayable = takes.3;
      reasons = shown.reasons;
      reasons_file = there OpenReasons (file files (name_of OpenReasons)) lodged.reasons reads.reasons ∙ ap Some shown.says.reasons_read.1;
      judged = shown.accepted;
    }

-- ---- a run of `opencheck`

end_checks : (files : Files) (count : ℕ) (end : Result (List ℕ) OpenCheckStop) → IsOpenCheck files count end → (before after : Option (List ℕ))
    → after ≡ with_piece before (open_check_text count end) → OpenChecks files count before after (open_check_status end)
end_checks files count (Ok scores) right before after put = record { scores = scores; stands = open_stands files count scores right; put = put }
end_checks files count (Err (stop.Unread (unread.Missing f))) right before after put = tt
end_checks files count (Err (stop.Unread (unread.ReadFault f))) right before after put = tt
end_checks files count (Err (stop.Unread (unread.TooLong f))) right before after put = tt
end_checks files count (Err (stop.Unread unread.NoMemory)) right before after put = tt
end_checks files count (Err (stop.BadInput (bad.Fault fault))) right before after put = tt
end_checks files count (Err (stop.BadInput bad.NoMemory)) right before after put = tt
end_checks files count (Err (stop.No why)) right before after put = record { why = why; unopened = right; put = put }
end_checks files count (Err stop.NoMemory) right before after put = tt

end_read : (old new : Entries) (count : ℕ) (end : Result (List ℕ) OpenCheckStop) → IsOpenCheckHanded old new count end → (before after : Option (List ℕ))
    → after ≡ with_piece before (open_check_text count end) → OpenChecksRead old new count before after (open_check_status end)
end_read old new count (Ok scores) read before after put =
    record { scores = scores; stands = on_reads (checking_order count) old new _ _ read (λ files h. open_stands files count scores h); put = put }
end_read old new count (Err (stop.Unread (unread.Missing f))) read before after put = tt
end_read old new count (Err (stop.Unread (unread.ReadFault f))) read before after put = tt
end_read old new count (Err (stop.Unread (unread.TooLong f))) read before after put = tt
end_read old new count (Err (stop.Unread unread.NoMemory)) read before after put = tt
end_read old new count (Err (stop.BadInput (bad.Fault fault))) read before after put = tt
end_read old new count (Err (stop.BadInput bad.NoMemory)) read before after put = tt
end_read old new count (Err (stop.No why)) read before after put = record { why = why; unopened = read; put = put }
end_read old new count (Err stop.NoMemory) read before after put = tt

module _ (c : Option Command) (files : Files) (at to : Shelved) (before after : Sunk) where
  put_checks : (o : Outcome) (count : ℕ) (end : Result (List ℕ) OpenCheckStop) → o ≡ outcome.OpenCheck count end → IsRight files o
      → after.bytes ≡ with_piece before.bytes (text_of o) → OpenChecks files count before.bytes after.bytes (status_of o)
  put_checks o count end e =
      subst (λ (x : Outcome). IsRight files x → after.bytes ≡ with_piece before.bytes (text_of x) → OpenChecks files count before.bytes after.bytes (status_of x)) (sym e)
      (λ right put. end_checks files count end right before.bytes after.bytes put)

  pub run_open_checks : (o : Outcome) (result : Status) (count : ℕ) → ComesTo c at to o → at.files ≡ Some files → c ≡ Some (command.OpenCheck count)
      → Says o before after result → OpenChecks files count before.bytes after.bytes result
  run_open_checks o result count comes told asked says =
      let t = of_open_check o count (sym comes.asked ∙ asked) in
      said_by (λ (s : Status). OpenChecks files count before.bytes after.bytes s) o before after result tt tt
      (put_checks o count t.0 t.1 (comes.right files told)) says

module _ (c : Option Command) (at to : Shelved) (before after : Sunk) where
  put_read : (o : Outcome) (count : ℕ) (end : Result (List ℕ) OpenCheckStop) → o ≡ outcome.OpenCheck count end → IsHandedIn at.log to.log o
      → after.bytes ≡ with_piece before.bytes (text_of o) → OpenChecksRead at.log to.log count before.bytes after.bytes (status_of o)
  put_read o count end e =
      subst (λ (x : Outcome). IsHandedIn at.log to.log x → after.bytes ≡ with_piece before.bytes (text_of x)
      → OpenChecksRead at.log to.log count before.bytes after.bytes (status_of x)) (sym e)
      (λ read put. end_read at.log to.log count end read before.bytes after.bytes put)

  pub run_open_checks_read : (o : Outcome) (result : Status) (count : ℕ) → ComesTo c at to o → c ≡ Some (command.OpenCheck count)
      → Says o before after result → OpenChecksRead at.log to.log count before.bytes after.bytes result
  run_open_checks_read o result count comes asked says =
      let t = of_open_check o count (sym comes.asked ∙ asked) in
      said_by (λ (s : Status). OpenChecksRead at.log to.log count before.bytes after.bytes s) o before after result tt tt
      (put_read o count t.0 t.1 comes.handed) says
