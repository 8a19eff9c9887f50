-- What an end of `open` says of the files before and after it, told or handed in.
use Rattle.std.proofs.Common.{◌≡◌, ◌≢◌, ℕ, zero, suc, ◌≤◌, false, List, ◌++◌, map, length, Option, Some, None, Result, Ok, Err, refl, sym, ap, subst, ◌∙◌}
use Rattle.std.specs.FinMap.{insert}
use Rattle.std.specs.Option.{ForSome}
use Rattle.std.specs.Str.{bytes_eq}
use Rattle.branch_log.specs.Book.{Book}
use Rattle.cert_checker.proofs.Verdicts.{none_complete}
use Rattle.cert_text.specs.Spelling.{written_text}
use Rattle.shelf.specs.Files.{Files, file}
use Rattle.shelf.specs.Logs.{Entries}
use Rattle.shelf.specs.Puts.{with_piece}
use Rattle.command_words.specs.declared.command.Command.{Command}
use Rattle.command_words.specs.declared.command.Command.TheVariants as command
use Rattle.month_commands.proofs.AwardLaws.{on_month}
use Rattle.month_commands.proofs.HandedLaws.{then_ok, within_limit}
use Rattle.month_commands.specs.Award.{OfMonth}
use Rattle.month_files.specs.FileNames.{name_of, limit_of}
use Rattle.month_files.specs.Handing.{FromReads}
use Rattle.month_files.specs.Months.{Names}
use Rattle.month_files.specs.Reading.{Inputs, within, text_in, texts_in}
use Rattle.month_files.specs.Writes.{Leaves, named_bytes, with_files, written as written_files}
use Rattle.month_files.specs.declared.fault.BadInput.TheVariants as bad
use Rattle.month_files.specs.declared.file.File.{File}
use Rattle.month_files.specs.declared.file.File.TheVariants.{Rules, Pairings, Duties, Legs, Crew, History, Fixed, Bids, OpenNone, OpenCertificate, OpenReasons, OpenRoster}
use Rattle.month_files.specs.declared.unread.Unread.TheVariants as unread
use Rattle.month_files.specs.declared.writing.Draft.{Draft}
use Rattle.month_files.specs.declared.writing.WriteStop.{WriteStop}
use Rattle.month_files.specs.declared.writing.WriteStop.TheVariants as write
use Rattle.open_time.specs.Refuted.{IsRefutedBelow}
use Rattle.open_commands.proofs.OpeningLaws.{award_of as accepted_of}
use Rattle.open_commands.specs.OpenChecking.{Lodged, lodged_in, none_in, IsNoneText, IsShown}
use Rattle.open_commands.specs.Opening.{Finds, FindsNone, FindsOpen, IsOpen, IsOpenHanded, IsReadable, IsSpent, award_drafts, none_drafts, opening_order}
use Rattle.open_commands.specs.OpeningEnds.{open_written}
use Rattle.open_commands.specs.declared.open_stop.OpenFinding.{OpenFinding}
use Rattle.open_commands.specs.declared.open_stop.OpenRow.{OpenRow}
use Rattle.open_commands.specs.declared.open_stop.OpenStop.{OpenStop}
use Rattle.open_commands.specs.declared.open_stop.OpenStop.TheVariants as stop
use Rattle.open_commands.specs.declared.open_stop.Opening.{Opening}
use Rattle.open_commands.specs.declared.open_stop.Opening.TheVariants as kind
use Rattle.roster_model.specs.declared.award.Awarded.{Awarded}
use Rattle.roster_model.specs.declared.award.Certificate.TheVariants as form
use Rattle.roster_model.specs.declared.award.Denial.{Denial}
use Rattle.roster_model.specs.declared.problem.Problem.{Problem}
use Rattle.roster_model.specs.declared.proof.Item.{Item}
use Rattle.roster_text.specs.ReasonText.{reasons_text}
use Rattle.roster_text.specs.RosterText.{roster_text}
use Rattle.answer_texts.specs.OpenTexts.{open_lines, open_status, open_text, opening_status}
use Rattle.answer_texts.specs.WriteEnds.{write_status}
use Rattle.answer_texts.specs.declared.status.Status.{Status}
use Rattle.pbs_engine.specs.AwardHeadline.{Tells}
use Rattle.pbs_engine.specs.Ledgers.{SpendsWith}
use Rattle.pbs_engine.specs.OpenHeadline.{BelowIsWritten, HasOpenedMonth, HasUnopenable, IsOpenedMonth, IsUnopenable, OpenIsWritten, Opens, OpensRead, OthersAreKept, UnopenableIsWritten}
use Rattle.pbs_engine.specs.Outcomes.{status_of, text_of, written_by, IsRight, IsHandedIn}
use Rattle.pbs_engine.specs.Runs.{Shelved, Sunk, ComesTo, Says}
use Rattle.pbs_engine.specs.declared.outcome.Outcome.{Outcome}
use Rattle.pbs_engine.specs.declared.outcome.Outcome.TheVariants as outcome
use Rattle.pbs_engine.proofs.Answering.{of_open, said_by, on_reads, file_given}
use Rattle.pbs_engine.proofs.AwardStanding.{all_alike, other_file, texts_are, unequal}
use Rattle.pbs_engine.proofs.OpenFilled.{unfilled_up_to}
use Rattle.pbs_engine.proofs.OpenRows.{of_month}
use Rattle.pbs_engine.proofs.WhatIfStanding.{award_of, budget_put}

-- ---- files after the writes

-- the proof that one vacant line less is not enough, in its file
abbrev none_bytes : List Item → List ℕ
none_bytes proof = written_text (form.NoRoster proof)

abbrev start : Files → Option (List Item) → Files
start old None = old
start old (Some proof) = insert old (name_of OpenNone) (none_bytes proof)

started : (old : Files) (below : Option (List Item)) (rest : List Draft)
    → with_files (Some old) (map named_bytes (none_drafts below ++ rest)) ≡ with_files (Some (start old below)) (map named_bytes rest)
started old None rest = refl
started old (Some proof) rest = refl

start_other : (old : Files) (below : Option (List Item)) (name : List ℕ) → name ≢ name_of OpenNone → file (start old below) name ≡ file old name
start_other old None name apart = refl
start_other old (Some proof) name apart = other_file old (name_of OpenNone) (none_bytes proof) name apart

below_started : (old : Files) (below : Option (List Item)) → BelowIsWritten old (start old below) below
below_started old None = refl
below_started old (Some proof) = file_given old (name_of OpenNone) (none_bytes proof)

-- later writes leave it
below_kept : (old first new : Files) (below : Option (List Item)) → file new (name_of OpenNone) ≡ file first (name_of OpenNone)
    → BelowIsWritten old first below → BelowIsWritten old new below
below_kept old first new None same h = same ∙ h
below_kept old first new (Some proof) same h = same ∙ h

module _ (old : Files) (below : Option (List Item)) (made : Problem) (awarded : Awarded) (reasons : List Denial) (roster : List (List ℕ)) where
  abbrev certificate_bytes : List ℕ
  certificate_bytes = written_text (form.Award awarded)

  abbrev reasons_bytes : List ℕ
  reasons_bytes = reasons_text made reasons

  abbrev roster_bytes : List ℕ
  roster_bytes = roster_text made roster

  abbrev first : Files
  first = insert (start old below) (name_of OpenCertificate) certificate_bytes

  abbrev second : Files
  second = insert first (name_of OpenReasons) reasons_bytes

  abbrev whole : Files
  whole = insert second (name_of OpenRoster) roster_bytes

  files_are : with_files (Some old) (map named_bytes (none_drafts below ++ award_drafts made awarded reasons roster)) ≡ Some whole
  files_are = started old below (award_drafts made awarded reasons roster)

  later : (name : List ℕ) → name ≢ name_of OpenCertificate → name ≢ name_of OpenReasons → name ≢ name_of OpenRoster → file whole name ≡ file (start old below) name
  later name c e r =
      other_file second (name_of OpenRoster) roster_bytes name r
      ∙ other_file first (name_of OpenReasons) reasons_bytes name e
      ∙ other_file (start old below) (name_of OpenCertificate) certificate_bytes name c

  others : OthersAreKept old whole
  others name n c e r = later name c e r ∙ start_other old below name n

  below_there : BelowIsWritten old whole below
  below_there =
      below_kept old (start old below) whole below
      (later (name_of OpenNone) (unequal (name_of OpenNone) (name_of OpenCertificate) refl) (unequal (name_of OpenNone) (name_of OpenReasons) refl)
      (unequal (name_of OpenNone) (name_of OpenRoster) refl))
      (below_started old below)

  certificate_there : file whole (name_of OpenCertificate) ≡ Some certificate_bytes
  certificate_there =
      other_file second (name_of OpenRoster) roster_bytes (name_of OpenCertificate) (unequal (name_of OpenCertificate) (name_of OpenRoster) refl)
      ∙ other_file first (name_of OpenReasons) reasons_bytes (name_of OpenCertificate) (unequal (name_of OpenCertificate) (name_of OpenReasons) refl)
      ∙ file_given (start old below) (name_of OpenCertificate) certificate_bytes

  reasons_there : file whole (name_of OpenReasons) ≡ Some reasons_bytes
  reasons_there =
      other_file second (name_of OpenRoster) roster_bytes (name_of OpenReasons) (unequal (name_of OpenReasons) (name_of OpenRoster) refl)
      ∙ file_given first (name_of OpenReasons) reasons_bytes

  roster_there : file whole (name_of OpenRoster) ≡ Some roster_bytes
  roster_there = file_given second (name_of OpenRoster) roster_bytes

-- ---- `opencheck` reads them

-- the inputs are as before
module _ (old new : Files) (kept : OthersAreKept old new) where
  kept_text : (f : File) → bytes_eq (name_of f) (name_of OpenNone) ≡ false → bytes_eq (name_of f) (name_of OpenCertificate) ≡ false
      → bytes_eq (name_of f) (name_of OpenReasons) ≡ false → bytes_eq (name_of f) (name_of OpenRoster) ≡ false
      → text_in new f ≡ text_in old f
  kept_text f n c e r =
      ap (within f)
      (kept (name_of f) (unequal (name_of f) (name_of OpenNone) n) (unequal (name_of f) (name_of OpenCertificate) c)
      (unequal (name_of f) (name_of OpenReasons) e) (unequal (name_of f) (name_of OpenRoster) r))

  inputs_kept : texts_in new ≡ texts_in old
  inputs_kept =
      texts_are new
      ∙ all_alike _ _ _ _ _ _ _ _ _ _ _ _ _ _ _ _ (kept_text Rules refl refl refl refl) (kept_text Pairings refl refl refl refl)
      (kept_text Duties refl refl refl refl) (kept_text Legs refl refl refl refl) (kept_text Crew refl refl refl refl)
      (kept_text History refl refl refl refl) (kept_text Fixed refl refl refl refl) (kept_text Bids refl refl refl refl)
      ∙ sym (texts_are old)

-- the text of the proof that one vacant line less is not enough
abbrev none_text : Option (List Item) → Option (List ℕ)
none_text None = None
none_text (Some proof) = Some (none_bytes proof)

none_said : (below : Option (List Item)) → ForSome below (λ proof. IsReadable OpenNone (form.NoRoster proof)) → IsNoneText (none_text below) below
none_said None readable = refl
none_said (Some proof) readable = (proof, refl, (readable proof refl).again)

none_read : (problem : Problem) (old new : Files) (count : ℕ) (below : Option (List Item)) → IsRefutedBelow problem count below → BelowIsWritten old new below
    → ForSome below (λ proof. IsReadable OpenNone (form.NoRoster proof)) → none_in new count ≡ Ok (none_text below)
none_read problem old new zero below is there readable = ap (λ (o : Option (List Item)). Ok (none_text o)) (sym is)
none_read problem old new (suc less) below is there readable =
    let written : BelowIsWritten old new (Some is.0) = subst (λ (o : Option (List Item)). BelowIsWritten old new o) is.1 there in
    then_ok _ _ (none_bytes is.0) _ (ap (within OpenNone) written ∙ within_limit OpenNone (none_bytes is.0) (readable is.0 is.1).fits)
    (ap (λ (o : Option (List Item)). Ok (none_text o)) (sym is.1))

-- a text that is there and short enough
text_read : (files : Files) (f : File) (bytes : List ℕ) → file files (name_of f) ≡ Some bytes → length bytes ≤ limit_of f → text_in files f ≡ Ok bytes
text_read files f bytes there fits = ap (within f) there ∙ within_limit f bytes fits

-- ---- an award that was found

module _ (problem : Problem) (most nodes count : ℕ) (scores : List ℕ) (rows : List OpenRow) (ledger : Book) (drafts : List Draft)
    (found : FindsOpen problem most nodes count scores rows ledger drafts) where
  opened_month : IsOpenedMonth problem found.says.made most nodes count (length ledger.entries) scores rows found.below found.roster found.reasons found.awarded
  opened_month =
      let made = found.says.made in
      let accepted = accepted_of problem count found.below found.roster found.reasons found.awarded made found.award found.says.of in
      record {
        of = found.says.of;
        judged = found.award;
        within = found.within;
        needs = found.needs;
        fewest = found.fewest;
        award = award_of made found.roster scores accepted.best.complete found.says.greatest found.says.scores_are;
        rows_are = found.says.rows_are;
        ledger = record { book = ledger; run = found.run; counted = refl };
        room = found.room;
        splits = found.splits;
      }

  has_opened : HasOpenedMonth most nodes count (length ledger.entries) scores rows problem
  has_opened = record {
    made = found.says.made;
    below = found.below;
    roster = found.roster;
    reasons = found.reasons;
    awarded = found.awarded;
    found = opened_month;
  }

  module _ (old : Files) (inputs : Inputs) (read : texts_in old ≡ Ok inputs) (names : Names inputs problem) where
    abbrev made : Problem
    made = found.says.made

    abbrev written : Files
    written = whole old found.below made found.awarded found.reasons found.roster

    abbrev lodged : Lodged
    lodged = record {
      inputs = inputs;
      below = none_text found.below;
      certificate = written_text (form.Award found.awarded);
      reasons = reasons_text made found.reasons;
      roster = roster_text made found.roster;
    }

    lodged_read : lodged_in written count ≡ Ok lodged
    unfolding lodged_in
    lodged_read =
        then_ok _ _ inputs _ (inputs_kept old written (others old found.below made found.awarded found.reasons found.roster) ∙ read)
        (then_ok _ _ (none_text found.below) _
        (none_read problem old written count found.below found.award.fewer (below_there old found.below made found.awarded found.reasons found.roster) found.says.proof_readable)
        (then_ok _ _ lodged.certificate _
        (text_read written OpenCertificate lodged.certificate (certificate_there old found.below made found.awarded found.reasons found.roster) found.says.certificate_readable.fits)
        (then_ok _ _ lodged.reasons _
        (text_read written OpenReasons lodged.reasons (reasons_there old found.below made found.awarded found.reasons found.roster) found.says.reasons_readable.fits)
        (then_ok _ _ lodged.roster _
        (text_read written OpenRoster lodged.roster (roster_there old found.below made found.awarded found.reasons found.roster) found.says.roster_readable.fits) refl))))

    shown : IsShown problem count lodged scores
    shown = record {
      made = made;
      below = found.below;
      awarded = found.awarded;
      reasons = found.reasons;
      roster = found.roster;
      says = record {
        proofs = record { of = found.says.of; none_read = none_said found.below found.says.proof_readable; award_read = found.says.certificate_readable.again };
        reasons_read = (found.says.reasons_readable.form, refl);
        roster_read = (found.says.roster_readable.form, refl);
      };
      accepted = found.award;
      needs = found.needs;
      fewest = found.fewest;
      greatest = found.says.greatest;
      scores_are = found.says.scores_are;
    }

    open_is_written : OpenIsWritten old written most nodes count (length ledger.entries) scores rows problem
    open_is_written = record {
      made = made;
      below = found.below;
      roster = found.roster;
      reasons = found.reasons;
      awarded = found.awarded;
      found = opened_month;
      below_file = below_there old found.below made found.awarded found.reasons found.roster;
      certificate_file = certificate_there old found.below made found.awarded found.reasons found.roster;
      reasons_file = reasons_there old found.below made found.awarded found.reasons found.roster;
      roster_file = roster_there old found.below made found.awarded found.reasons found.roster;
      others = others old found.below made found.awarded found.reasons found.roster;
      accepted = record { lodged = lodged; read = lodged_read; problem = problem; names = names; found = shown };
      certificate_fits = found.says.certificate_readable.fits;
      reasons_fits = found.says.reasons_readable.fits;
      roster_fits = found.says.roster_readable.fits;
    }

pub open_left : (old : Files) (new : Option Files) (most nodes count : ℕ) (scores : List ℕ) (rows : List OpenRow) (ledger : Book) (drafts : List Draft)
    → OfMonth old (λ problem. FindsOpen problem most nodes count scores rows ledger drafts) → Leaves (Some old) new (written_files drafts (Ok tt))
    → Tells new (λ files. OfMonth old (OpenIsWritten old files most nodes count (length ledger.entries) scores rows))
open_left old new most nodes count scores rows ledger drafts month left =
    let found = month.found in
    record {
      files = whole old found.below found.says.made found.awarded found.reasons found.roster;
      told =
          left ∙ ap (λ (ds : List Draft). with_files (Some old) (map named_bytes ds)) found.says.drafts_are
          ∙ files_are old found.below found.says.made found.awarded found.reasons found.roster;
      found = record {
        inputs = month.inputs;
        read = month.read;
        problem = month.problem;
        names = month.names;
        found = open_is_written month.problem most nodes count scores rows ledger drafts found old month.inputs month.read month.names;
      };
    }

-- ---- that the most are not enough

unopenable : (problem : Problem) (most nodes : ℕ) (ledger : Book) (drafts : List Draft) → (found : FindsNone problem most nodes ledger drafts)
    → IsUnopenable problem found.refuted.made most nodes (length ledger.entries) found.proof
unopenable problem most nodes ledger drafts found = record {
  of = found.refuted.of;
  closes = found.refuted.closes;
  none = unfilled_up_to problem found.refuted.made most found.most_fit found.refuted.of (none_complete found.refuted.made found.proof found.refuted.closes);
  ledger = record { book = ledger; run = found.run; counted = refl };
  room = found.room;
  splits = found.splits;
}

pub none_left : (old : Files) (new : Option Files) (most nodes : ℕ) (ledger : Book) (drafts : List Draft) → OfMonth old (λ problem. FindsNone problem most nodes ledger drafts)
    → Leaves (Some old) new (written_files drafts (Ok tt)) → Tells new (λ files. OfMonth old (UnopenableIsWritten old files most nodes (length ledger.entries)))
none_left old new most nodes ledger drafts month left =
    let found = month.found in
    record {
      files = insert old (name_of OpenNone) (none_bytes found.proof);
      told = left ∙ ap (λ (ds : List Draft). with_files (Some old) (map named_bytes ds)) found.drafts_are;
      found = record {
        inputs = month.inputs;
        read = month.read;
        problem = month.problem;
        names = month.names;
        found = record {
          made = found.refuted.made;
          proof = found.proof;
          found = unopenable month.problem most nodes ledger drafts found;
          proof_file = file_given old (name_of OpenNone) (none_bytes found.proof);
          others = λ name apart. other_file old (name_of OpenNone) (none_bytes found.proof) name apart;
          proof_fits = found.readable.fits;
        };
      };
    }

-- a ledger that is full has as many entries as there are nodes
all_spent : (problem : Problem) (most nodes : ℕ) (ledger : Book) → IsSpent problem most nodes ledger → length ledger.entries ≡ nodes
all_spent problem most nodes ledger h = h.full ∙ h.run.run.cap

-- ---- a run of `open`

finding_opens : (old : Files) (new : Option Files) (most nodes : ℕ) (ledger : Book) (shown : Opening) (drafts : List Draft)
    → OfMonth old (λ problem. Finds problem most nodes shown ledger drafts) → Leaves (Some old) new (written_files drafts (Ok tt))
    → (before after : Option (List ℕ)) → after ≡ with_piece before (open_lines shown (length ledger.entries)) → Opens old new most nodes before after (opening_status shown)
finding_opens old new most nodes ledger (kind.Award count scores rows) drafts month left before after put = record {
  count = count;
  entries = length ledger.entries;
  scores = scores;
  rows = rows;
  files = open_left old new most nodes count scores rows ledger drafts month left;
  put = put;
}
finding_opens old new most nodes ledger kind.NoRoster drafts month left before after put =
    record { entries = length ledger.entries; files = none_left old new most nodes ledger drafts month left; put = put }

unwritten_opens : (old : Files) (new : Option Files) (most nodes : ℕ) (why : WriteStop) (before after : Option (List ℕ))
    → Opens old new most nodes before after (write_status why)
unwritten_opens old new most nodes write.Fault before after = tt
unwritten_opens old new most nodes write.NoMemory before after = tt

end_opens : (old : Files) (new : Option Files) (most nodes : ℕ) (end : Result OpenFinding OpenStop) → IsOpen old most nodes end → Leaves (Some old) new (open_written end)
    → (before after : Option (List ℕ)) → after ≡ with_piece before (open_text end) → Opens old new most nodes before after (open_status end)
end_opens old new most nodes (Ok f) right left before after put = finding_opens old new most nodes f.ledger f.found f.drafts (of_month old _ right) left before after put
end_opens old new most nodes (Err (stop.Unread (unread.Missing f))) right left before after put = left
end_opens old new most nodes (Err (stop.Unread (unread.ReadFault f))) right left before after put = left
end_opens old new most nodes (Err (stop.Unread (unread.TooLong f))) right left before after put = left
end_opens old new most nodes (Err (stop.Unread unread.NoMemory)) right left before after put = tt
end_opens old new most nodes (Err (stop.BadInput (bad.Fault fault))) right left before after put = left
end_opens old new most nodes (Err (stop.BadInput bad.NoMemory)) right left before after put = tt
end_opens old new most nodes (Err (stop.No why)) right left before after put = record { why = why; closed = of_month old _ right; same = left; put = put }
end_opens old new most nodes (Err (stop.Budget ledger)) right left before after put = record {
  month = on_month old _ (λ problem. SpendsWith problem most nodes) (of_month old _ right) (λ problem found. (ledger, found));
  same = left;
  put = budget_put nodes (length ledger.entries) before after (all_spent right.problem most nodes ledger right.found) put;
}
end_opens old new most nodes (Err (stop.Unwritten f u)) right left before after put = unwritten_opens old new most nodes u.why before after
end_opens old new most nodes (Err stop.NoMemory) right left before after put = tt

-- ---- of the texts that reads handed in

finding_read : (old new : Entries) (most nodes : ℕ) (ledger : Book) (shown : Opening) (drafts : List Draft)
    → FromReads opening_order old new (λ files. OfMonth files (λ problem. Finds problem most nodes shown ledger drafts))
    → (before after : Option (List ℕ)) → after ≡ with_piece before (open_lines shown (length ledger.entries)) → OpensRead old new most nodes before after (opening_status shown)
finding_read old new most nodes ledger (kind.Award count scores rows) drafts read before after put = record {
  count = count;
  entries = length ledger.entries;
  scores = scores;
  rows = rows;
  month = on_reads opening_order old new _ _ read
      (λ files month. on_month files _ (HasOpenedMonth most nodes count (length ledger.entries) scores rows) month
      (λ problem found. has_opened problem most nodes count scores rows ledger drafts found));
  put = put;
}
finding_read old new most nodes ledger kind.NoRoster drafts read before after put = record {
  entries = length ledger.entries;
  month = on_reads opening_order old new _ _ read
      (λ files month. on_month files _ (HasUnopenable most nodes (length ledger.entries)) month
      (λ problem found. (found.refuted.made, found.proof, unopenable problem most nodes ledger drafts found)));
  put = put;
}

unwritten_read : (old new : Entries) (most nodes : ℕ) (why : WriteStop) (before after : Option (List ℕ)) → OpensRead old new most nodes before after (write_status why)
unwritten_read old new most nodes write.Fault before after = tt
unwritten_read old new most nodes write.NoMemory before after = tt

end_read : (old new : Entries) (most nodes : ℕ) (end : Result OpenFinding OpenStop) → IsOpenHanded old new most nodes end → (before after : Option (List ℕ))
    → after ≡ with_piece before (open_text end) → OpensRead old new most nodes before after (open_status end)
end_read old new most nodes (Ok f) read before after put =
    finding_read old new most nodes f.ledger f.found f.drafts (on_reads opening_order old new _ _ read (λ files h. of_month files _ h)) before after put
end_read old new most nodes (Err (stop.Unread (unread.Missing f))) read before after put = tt
end_read old new most nodes (Err (stop.Unread (unread.ReadFault f))) read before after put = tt
end_read old new most nodes (Err (stop.Unread (unread.TooLong f))) read before after put = tt
end_read old new most nodes (Err (stop.Unread unread.NoMemory)) read before after put = tt
end_read old new most nodes (Err (stop.BadInput (bad.Fault fault))) read before after put = tt
end_read old new most nodes (Err (stop.BadInput bad.NoMemory)) read before after put = tt
end_read old new most nodes (Err (stop.No why)) read before after put =
    record { why = why; closed = on_reads opening_order old new _ _ read (λ files h. of_month files _ h); put = put }
end_read old new most nodes (Err (stop.Budget ledger)) read before after put = record {
  month = on_reads opening_order old new _ _ read
      (λ files h. on_month files _ (λ problem. SpendsWith problem most nodes) (of_month files _ h) (λ problem found. (ledger, found)));
  put = budget_put nodes (length ledger.entries) before after (all_spent read.found.problem most nodes ledger read.found.found) put;
}
end_read old new most nodes (Err (stop.Unwritten f u)) read before after put = unwritten_read old new most nodes u.why before after
end_read old new most nodes (Err stop.NoMemory) read before after put = tt

module _ (c : Option Command) (files : Files) (at to : Shelved) (before after : Sunk) where
  put_opens : (o : Outcome) (most nodes : ℕ) (end : Result OpenFinding OpenStop) → o ≡ outcome.Open most nodes end → IsRight files o → Leaves (Some files) to.files (written_by o)
      → after.bytes ≡ with_piece before.bytes (text_of o) → Opens files to.files most nodes before.bytes after.bytes (status_of o)
  put_opens o most nodes end e =
      subst (λ (x : Outcome). IsRight files x → Leaves (Some files) to.files (written_by x) → after.bytes ≡ with_piece before.bytes (text_of x)
      → Opens files to.files most nodes before.bytes after.bytes (status_of x)) (sym e)
      (λ right left put. end_opens files to.files most nodes end right left before.bytes after.bytes put)

  pub run_opens : (o : Outcome) (result : Status) (most nodes : ℕ) → ComesTo c at to o → at.files ≡ Some files → c ≡ Some (command.Open most nodes)
      → Says o before after result → Opens files to.files most nodes before.bytes after.bytes result
  run_opens o result most nodes comes told asked says =
      let t = of_open o most nodes (sym comes.asked ∙ asked) in
      said_by (λ (s : Status). Opens files to.files most nodes before.bytes after.bytes s) o before after result tt tt
      (put_opens o most nodes t.0 t.1 (comes.right files told) (subst (λ (held : Option Files). Leaves held to.files (written_by o)) told comes.left)) says

module _ (c : Option Command) (at to : Shelved) (before after : Sunk) where
  put_read : (o : Outcome) (most nodes : ℕ) (end : Result OpenFinding OpenStop) → o ≡ outcome.Open most nodes end → IsHandedIn at.log to.log o
      → after.bytes ≡ with_piece before.bytes (text_of o) → OpensRead at.log to.log most nodes before.bytes after.bytes (status_of o)
  put_read o most nodes end e =
      subst (λ (x : Outcome). IsHandedIn at.log to.log x → after.bytes ≡ with_piece before.bytes (text_of x)
      → OpensRead at.log to.log most nodes before.bytes after.bytes (status_of x)) (sym e)
      (λ read put. end_read at.log to.log most nodes end read before.bytes after.bytes put)

  pub run_opens_read : (o : Outcome) (result : Status) (most nodes : ℕ) → ComesTo c at to o → c ≡ Some (command.Open most nodes)
      → Says o before after result → OpensRead at.log to.log most nodes before.bytes after.bytes result
  run_opens_read o result most nodes comes asked says =
      let t = of_open o most nodes (sym comes.asked ∙ asked) in
      said_by (λ (s : Status). OpensRead at.log to.log most nodes before.bytes after.bytes s) o before after result tt tt
      (put_read o most nodes t.0 t.1 comes.handed) says
