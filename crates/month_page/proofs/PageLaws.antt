-- How a run ends, from what its stages answer.
use Rattle.std.proofs.Common.{◌≡◌, ◌≢◌, ℕ, ◌≤◌, List, [], ◌∷◌, ◌++◌, length, Option, Some, Ok, Err, refl, sym, ap, ◌∙◌}
use Rattle.shelf.specs.Files.{Files}
use Rattle.shelf.specs.Logs.{Entries, holding}
use Rattle.shelf.specs.declared.tally.Tally.{Tally}
use Rattle.roster_model.specs.declared.problem.Problem.{Problem}
use Rattle.month_files.specs.declared.fault.BadInput.{BadInput}
use Rattle.month_files.specs.declared.fault.BadInput.TheVariants as bad
use Rattle.month_files.specs.declared.file.File.TheVariants.{Roster, Reasons}
use Rattle.month_files.specs.declared.writing.WriteStop.{WriteStop}
use Rattle.month_files.specs.FileNames.{name_of, limit_of}
use Rattle.month_files.specs.Handing.{FromReads}
use Rattle.month_files.specs.Months.{Names, Ends}
use Rattle.month_files.specs.Reading.{AreShort}
use Rattle.roster_text.specs.declared.fault.RosterTextCode.{RosterTextCode}
use Rattle.roster_text.specs.declared.fault.RosterTextCode.TheVariants as text
use Rattle.roster_text.specs.declared.fault.RosterTextFault.{RosterTextFault}
use Rattle.roster_text.specs.declared.reason_fault.ReasonTextCode.{ReasonTextCode}
use Rattle.roster_text.specs.declared.reason_fault.ReasonTextCode.TheVariants as reason
use Rattle.roster_text.specs.declared.reason_fault.ReasonTextFault.{ReasonTextFault}
use Rattle.roster_text.specs.ReasonFaults.{HasReasonFault}
use Rattle.roster_text.specs.ReasonReading.{no_memory as no_room}
use Rattle.roster_text.specs.RosterFaults.{HasFault}
use Rattle.roster_text.specs.RosterText.{IsTextOf}
use Rattle.roster_text.specs.RowReading.{no_memory}
use Rattle.month_page.specs.declared.page_stop.PageStop.{PageStop}
use Rattle.month_page.specs.declared.page_stop.PageStop.TheVariants as stop
use Rattle.month_page.specs.PageEnds.{roster_stop, reasons_stop, PageCause, PageLeaves}
use Rattle.month_page.specs.Pages.{Seen, seen_in, seen_texts, paging_order, IsShown, HasBadMonth, OfMonth, HasNoReasons, StandsAgainst, OfSight, IsPageRun, IsPageHanded}
use Rattle.month_page.proofs.Held.{held, then_ok, inputs_held}

-- ---- what comes of the texts

module _ (seen : Seen) where
  pub ends_at_month : (why : BadInput) → Ends {X = Problem} (Names seen.inputs) seen.inputs (Err why) → HasBadMonth seen why
  ends_at_month (bad.Fault fault) h = h
  ends_at_month bad.NoMemory h = tt

  module _ (problem : Problem) (names : Names seen.inputs problem) where
    -- a fault whose code is another than that of want of memory is a fault of the text
    faulty : (fault : RosterTextFault) (c : RosterTextCode) → fault.code ≡ c → (c ≡ text.NoMemory → ⊥) → (fault ≢ no_memory → HasFault problem seen.roster fault)
        → OfMonth seen (λ p. HasFault p seen.roster fault)
    faulty fault c is other h = record { problem = problem; names = names; found = h (λ e. other (sym is ∙ ap (λ (f : RosterTextFault). f.code) e)) }

    pub ends_at_roster : (fault : RosterTextFault) (c : RosterTextCode) → fault.code ≡ c → (fault ≢ no_memory → HasFault problem seen.roster fault) → StandsAgainst (roster_stop c fault) seen
    ends_at_roster fault text.NoMemory is h = tt
    ends_at_roster fault text.Header is h = faulty fault text.Header is (λ (e : text.Header ≡ text.NoMemory). absurd cc) h
    ends_at_roster fault text.Shape is h = faulty fault text.Shape is (λ (e : text.Shape ≡ text.NoMemory). absurd cc) h
    ends_at_roster fault text.Member is h = faulty fault text.Member is (λ (e : text.Member ≡ text.NoMemory). absurd cc) h
    ends_at_roster fault text.Pairing is h = faulty fault text.Pairing is (λ (e : text.Pairing ≡ text.NoMemory). absurd cc) h
    ends_at_roster fault text.Sums is h = faulty fault text.Sums is (λ (e : text.Sums ≡ text.NoMemory). absurd cc) h
    ends_at_roster fault text.Rows is h = faulty fault text.Rows is (λ (e : text.Rows ≡ text.NoMemory). absurd cc) h

    module _ (roster : List (List ℕ)) (read : IsTextOf problem seen.roster roster) where
      misread : (fault : ReasonTextFault) (c : ReasonTextCode) → fault.code ≡ c → (c ≡ reason.NoMemory → ⊥) → (fault ≢ no_room → HasReasonFault problem seen.reasons fault)
          → OfMonth seen (HasNoReasons seen fault)
      misread fault c is other h = record {
        problem = problem;
        names = names;
        found = record { roster = roster; read = read; bad = h (λ e. other (sym is ∙ ap (λ (f : ReasonTextFault). f.code) e)) };
      }

      pub ends_at_reasons : (fault : ReasonTextFault) (c : ReasonTextCode) → fault.code ≡ c → (fault ≢ no_room → HasReasonFault problem seen.reasons fault) → StandsAgainst (reasons_stop c fault) seen
      ends_at_reasons fault reason.NoMemory is h = tt
      ends_at_reasons fault reason.Shape is h = misread fault reason.Shape is (λ (e : reason.Shape ≡ reason.NoMemory). absurd cc) h
      ends_at_reasons fault reason.Member is h = misread fault reason.Member is (λ (e : reason.Member ≡ reason.NoMemory). absurd cc) h
      ends_at_reasons fault reason.Bid is h = misread fault reason.Bid is (λ (e : reason.Bid ≡ reason.NoMemory). absurd cc) h
      ends_at_reasons fault reason.Place is h = misread fault reason.Place is (λ (e : reason.Place ≡ reason.NoMemory). absurd cc) h
      ends_at_reasons fault reason.Text is h = misread fault reason.Text is (λ (e : reason.Text ≡ reason.NoMemory). absurd cc) h

-- ---- over files that are read, and over the texts that reads handed in

stopped : (files : Files) (seen : Seen) → seen_in files ≡ Ok seen → (why : PageStop) → StandsAgainst why seen → IsPageRun files (Err why)
stopped files seen read (stop.Unread why) h = absurd h
stopped files seen read (stop.BadInput why) h = record { seen = seen; read = read; found = h }
stopped files seen read (stop.Roster fault) h = record { seen = seen; read = read; found = h }
stopped files seen read (stop.Reasons fault) h = record { seen = seen; read = read; found = h }
stopped files seen read (stop.Unwritten why) h = absurd h
stopped files seen read stop.NoMemory h = tt

pub stopped_told : (told : Option Files) (seen : Seen) → ((files : Files) → told ≡ Some files → seen_in files ≡ Ok seen) → (why : PageStop) → StandsAgainst why seen
    → (files : Files) → told ≡ Some files → IsPageRun files (Err why)
stopped_told told seen read why h files e = stopped files seen (read files e) why h

-- nothing has changed where something stands against a page
pub stopped_cause : (seen : Seen) (old new : Tally) → new ≡ old → (why : PageStop) → StandsAgainst why seen → PageCause old new (Err why)
stopped_cause seen old new e (stop.Unread why) h = absurd h
stopped_cause seen old new e (stop.BadInput why) h = e
stopped_cause seen old new e (stop.Roster fault) h = e
stopped_cause seen old new e (stop.Reasons fault) h = e
stopped_cause seen old new e (stop.Unwritten why) h = absurd h
stopped_cause seen old new e stop.NoMemory h = e

pub stopped_leaves : (seen : Seen) (old new : Option Files) → new ≡ old → (why : PageStop) → StandsAgainst why seen → PageLeaves old new (Err why)
stopped_leaves seen old new e (stop.Unread why) h = absurd h
stopped_leaves seen old new e (stop.BadInput why) h = e
stopped_leaves seen old new e (stop.Roster fault) h = e
stopped_leaves seen old new e (stop.Reasons fault) h = e
stopped_leaves seen old new e (stop.Unwritten why) h = absurd h
stopped_leaves seen old new e stop.NoMemory h = e

module _ (old new : Entries) (seen : Seen) (logged : new ≡ old ++ seen_texts seen) (short : AreShort seen.inputs)
    (roster : length seen.roster ≤ limit_of Roster) (reasons : length seen.reasons ≤ limit_of Reasons) where
  seen_held : seen_in (holding (seen_texts seen)) ≡ Ok seen
  unfolding seen_in
  seen_held =
      then_ok _ _ seen.inputs _ (inputs_held seen.inputs ((name_of Roster, seen.roster) ∷ (name_of Reasons, seen.reasons) ∷ []) short)
      (then_ok _ _ seen.roster _ (held (seen_texts seen) Roster seen.roster refl roster)
      (then_ok _ _ seen.reasons _ (held (seen_texts seen) Reasons seen.reasons refl reasons) refl))

  from_seen : (P : Seen → Type 0) → P seen → FromReads paging_order old new (OfSight P)
  from_seen P h = record {
    texts = seen_texts seen;
    logged = logged;
    count = 10;
    names = refl;
    found = record { seen = seen; read = seen_held; found = h };
  }

  pub stopped_handed : (why : PageStop) → StandsAgainst why seen → IsPageHanded old new (Err why)
  stopped_handed (stop.Unread why) h = absurd h
  stopped_handed (stop.BadInput why) h = from_seen _ h
  stopped_handed (stop.Roster fault) h = from_seen _ h
  stopped_handed (stop.Reasons fault) h = from_seen _ h
  stopped_handed (stop.Unwritten why) h = absurd h
  stopped_handed stop.NoMemory h = tt

  pub shown_handed : (members : ℕ) → IsShown members seen → IsPageHanded old new (Ok members)
  shown_handed members h = from_seen (IsShown members) h

  pub lost_handed : (members : ℕ) → IsShown members seen → (why : WriteStop) → IsPageHanded old new (Err (stop.Unwritten why))
  lost_handed members h why = from_seen (λ s. (members : ℕ) × IsShown members s) (members, h)
