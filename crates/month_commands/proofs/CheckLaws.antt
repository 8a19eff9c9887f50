-- How `check` ends, from what its stages answer.
use Rattle.std.proofs.Common.{◌≡◌, ◌≢◌, ℕ, List, [], Ok, Err, refl, sym, ap, ◌∙◌, inl, inr}
use Rattle.shelf.specs.Files.{Files}
use Rattle.shelf.specs.declared.tally.Tally.{Tally}
use Rattle.roster_model.specs.declared.problem.Problem.{Problem}
use Rattle.roster_model.specs.declared.proof.Item.{Item}
use Rattle.roster_model.specs.declared.award.Awarded.{Awarded}
use Rattle.roster_model.specs.declared.award.Denial.{Denial}
use Rattle.roster_model.specs.declared.award.Certificate.{Certificate}
use Rattle.roster_model.specs.declared.award.Certificate.TheVariants.{Award, NoRoster}
use Rattle.roster_model.specs.Awards.{IsGreatest, HasNoRoster, no_goal}
use Rattle.roster_model.specs.Denials.{DenialsAreAnswered, IsAwarded}
use Rattle.roster_model.specs.Closing.{Closes}
use Rattle.roster_model.specs.Rosters.{scores_of}
use Rattle.cert_checker.specs.declared.refusal.No.{No}
use Rattle.cert_checker.specs.declared.refusal.No.TheVariants as no
use Rattle.cert_checker.specs.Awards.{IsFirstNo, NamesFault}
use Rattle.cert_checker.specs.Stops.{Stops}
use Rattle.cert_text.specs.declared.fault.CertCode.{CertCode}
use Rattle.cert_text.specs.declared.fault.CertCode.TheVariants as cert
use Rattle.cert_text.specs.declared.fault.CertFault.{CertFault}
use Rattle.cert_text.specs.Lines.{FailsBy}
use Rattle.cert_text.specs.Reading.{certificate_in}
use Rattle.month_files.specs.declared.fault.BadInput.{BadInput}
use Rattle.month_files.specs.declared.fault.BadInput.TheVariants as bad
use Rattle.month_files.specs.declared.unread.Unread.{Unread}
use Rattle.month_files.specs.declared.unread.Unread.TheVariants as unread
use Rattle.month_files.specs.Months.{Names, Ends}
use Rattle.month_files.specs.Reading.{UnreadIs}
use Rattle.roster_text.specs.declared.fault.RosterTextCode.{RosterTextCode}
use Rattle.roster_text.specs.declared.fault.RosterTextCode.TheVariants as text
use Rattle.roster_text.specs.declared.fault.RosterTextFault.{RosterTextFault}
use Rattle.roster_text.specs.RosterFaults.{HasFault}
use Rattle.roster_text.specs.RosterText.{IsTextOf}
use Rattle.roster_text.specs.RowReading.{no_memory}
use Rattle.roster_text.specs.declared.reason_fault.ReasonTextCode.{ReasonTextCode}
use Rattle.roster_text.specs.declared.reason_fault.ReasonTextCode.TheVariants as reason
use Rattle.roster_text.specs.declared.reason_fault.ReasonTextFault.{ReasonTextFault}
use Rattle.roster_text.specs.ReasonFaults.{HasReasonFault}
use Rattle.roster_text.specs.ReasonReading.{no_memory as no_room}
use Rattle.roster_text.specs.ReasonText.{IsReasonsText}
use Rattle.month_commands.specs.declared.check_stop.CheckStop.TheVariants as stop
use Rattle.month_commands.specs.declared.verdict.Verdict.TheVariants as verdict
use Rattle.month_commands.specs.Check.{Given, given_in, Claimed, claimed_in, NamesProblem, NamesCertificate, HasClaim, NamesAll, HasNoRosterText, HasNoReasonsText, AwardIsRefused, IsCheck}
use Rattle.month_commands.specs.CheckEnds.{cert_stop, roster_stop, reasons_stop, judge_stop}
use Rattle.month_commands.specs.CheckEnds.{CheckCause}

-- ---- the ends come with no change of the shelf's counts

pub cert_cause : (at : Tally) (c : CertCode) (fault : CertFault) → CheckCause at at (Err (cert_stop c fault))
cert_cause at cert.NoMemory fault = refl
cert_cause at cert.Version fault = refl
cert_cause at cert.Word fault = refl
cert_cause at cert.Number fault = refl
cert_cause at cert.Short fault = refl
cert_cause at cert.Trailing fault = refl
cert_cause at cert.Limit fault = refl

pub roster_cause : (at : Tally) (c : RosterTextCode) (fault : RosterTextFault) → CheckCause at at (Err (roster_stop c fault))
roster_cause at text.NoMemory fault = refl
roster_cause at text.Header fault = refl
roster_cause at text.Shape fault = refl
roster_cause at text.Member fault = refl
roster_cause at text.Pairing fault = refl
roster_cause at text.Sums fault = refl
roster_cause at text.Rows fault = refl

pub reasons_cause : (at : Tally) (c : ReasonTextCode) (fault : ReasonTextFault) → CheckCause at at (Err (reasons_stop c fault))
reasons_cause at reason.NoMemory fault = refl
reasons_cause at reason.Shape fault = refl
reasons_cause at reason.Member fault = refl
reasons_cause at reason.Bid fault = refl
reasons_cause at reason.Place fault = refl
reasons_cause at reason.Text fault = refl

pub judge_cause : (at : Tally) (why : No) → CheckCause at at (Err (judge_stop why))
judge_cause at no.NoMemory = refl
judge_cause at (no.Member m why) = refl
judge_cause at (no.Cover p count) = refl
judge_cause at (no.Amount found) = refl
judge_cause at (no.Item k place why) = refl
judge_cause at (no.Left k) = refl
judge_cause at (no.Reason m b) = refl
judge_cause at (no.Shown m b) = refl

-- ---- the ends before the certificate

module _ (files : Files) where
  pub ends_at_given : (why : Unread) → UnreadIs why (given_in files) → IsCheck files (Err (stop.Unread why))
  ends_at_given (unread.Missing f) h = inl h
  ends_at_given (unread.ReadFault f) h = tt
  ends_at_given (unread.TooLong f) h = inl h
  ends_at_given unread.NoMemory h = tt

  module _ (given : Given) (read : given_in files ≡ Ok given) where
    pub ends_at_month : (why : BadInput) → Ends {X = Problem} (Names given.inputs) given.inputs (Err why) → IsCheck files (Err (stop.BadInput why))
    ends_at_month (bad.Fault fault) h = record { given = given; read = read; bad = h }
    ends_at_month bad.NoMemory h = tt

    module _ (problem : Problem) (names : Names given.inputs problem) where
      named : NamesProblem files given problem
      named = record { read = read; names = names }

      pub ends_at_certificate : (fault : CertFault) (c : CertCode) → FailsBy c fault (certificate_in given.certificate) → IsCheck files (Err (cert_stop c fault))
      ends_at_certificate fault cert.NoMemory h = tt
      ends_at_certificate fault cert.Version h = record { given = given; problem = problem; before = named; unread = h }
      ends_at_certificate fault cert.Word h = record { given = given; problem = problem; before = named; unread = h }
      ends_at_certificate fault cert.Number h = record { given = given; problem = problem; before = named; unread = h }
      ends_at_certificate fault cert.Short h = record { given = given; problem = problem; before = named; unread = h }
      ends_at_certificate fault cert.Trailing h = record { given = given; problem = problem; before = named; unread = h }
      ends_at_certificate fault cert.Limit h = record { given = given; problem = problem; before = named; unread = h }

      pub names_certificate : (certificate : Certificate) → certificate_in given.certificate ≡ Ok certificate → NamesCertificate files problem certificate
      names_certificate certificate h = record { given = given; before = named; read = h }

-- ---- the form without a roster

module _ (files : Files) (problem : Problem) (proof : List Item) (named : NamesCertificate files problem (NoRoster proof)) where
  pub none_accepted : Closes problem no_goal [] proof → HasNoRoster problem → IsCheck files (Ok verdict.NoRoster)
  none_accepted closes none = record { problem = problem; proof = proof; named = named; closes = closes; none = none }

  pub none_refused : (why : No) → Stops problem no_goal 0 proof why → (NamesFault why → Closes problem no_goal [] proof → ⊥) → IsCheck files (Err (judge_stop why))
  none_refused no.NoMemory stops refused = tt
  none_refused (no.Member m why) stops refused = absurd stops
  none_refused (no.Cover p count) stops refused = absurd stops
  none_refused (no.Amount found) stops refused = absurd stops
  none_refused (no.Item k at why) stops refused =
      inr (record { problem = problem; proof = proof; named = named; known = λ (e : no.Item k at why ≡ no.NoMemory). absurd cc; stops = stops; not_closed = refused tt })
  none_refused (no.Left k) stops refused =
      inr (record { problem = problem; proof = proof; named = named; known = λ (e : no.Left k ≡ no.NoMemory). absurd cc; stops = stops; not_closed = refused tt })
  none_refused (no.Reason m b) stops refused = absurd stops
  none_refused (no.Shown m b) stops refused = absurd stops

-- ---- the form of an award

module _ (files : Files) (problem : Problem) (awarded : Awarded) (named : NamesCertificate files problem (Award awarded)) where
  pub ends_at_claim : (why : Unread) → UnreadIs why (claimed_in files) → IsCheck files (Err (stop.Unread why))
  ends_at_claim (unread.Missing f) h = inr (record { problem = problem; awarded = awarded; before = named; ends = h })
  ends_at_claim (unread.ReadFault f) h = tt
  ends_at_claim (unread.TooLong f) h = inr (record { problem = problem; awarded = awarded; before = named; ends = h })
  ends_at_claim unread.NoMemory h = tt

  module _ (claimed : Claimed) (there : claimed_in files ≡ Ok claimed) where
    has : HasClaim files problem awarded claimed
    has = record { before = named; there = there }

    faulty : (fault : RosterTextFault) → HasFault problem claimed.roster fault → HasNoRosterText files fault
    faulty fault bad = record { problem = problem; awarded = awarded; claimed = claimed; before = has; bad = bad }

    -- a fault whose code is another than that of want of memory is a fault of the text
    known : (fault : RosterTextFault) (c : RosterTextCode) → fault.code ≡ c → (c ≡ text.NoMemory → ⊥) → fault ≡ no_memory → ⊥
    known fault c is other e = other (sym is ∙ ap (λ (f : RosterTextFault). f.code) e)

    pub ends_at_roster : (fault : RosterTextFault) (c : RosterTextCode) → fault.code ≡ c → (fault ≢ no_memory → HasFault problem claimed.roster fault) → IsCheck files (Err (roster_stop c fault))
    ends_at_roster fault text.NoMemory is h = tt
    ends_at_roster fault text.Header is h = faulty fault (h (known fault text.Header is (λ (e : text.Header ≡ text.NoMemory). absurd cc)))
    ends_at_roster fault text.Shape is h = faulty fault (h (known fault text.Shape is (λ (e : text.Shape ≡ text.NoMemory). absurd cc)))
    ends_at_roster fault text.Member is h = faulty fault (h (known fault text.Member is (λ (e : text.Member ≡ text.NoMemory). absurd cc)))
    ends_at_roster fault text.Pairing is h = faulty fault (h (known fault text.Pairing is (λ (e : text.Pairing ≡ text.NoMemory). absurd cc)))
    ends_at_roster fault text.Sums is h = faulty fault (h (known fault text.Sums is (λ (e : text.Sums ≡ text.NoMemory). absurd cc)))
    ends_at_roster fault text.Rows is h = faulty fault (h (known fault text.Rows is (λ (e : text.Rows ≡ text.NoMemory). absurd cc)))

    module _ (roster : List (List ℕ)) (read : IsTextOf problem claimed.roster roster) where
      unreasoned : (fault : ReasonTextFault) → HasReasonFault problem claimed.reasons fault → HasNoReasonsText files fault
      unreasoned fault bad =
          record { problem = problem; awarded = awarded; claimed = claimed; before = has; roster = roster; read = read; bad = bad }

      spelt : (fault : ReasonTextFault) (c : ReasonTextCode) → fault.code ≡ c → (c ≡ reason.NoMemory → ⊥) → fault ≡ no_room → ⊥
      spelt fault c is other e = other (sym is ∙ ap (λ (f : ReasonTextFault). f.code) e)

      pub ends_at_reasons : (fault : ReasonTextFault) (c : ReasonTextCode) → fault.code ≡ c → (fault ≢ no_room → HasReasonFault problem claimed.reasons fault) → IsCheck files (Err (reasons_stop c fault))
      ends_at_reasons fault reason.NoMemory is h = tt
      ends_at_reasons fault reason.Shape is h = unreasoned fault (h (spelt fault reason.Shape is (λ (e : reason.Shape ≡ reason.NoMemory). absurd cc)))
      ends_at_reasons fault reason.Member is h = unreasoned fault (h (spelt fault reason.Member is (λ (e : reason.Member ≡ reason.NoMemory). absurd cc)))
      ends_at_reasons fault reason.Bid is h = unreasoned fault (h (spelt fault reason.Bid is (λ (e : reason.Bid ≡ reason.NoMemory). absurd cc)))
      ends_at_reasons fault reason.Place is h = unreasoned fault (h (spelt fault reason.Place is (λ (e : reason.Place ≡ reason.NoMemory). absurd cc)))
      ends_at_reasons fault reason.Text is h = unreasoned fault (h (spelt fault reason.Text is (λ (e : reason.Text ≡ reason.NoMemory). absurd cc)))

      module _ (reasons : List Denial) (listed : IsReasonsText problem claimed.reasons reasons) where
        all : NamesAll files problem awarded roster reasons
        all = record { claimed = claimed; before = has; roster_read = read; reasons_read = listed }

        pub award_accepted : (scores : List ℕ) → IsAwarded problem roster reasons awarded → IsGreatest problem roster
            → DenialsAreAnswered problem roster reasons awarded.shown → scores ≡ scores_of problem roster → IsCheck files (Ok (verdict.Award scores))
        award_accepted scores accepted greatest answered are = record {
          problem = problem;
          awarded = awarded;
          roster = roster;
          reasons = reasons;
          named = all;
          accepted = accepted;
          greatest = greatest;
          answered = answered;
          scores_are = are;
        }

        judged : (why : No) → why ≢ no.NoMemory → IsFirstNo problem roster reasons awarded why → (IsAwarded problem roster reasons awarded → ⊥) → AwardIsRefused files why
        judged why known' first refused = record {
          problem = problem;
          awarded = awarded;
          roster = roster;
          reasons = reasons;
          named = all;
          known = known';
          first = first;
          not_accepted = refused;
        }

        pub award_refused : (why : No) → IsFirstNo problem roster reasons awarded why → (NamesFault why → IsAwarded problem roster reasons awarded → ⊥) → IsCheck files (Err (judge_stop why))
        award_refused no.NoMemory first refused = tt
        award_refused (no.Member m why) first refused = inl (judged (no.Member m why) (λ (e : no.Member m why ≡ no.NoMemory). absurd cc) first (refused tt))
        award_refused (no.Cover p count) first refused = inl (judged (no.Cover p count) (λ (e : no.Cover p count ≡ no.NoMemory). absurd cc) first (refused tt))
        award_refused (no.Amount found) first refused = inl (judged (no.Amount found) (λ (e : no.Amount found ≡ no.NoMemory). absurd cc) first (refused tt))
        award_refused (no.Item k at why) first refused = inl (judged (no.Item k at why) (λ (e : no.Item k at why ≡ no.NoMemory). absurd cc) first (refused tt))
        award_refused (no.Left k) first refused = inl (judged (no.Left k) (λ (e : no.Left k ≡ no.NoMemory). absurd cc) first (refused tt))
        award_refused (no.Reason m b) first refused = inl (judged (no.Reason m b) (λ (e : no.Reason m b ≡ no.NoMemory). absurd cc) first (refused tt))
        award_refused (no.Shown m b) first refused = inl (judged (no.Shown m b) (λ (e : no.Shown m b ≡ no.NoMemory). absurd cc) first (refused tt))
