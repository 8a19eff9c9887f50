-- How the stages of `whatif` end, of a question and of the texts of its award.
use Rattle.std.proofs.Common.{◌≡◌, ◌≢◌, ℕ, ◌<◌, ◌≤◌, List, [], length, Option, Some, Result, Ok, Err, refl, sym, ap, ◌∙◌, arith, inl, inr}
use Rattle.std.specs.Prelude.{IfOk, IfErr, slice_get, unwrap_or}
use Rattle.std.proofs.lemmas.Bool.{cases_lt}
use Rattle.std.proofs.lemmas.Option.{slice_get_past}
use Rattle.bid_language.specs.Lines.{bids_in}
use Rattle.bid_language.specs.Sheets as sheets
use Rattle.bid_language.specs.declared.fault.BidCode.{BidCode}
use Rattle.bid_language.specs.declared.fault.BidCode.TheVariants as bid
use Rattle.bid_language.specs.declared.fault.BidFault.{BidFault}
use Rattle.cert_checker.specs.Awards.{IsFirstNo, NamesFault}
use Rattle.cert_checker.specs.declared.refusal.No.{No}
use Rattle.cert_checker.specs.declared.refusal.No.TheVariants as no
use Rattle.cert_text.specs.Lines as lines
use Rattle.cert_text.specs.Reading.{certificate_in}
use Rattle.cert_text.specs.declared.fault.CertCode.{CertCode}
use Rattle.cert_text.specs.declared.fault.CertCode.TheVariants as cert
use Rattle.cert_text.specs.declared.fault.CertFault.{CertFault}
use Rattle.duty_calendar.specs.declared.member.Base.{Base}
use Rattle.month_files.specs.Months.{Names, Ends}
use Rattle.month_files.specs.declared.fault.BadInput.{BadInput}
use Rattle.month_files.specs.declared.fault.BadInput.TheVariants as bad
use Rattle.roster_model.specs.Denials.{IsAwarded}
use Rattle.roster_model.specs.Scores.{bids_of}
use Rattle.roster_model.specs.declared.award.Denial.{Denial}
use Rattle.roster_model.specs.declared.bid.Bid.{Bid}
use Rattle.roster_model.specs.declared.problem.Problem.{Problem}
use Rattle.roster_text.specs.ReasonFaults.{HasReasonFault}
use Rattle.roster_text.specs.ReasonReading.{no_memory as no_room}
use Rattle.roster_text.specs.ReasonText.{IsReasonsText}
use Rattle.roster_text.specs.RosterFaults.{HasFault}
use Rattle.roster_text.specs.RosterText.{IsTextOf}
use Rattle.roster_text.specs.RowReading.{no_memory}
use Rattle.roster_text.specs.declared.fault.RosterTextCode.{RosterTextCode}
use Rattle.roster_text.specs.declared.fault.RosterTextCode.TheVariants as text
use Rattle.roster_text.specs.declared.fault.RosterTextFault.{RosterTextFault}
use Rattle.roster_text.specs.declared.reason_fault.ReasonTextCode.{ReasonTextCode}
use Rattle.roster_text.specs.declared.reason_fault.ReasonTextCode.TheVariants as reason
use Rattle.roster_text.specs.declared.reason_fault.ReasonTextFault.{ReasonTextFault}
use Rattle.what_if.specs.Reused.{AgreeBut}
use Rattle.whatif_commands.specs.declared.question.Question.{Question}
use Rattle.whatif_commands.specs.declared.asking_stop.WhatIf.{WhatIf}
use Rattle.whatif_commands.specs.declared.asking_stop.WhatIfStop.{WhatIfStop}
use Rattle.whatif_commands.specs.declared.asking_stop.WhatIfStop.TheVariants as stop
use Rattle.whatif_commands.specs.Asking.{Asked, Claimed, NamesMember, IsUnasked, IsUnclaimed, MayAnswer, FindsAgain, IsMiss, IsClaimEnd}
use Rattle.whatif_commands.specs.AskingEnds.{bids_stop, cert_stop, roster_stop, reasons_stop, judge_stop}

-- ---- the texts that are read first

module _ (name : List ℕ) (asked : Asked) where
  pub unasked_month : (why : BadInput) → Ends {X = Problem} (Names asked.inputs) asked.inputs (Err why) → IsUnasked name asked (stop.BadInput why)
  unasked_month (bad.Fault fault) h = h
  unasked_month bad.NoMemory h = tt

  pub unasked_bids : (problem : Problem) → Names asked.inputs problem → (c : BidCode) (fault : BidFault) → sheets.FailsBy c fault (bids_in problem.base asked.bids)
      → IsUnasked name asked (bids_stop c fault)
  unasked_bids problem names bid.NoMemory fault h = tt
  unasked_bids problem names bid.Token fault h = record { problem = problem; names = names; bad = h }
  unasked_bids problem names (bid.Expected w) fault h = record { problem = problem; names = names; bad = h }
  unasked_bids problem names bid.Number fault h = record { problem = problem; names = names; bad = h }
  unasked_bids problem names bid.Date fault h = record { problem = problem; names = names; bad = h }
  unasked_bids problem names bid.UnknownMember fault h = record { problem = problem; names = names; bad = h }
  unasked_bids problem names bid.UnknownPairing fault h = record { problem = problem; names = names; bad = h }
  unasked_bids problem names bid.Weight fault h = record { problem = problem; names = names; bad = h }
  unasked_bids problem names bid.TooMany fault h = record { problem = problem; names = names; bad = h }
  unasked_bids problem names bid.MemberTwice fault h = record { problem = problem; names = names; bad = h }

  pub unasked_certificate : NamesMember name asked → (c : CertCode) (fault : CertFault) → lines.FailsBy c fault (certificate_in asked.certificate)
      → IsUnasked name asked (cert_stop c fault)
  unasked_certificate before cert.NoMemory fault h = tt
  unasked_certificate before cert.Version fault h = record { before = before; unread = h }
  unasked_certificate before cert.Word fault h = record { before = before; unread = h }
  unasked_certificate before cert.Number fault h = record { before = before; unread = h }
  unasked_certificate before cert.Short fault h = record { before = before; unread = h }
  unasked_certificate before cert.Trailing fault h = record { before = before; unread = h }
  unasked_certificate before cert.Limit fault h = record { before = before; unread = h }

-- ---- the roster and the reasons

module _ (q : Question) (claimed : Claimed) where
  pub unclaimed_roster : (why : RosterTextFault) (c : RosterTextCode) → why.code ≡ c → (why ≢ no_memory → HasFault q.problem claimed.roster why)
      → IsUnclaimed q claimed (roster_stop c why)
  unclaimed_roster why text.NoMemory is h = tt
  unclaimed_roster why text.Header is h = h (λ e. let same : text.Header ≡ text.NoMemory = sym is ∙ ap (λ (f : RosterTextFault). f.code) e in absurd cc)
  unclaimed_roster why text.Shape is h = h (λ e. let same : text.Shape ≡ text.NoMemory = sym is ∙ ap (λ (f : RosterTextFault). f.code) e in absurd cc)
  unclaimed_roster why text.Member is h = h (λ e. let same : text.Member ≡ text.NoMemory = sym is ∙ ap (λ (f : RosterTextFault). f.code) e in absurd cc)
  unclaimed_roster why text.Pairing is h = h (λ e. let same : text.Pairing ≡ text.NoMemory = sym is ∙ ap (λ (f : RosterTextFault). f.code) e in absurd cc)
  unclaimed_roster why text.Sums is h = h (λ e. let same : text.Sums ≡ text.NoMemory = sym is ∙ ap (λ (f : RosterTextFault). f.code) e in absurd cc)
  unclaimed_roster why text.Rows is h = h (λ e. let same : text.Rows ≡ text.NoMemory = sym is ∙ ap (λ (f : RosterTextFault). f.code) e in absurd cc)

  module _ (roster : List (List ℕ)) (roster_read : IsTextOf q.problem claimed.roster roster) where
    pub unclaimed_reasons : (why : ReasonTextFault) (c : ReasonTextCode) → why.code ≡ c → (why ≢ no_room → HasReasonFault q.problem claimed.reasons why)
        → IsUnclaimed q claimed (reasons_stop c why)
    unclaimed_reasons why reason.NoMemory is h = tt
    unclaimed_reasons why reason.Shape is h =
        record { roster = roster; read = roster_read; unread = h (λ e. let same : reason.Shape ≡ reason.NoMemory = sym is ∙ ap (λ (f : ReasonTextFault). f.code) e in absurd cc) }
    unclaimed_reasons why reason.Member is h =
        record { roster = roster; read = roster_read; unread = h (λ e. let same : reason.Member ≡ reason.NoMemory = sym is ∙ ap (λ (f : ReasonTextFault). f.code) e in absurd cc) }
    unclaimed_reasons why reason.Bid is h =
        record { roster = roster; read = roster_read; unread = h (λ e. let same : reason.Bid ≡ reason.NoMemory = sym is ∙ ap (λ (f : ReasonTextFault). f.code) e in absurd cc) }
    unclaimed_reasons why reason.Place is h =
        record { roster = roster; read = roster_read; unread = h (λ e. let same : reason.Place ≡ reason.NoMemory = sym is ∙ ap (λ (f : ReasonTextFault). f.code) e in absurd cc) }
    unclaimed_reasons why reason.Text is h =
        record { roster = roster; read = roster_read; unread = h (λ e. let same : reason.Text ≡ reason.NoMemory = sym is ∙ ap (λ (f : ReasonTextFault). f.code) e in absurd cc) }

    module _ (reasons : List Denial) (reasons_read : IsReasonsText q.problem claimed.reasons reasons) where
      pub unclaimed_judge : (why : No) → IsFirstNo q.problem roster reasons q.awarded why → (NamesFault why → IsAwarded q.problem roster reasons q.awarded → ⊥)
          → IsUnclaimed q claimed (judge_stop why)
      unclaimed_judge no.NoMemory first wrong = tt
      unclaimed_judge (no.Member m why) first wrong =
          record { roster = roster; reasons = reasons; roster_read = roster_read; reasons_read = reasons_read; known = λ e. absurd cc; first = first; not_accepted = wrong tt }
      unclaimed_judge (no.Cover p count) first wrong =
          record { roster = roster; reasons = reasons; roster_read = roster_read; reasons_read = reasons_read; known = λ e. absurd cc; first = first; not_accepted = wrong tt }
      unclaimed_judge (no.Amount found) first wrong =
          record { roster = roster; reasons = reasons; roster_read = roster_read; reasons_read = reasons_read; known = λ e. absurd cc; first = first; not_accepted = wrong tt }
      unclaimed_judge (no.Item k at why) first wrong =
          record { roster = roster; reasons = reasons; roster_read = roster_read; reasons_read = reasons_read; known = λ e. absurd cc; first = first; not_accepted = wrong tt }
      unclaimed_judge (no.Left k) first wrong =
          record { roster = roster; reasons = reasons; roster_read = roster_read; reasons_read = reasons_read; known = λ e. absurd cc; first = first; not_accepted = wrong tt }
      unclaimed_judge (no.Reason m b) first wrong =
          record { roster = roster; reasons = reasons; roster_read = roster_read; reasons_read = reasons_read; known = λ e. absurd cc; first = first; not_accepted = wrong tt }
      unclaimed_judge (no.Shown m b) first wrong =
          record { roster = roster; reasons = reasons; roster_read = roster_read; reasons_read = reasons_read; known = λ e. absurd cc; first = first; not_accepted = wrong tt }

  -- ends of the stages are ends of the question
  pub ends_unclaimed : (nodes : ℕ) (why : WhatIfStop) → IsUnclaimed q claimed why → IsClaimEnd q claimed nodes (Err why)
  ends_unclaimed nodes (stop.Unread why) h = h
  ends_unclaimed nodes (stop.BadInput why) h = h
  ends_unclaimed nodes (stop.BadBids fault) h = h
  ends_unclaimed nodes (stop.No why) h = h
  ends_unclaimed nodes (stop.Budget ledger) h = absurd h
  ends_unclaimed nodes (stop.Unwritten w u) h = h
  ends_unclaimed nodes stop.NoMemory h = tt

  pub ends_again : (kept : List (List ℕ)) → MayAnswer q claimed kept → (nodes : ℕ) (result : Result WhatIf WhatIfStop) → IfOk result (FindsAgain q kept nodes)
      → IfErr result (IsMiss q nodes) → IsClaimEnd q claimed nodes result
  ends_again kept before nodes (Ok w) found miss = record { kept = kept; before = before; again = found }
  ends_again kept before nodes (Err (stop.Unread why)) found miss = miss
  ends_again kept before nodes (Err (stop.BadInput why)) found miss = miss
  ends_again kept before nodes (Err (stop.BadBids fault)) found miss = miss
  ends_again kept before nodes (Err (stop.No why)) found miss = absurd miss
  ends_again kept before nodes (Err (stop.Budget ledger)) found miss = record { kept = kept; before = before; spends = miss }
  ends_again kept before nodes (Err (stop.Unwritten w u)) found miss = miss
  ends_again kept before nodes (Err stop.NoMemory) found miss = tt

-- ---- other members

-- where no member below a count that covers all bids otherwise, the problems agree but for the one
pub agree_but : (problem other : Problem) (member count : ℕ) → other.base ≡ problem.base → length problem.base.members ≤ count
    → ((m : ℕ) → m < count → m ≢ member → bids_of problem m ≡ bids_of other m) → AgreeBut problem other member
agree_but problem other member count base all same = record {
  base = sym base;
  bids = λ m apart.
      elim (cases_lt m count) [
        | inl lt ↦ same m lt apart
        | inr le ↦
            (let members : length other.base.members ≡ length problem.base.members = ap (λ (b : Base). length b.members) base in
            no_bids problem.bids m (omega (arith, le, all, problem.valid.lists))
            ∙ sym (no_bids other.bids m (omega (arith, le, all, members, other.valid.lists))))
      ];
}
  where
    no_bids : (bids : List (List Bid)) (m : ℕ) → length bids ≤ m → unwrap_or (slice_get bids m) [] ≡ []
    no_bids bids m le = ap (λ (o : Option (List Bid)). unwrap_or o []) (slice_get_past bids m le)
