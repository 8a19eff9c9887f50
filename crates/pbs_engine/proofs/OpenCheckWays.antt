-- The files of a folder have `opencheck` end in one way, where no read fails and memory is there.
use Rattle.std.proofs.Common.{◌≡◌, ℕ, List, Option, Some, None, Ok, Err, inl, inr, refl, sym, subst, ◌∙◌}
use Rattle.std.specs.Prelude.{◌⊎◌}
use Rattle.shelf.specs.Files.{Files}
use Rattle.cert_text.specs.Reading.{certificate_in}
use Rattle.cert_text.specs.declared.fault.CertFault.{CertFault}
use Rattle.month_files.proofs.OneMonth.{one_problem, never_both}
use Rattle.month_files.specs.Months.{Names, HasFault}
use Rattle.month_files.specs.declared.fault.InputFault.{InputFault}
use Rattle.month_files.specs.declared.unread.Unread.{Unread}
use Rattle.open_time.proofs.OneMonth.{one_month}
use Rattle.open_time.specs.Refuted.{IsOpenAward}
use Rattle.open_time.specs.Vacant.{IsWithVacant}
use Rattle.open_commands.specs.OpenChecking.{Lodged, lodged_in, HasBadLodged, IsAwardRefused, IsNoneText, IsNoneUnread, IsShown, IsUnopened, SaysAll}
use Rattle.open_commands.specs.declared.open_check_stop.OpenCheckStop.TheVariants as stop
use Rattle.open_commands.specs.declared.open_check_stop.Unopened.{Unopened}
use Rattle.open_commands.specs.declared.open_check_stop.Unopened.TheVariants as unopened
use Rattle.roster_model.specs.declared.award.Awarded.{Awarded}
use Rattle.roster_model.specs.declared.award.Certificate.{Certificate}
use Rattle.roster_model.specs.declared.award.Certificate.TheVariants.{Award, NoRoster}
use Rattle.roster_model.specs.declared.award.Denial.{Denial}
use Rattle.roster_model.specs.declared.problem.Problem.{Problem}
use Rattle.roster_model.specs.declared.proof.Item.{Item}
use Rattle.roster_text.proofs.FaultLaws.{not_both}
use Rattle.roster_text.proofs.ReasonLines.{one_list, not_both as never_faulty}
use Rattle.roster_text.proofs.RowLaws.{one_roster}
use Rattle.roster_text.specs.ReasonText.{IsReasonsText}
use Rattle.roster_text.specs.RosterText.{IsTextOf}
use Rattle.answer_texts.specs.MonthEnds.{unread_status}
use Rattle.answer_texts.specs.declared.status.Status.{Status}
use Rattle.answer_texts.specs.declared.status.Status.TheVariants as status
use Rattle.pbs_engine.specs.Rows.{HasShown, HasUnopened}
use Rattle.pbs_engine.proofs.OneAnswer.{By, IsOne, one_is, one_by, enter, leave}
use Rattle.pbs_engine.proofs.OpenWays.{no_room}

-- ---- what is said for a no excludes what is shown

-- one text of a certificate says one thing
one_certificate : (text : List ℕ) (c d : Certificate) → certificate_in text ≡ Ok c → certificate_in text ≡ Ok d → c ≡ d
one_certificate text c d a b = cc

no_certificate : (text : List ℕ) (c : Certificate) (why : CertFault) → certificate_in text ≡ Ok c → certificate_in text ≡ Err why → ⊥
no_certificate text c why a b = absurd cc

other_form : (text : List ℕ) (awarded : Awarded) (proof : List Item) → certificate_in text ≡ Ok (Award awarded) → certificate_in text ≡ Ok (NoRoster proof) → ⊥
other_form text awarded proof a b = let same : Award awarded ≡ NoRoster proof = one_certificate text (Award awarded) (NoRoster proof) a b in absurd cc

one_award : (text : List ℕ) (a b : Awarded) → certificate_in text ≡ Ok (Award a) → certificate_in text ≡ Ok (Award b) → a ≡ b
one_award text a b p q = let same : Award a ≡ Award b = one_certificate text (Award a) (Award b) p q in cc

one_proof : (text : List ℕ) (a b : List Item) → certificate_in text ≡ Ok (NoRoster a) → certificate_in text ≡ Ok (NoRoster b) → a ≡ b
one_proof text a b p q = let same : NoRoster a ≡ NoRoster b = one_certificate text (NoRoster a) (NoRoster b) p q in cc

one_below : (text : Option (List ℕ)) (a b : Option (List Item)) → IsNoneText text a → IsNoneText text b → a ≡ b
one_below None a b p q = p ∙ sym q
one_below (Some text) a b p q = p.1 ∙ subst (λ (items : List Item). Some items ≡ b) (sym (one_proof text p.0 q.0 p.2 q.2)) (sym q.1)

module _ (problem : Problem) (count : ℕ) (lodged : Lodged) (scores : List ℕ) (shown : IsShown problem count lodged scores) where
  -- the proof's text reads
  proof_read : (text : List ℕ) → lodged.below ≡ Some text → (proof : List Item) × (certificate_in text ≡ Ok (NoRoster proof))
  proof_read text there =
      let says = subst (λ (o : Option (List ℕ)). IsNoneText o shown.below) there shown.says.proofs.none_read in
      (says.0, says.2)

  certificates_read : (why : CertFault) → IsNoneUnread lodged.below (stop.No (unopened.Certificate why)) ⊎ IsAwardRefused lodged (stop.No (unopened.Certificate why)) → ⊥
  certificates_read why (inl h) = let says = proof_read h.text h.there in no_certificate h.text (NoRoster says.0) why says.1 h.refused
  certificates_read why (inr h) = no_certificate lodged.certificate (Award shown.awarded) why shown.says.proofs.award_read h.refused

  forms_are_due : IsNoneUnread lodged.below (stop.No unopened.Form) ⊎ IsAwardRefused lodged (stop.No unopened.Form) → ⊥
  forms_are_due (inl h) = let says = proof_read h.text h.there in other_form h.text h.refused.0 says.0 h.refused.1 says.1
  forms_are_due (inr h) = other_form lodged.certificate shown.awarded h.refused.0 shown.says.proofs.award_read h.refused.1

  -- what is said of the one month with so many vacant lines
  module _ (made : Problem) (of : IsWithVacant problem count made) where
    same_month : shown.made ≡ made
    same_month = one_month problem count shown.made made shown.says.proofs.of of

    reasons_read : IsReasonsText made lodged.reasons shown.reasons
    reasons_read = subst (λ (p : Problem). IsReasonsText p lodged.reasons shown.reasons) same_month shown.says.reasons_read

    roster_read : IsTextOf made lodged.roster shown.roster
    roster_read = subst (λ (p : Problem). IsTextOf p lodged.roster shown.roster) same_month shown.says.roster_read

  -- the judge accepts what the texts say
  accepted : (made : Problem) (below : Option (List Item)) (awarded : Awarded) (reasons : List Denial) (roster : List (List ℕ))
      → SaysAll problem count lodged made below awarded reasons roster → IsOpenAward problem count below roster reasons awarded
  accepted made below awarded reasons roster says =
      let same_below = one_below lodged.below shown.below below shown.says.proofs.none_read says.proofs.none_read in
      let same_award = one_award lodged.certificate shown.awarded awarded shown.says.proofs.award_read says.proofs.award_read in
      let same_reasons = one_list made lodged.reasons shown.reasons reasons (reasons_read made says.proofs.of) says.reasons_read in
      let same_roster = one_roster made lodged.roster shown.roster roster (roster_read made says.proofs.of) says.roster_read in
      subst (λ (a : Awarded). IsOpenAward problem count below roster reasons a) same_award
      (subst (λ (r : List Denial). IsOpenAward problem count below roster r shown.awarded) same_reasons
      (subst (λ (r : List (List ℕ)). IsOpenAward problem count below r shown.reasons shown.awarded) same_roster
      (subst (λ (b : Option (List Item)). IsOpenAward problem count b shown.roster shown.reasons shown.awarded) same_below shown.accepted)))

  not_unopened : (why : Unopened) → IsUnopened problem count lodged why → ⊥
  not_unopened (unopened.Open why) h = no_room problem count why h.0 h.1 shown.accepted.room
  not_unopened (unopened.Certificate why) h = certificates_read why h.either
  not_unopened unopened.Form h = forms_are_due h.either
  not_unopened (unopened.Reasons why) h = never_faulty h.made lodged.reasons shown.reasons why (reasons_read h.made h.before.of) h.bad
  not_unopened (unopened.Roster why) h = not_both h.made lodged.roster shown.roster why (roster_read h.made h.before.of) h.bad
  not_unopened (unopened.Judged why) h = h.not_accepted (accepted h.made h.below h.awarded h.reasons h.roster h.says)

-- ---- what a status takes, stage by stage

-- the texts show it and the answer is yes, or they do not and it is no
abbrev Answer : Type 0 → Status → Type 0
Answer shows s = (shows × (s ≡ status.Done)) ⊎ ((shows → ⊥) × (s ≡ status.No))

abbrev Shows : Problem → ℕ → Lodged → Type 0
Shows problem count lodged = (scores : List ℕ) × IsShown problem count lodged scores

-- the inputs have a fault, or name a problem
pub record FaultyLodged (lodged : Lodged) (s : Status) : Type 0 where
  pub fault : InputFault
  pub has : HasFault lodged.inputs fault
  pub is : s ≡ status.BadInput

pub record NamedLodged (count : ℕ) (lodged : Lodged) (s : Status) : Type 0 where
  pub problem : Problem
  pub names : Names lodged.inputs problem
  pub then' : Answer (Shows problem count lodged) s

abbrev AfterLodged : ℕ → Lodged → Status → Type 0
AfterLodged count lodged s = FaultyLodged lodged s ⊎ NamedLodged count lodged s

abbrev pub OpenCheckPath : Files → ℕ → Status → Type 0
OpenCheckPath files count s = By (λ why u. u ≡ unread_status why) (AfterLodged count) (lodged_in files count) s

-- ---- there is one way

one_shown : (shows : Type 0) → IsOne (Answer shows)
one_shown shows s t (inl x) (inl y) = x.1 ∙ sym y.1
one_shown shows s t (inl x) (inr y) = absurd (y.0 x.0)
one_shown shows s t (inr x) (inl y) = absurd (x.0 y.0)
one_shown shows s t (inr x) (inr y) = x.1 ∙ sym y.1

one_lodged : (count : ℕ) (lodged : Lodged) → IsOne (AfterLodged count lodged)
one_lodged count lodged s t (inl x) (inl y) = x.is ∙ sym y.is
one_lodged count lodged s t (inl x) (inr y) = absurd (never_both lodged.inputs y.problem x.fault y.names x.has)
one_lodged count lodged s t (inr x) (inl y) = absurd (never_both lodged.inputs x.problem y.fault x.names y.has)
one_lodged count lodged s t (inr x) (inr y) =
    one_shown (Shows y.problem count lodged) s t
    (subst (λ (p : Problem). Answer (Shows p count lodged) s) (one_problem lodged.inputs x.problem y.problem x.names y.names) x.then') y.then'

pub one_open_check : (files : Files) (count : ℕ) → IsOne (OpenCheckPath files count)
one_open_check files count =
    one_by (λ why u. u ≡ unread_status why) (AfterLodged count) (λ why. one_is (unread_status why)) (one_lodged count) (lodged_in files count)

-- ---- each answer has its way

module _ (files : Files) (count : ℕ) where
  lodged_path : (s : Status) (lodged : Lodged) → lodged_in files count ≡ Ok lodged → AfterLodged count lodged s → OpenCheckPath files count s
  lodged_path s lodged read h = enter (λ why u. u ≡ unread_status why) (AfterLodged count) (lodged_in files count) lodged s read h

  pub opened_path : (scores : List ℕ) → HasShown files count scores → OpenCheckPath files count status.Done
  opened_path scores h =
      lodged_path status.Done h.lodged h.read (inr (record { problem = h.problem; names = h.names; then' = inl ((scores, h.found), refl) }))

  pub unopened_path : (why : Unopened) → HasUnopened files count why → OpenCheckPath files count status.No
  unopened_path why h =
      lodged_path status.No h.lodged h.read
      (inr (record {
        problem = h.problem;
        names = h.names;
        then' = inr (λ shows. not_unopened h.problem count h.lodged shows.0 shows.1 why h.found, refl);
      }))

  pub bad_lodged_path : (fault : InputFault) → HasBadLodged files count fault → OpenCheckPath files count status.BadInput
  bad_lodged_path fault h = lodged_path status.BadInput h.lodged h.read (inl (record { fault = fault; has = h.bad; is = refl }))

  pub unread_lodged_path : (why : Unread) → lodged_in files count ≡ Err why → OpenCheckPath files count (unread_status why)
  unread_lodged_path why h = leave (λ w u. u ≡ unread_status w) (AfterLodged count) (lodged_in files count) why (unread_status why) h refl
