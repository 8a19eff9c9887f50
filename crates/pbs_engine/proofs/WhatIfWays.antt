-- The files of a folder have `whatif` end in one way, but for what the search finds.
use Rattle.std.proofs.Common.{◌≡◌, ◌≢◌, ℕ, List, [], Option, Some, None, Result, Ok, Err, inl, inr, refl, sym, subst, ◌∙◌}
use Rattle.std.specs.Prelude.{◌⊎◌, slice_get, unwrap_or}
use Rattle.shelf.specs.Files.{Files}
use Rattle.bid_language.specs.Lines.{bids_in}
use Rattle.bid_language.specs.declared.fault.BidFault.{BidFault}
use Rattle.cert_text.specs.Reading.{certificate_in}
use Rattle.cert_text.specs.declared.fault.CertFault.{CertFault}
use Rattle.month_files.proofs.OneMonth.{one_problem, never_both}
use Rattle.month_files.specs.Months.{Names, HasFault}
use Rattle.month_files.specs.declared.fault.InputFault.{InputFault}
use Rattle.month_files.specs.declared.unread.Unread.{Unread}
use Rattle.whatif_commands.specs.Asking.{Asked, asked_in, Claimed, claimed_in, IsAskedIn, OfClaim, HasUnasked, EndsReading, IsStanding}
use Rattle.whatif_commands.specs.declared.question.Question.{Question}
use Rattle.whatif_commands.specs.declared.asking_stop.Unasked.{Unasked}
use Rattle.whatif_commands.specs.declared.asking_stop.Unasked.TheVariants as unasked
use Rattle.roster_model.specs.Denials.{IsAwarded}
use Rattle.roster_model.specs.Scores.{bids_of}
use Rattle.roster_model.specs.declared.award.Awarded.{Awarded}
use Rattle.roster_model.specs.declared.award.Certificate.{Certificate}
use Rattle.roster_model.specs.declared.award.Certificate.TheVariants.{Award, NoRoster}
use Rattle.roster_model.specs.declared.award.Denial.{Denial}
use Rattle.roster_model.specs.declared.bid.Bid.{Bid}
use Rattle.roster_model.specs.declared.problem.Problem.{Problem}
use Rattle.roster_text.proofs.FaultLaws.{not_both}
use Rattle.roster_text.proofs.ReasonLines.{one_list, not_both as never_faulty}
use Rattle.roster_text.proofs.RowLaws.{one_roster}
use Rattle.roster_text.specs.ReasonText.{IsReasonsText}
use Rattle.roster_text.specs.ReasonWords.{member_named}
use Rattle.roster_text.specs.RosterText.{IsTextOf}
use Rattle.answer_texts.specs.MonthEnds.{unread_status}
use Rattle.answer_texts.specs.declared.status.Status.{Status}
use Rattle.answer_texts.specs.declared.status.Status.TheVariants as status
use Rattle.pbs_engine.specs.Rows.{HasBadAsked, MayAsk}
use Rattle.pbs_engine.proofs.OneAnswer.{By, ByOption, FaultyReasons, FaultyRoster, enter, leave}

-- the statuses that may come once nothing stands against a search
abbrev pub IsLate : Status → Type 0
IsLate status.Done = Unit {0}
IsLate status.Budget = Unit {0}
IsLate status.WriteFault = Unit {0}
IsLate status.NoRoster = ⊥
IsLate status.Usage = ⊥
IsLate status.No = ⊥
IsLate status.BadInput = ⊥
IsLate status.Missing = ⊥
IsLate status.ReadFault = ⊥
IsLate status.TooLong = ⊥
IsLate status.NoMemory = ⊥

-- two statuses are one, or each is such a one
abbrev pub Meet : Status → Status → Type 0
Meet s t = (s ≡ t) ⊎ (IsLate s × IsLate t)

abbrev AllMeet : (Status → Type 0) → Type 0
AllMeet F = (s t : Status) → F s → F t → Meet s t

meet_is : (u : Status) → AllMeet (λ s. s ≡ u)
meet_is u s t a b = inl (a ∙ sym b)

meet_by : {A E : Type 0} (F : E → Status → Type 0) (G : A → Status → Type 0) → ((e : E) → AllMeet (F e)) → ((x : A) → AllMeet (G x)) → (r : Result A E) → AllMeet (By F G r)
meet_by F G f g (Err e) s t a b = f e s t a b
meet_by F G f g (Ok x) s t a b = g x s t a b

meet_option : {A : Type 0} (F : Status → Type 0) (G : A → Status → Type 0) → AllMeet F → ((x : A) → AllMeet (G x)) → (r : Option A) → AllMeet (ByOption F G r)
meet_option F G f g None s t a b = f s t a b
meet_option F G f g (Some x) s t a b = g x s t a b

-- ---- what a status takes, stage by stage

-- all other members bid as they did
abbrev AreAlike : Problem → List (List Bid) → ℕ → Type 0
AreAlike p bids member = (m : ℕ) → m ≢ member → bids_of p m ≡ unwrap_or (slice_get bids m) []

abbrev AfterJudge : Type 0 → Status → Type 0
AfterJudge alike s = (alike × IsLate s) ⊎ ((alike → ⊥) × (s ≡ status.No))

abbrev Judged : Type 0 → Type 0 → Status → Type 0
Judged accepted alike s = (accepted × AfterJudge alike s) ⊎ ((accepted → ⊥) × (s ≡ status.No))

-- the text has a fault, or is that of reasons
pub record ReasonsAsked (p : Problem) (a : Awarded) (alike : Type 0) (roster : List (List ℕ)) (bytes : List ℕ) (s : Status) : Type 0 where
  pub reasons : List Denial
  pub read : IsReasonsText p bytes reasons
  pub then' : Judged (IsAwarded p roster reasons a) alike s

abbrev AfterRoster : Problem → Awarded → Type 0 → List ℕ → List (List ℕ) → Status → Type 0
AfterRoster p a alike bytes roster s = FaultyReasons p bytes s ⊎ ReasonsAsked p a alike roster bytes s

-- the text has a fault, or is that of a roster
pub record RosterAsked (p : Problem) (a : Awarded) (alike : Type 0) (claimed : Claimed) (s : Status) : Type 0 where
  pub roster : List (List ℕ)
  pub read : IsTextOf p claimed.roster roster
  pub then' : AfterRoster p a alike claimed.reasons roster s

abbrev AfterClaim : Problem → Awarded → Type 0 → Claimed → Status → Type 0
AfterClaim p a alike claimed s = FaultyRoster p claimed.roster s ⊎ RosterAsked p a alike claimed s

abbrev AfterCertificate : Files → Problem → Type 0 → Certificate → Status → Type 0
AfterCertificate files p alike (Award a) s = By (λ why u. u ≡ unread_status why) (AfterClaim p a alike) (claimed_in files) s
AfterCertificate files p alike (NoRoster proof) s = s ≡ status.No

abbrev AfterMember : Files → Problem → List (List Bid) → List ℕ → ℕ → Status → Type 0
AfterMember files p bids bytes member s =
    By (λ (fault : CertFault) u. u ≡ status.No) (AfterCertificate files p (AreAlike p bids member)) (certificate_in bytes) s

abbrev AfterBids : Files → List ℕ → Problem → List ℕ → List (List Bid) → Status → Type 0
AfterBids files name p bytes bids s = ByOption (λ u. u ≡ status.No) (AfterMember files p bids bytes) (member_named p name) s

abbrev AfterMonth : Files → List ℕ → Asked → Problem → Status → Type 0
AfterMonth files name asked p s =
    By (λ (fault : BidFault) u. u ≡ status.BadInput) (AfterBids files name p asked.certificate) (bids_in p.base asked.bids) s

-- the inputs have a fault, or name a problem
pub record FaultyAsked (asked : Asked) (s : Status) : Type 0 where
  pub fault : InputFault
  pub has : HasFault asked.inputs fault
  pub is : s ≡ status.BadInput

pub record NamedAsked (files : Files) (name : List ℕ) (asked : Asked) (s : Status) : Type 0 where
  pub problem : Problem
  pub names : Names asked.inputs problem
  pub then' : AfterMonth files name asked problem s

abbrev AfterAsked : Files → List ℕ → Asked → Status → Type 0
AfterAsked files name asked s = FaultyAsked asked s ⊎ NamedAsked files name asked s

abbrev pub WhatIfPath : Files → List ℕ → Status → Type 0
WhatIfPath files name s = By (λ why u. u ≡ unread_status why) (AfterAsked files name) (asked_in files) s

-- ---- there is one way

meet_judge : (alike : Type 0) → AllMeet (AfterJudge alike)
meet_judge alike s t (inl x) (inl y) = inr (x.1, y.1)
meet_judge alike s t (inl x) (inr y) = absurd (y.0 x.0)
meet_judge alike s t (inr x) (inl y) = absurd (x.0 y.0)
meet_judge alike s t (inr x) (inr y) = inl (x.1 ∙ sym y.1)

meet_judged : (accepted alike : Type 0) → AllMeet (Judged accepted alike)
meet_judged accepted alike s t (inl x) (inl y) = meet_judge alike s t x.1 y.1
meet_judged accepted alike s t (inl x) (inr y) = absurd (y.0 x.0)
meet_judged accepted alike s t (inr x) (inl y) = absurd (x.0 y.0)
meet_judged accepted alike s t (inr x) (inr y) = inl (x.1 ∙ sym y.1)

meet_roster : (p : Problem) (a : Awarded) (alike : Type 0) (bytes : List ℕ) (roster : List (List ℕ)) → AllMeet (AfterRoster p a alike bytes roster)
meet_roster p a alike bytes roster s t (inl x) (inl y) = inl (x.is ∙ sym y.is)
meet_roster p a alike bytes roster s t (inl x) (inr y) = absurd (never_faulty p bytes y.reasons x.fault y.read x.has)
meet_roster p a alike bytes roster s t (inr x) (inl y) = absurd (never_faulty p bytes x.reasons y.fault x.read y.has)
meet_roster p a alike bytes roster s t (inr x) (inr y) =
    meet_judged (IsAwarded p roster y.reasons a) alike s t
    (subst (λ (r : List Denial). Judged (IsAwarded p roster r a) alike s) (one_list p bytes x.reasons y.reasons x.read y.read) x.then') y.then'

meet_claim : (p : Problem) (a : Awarded) (alike : Type 0) (claimed : Claimed) → AllMeet (AfterClaim p a alike claimed)
meet_claim p a alike claimed s t (inl x) (inl y) = inl (x.is ∙ sym y.is)
meet_claim p a alike claimed s t (inl x) (inr y) = absurd (not_both p claimed.roster y.roster x.fault y.read x.has)
meet_claim p a alike claimed s t (inr x) (inl y) = absurd (not_both p claimed.roster x.roster y.fault x.read y.has)
meet_claim p a alike claimed s t (inr x) (inr y) =
    meet_roster p a alike claimed.reasons y.roster s t
    (subst (λ (r : List (List ℕ)). AfterRoster p a alike claimed.reasons r s) (one_roster p claimed.roster x.roster y.roster x.read y.read) x.then') y.then'

meet_certificate : (files : Files) (p : Problem) (alike : Type 0) (c : Certificate) → AllMeet (AfterCertificate files p alike c)
meet_certificate files p alike (Award a) =
    meet_by (λ why u. u ≡ unread_status why) (AfterClaim p a alike) (λ why. meet_is (unread_status why)) (meet_claim p a alike) (claimed_in files)
meet_certificate files p alike (NoRoster proof) = meet_is status.No

meet_member : (files : Files) (p : Problem) (bids : List (List Bid)) (bytes : List ℕ) (member : ℕ) → AllMeet (AfterMember files p bids bytes member)
meet_member files p bids bytes member =
    meet_by (λ (fault : CertFault) u. u ≡ status.No) (AfterCertificate files p (AreAlike p bids member)) (λ fault. meet_is status.No)
    (meet_certificate files p (AreAlike p bids member)) (certificate_in bytes)

meet_bids : (files : Files) (name : List ℕ) (p : Problem) (bytes : List ℕ) (bids : List (List Bid)) → AllMeet (AfterBids files name p bytes bids)
meet_bids files name p bytes bids =
    meet_option (λ u. u ≡ status.No) (AfterMember files p bids bytes) (meet_is status.No) (meet_member files p bids bytes) (member_named p name)

meet_month : (files : Files) (name : List ℕ) (asked : Asked) (p : Problem) → AllMeet (AfterMonth files name asked p)
meet_month files name asked p =
    meet_by (λ (fault : BidFault) u. u ≡ status.BadInput) (AfterBids files name p asked.certificate) (λ fault. meet_is status.BadInput)
    (meet_bids files name p asked.certificate) (bids_in p.base asked.bids)

meet_asked : (files : Files) (name : List ℕ) (asked : Asked) → AllMeet (AfterAsked files name asked)
meet_asked files name asked s t (inl x) (inl y) = inl (x.is ∙ sym y.is)
meet_asked files name asked s t (inl x) (inr y) = absurd (never_both asked.inputs y.problem x.fault y.names x.has)
meet_asked files name asked s t (inr x) (inl y) = absurd (never_both asked.inputs x.problem y.fault x.names y.has)
meet_asked files name asked s t (inr x) (inr y) =
    meet_month files name asked y.problem s t
    (subst (λ (p : Problem). AfterMonth files name asked p s) (one_problem asked.inputs x.problem y.problem x.names y.names) x.then') y.then'

pub one_whatif : (files : Files) (name : List ℕ) → AllMeet (WhatIfPath files name)
one_whatif files name =
    meet_by (λ why u. u ≡ unread_status why) (AfterAsked files name) (λ why. meet_is (unread_status why)) (meet_asked files name) (asked_in files)

-- ---- each answer has its way

module _ (files : Files) (name : List ℕ) (s : Status) where
  first_path : (asked : Asked) → asked_in files ≡ Ok asked → AfterAsked files name asked s → WhatIfPath files name s
  first_path asked read h = enter (λ why u. u ≡ unread_status why) (AfterAsked files name) (asked_in files) asked s read h

  month_path : (asked : Asked) (p : Problem) → asked_in files ≡ Ok asked → Names asked.inputs p → AfterMonth files name asked p s → WhatIfPath files name s
  month_path asked p read names h = first_path asked read (inr (record { problem = p; names = names; then' = h }))

  bids_path : (asked : Asked) (p : Problem) (bids : List (List Bid)) → asked_in files ≡ Ok asked → Names asked.inputs p → bids_in p.base asked.bids ≡ Ok bids
      → AfterBids files name p asked.certificate bids s → WhatIfPath files name s
  bids_path asked p bids read names given h =
      month_path asked p read names
      (enter (λ (fault : BidFault) u. u ≡ status.BadInput) (AfterBids files name p asked.certificate) (bids_in p.base asked.bids) bids s given h)

  member_path : (asked : Asked) (p : Problem) (bids : List (List Bid)) (member : ℕ) → asked_in files ≡ Ok asked → Names asked.inputs p → bids_in p.base asked.bids ≡ Ok bids
      → member_named p name ≡ Some member → AfterMember files p bids asked.certificate member s → WhatIfPath files name s
  member_path asked p bids member read names given named h =
      bids_path asked p bids read names given
      (subst (λ (o : Option ℕ). ByOption (λ u. u ≡ status.No) (AfterMember files p bids asked.certificate) o s) (sym named) h)

  award_path : (q : Question) → IsAskedIn files name q
      → By (λ why u. u ≡ unread_status why) (AfterClaim q.problem q.awarded (AreAlike q.problem q.other.bids q.member)) (claimed_in files) s → WhatIfPath files name s
  award_path q before h =
      member_path before.asked q.problem q.other.bids q.member before.read before.question.two.names before.question.two.bids before.question.named
      (enter (λ (fault : CertFault) u. u ≡ status.No) (AfterCertificate files q.problem (AreAlike q.problem q.other.bids q.member))
      (certificate_in before.asked.certificate) (Award q.awarded) s before.question.read h)

  claim_path : (q : Question) → IsAskedIn files name q → (claimed : Claimed) → claimed_in files ≡ Ok claimed
      → AfterClaim q.problem q.awarded (AreAlike q.problem q.other.bids q.member) claimed s → WhatIfPath files name s
  claim_path q before claimed there h =
      award_path q before
      (enter (λ why u. u ≡ unread_status why) (AfterClaim q.problem q.awarded (AreAlike q.problem q.other.bids q.member)) (claimed_in files) claimed s there h)

  reasons_path : (q : Question) → IsAskedIn files name q → (claimed : Claimed) → claimed_in files ≡ Ok claimed → (roster : List (List ℕ)) (reasons : List Denial)
      → IsTextOf q.problem claimed.roster roster → IsReasonsText q.problem claimed.reasons reasons
      → Judged (IsAwarded q.problem roster reasons q.awarded) (AreAlike q.problem q.other.bids q.member) s → WhatIfPath files name s
  reasons_path q before claimed there roster reasons read reasons_read h =
      claim_path q before claimed there (inr (record { roster = roster; read = read; then' = inr (record { reasons = reasons; read = reasons_read; then' = h }) }))

  standing_path : (q : Question) → IsAskedIn files name q → (claimed : Claimed) → claimed_in files ≡ Ok claimed → (roster : List (List ℕ)) → IsStanding q claimed roster
      → AfterJudge (AreAlike q.problem q.other.bids q.member) s → WhatIfPath files name s
  standing_path q before claimed there roster stands h =
      reasons_path q before claimed there roster stands.reasons stands.roster_read stands.reasons_read (inl (stands.accepted, h))

module _ (files : Files) (name : List ℕ) where
  pub asked_path : (s : Status) → IsLate s → (nodes : ℕ) → OfClaim files name (MayAsk nodes) → WhatIfPath files name s
  asked_path s late nodes h =
      standing_path files name s h.q h.before h.claimed h.there h.found.0 h.found.1.stands (inl (h.found.1.agree.bids, late))

  pub unasked_path : (why : Unasked) → HasUnasked files name why → WhatIfPath files name status.No
  unasked_path unasked.Member h =
      bids_path files name status.No h.asked h.found.problem h.found.other.bids h.read h.found.two.names h.found.two.bids
      (subst (λ (o : Option ℕ). ByOption (λ u. u ≡ status.No) (AfterMember files h.found.problem h.found.other.bids h.asked.certificate) o status.No) (sym h.found.nobody) refl)
  unasked_path (unasked.Certificate fault) h =
      let b = h.found.before in
      member_path files name status.No h.asked b.problem b.other.bids b.member h.read b.two.names b.two.bids b.named
      (leave (λ (f : CertFault) u. u ≡ status.No) (AfterCertificate files b.problem (AreAlike b.problem b.other.bids b.member))
      (certificate_in h.asked.certificate) fault status.No h.found.unread refl)
  unasked_path unasked.NoAward h =
      let b = h.found.before in
      member_path files name status.No h.asked b.problem b.other.bids b.member h.read b.two.names b.two.bids b.named
      (enter (λ (f : CertFault) u. u ≡ status.No) (AfterCertificate files b.problem (AreAlike b.problem b.other.bids b.member))
      (certificate_in h.asked.certificate) (NoRoster h.found.proof) status.No h.found.read refl)
  unasked_path (unasked.Roster fault) h =
      claim_path files name status.No h.q h.before h.claimed h.there (inl (record { fault = fault; has = h.found; is = refl }))
  unasked_path (unasked.Reasons fault) h =
      claim_path files name status.No h.q h.before h.claimed h.there
      (inr (record { roster = h.found.roster; read = h.found.read; then' = inl (record { fault = fault; has = h.found.unread; is = refl }) }))
  unasked_path (unasked.Judged why) h =
      reasons_path files name status.No h.q h.before h.claimed h.there h.found.roster h.found.reasons h.found.roster_read h.found.reasons_read
      (inr (h.found.not_accepted, refl))
  unasked_path (unasked.Bids other) h =
      standing_path files name status.No h.q h.before h.claimed h.there h.found.roster h.found.stands
      (inr (λ alike. h.found.bids.otherwise (alike h.found.other h.found.bids.apart), refl))

  pub bad_asked_path : (fault : InputFault) → HasBadAsked files fault → WhatIfPath files name status.BadInput
  bad_asked_path fault (inl h) = first_path files name status.BadInput h.asked h.read (inl (record { fault = fault; has = h.found; is = refl }))
  bad_asked_path fault (inr h) =
      let x = h.2 in
      month_path files name status.BadInput x.asked x.found.problem x.read x.found.names
      (leave (λ (f : BidFault) u. u ≡ status.BadInput) (AfterBids files name x.found.problem x.asked.certificate) (bids_in x.found.problem.base x.asked.bids) h.0
      status.BadInput x.found.bad refl)

  pub unread_asked_path : (why : Unread) → EndsReading files name why → WhatIfPath files name (unread_status why)
  unread_asked_path why (inl h) = leave (λ w u. u ≡ unread_status w) (AfterAsked files name) (asked_in files) why (unread_status why) h refl
  unread_asked_path why (inr h) =
      award_path files name (unread_status why) h.q h.before
      (leave (λ w u. u ≡ unread_status w) (AfterClaim h.q.problem h.q.awarded (AreAlike h.q.problem h.q.other.bids h.q.member)) (claimed_in files) why
      (unread_status why) h.ends refl)
