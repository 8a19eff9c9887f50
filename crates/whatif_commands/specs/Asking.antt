-- What `whatif` finds in the files of a folder: the award once more, with other bids of one member.
use Rattle.std.specs.Prelude.{◌≡◌, ◌≢◌, ◌<◌, ◌≤◌, [], ◌∷◌, ℕ, List, length, map, take, Some, None, Result, Ok, Err, ◌⊎◌}
use Rattle.shelf.specs.Files.{Files}
use Rattle.shelf.specs.Logs.{Entries}
use Rattle.bid_language.specs.Lines.{bids_in}
use Rattle.branch_log.specs.Book.{Book}
use Rattle.bid_language.specs.declared.fault.BidFault.{BidFault}
use Rattle.cert_checker.specs.Awards.{IsFirstNo}
use Rattle.cert_checker.specs.declared.refusal.No.{No}
use Rattle.cert_checker.specs.declared.refusal.No.TheVariants.{NoMemory as NoRoom}
use Rattle.cert_text.specs.Reading.{certificate_in}
use Rattle.cert_text.specs.declared.fault.CertFault.{CertFault}
use Rattle.completion_search.specs.Found.{IsFull}
use Rattle.month_award.specs.Months.{IsLedgerOf}
use Rattle.month_files.specs.FileNames.{limit_of}
use Rattle.month_files.specs.Handing.{FromReads}
use Rattle.month_files.specs.Months.{Names, HasFault}
use Rattle.month_files.specs.Reading.{◌>>=◌, Inputs, text_in, texts_in}
use Rattle.month_files.specs.Writes.{IsStop}
use Rattle.month_files.specs.declared.fault.BadInput.{BadInput}
use Rattle.month_files.specs.declared.fault.BadInput.TheVariants as bad
use Rattle.month_files.specs.declared.file.File.{File}
use Rattle.month_files.specs.declared.file.File.TheVariants.{Rules, Pairings, Duties, Legs, Crew, History, Fixed, Bids, Certificate as CertificateFile, Roster, Reasons, OtherBids, OtherRoster}
use Rattle.month_files.specs.declared.unread.Unread.{Unread}
use Rattle.month_files.specs.declared.unread.Unread.TheVariants as unread
use Rattle.month_files.specs.declared.writing.Draft.{Draft}
use Rattle.month_files.specs.declared.writing.Unwritten.{Unwritten}
use Rattle.roster_model.specs.Awards.{IsBest, IsGreatest}
use Rattle.roster_model.specs.Denials.{IsAwarded}
use Rattle.roster_model.specs.Rosters.{scores_of}
use Rattle.roster_model.specs.Scores.{bids_of}
use Rattle.roster_model.specs.declared.award.Certificate.TheVariants.{Award, NoRoster}
use Rattle.roster_model.specs.declared.award.Denial.{Denial}
use Rattle.roster_model.specs.declared.problem.Problem.{Problem}
use Rattle.roster_model.specs.declared.proof.Item.{Item}
use Rattle.roster_text.specs.ReasonFaults.{HasReasonFault}
use Rattle.roster_text.specs.ReasonText.{IsReasonsText}
use Rattle.roster_text.specs.ReasonWords.{member_named}
use Rattle.roster_text.specs.RosterFaults.{HasFault as HasRosterFault}
use Rattle.roster_text.specs.RosterText.{roster_text, member_name, IsRoster, IsTextOf}
use Rattle.roster_text.specs.declared.reason_fault.ReasonTextFault.{ReasonTextFault}
use Rattle.what_if.specs.Again.{AreBehind}
use Rattle.what_if.specs.Reused.{AgreeBut, reused}
use Rattle.whatif_commands.specs.declared.question.Question.{Question}
use Rattle.whatif_commands.specs.declared.asking_stop.Unasked.{Unasked}
use Rattle.whatif_commands.specs.declared.asking_stop.Unasked.TheVariants as unasked
use Rattle.whatif_commands.specs.declared.asking_stop.WhatIf.{WhatIf}
use Rattle.whatif_commands.specs.declared.asking_stop.WhatIfStop.{WhatIfStop}
use Rattle.whatif_commands.specs.declared.asking_stop.WhatIfStop.TheVariants as stop

-- the inputs, the certificate and the other bids, which are read first
pub record Asked : Type 0 where
  pub inputs : Inputs
  pub certificate : List ℕ
  pub bids : List ℕ

unfoldable pub asked_in : Files → Result Asked Unread
asked_in files = do
  inputs ← texts_in files
  certificate ← text_in files CertificateFile
  bids ← text_in files OtherBids
  Ok (record { inputs = inputs; certificate = certificate; bids = bids })

-- the roster and the reasons of an award, which are read behind its certificate
pub record Claimed : Type 0 where
  pub roster : List ℕ
  pub reasons : List ℕ

unfoldable pub claimed_in : Files → Result Claimed Unread
claimed_in files = do
  roster ← text_in files Roster
  reasons ← text_in files Reasons
  Ok (record { roster = roster; reasons = reasons })

-- ---- what the texts that are read first ask

-- the inputs name the one problem, and the other bids make the other one of its base
pub record NamesTwo (asked : Asked) (problem other : Problem) : Type 0 where
  pub names : Names asked.inputs problem
  pub base : other.base ≡ problem.base
  pub bids : bids_in problem.base asked.bids ≡ Ok other.bids

-- they do, a member has the name, and the certificate's text is that of an award
pub record IsQuestion (name : List ℕ) (asked : Asked) (q : Question) : Type 0 where
  pub two : NamesTwo asked q.problem q.other
  pub named : member_named q.problem name ≡ Some q.member
  pub read : certificate_in asked.certificate ≡ Ok (Award q.awarded)

-- the inputs name a problem, and the other bids have this first fault
pub record HasOtherFault (fault : BidFault) (asked : Asked) : Type 0 where
  pub problem : Problem
  pub names : Names asked.inputs problem
  pub bad : bids_in problem.base asked.bids ≡ Err fault

-- no member has the name
pub record NamesNobody (name : List ℕ) (asked : Asked) : Type 0 where
  pub problem : Problem
  pub other : Problem
  pub two : NamesTwo asked problem other
  pub nobody : member_named problem name ≡ None

-- a member has the name
pub record NamesMember (name : List ℕ) (asked : Asked) : Type 0 where
  pub problem : Problem
  pub other : Problem
  pub two : NamesTwo asked problem other
  pub member : ℕ
  pub named : member_named problem name ≡ Some member

-- one has, and the certificate is no certificate's text, from this line on
pub record HasNoCertificate (name : List ℕ) (fault : CertFault) (asked : Asked) : Type 0 where
  pub before : NamesMember name asked
  pub unread : certificate_in asked.certificate ≡ Err fault

-- one has, and the certificate's text is that of no roster
pub record HasNoAward (name : List ℕ) (asked : Asked) : Type 0 where
  pub before : NamesMember name asked
  pub proof : List Item
  pub read : certificate_in asked.certificate ≡ Ok (NoRoster proof)

abbrev pub IsBadInput : BadInput → Asked → Type 0
IsBadInput (bad.Fault fault) asked = HasFault asked.inputs fault
IsBadInput bad.NoMemory asked = Unit {0}

-- the first of the reasons why these texts ask nothing
abbrev pub IsNotAsked : List ℕ → Asked → Unasked → Type 0
IsNotAsked name asked unasked.Member = NamesNobody name asked
IsNotAsked name asked (unasked.Certificate fault) = HasNoCertificate name fault asked
IsNotAsked name asked unasked.NoAward = HasNoAward name asked
IsNotAsked name asked (unasked.Roster fault) = ⊥
IsNotAsked name asked (unasked.Reasons fault) = ⊥
IsNotAsked name asked (unasked.Judged why) = ⊥
IsNotAsked name asked (unasked.Bids other) = ⊥

abbrev pub IsUnasked : List ℕ → Asked → WhatIfStop → Type 0
IsUnasked name asked (stop.Unread why) = ⊥
IsUnasked name asked (stop.BadInput why) = IsBadInput why asked
IsUnasked name asked (stop.BadBids fault) = HasOtherFault fault asked
IsUnasked name asked (stop.No why) = IsNotAsked name asked why
IsUnasked name asked (stop.Budget ledger) = ⊥
IsUnasked name asked (stop.Unwritten w u) = ⊥
IsUnasked name asked stop.NoMemory = Unit {0}

-- ---- what comes of the question, over the roster and the reasons

-- they are the texts of reasons and of this roster, and the judge accepts the award
pub record IsStanding (q : Question) (claimed : Claimed) (roster : List (List ℕ)) : Type 0 where
  pub reasons : List Denial
  pub roster_read : IsTextOf q.problem claimed.roster roster
  pub reasons_read : IsReasonsText q.problem claimed.reasons reasons
  pub accepted : IsAwarded q.problem roster reasons q.awarded

-- the roster's text is that of a roster, and the other is no text of reasons of this month, from this line on
pub record HasNoReasons (fault : ReasonTextFault) (q : Question) (claimed : Claimed) : Type 0 where
  pub roster : List (List ℕ)
  pub read : IsTextOf q.problem claimed.roster roster
  pub unread : HasReasonFault q.problem claimed.reasons fault

-- both are such texts, and this is the judge's first failing test
pub record IsRefused (why : No) (q : Question) (claimed : Claimed) : Type 0 where
  pub roster : List (List ℕ)
  pub reasons : List Denial
  pub roster_read : IsTextOf q.problem claimed.roster roster
  pub reasons_read : IsReasonsText q.problem claimed.reasons reasons
  pub known : why ≢ NoRoom
  pub first : IsFirstNo q.problem roster reasons q.awarded why
  pub not_accepted : IsAwarded q.problem roster reasons q.awarded → ⊥

-- the first member who bids otherwise and is not the one who is asked about
pub record IsFirstOther (q : Question) (other : ℕ) : Type 0 where
  pub within : other < length q.problem.base.members
  pub apart : other ≢ q.member
  pub otherwise : bids_of q.problem other ≢ bids_of q.other other
  pub first : (m : ℕ) → m < other → m ≢ q.member → bids_of q.problem m ≡ bids_of q.other m

-- the award stands, and the first such member has this name
pub record BidsOtherwise (name : List ℕ) (q : Question) (claimed : Claimed) : Type 0 where
  pub roster : List (List ℕ)
  pub stands : IsStanding q claimed roster
  pub other : ℕ
  pub bids : IsFirstOther q other
  pub named : name ≡ member_name q.problem other

-- the first of the reasons why the question has no answer
abbrev pub IsUnanswered : Question → Claimed → Unasked → Type 0
IsUnanswered q claimed unasked.Member = ⊥
IsUnanswered q claimed (unasked.Certificate fault) = ⊥
IsUnanswered q claimed unasked.NoAward = ⊥
IsUnanswered q claimed (unasked.Roster fault) = HasRosterFault q.problem claimed.roster fault
IsUnanswered q claimed (unasked.Reasons fault) = HasNoReasons fault q claimed
IsUnanswered q claimed (unasked.Judged why) = IsRefused why q claimed
IsUnanswered q claimed (unasked.Bids name) = BidsOtherwise name q claimed

abbrev pub IsUnclaimed : Question → Claimed → WhatIfStop → Type 0
IsUnclaimed q claimed (stop.Unread why) = ⊥
IsUnclaimed q claimed (stop.BadInput why) = ⊥
IsUnclaimed q claimed (stop.BadBids fault) = ⊥
IsUnclaimed q claimed (stop.No why) = IsUnanswered q claimed why
IsUnclaimed q claimed (stop.Budget ledger) = ⊥
IsUnclaimed q claimed (stop.Unwritten w u) = ⊥
IsUnclaimed q claimed stop.NoMemory = Unit {0}

-- ---- the award with the other bids

-- a roster in the file of the other roster
abbrev pub again_draft : Problem → List (List ℕ) → Draft
again_draft problem roster = record { file = OtherRoster; bytes = roster_text problem roster }

-- the text of a roster is read as this roster, and within the limit of its file
pub record IsReadableRoster (problem : Problem) (roster : List (List ℕ)) : Type 0 where
  pub form : IsRoster problem roster
  pub fits : length (roster_text problem roster) ≤ limit_of OtherRoster

-- a ledger of the problem, of which each search has a floor for this member
pub record IsLaterLedger (problem : Problem) (member nodes : ℕ) (ledger : Book) : Type 0 where
  pub is : IsLedgerOf problem nodes ledger
  pub behind : AreBehind member ledger.goals

-- The greatest roster with the other bids, and a proof for each place: before the member's place those of the award, as
-- they serve both, and the scores of the award's roster.
pub record FindsAgain (q : Question) (kept : List (List ℕ)) (nodes : ℕ) (w : WhatIf) : Type 0 where
  pub roster : List (List ℕ)
  pub proofs : List (List Item)
  pub best : IsBest q.other roster proofs
  pub greatest : IsGreatest q.other roster
  pub reuses : take q.member proofs ≡ map (reused q.member) (take q.member q.awarded.proofs)
  pub same : take q.member (scores_of q.other roster) ≡ take q.member (scores_of q.problem kept)
  pub scores_are : w.scores ≡ scores_of q.other roster
  pub drafts_are : w.drafts ≡ again_draft q.other roster ∷ []
  pub readable : IsReadableRoster q.other roster
  pub ledger : IsLaterLedger q.other q.member nodes w.ledger
  pub room : length w.ledger.entries < nodes

-- such a ledger is full
pub record SpendsLater (q : Question) (nodes : ℕ) (ledger : Book) : Type 0 where
  pub is : IsLaterLedger q.other q.member nodes ledger
  pub full : IsFull ledger

abbrev pub IsMiss : Question → ℕ → WhatIfStop → Type 0
IsMiss q nodes (stop.Unread why) = ⊥
IsMiss q nodes (stop.BadInput why) = ⊥
IsMiss q nodes (stop.BadBids fault) = ⊥
IsMiss q nodes (stop.No why) = ⊥
IsMiss q nodes (stop.Budget ledger) = SpendsLater q nodes ledger
IsMiss q nodes (stop.Unwritten w u) = ⊥
IsMiss q nodes stop.NoMemory = Unit {0}

-- the award stands, all other members bid as they did
pub record MayAnswer (q : Question) (claimed : Claimed) (roster : List (List ℕ)) : Type 0 where
  pub stands : IsStanding q claimed roster
  pub agree : AgreeBut q.problem q.other q.member

-- and this is found, or the ledger is full
pub record IsAnswered (nodes : ℕ) (w : WhatIf) (q : Question) (claimed : Claimed) : Type 0 where
  pub kept : List (List ℕ)
  pub before : MayAnswer q claimed kept
  pub again : FindsAgain q kept nodes w

pub record IsSpent (nodes : ℕ) (ledger : Book) (q : Question) (claimed : Claimed) : Type 0 where
  pub kept : List (List ℕ)
  pub before : MayAnswer q claimed kept
  pub spends : SpendsLater q nodes ledger

-- what is answered once all texts are read, but for the writing
abbrev pub IsClaimEnd : Question → Claimed → ℕ → Result WhatIf WhatIfStop → Type 0
IsClaimEnd q claimed nodes (Ok w) = IsAnswered nodes w q claimed
IsClaimEnd q claimed nodes (Err (stop.Unread why)) = ⊥
IsClaimEnd q claimed nodes (Err (stop.BadInput why)) = ⊥
IsClaimEnd q claimed nodes (Err (stop.BadBids fault)) = ⊥
IsClaimEnd q claimed nodes (Err (stop.No why)) = IsUnanswered q claimed why
IsClaimEnd q claimed nodes (Err (stop.Budget ledger)) = IsSpent nodes ledger q claimed
IsClaimEnd q claimed nodes (Err (stop.Unwritten w u)) = ⊥
IsClaimEnd q claimed nodes (Err stop.NoMemory) = Unit {0}

-- ---- over files

-- the texts that are read first are there, and of them P holds
pub record OfAsked (files : Files) (P : Asked → Type 0) : Type 0 where
  pub asked : Asked
  pub read : asked_in files ≡ Ok asked
  pub found : P asked

-- they ask this
pub record IsAskedIn (files : Files) (name : List ℕ) (q : Question) : Type 0 where
  pub asked : Asked
  pub read : asked_in files ≡ Ok asked
  pub question : IsQuestion name asked q

-- they ask something, the roster and the reasons are there too, and of these P holds
pub record OfClaim (files : Files) (name : List ℕ) (P : Question → Claimed → Type 0) : Type 0 where
  pub q : Question
  pub before : IsAskedIn files name q
  pub claimed : Claimed
  pub there : claimed_in files ≡ Ok claimed
  pub found : P q claimed

-- they ask something, and the roster's file, else that of the reasons, can't be read, by this end
pub record EndsAtClaim (files : Files) (name : List ℕ) (why : Unread) : Type 0 where
  pub q : Question
  pub before : IsAskedIn files name q
  pub ends : claimed_in files ≡ Err why

-- a file is missing or too long: among those read first, or behind the certificate of an award
abbrev pub EndsReading : Files → List ℕ → Unread → Type 0
EndsReading files name why = (asked_in files ≡ Err why) ⊎ EndsAtClaim files name why

-- a failed read and want of memory are no matter of what files hold
abbrev pub IsUnread : Files → List ℕ → Unread → Type 0
IsUnread files name (unread.Missing f) = EndsReading files name (unread.Missing f)
IsUnread files name (unread.ReadFault f) = Unit {0}
IsUnread files name (unread.TooLong f) = EndsReading files name (unread.TooLong f)
IsUnread files name unread.NoMemory = Unit {0}

abbrev pub IsBadAsked : Files → BadInput → Type 0
IsBadAsked files (bad.Fault fault) = OfAsked files (λ asked. HasFault asked.inputs fault)
IsBadAsked files bad.NoMemory = Unit {0}

-- the first of the reasons why nothing is answered
abbrev pub HasUnasked : Files → List ℕ → Unasked → Type 0
HasUnasked files name unasked.Member = OfAsked files (NamesNobody name)
HasUnasked files name (unasked.Certificate fault) = OfAsked files (HasNoCertificate name fault)
HasUnasked files name unasked.NoAward = OfAsked files (HasNoAward name)
HasUnasked files name (unasked.Roster fault) = OfClaim files name (λ q claimed. HasRosterFault q.problem claimed.roster fault)
HasUnasked files name (unasked.Reasons fault) = OfClaim files name (HasNoReasons fault)
HasUnasked files name (unasked.Judged why) = OfClaim files name (IsRefused why)
HasUnasked files name (unasked.Bids other) = OfClaim files name (BidsOtherwise other)

abbrev pub HasWhatIf : Files → List ℕ → ℕ → WhatIf → Type 0
HasWhatIf files name nodes w = OfClaim files name (IsAnswered nodes w)

-- this was found, and the file was not written
pub record HasUnwritten (files : Files) (name : List ℕ) (nodes : ℕ) (w : WhatIf) (u : Unwritten) : Type 0 where
  pub found : HasWhatIf files name nodes w
  pub stopped : IsStop w.drafts u

abbrev pub IsRun : Files → List ℕ → ℕ → Result WhatIf WhatIfStop → Type 0
IsRun files name nodes (Ok w) = HasWhatIf files name nodes w
IsRun files name nodes (Err (stop.Unread why)) = IsUnread files name why
IsRun files name nodes (Err (stop.BadInput why)) = IsBadAsked files why
IsRun files name nodes (Err (stop.BadBids fault)) = OfAsked files (HasOtherFault fault)
IsRun files name nodes (Err (stop.No why)) = HasUnasked files name why
IsRun files name nodes (Err (stop.Budget ledger)) = OfClaim files name (IsSpent nodes ledger)
IsRun files name nodes (Err (stop.Unwritten w u)) = HasUnwritten files name nodes w u
IsRun files name nodes (Err stop.NoMemory) = Unit {0}

-- ---- of the texts that reads handed in, be files told or not

-- the files in the order in which `whatif` reads them
abbrev pub asking_order : List File
asking_order =
    Rules ∷ Pairings ∷ Duties ∷ Legs ∷ Crew ∷ History ∷ Fixed ∷ Bids ∷ CertificateFile ∷ OtherBids ∷ Roster ∷ Reasons ∷ []

-- where not all due files were read, or memory was wanting, nothing is said
abbrev pub IsRunHanded : Entries → Entries → List ℕ → ℕ → Result WhatIf WhatIfStop → Type 0
IsRunHanded old new name nodes (Ok w) = FromReads asking_order old new (λ files. HasWhatIf files name nodes w)
IsRunHanded old new name nodes (Err (stop.Unread why)) = Unit {0}
IsRunHanded old new name nodes (Err (stop.BadInput why)) = FromReads asking_order old new (λ files. IsBadAsked files why)
IsRunHanded old new name nodes (Err (stop.BadBids fault)) =
    FromReads asking_order old new (λ files. OfAsked files (HasOtherFault fault))
IsRunHanded old new name nodes (Err (stop.No why)) = FromReads asking_order old new (λ files. HasUnasked files name why)
IsRunHanded old new name nodes (Err (stop.Budget ledger)) =
    FromReads asking_order old new (λ files. OfClaim files name (IsSpent nodes ledger))
IsRunHanded old new name nodes (Err (stop.Unwritten w u)) =
    FromReads asking_order old new (λ files. HasUnwritten files name nodes w u)
IsRunHanded old new name nodes (Err stop.NoMemory) = Unit {0}
