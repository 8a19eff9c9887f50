-- What `opencheck` finds in the files of a folder: from what it reads to what it answers.
use Rattle.std.specs.Prelude.{◌≡◌, ◌≢◌, ℕ, zero, suc, List, [], ◌∷◌, Option, Some, None, Result, Ok, Err, ◌⊎◌}
use Rattle.shelf.specs.Files.{Files}
use Rattle.shelf.specs.Logs.{Entries}
use Rattle.roster_model.specs.declared.award.Awarded.{Awarded}
use Rattle.roster_model.specs.declared.award.Certificate.TheVariants.{Award, NoRoster}
use Rattle.roster_model.specs.declared.award.Denial.{Denial}
use Rattle.roster_model.specs.declared.problem.Problem.{Problem}
use Rattle.roster_model.specs.declared.proof.Item.{Item}
use Rattle.roster_model.specs.Awards.{IsGreatest}
use Rattle.roster_model.specs.Rosters.{scores_of}
use Rattle.cert_text.specs.Reading.{certificate_in}
use Rattle.month_files.specs.declared.fault.BadInput.{BadInput}
use Rattle.month_files.specs.declared.fault.BadInput.TheVariants as bad
use Rattle.month_files.specs.declared.fault.InputFault.{InputFault}
use Rattle.month_files.specs.declared.file.File.{File}
use Rattle.month_files.specs.declared.file.File.TheVariants.{Rules, Pairings, Duties, Legs, Crew, History, Fixed, Bids, OpenNone, OpenCertificate, OpenReasons, OpenRoster}
use Rattle.month_files.specs.declared.unread.Unread.{Unread}
use Rattle.month_files.specs.Handing.{FromReads}
use Rattle.month_files.specs.Months.{Names, HasFault}
use Rattle.month_files.specs.Reading.{◌>>=◌, Inputs, UnreadIs, text_in, texts_in}
use Rattle.open_time.specs.declared.fault.OpenFault.{OpenFault}
use Rattle.open_time.specs.declared.fault.OpenFault.TheVariants as fault
use Rattle.open_time.specs.declared.refusal.OpenNo.{OpenNo}
use Rattle.open_time.specs.Judged.{IsFirstOpenNo, NamesOpenFault}
use Rattle.open_time.specs.Refuted.{IsOpenAward}
use Rattle.open_time.specs.Vacant.{HasRoomFor, IsWithVacant, IsOpenFault, IsUnfilledUnder, NeedsVacant}
use Rattle.roster_text.specs.declared.fault.RosterTextFault.{RosterTextFault}
use Rattle.roster_text.specs.declared.reason_fault.ReasonTextFault.{ReasonTextFault}
use Rattle.roster_text.specs.ReasonFaults.{HasReasonFault}
use Rattle.roster_text.specs.ReasonText.{IsReasonsText}
use Rattle.roster_text.specs.RosterFaults.{HasFault as HasRosterFault}
use Rattle.roster_text.specs.RosterText.{IsTextOf}
use Rattle.open_commands.specs.declared.open_check_stop.OpenCheckStop.{OpenCheckStop}
use Rattle.open_commands.specs.declared.open_check_stop.OpenCheckStop.TheVariants as stop
use Rattle.open_commands.specs.declared.open_check_stop.Unopened.{Unopened}
use Rattle.open_commands.specs.declared.open_check_stop.Unopened.TheVariants as unopened

-- ---- what is read

-- the proof that one vacant line less is not enough, which is read for a number above 0
abbrev pub none_in : Files → ℕ → Result (Option (List ℕ)) Unread
none_in files zero = Ok None
none_in files (suc less) = text_in files OpenNone >>= (λ text. Ok (Some text))

-- the texts, in the order in which they are read
pub record Lodged : Type 0 where
  pub inputs : Inputs
  pub below : Option (List ℕ)
  pub certificate : List ℕ
  pub reasons : List ℕ
  pub roster : List ℕ

unfoldable pub lodged_in : Files → ℕ → Result Lodged Unread
lodged_in files count = do
  inputs ← texts_in files
  below ← none_in files count
  certificate ← text_in files OpenCertificate
  reasons ← text_in files OpenReasons
  roster ← text_in files OpenRoster
  Ok (record { inputs = inputs; below = below; certificate = certificate; reasons = reasons; roster = roster })

-- ---- what the texts say of a problem

-- the text, where there is one, is that of a certificate without a roster, with this proof
abbrev pub IsNoneText : Option (List ℕ) → Option (List Item) → Type 0
IsNoneText None below = below ≡ None
IsNoneText (Some text) below = (proof : List Item) × (below ≡ Some proof) × (certificate_in text ≡ Ok (NoRoster proof))

-- the month with so many vacant lines, and what its certificates say
pub record SaysProofs (problem : Problem) (count : ℕ) (lodged : Lodged) (made : Problem) (below : Option (List Item)) (awarded : Awarded) : Type 0 where
  pub of : IsWithVacant problem count made
  pub none_read : IsNoneText lodged.below below
  pub award_read : certificate_in lodged.certificate ≡ Ok (Award awarded)

-- all that the texts say
pub record SaysAll (problem : Problem) (count : ℕ) (lodged : Lodged) (made : Problem) (below : Option (List Item)) (awarded : Awarded) (reasons : List Denial) (roster : List (List ℕ)) : Type 0 where
  pub proofs : SaysProofs problem count lodged made below awarded
  pub reasons_read : IsReasonsText made lodged.reasons reasons
  pub roster_read : IsTextOf made lodged.roster roster

-- the award is accepted; so many vacant lines are then the fewest, no complete roster with as many has a greater vector,
-- and these are its scores
pub record IsShown (problem : Problem) (count : ℕ) (lodged : Lodged) (scores : List ℕ) : Type 0 where
  pub made : Problem
  pub below : Option (List Item)
  pub awarded : Awarded
  pub reasons : List Denial
  pub roster : List (List ℕ)
  pub says : SaysAll problem count lodged made below awarded reasons roster
  pub accepted : IsOpenAward problem count below roster reasons awarded
  pub needs : NeedsVacant problem count
  pub fewest : IsUnfilledUnder problem count
  pub greatest : IsGreatest made roster
  pub scores_are : scores ≡ scores_of made roster

-- the vacant lines cannot be added, for this reason
abbrev pub IsClosed : Problem → ℕ → OpenFault → Type 0
IsClosed problem count why = (why ≢ fault.NoMemory) × IsOpenFault problem count why

abbrev pub IsClosedEnd : Problem → ℕ → OpenCheckStop → Type 0
IsClosedEnd problem count (stop.Unread why) = ⊥
IsClosedEnd problem count (stop.BadInput why) = ⊥
IsClosedEnd problem count (stop.No (unopened.Open why)) = IsClosed problem count why
IsClosedEnd problem count (stop.No (unopened.Certificate why)) = ⊥
IsClosedEnd problem count (stop.No unopened.Form) = ⊥
IsClosedEnd problem count (stop.No (unopened.Reasons why)) = ⊥
IsClosedEnd problem count (stop.No (unopened.Roster why)) = ⊥
IsClosedEnd problem count (stop.No (unopened.Judged why)) = ⊥
IsClosedEnd problem count stop.NoMemory = Unit {0}

-- the text of a certificate has this fault, or the other form
abbrev pub IsNoneEnd : List ℕ → OpenCheckStop → Type 0
IsNoneEnd text (stop.Unread why) = ⊥
IsNoneEnd text (stop.BadInput why) = ⊥
IsNoneEnd text (stop.No (unopened.Open why)) = ⊥
IsNoneEnd text (stop.No (unopened.Certificate why)) = certificate_in text ≡ Err why
IsNoneEnd text (stop.No unopened.Form) = (awarded : Awarded) × (certificate_in text ≡ Ok (Award awarded))
IsNoneEnd text (stop.No (unopened.Reasons why)) = ⊥
IsNoneEnd text (stop.No (unopened.Roster why)) = ⊥
IsNoneEnd text (stop.No (unopened.Judged why)) = ⊥
IsNoneEnd text stop.NoMemory = Unit {0}

abbrev pub IsAwardEnd : List ℕ → OpenCheckStop → Type 0
IsAwardEnd text (stop.Unread why) = ⊥
IsAwardEnd text (stop.BadInput why) = ⊥
IsAwardEnd text (stop.No (unopened.Open why)) = ⊥
IsAwardEnd text (stop.No (unopened.Certificate why)) = certificate_in text ≡ Err why
IsAwardEnd text (stop.No unopened.Form) = (proof : List Item) × (certificate_in text ≡ Ok (NoRoster proof))
IsAwardEnd text (stop.No (unopened.Reasons why)) = ⊥
IsAwardEnd text (stop.No (unopened.Roster why)) = ⊥
IsAwardEnd text (stop.No (unopened.Judged why)) = ⊥
IsAwardEnd text stop.NoMemory = Unit {0}

-- the first of the certificates is due and refused so
pub record IsNoneUnread (lodged : Option (List ℕ)) (why : OpenCheckStop) : Type 0 where
  pub text : List ℕ
  pub there : lodged ≡ Some text
  pub refused : IsNoneEnd text why

-- it reads, and the second is refused so
pub record IsAwardRefused (lodged : Lodged) (why : OpenCheckStop) : Type 0 where
  pub below : Option (List Item)
  pub before : IsNoneText lodged.below below
  pub refused : IsAwardEnd lodged.certificate why

-- the vacant lines can be added, and one of the certificates is refused so
pub record AreRefused (problem : Problem) (count : ℕ) (lodged : Lodged) (why : OpenCheckStop) : Type 0 where
  pub room : HasRoomFor problem count
  pub either : IsNoneUnread lodged.below why ⊎ IsAwardRefused lodged why

-- the certificates read, and the reasons have this fault; or the reasons read as well, and the roster has it
pub record HasReasonsFault (problem : Problem) (count : ℕ) (lodged : Lodged) (why : ReasonTextFault) : Type 0 where
  pub made : Problem
  pub below : Option (List Item)
  pub awarded : Awarded
  pub before : SaysProofs problem count lodged made below awarded
  pub bad : HasReasonFault made lodged.reasons why

pub record HasLinesFault (problem : Problem) (count : ℕ) (lodged : Lodged) (why : RosterTextFault) : Type 0 where
  pub made : Problem
  pub below : Option (List Item)
  pub awarded : Awarded
  pub before : SaysProofs problem count lodged made below awarded
  pub reasons : List Denial
  pub reasons_read : IsReasonsText made lodged.reasons reasons
  pub bad : HasRosterFault made lodged.roster why

-- all texts read, and this is the judge's first failing test of the award, which is not accepted
pub record IsNotShown (problem : Problem) (count : ℕ) (lodged : Lodged) (why : OpenNo) : Type 0 where
  pub made : Problem
  pub below : Option (List Item)
  pub awarded : Awarded
  pub reasons : List Denial
  pub roster : List (List ℕ)
  pub says : SaysAll problem count lodged made below awarded reasons roster
  pub known : NamesOpenFault why
  pub first : IsFirstOpenNo problem count below roster reasons awarded why
  pub not_accepted : IsOpenAward problem count below roster reasons awarded → ⊥

-- the first reason for a no
abbrev pub IsUnopened : Problem → ℕ → Lodged → Unopened → Type 0
IsUnopened problem count lodged (unopened.Open why) = IsClosed problem count why
IsUnopened problem count lodged (unopened.Certificate why) =
    AreRefused problem count lodged (stop.No (unopened.Certificate why))
IsUnopened problem count lodged unopened.Form = AreRefused problem count lodged (stop.No unopened.Form)
IsUnopened problem count lodged (unopened.Reasons why) = HasReasonsFault problem count lodged why
IsUnopened problem count lodged (unopened.Roster why) = HasLinesFault problem count lodged why
IsUnopened problem count lodged (unopened.Judged why) = IsNotShown problem count lodged why

-- what is answered once the texts are read and the inputs name a problem
abbrev pub IsOpenCheckEnd : Problem → ℕ → Lodged → Result (List ℕ) OpenCheckStop → Type 0
IsOpenCheckEnd problem count lodged (Ok scores) = IsShown problem count lodged scores
IsOpenCheckEnd problem count lodged (Err (stop.Unread why)) = ⊥
IsOpenCheckEnd problem count lodged (Err (stop.BadInput why)) = ⊥
IsOpenCheckEnd problem count lodged (Err (stop.No why)) = IsUnopened problem count lodged why
IsOpenCheckEnd problem count lodged (Err stop.NoMemory) = Unit {0}

-- ---- over files

-- the inputs name a problem, and of it and the texts P holds
pub record OfLodged (files : Files) (count : ℕ) (P : Problem → Lodged → Type 0) : Type 0 where
  pub lodged : Lodged
  pub read : lodged_in files count ≡ Ok lodged
  pub problem : Problem
  pub names : Names lodged.inputs problem
  pub found : P problem lodged

-- the inputs have this first fault
pub record HasBadLodged (files : Files) (count : ℕ) (why : InputFault) : Type 0 where
  pub lodged : Lodged
  pub read : lodged_in files count ≡ Ok lodged
  pub bad : HasFault lodged.inputs why

abbrev pub IsBadLodged : Files → ℕ → BadInput → Type 0
IsBadLodged files count (bad.Fault why) = HasBadLodged files count why
IsBadLodged files count bad.NoMemory = Unit {0}

abbrev pub IsOpenCheck : Files → ℕ → Result (List ℕ) OpenCheckStop → Type 0
IsOpenCheck files count (Ok scores) = OfLodged files count (λ problem lodged. IsShown problem count lodged scores)
IsOpenCheck files count (Err (stop.Unread why)) = UnreadIs why (lodged_in files count)
IsOpenCheck files count (Err (stop.BadInput why)) = IsBadLodged files count why
IsOpenCheck files count (Err (stop.No why)) = OfLodged files count (λ problem lodged. IsUnopened problem count lodged why)
IsOpenCheck files count (Err stop.NoMemory) = Unit {0}

-- ---- of the texts that reads handed in, be files told or not

-- the files in the order in which `opencheck` reads them
abbrev pub checking_order : ℕ → List File
checking_order zero =
    Rules ∷ Pairings ∷ Duties ∷ Legs ∷ Crew ∷ History ∷ Fixed ∷ Bids ∷ OpenCertificate ∷ OpenReasons ∷ OpenRoster ∷ []
checking_order (suc less) =
    Rules ∷ Pairings ∷ Duties ∷ Legs ∷ Crew ∷ History ∷ Fixed ∷ Bids ∷ OpenNone ∷ OpenCertificate ∷ OpenReasons ∷ OpenRoster ∷ []

-- where not all were read, or memory was wanting, nothing is said
abbrev pub IsOpenCheckHanded : Entries → Entries → ℕ → Result (List ℕ) OpenCheckStop → Type 0
IsOpenCheckHanded old new count (Ok scores) =
    FromReads (checking_order count) old new (λ files. OfLodged files count (λ problem lodged. IsShown problem count lodged scores))
IsOpenCheckHanded old new count (Err (stop.Unread why)) = Unit {0}
IsOpenCheckHanded old new count (Err (stop.BadInput why)) =
    FromReads (checking_order count) old new (λ files. IsBadLodged files count why)
IsOpenCheckHanded old new count (Err (stop.No why)) =
    FromReads (checking_order count) old new (λ files. OfLodged files count (λ problem lodged. IsUnopened problem count lodged why))
IsOpenCheckHanded old new count (Err stop.NoMemory) = Unit {0}
