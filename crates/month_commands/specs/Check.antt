-- What `check` finds in the files of a folder: from what its stages read to what it answers.
use Rattle.std.specs.Prelude.{◌≡◌, ◌≢◌, ℕ, List, [], Result, Ok, Err, Vec, ◌⊎◌}
use Rattle.std.specs.declared.alloc.Global.{Global}
use Rattle.shelf.specs.Files.{Files}
use Rattle.roster_model.specs.declared.problem.Problem.{Problem}
use Rattle.roster_model.specs.declared.proof.Item.{Item}
use Rattle.roster_model.specs.declared.award.Awarded.{Awarded}
use Rattle.roster_model.specs.declared.award.Denial.{Denial}
use Rattle.roster_model.specs.declared.award.Certificate.{Certificate}
use Rattle.roster_model.specs.declared.award.Certificate.TheVariants.{Award, NoRoster}
use Rattle.roster_model.specs.Rosters.{scores_of}
use Rattle.roster_model.specs.Closing.{Closes}
use Rattle.roster_model.specs.Awards.{IsGreatest, HasNoRoster, no_goal}
use Rattle.roster_model.specs.Denials.{DenialsAreAnswered, IsAwarded}
use Rattle.cert_text.specs.declared.fault.CertFault.{CertFault}
use Rattle.cert_text.specs.Reading.{certificate_in}
use Rattle.cert_checker.specs.declared.refusal.No.{No}
use Rattle.cert_checker.specs.declared.refusal.No.TheVariants.{NoMemory as NoRoom}
use Rattle.cert_checker.specs.Awards.{IsFirstNo}
use Rattle.cert_checker.specs.Stops.{Stops}
use Rattle.month_files.specs.declared.fault.BadInput.{BadInput}
use Rattle.month_files.specs.declared.fault.BadInput.TheVariants as bad
use Rattle.month_files.specs.declared.fault.InputFault.{InputFault}
use Rattle.month_files.specs.declared.file.File.TheVariants.{Certificate as CertificateFile, Roster, Reasons}
use Rattle.month_files.specs.declared.unread.Unread.{Unread}
use Rattle.month_files.specs.declared.unread.Unread.TheVariants as unread
use Rattle.month_files.specs.Months.{Names, HasFault}
use Rattle.month_files.specs.Reading.{◌>>=◌, Inputs, view_texts, text_in, texts_in}
use Rattle.month_files.specs.declared.reading.Texts.{Texts}
use Rattle.roster_text.specs.declared.fault.RosterTextFault.{RosterTextFault}
use Rattle.roster_text.specs.RosterFaults.{HasFault as HasRosterFault}
use Rattle.roster_text.specs.RosterText.{IsTextOf}
use Rattle.roster_text.specs.declared.reason_fault.ReasonTextFault.{ReasonTextFault}
use Rattle.roster_text.specs.ReasonFaults.{HasReasonFault}
use Rattle.roster_text.specs.ReasonText.{IsReasonsText}
use Rattle.month_commands.specs.declared.check_stop.CheckStop.{CheckStop}
use Rattle.month_commands.specs.declared.check_stop.CheckStop.TheVariants as stop
use Rattle.month_commands.specs.declared.check_stop.Refusal.{Refusal}
use Rattle.month_commands.specs.declared.check_stop.Refusal.TheVariants as refusal
use Rattle.month_commands.specs.declared.verdict.Verdict.{Verdict}
use Rattle.month_commands.specs.declared.verdict.Verdict.TheVariants as verdict

-- the inputs and the certificate, which are read first
pub record Given : Type 0 where
  pub inputs : Inputs
  pub certificate : List ℕ

unfoldable pub given_in : Files → Result Given Unread
given_in files = do
  inputs ← texts_in files
  certificate ← text_in files CertificateFile
  Ok (record { inputs = inputs; certificate = certificate })

abbrev pub view_given : Texts × Vec ℕ Global → Given
view_given x = record { inputs = view_texts x.0; certificate = x.1.items }

-- the roster and the reasons of an award, which are read behind its certificate
pub record Claimed : Type 0 where
  pub roster : List ℕ
  pub reasons : List ℕ

unfoldable pub claimed_in : Files → Result Claimed Unread
claimed_in files = do
  roster ← text_in files Roster
  reasons ← text_in files Reasons
  Ok (record { roster = roster; reasons = reasons })

abbrev pub view_claimed : Vec ℕ Global × Vec ℕ Global → Claimed
view_claimed x = record { roster = x.0.items; reasons = x.1.items }

-- ---- what the texts are

-- the inputs have this first fault
pub record HasBadInput (files : Files) (fault : InputFault) : Type 0 where
  pub given : Given
  pub read : given_in files ≡ Ok given
  pub bad : HasFault given.inputs fault

-- the inputs name this problem
pub record NamesProblem (files : Files) (given : Given) (problem : Problem) : Type 0 where
  pub read : given_in files ≡ Ok given
  pub names : Names given.inputs problem

-- the certificate is no certificate's text, from this line on
pub record HasNoCertificate (files : Files) (fault : CertFault) : Type 0 where
  pub given : Given
  pub problem : Problem
  pub before : NamesProblem files given problem
  pub unread : certificate_in given.certificate ≡ Err fault

-- the inputs name this problem, and the certificate's text is that of this one
pub record NamesCertificate (files : Files) (problem : Problem) (certificate : Certificate) : Type 0 where
  pub given : Given
  pub before : NamesProblem files given problem
  pub read : certificate_in given.certificate ≡ Ok certificate

-- the certificate is one of an award, and the file of its roster, else that of the reasons, can't be read, by this end
pub record EndsAtClaim (files : Files) (why : Unread) : Type 0 where
  pub problem : Problem
  pub awarded : Awarded
  pub before : NamesCertificate files problem (Award awarded)
  pub ends : claimed_in files ≡ Err why

-- the certificate is one of an award, and these are the roster's file and that of the reasons
pub record HasClaim (files : Files) (problem : Problem) (awarded : Awarded) (claimed : Claimed) : Type 0 where
  pub before : NamesCertificate files problem (Award awarded)
  pub there : claimed_in files ≡ Ok claimed

-- the roster's file is no roster's text of this month, from this row on
pub record HasNoRosterText (files : Files) (fault : RosterTextFault) : Type 0 where
  pub problem : Problem
  pub awarded : Awarded
  pub claimed : Claimed
  pub before : HasClaim files problem awarded claimed
  pub bad : HasRosterFault problem claimed.roster fault

-- it is a roster's text, and the other file is no text of reasons of this month, from this line on
pub record HasNoReasonsText (files : Files) (fault : ReasonTextFault) : Type 0 where
  pub problem : Problem
  pub awarded : Awarded
  pub claimed : Claimed
  pub before : HasClaim files problem awarded claimed
  pub roster : List (List ℕ)
  pub read : IsTextOf problem claimed.roster roster
  pub bad : HasReasonFault problem claimed.reasons fault

-- all texts of an award read: a problem, a certificate, a roster, and reasons
pub record NamesAll (files : Files) (problem : Problem) (awarded : Awarded) (roster : List (List ℕ)) (reasons : List Denial) : Type 0 where
  pub claimed : Claimed
  pub before : HasClaim files problem awarded claimed
  pub roster_read : IsTextOf problem claimed.roster roster
  pub reasons_read : IsReasonsText problem claimed.reasons reasons

-- ---- what the judge says of them

-- the award is accepted with its reasons: no complete roster has a greater vector, each bid that the roster does not
-- grant has a reason that is true, and these are its scores
pub record AwardIsAccepted (files : Files) (scores : List ℕ) : Type 0 where
  pub problem : Problem
  pub awarded : Awarded
  pub roster : List (List ℕ)
  pub reasons : List Denial
  pub named : NamesAll files problem awarded roster reasons
  pub accepted : IsAwarded problem roster reasons awarded
  pub greatest : IsGreatest problem roster
  pub answered : DenialsAreAnswered problem roster reasons awarded.shown
  pub scores_are : scores ≡ scores_of problem roster

-- it is not, and this is the judge's first failing test
pub record AwardIsRefused (files : Files) (why : No) : Type 0 where
  pub problem : Problem
  pub awarded : Awarded
  pub roster : List (List ℕ)
  pub reasons : List Denial
  pub named : NamesAll files problem awarded roster reasons
  pub known : why ≢ NoRoom
  pub first : IsFirstNo problem roster reasons awarded why
  pub not_accepted : IsAwarded problem roster reasons awarded → ⊥

-- the proof closes the goal of nothing, so that there is no complete roster
pub record NoneIsAccepted (files : Files) : Type 0 where
  pub problem : Problem
  pub proof : List Item
  pub named : NamesCertificate files problem (NoRoster proof)
  pub closes : Closes problem no_goal [] proof
  pub none : HasNoRoster problem

-- it does not, for this reason
pub record NoneIsRefused (files : Files) (why : No) : Type 0 where
  pub problem : Problem
  pub proof : List Item
  pub named : NamesCertificate files problem (NoRoster proof)
  pub known : why ≢ NoRoom
  pub stops : Stops problem no_goal 0 proof why
  pub not_closed : Closes problem no_goal [] proof → ⊥

-- ---- what `check` answers

-- the certificate is accepted, and shows this
abbrev pub IsAccepted : Files → Verdict → Type 0
IsAccepted files (verdict.Award scores) = AwardIsAccepted files scores
IsAccepted files verdict.NoRoster = NoneIsAccepted files

-- it is not, for this reason
abbrev pub IsRefused : Files → Refusal → Type 0
IsRefused files (refusal.Certificate fault) = HasNoCertificate files fault
IsRefused files (refusal.Roster fault) = HasNoRosterText files fault
IsRefused files (refusal.Reasons fault) = HasNoReasonsText files fault
IsRefused files (refusal.Judged why) = AwardIsRefused files why ⊎ NoneIsRefused files why

-- a file is missing or too long: among those read first, or behind the certificate of an award
abbrev pub EndsReading : Files → Unread → Type 0
EndsReading files why = (given_in files ≡ Err why) ⊎ EndsAtClaim files why

-- a failed read and want of memory are no matter of what files hold
abbrev pub IsUnread : Files → Unread → Type 0
IsUnread files (unread.Missing f) = EndsReading files (unread.Missing f)
IsUnread files (unread.ReadFault f) = Unit {0}
IsUnread files (unread.TooLong f) = EndsReading files (unread.TooLong f)
IsUnread files unread.NoMemory = Unit {0}

abbrev pub IsBadInput : Files → BadInput → Type 0
IsBadInput files (bad.Fault fault) = HasBadInput files fault
IsBadInput files bad.NoMemory = Unit {0}

abbrev pub IsCheck : Files → Result Verdict CheckStop → Type 0
IsCheck files (Ok shown) = IsAccepted files shown
IsCheck files (Err (stop.Unread why)) = IsUnread files why
IsCheck files (Err (stop.BadInput why)) = IsBadInput files why
IsCheck files (Err (stop.No why)) = IsRefused files why
IsCheck files (Err stop.NoMemory) = Unit {0}
