-- What `check` says of the texts that its reads handed in, be files told or not.
use Rattle.std.specs.Prelude.{◌≡◌, ◌≤◌, List, [], ◌∷◌, ◌++◌, length, Result, Ok, Err}
use Rattle.shelf.specs.Logs.{Entries}
use Rattle.roster_model.specs.declared.problem.Problem.{Problem}
use Rattle.roster_model.specs.declared.award.Certificate.{Certificate}
use Rattle.cert_text.specs.Reading.{certificate_in}
use Rattle.month_files.specs.declared.file.File.{File}
use Rattle.month_files.specs.declared.file.File.TheVariants.{Rules, Pairings, Duties, Legs, Crew, History, Fixed, Bids, Certificate as CertificateFile, Roster, Reasons}
use Rattle.month_files.specs.FileNames.{name_of, limit_of}
use Rattle.month_files.specs.Handing.{FromReads, input_texts}
use Rattle.month_files.specs.Months.{Names}
use Rattle.month_files.specs.Reading.{AreShort}
use Rattle.month_commands.specs.declared.check_stop.CheckStop.{CheckStop}
use Rattle.month_commands.specs.declared.check_stop.CheckStop.TheVariants as stop
use Rattle.month_commands.specs.declared.verdict.Verdict.{Verdict}
use Rattle.month_commands.specs.Check.{Given, Claimed, IsAccepted, IsBadInput, IsRefused}

-- the files in the order in which `check` reads them
abbrev pub checking_order : List File
checking_order = Rules ∷ Pairings ∷ Duties ∷ Legs ∷ Crew ∷ History ∷ Fixed ∷ Bids ∷ CertificateFile ∷ Roster ∷ Reasons ∷ []

-- where not all due files were read, or memory was wanting, nothing is said
abbrev pub IsHanded : Entries → Entries → Result Verdict CheckStop → Type 0
IsHanded old new (Ok shown) = FromReads checking_order old new (λ files. IsAccepted files shown)
IsHanded old new (Err (stop.Unread why)) = Unit {0}
IsHanded old new (Err (stop.BadInput why)) = FromReads checking_order old new (λ files. IsBadInput files why)
IsHanded old new (Err (stop.No why)) = FromReads checking_order old new (λ files. IsRefused files why)
IsHanded old new (Err stop.NoMemory) = Unit {0}

-- the inputs and the certificate, as they are read
abbrev pub given_texts : Given → Entries
given_texts given = input_texts given.inputs ++ (name_of CertificateFile, given.certificate) ∷ []

-- the roster and the reasons, as they are read
abbrev pub claimed_texts : Claimed → Entries
claimed_texts claimed = (name_of Roster, claimed.roster) ∷ (name_of Reasons, claimed.reasons) ∷ []

-- neither is longer than its limit
pub record IsBrief (claimed : Claimed) : Type 0 where
  pub roster : length claimed.roster ≤ limit_of Roster
  pub reasons : length claimed.reasons ≤ limit_of Reasons

-- the reads so far handed in these, and they name a problem and a certificate
pub record HandedIn (old log : Entries) (problem : Problem) (certificate : Certificate) : Type 0 where
  pub given : Given
  pub logged : log ≡ old ++ given_texts given
  pub short : AreShort given.inputs
  pub limit : length given.certificate ≤ limit_of CertificateFile
  pub names : Names given.inputs problem
  pub read : certificate_in given.certificate ≡ Ok certificate
