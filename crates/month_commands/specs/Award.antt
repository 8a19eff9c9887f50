-- What `award` finds in the files of a folder, and what the files say that it writes.
use Rattle.std.specs.Prelude.{◌≡◌, ℕ, ◌*◌, ◌^◌, ◌≤◌, List, [], ◌∷◌, length, Result, Ok, Err}
use Rattle.std.specs.List.{AllByRecursion}
use Rattle.shelf.specs.Files.{Files}
use Rattle.shelf.specs.Logs.{Entries}
use Rattle.roster_model.specs.declared.problem.Problem.{Problem}
use Rattle.roster_model.specs.declared.award.Certificate.{Certificate}
use Rattle.roster_model.specs.Rosters.{scores_of}
use Rattle.roster_model.specs.Ledgers.{pairs_of}
use Rattle.roster_model.specs.Lawful.{most_searches}
use Rattle.roster_model.specs.declared.award.Denial.{Denial}
use Rattle.branch_log.specs.Book.{Book}
use Rattle.cert_text.specs.Reading.{certificate_in}
use Rattle.cert_text.specs.Spelling.{written_text}
use Rattle.month_award.specs.declared.outcome.AwardedMonth.{AwardedMonth}
use Rattle.month_award.specs.declared.outcome.UnfillableMonth.{UnfillableMonth}
use Rattle.month_award.specs.declared.outcome.MonthAward.TheVariants.{Award as MonthIsAwarded}
use Rattle.month_award.specs.Months.{IsAwardedMonth, IsUnfillableMonth, IsFullLedger, GivesGreatestScores}
use Rattle.month_files.specs.declared.fault.BadInput.{BadInput}
use Rattle.month_files.specs.declared.fault.BadInput.TheVariants as bad
use Rattle.month_files.specs.declared.fault.InputFault.{InputFault}
use Rattle.month_files.specs.declared.file.File.{File}
use Rattle.month_files.specs.declared.file.File.TheVariants.{Rules, Pairings, Duties, Legs, Crew, History, Fixed, Bids, Certificate as CertificateFile, Reasons as ReasonsFile, Roster as RosterFile}
use Rattle.month_files.specs.FileNames.{limit_of}
use Rattle.month_files.specs.Handing.{FromReads}
use Rattle.month_files.specs.Months.{Names, HasFault}
use Rattle.month_files.specs.Reading.{Inputs, UnreadIs, texts_in}
use Rattle.roster_text.specs.ReasonText.{reasons_text, IsReason}
use Rattle.roster_text.specs.RosterText.{roster_text, IsRoster}
use Rattle.month_commands.specs.declared.award_stop.AwardStop.{AwardStop}
use Rattle.month_commands.specs.declared.award_stop.AwardStop.TheVariants as stop
use Rattle.month_commands.specs.declared.award_stop.Finding.{Finding}
use Rattle.month_commands.specs.declared.award_stop.Found.{Found}
use Rattle.month_commands.specs.declared.award_stop.Found.TheVariants as found
use Rattle.month_commands.specs.declared.award_stop.Miss.{Miss}
use Rattle.month_commands.specs.declared.award_stop.Miss.TheVariants as miss
use Rattle.month_files.specs.declared.writing.Draft.{Draft}
use Rattle.month_files.specs.declared.writing.Unwritten.{Unwritten}
use Rattle.month_files.specs.Writes.{IsStop}

-- ---- what is found, and the files that say it

-- a certificate in its file
abbrev pub certificate_draft : Certificate → Draft
certificate_draft certificate = record { file = CertificateFile; bytes = written_text certificate }

-- reasons in their file
abbrev pub reasons_draft : Problem → List Denial → Draft
reasons_draft problem reasons = record { file = ReasonsFile; bytes = reasons_text problem reasons }

-- a roster in its file
abbrev pub roster_draft : Problem → List (List ℕ) → Draft
roster_draft problem roster = record { file = RosterFile; bytes = roster_text problem roster }

-- `check` reads the certificate's text as the certificate, and within its limit
pub record IsReadable (certificate : Certificate) : Type 0 where
  pub again : certificate_in (written_text certificate) ≡ Ok certificate
  pub fits : length (written_text certificate) ≤ limit_of CertificateFile

-- the same of a roster
pub record IsReadableRoster (problem : Problem) (roster : List (List ℕ)) : Type 0 where
  pub form : IsRoster problem roster
  pub fits : length (roster_text problem roster) ≤ limit_of RosterFile

-- and of reasons
pub record AreReadableReasons (problem : Problem) (reasons : List Denial) : Type 0 where
  pub form : AllByRecursion (IsReason problem) reasons
  pub fits : length (reasons_text problem reasons) ≤ limit_of ReasonsFile

-- an award with its certificate, reasons and ledger, whose first scores are the greatest at each place; and the three files
-- that say it
pub record FindsAward (problem : Problem) (nodes : ℕ) (scores : List ℕ) (denied : ℕ) (ledger : Book) (drafts : List Draft) : Type 0 where
  pub month : AwardedMonth
  pub awarded : IsAwardedMonth problem nodes month
  pub seniors : GivesGreatestScores problem (MonthIsAwarded month)
  pub scores_are : scores ≡ scores_of problem month.roster
  pub denied_are : denied ≡ length month.reasons
  pub ledger_is : ledger ≡ month.ledger
  pub drafts_are :
      drafts
      ≡ certificate_draft month.certificate ∷ reasons_draft problem month.reasons ∷ roster_draft problem month.roster ∷ []
  pub certificate : IsReadable month.certificate
  pub reasons : AreReadableReasons problem month.reasons
  pub roster : IsReadableRoster problem month.roster

-- a certificate that there is no complete roster, its ledger, and the file that says it
pub record FindsNone (problem : Problem) (nodes : ℕ) (ledger : Book) (drafts : List Draft) : Type 0 where
  pub month : UnfillableMonth
  pub unfillable : IsUnfillableMonth problem nodes month
  pub ledger_is : ledger ≡ month.ledger
  pub drafts_are : drafts ≡ certificate_draft month.certificate ∷ []
  pub certificate : IsReadable month.certificate

abbrev pub Finds : Problem → ℕ → Found → Book → List Draft → Type 0
Finds problem nodes (found.Award scores denied) ledger drafts = FindsAward problem nodes scores denied ledger drafts
Finds problem nodes found.NoRoster ledger drafts = FindsNone problem nodes ledger drafts

-- the ledger is full, and so small that an award may take more
pub record SpendsBudget (problem : Problem) (nodes : ℕ) (ledger : Book) : Type 0 where
  pub all : IsFullLedger problem nodes ledger
  pub few : nodes ≤ most_searches problem * 2 ^ pairs_of problem

-- what the search comes to
abbrev pub IsFinding : Problem → ℕ → Result Finding Miss → Type 0
IsFinding problem nodes (Ok f) = Finds problem nodes f.found f.ledger f.drafts
IsFinding problem nodes (Err (miss.Budget ledger)) = SpendsBudget problem nodes ledger
IsFinding problem nodes (Err miss.NoMemory) = Unit {0}

-- ---- over files

-- the inputs name this problem, of which P holds
pub record OfMonth (files : Files) (P : Problem → Type 0) : Type 0 where
  pub inputs : Inputs
  pub read : texts_in files ≡ Ok inputs
  pub problem : Problem
  pub names : Names inputs problem
  pub found : P problem

-- the inputs have this first fault
pub record HasBadMonth (files : Files) (fault : InputFault) : Type 0 where
  pub inputs : Inputs
  pub read : texts_in files ≡ Ok inputs
  pub bad : HasFault inputs fault

abbrev pub IsBadMonth : Files → BadInput → Type 0
IsBadMonth files (bad.Fault fault) = HasBadMonth files fault
IsBadMonth files bad.NoMemory = Unit {0}

abbrev pub IsFound : Files → ℕ → Finding → Type 0
IsFound files nodes f = OfMonth files (λ problem. Finds problem nodes f.found f.ledger f.drafts)

-- this was found, and the file behind those that were written was not
pub record IsUnwritten (files : Files) (nodes : ℕ) (f : Finding) (u : Unwritten) : Type 0 where
  pub found : IsFound files nodes f
  pub stopped : IsStop f.drafts u

abbrev pub IsAward : Files → ℕ → Result Finding AwardStop → Type 0
IsAward files nodes (Ok f) = IsFound files nodes f
IsAward files nodes (Err (stop.Unread why)) = UnreadIs why (texts_in files)
IsAward files nodes (Err (stop.BadInput why)) = IsBadMonth files why
IsAward files nodes (Err (stop.Budget ledger)) = OfMonth files (λ problem. SpendsBudget problem nodes ledger)
IsAward files nodes (Err (stop.Unwritten f u)) = IsUnwritten files nodes f u
IsAward files nodes (Err stop.NoMemory) = Unit {0}

-- the files in the order in which `award` reads them
abbrev pub awarding_order : List File
awarding_order = Rules ∷ Pairings ∷ Duties ∷ Legs ∷ Crew ∷ History ∷ Fixed ∷ Bids ∷ []

-- of the texts that reads handed in; where not all were read, or memory was wanting, nothing is said
abbrev pub IsAwardHanded : Entries → Entries → ℕ → Result Finding AwardStop → Type 0
IsAwardHanded old new nodes (Ok f) = FromReads awarding_order old new (λ files. IsFound files nodes f)
IsAwardHanded old new nodes (Err (stop.Unread why)) = Unit {0}
IsAwardHanded old new nodes (Err (stop.BadInput why)) = FromReads awarding_order old new (λ files. IsBadMonth files why)
IsAwardHanded old new nodes (Err (stop.Budget ledger)) = FromReads awarding_order old new (λ files. OfMonth files (λ problem. SpendsBudget problem nodes ledger))
IsAwardHanded old new nodes (Err (stop.Unwritten f u)) = FromReads awarding_order old new (λ files. IsUnwritten files nodes f u)
IsAwardHanded old new nodes (Err stop.NoMemory) = Unit {0}
