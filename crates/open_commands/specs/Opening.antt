-- What `open` finds in the files of a folder, and what the files say that it writes.
use Rattle.std.specs.Prelude.{◌≡◌, ◌≢◌, ℕ, ◌+◌, ◌<◌, ◌≤◌, List, [], ◌∷◌, ◌++◌, length, Option, None, Some, Result, Ok, Err}
use Rattle.std.specs.List.{AllByRecursion}
use Rattle.std.specs.Option.{ForSome}
use Rattle.shelf.specs.Files.{Files}
use Rattle.shelf.specs.Logs.{Entries}
use Rattle.roster_model.specs.declared.problem.Problem.{Problem}
use Rattle.roster_model.specs.declared.proof.Item.{Item}
use Rattle.roster_model.specs.declared.award.Awarded.{Awarded}
use Rattle.roster_model.specs.declared.award.Denial.{Denial}
use Rattle.roster_model.specs.declared.award.Certificate.{Certificate}
use Rattle.roster_model.specs.declared.award.Certificate.TheVariants as form
use Rattle.roster_model.specs.Awards.{IsGreatest}
use Rattle.roster_model.specs.Rosters.{scores_of}
use Rattle.roster_model.specs.Splits.{splits_in, all_splits, shown_splits}
use Rattle.branch_log.specs.Book.{Book}
use Rattle.completion_search.specs.Found.{IsFull}
use Rattle.cert_text.specs.Reading.{certificate_in}
use Rattle.cert_text.specs.Spelling.{written_text}
use Rattle.month_files.specs.declared.fault.BadInput.{BadInput}
use Rattle.month_files.specs.declared.fault.BadInput.TheVariants as bad
use Rattle.month_files.specs.declared.fault.InputFault.{InputFault}
use Rattle.month_files.specs.declared.file.File.{File}
use Rattle.month_files.specs.declared.file.File.TheVariants.{Rules, Pairings, Duties, Legs, Crew, History, Fixed, Bids, OpenNone, OpenCertificate, OpenReasons, OpenRoster}
use Rattle.month_files.specs.declared.writing.Draft.{Draft}
use Rattle.month_files.specs.declared.writing.Unwritten.{Unwritten}
use Rattle.month_files.specs.FileNames.{limit_of}
use Rattle.month_files.specs.Handing.{FromReads}
use Rattle.month_files.specs.Months.{Names, HasFault}
use Rattle.month_files.specs.Reading.{Inputs, UnreadIs, texts_in}
use Rattle.month_files.specs.Writes.{IsStop}
use Rattle.roster_text.specs.ReasonText.{reasons_text, IsReason}
use Rattle.roster_text.specs.RosterText.{roster_text, IsRoster}
use Rattle.open_time.specs.declared.fault.OpenFault.{OpenFault}
use Rattle.open_time.specs.declared.fault.OpenFault.TheVariants as fault
use Rattle.open_time.specs.Opened.{IsRunWith, IsSettledWith}
use Rattle.open_time.specs.Refuted.{IsRefutedWith, IsOpenAward}
use Rattle.open_time.specs.Vacant.{HasRoomFor, IsWithVacant, IsOpenFault, IsUnfilledBelow, IsUnfilledUnder, NeedsVacant}
use Rattle.open_commands.specs.declared.open_stop.OpenFinding.{OpenFinding}
use Rattle.open_commands.specs.declared.open_stop.OpenMiss.{OpenMiss}
use Rattle.open_commands.specs.declared.open_stop.OpenMiss.TheVariants as miss
use Rattle.open_commands.specs.declared.open_stop.OpenRow.{OpenRow}
use Rattle.open_commands.specs.declared.open_stop.OpenStop.{OpenStop}
use Rattle.open_commands.specs.declared.open_stop.OpenStop.TheVariants as stop
use Rattle.open_commands.specs.declared.open_stop.Opening.{Opening}
use Rattle.open_commands.specs.declared.open_stop.Opening.TheVariants.{Award, NoRoster}
use Rattle.open_commands.specs.OpenRows.{AreOpenRows}

-- ---- the files that say what is found

abbrev pub certificate_draft : File → Certificate → Draft
certificate_draft file certificate = record { file = file; bytes = written_text certificate }

-- the proof that one vacant line less is not enough, if there is one
abbrev pub none_drafts : Option (List Item) → List Draft
none_drafts None = []
none_drafts (Some proof) = certificate_draft OpenNone (form.NoRoster proof) ∷ []

-- reasons and a roster in their files
abbrev pub reasons_draft : Problem → List Denial → Draft
reasons_draft made reasons = record { file = OpenReasons; bytes = reasons_text made reasons }

abbrev pub roster_draft : Problem → List (List ℕ) → Draft
roster_draft made roster = record { file = OpenRoster; bytes = roster_text made roster }

-- the certificate, the reasons and the roster of the award
abbrev pub award_drafts : Problem → Awarded → List Denial → List (List ℕ) → List Draft
award_drafts made awarded reasons roster =
    certificate_draft OpenCertificate (form.Award awarded) ∷ reasons_draft made reasons ∷ roster_draft made roster ∷ []

-- the certificate's text is read as the certificate, and within the limit of its file
pub record IsReadable (file : File) (certificate : Certificate) : Type 0 where
  pub again : certificate_in (written_text certificate) ≡ Ok certificate
  pub fits : length (written_text certificate) ≤ limit_of file

-- the same of reasons and of a roster
pub record AreReadableReasons (made : Problem) (reasons : List Denial) : Type 0 where
  pub form : AllByRecursion (IsReason made) reasons
  pub fits : length (reasons_text made reasons) ≤ limit_of OpenReasons

pub record IsReadableRoster (made : Problem) (roster : List (List ℕ)) : Type 0 where
  pub form : IsRoster made roster
  pub fits : length (roster_text made roster) ≤ limit_of OpenRoster

-- the files of an award with vacant lines, and of the proof that one less is not enough, each of which is read as what it says
pub record AreAwardDrafts (made : Problem) (below : Option (List Item)) (roster : List (List ℕ)) (reasons : List Denial) (awarded : Awarded) (drafts : List Draft) : Type 0 where
  pub drafts_are : drafts ≡ none_drafts below ++ award_drafts made awarded reasons roster
  pub proof_readable : ForSome below (λ proof. IsReadable OpenNone (form.NoRoster proof))
  pub certificate_readable : IsReadable OpenCertificate (form.Award awarded)
  pub reasons_readable : AreReadableReasons made reasons
  pub roster_readable : IsReadableRoster made roster

-- ---- what is found

-- What is said of an award with so many vacant lines: its scores, than which no complete roster has greater ones; the
-- pairings that vacant lines have, and who may fly them; and the files, each of which is read as what it says.
pub record SaysAward (problem : Problem) (count : ℕ) (below : Option (List Item)) (roster : List (List ℕ)) (reasons : List Denial) (awarded : Awarded) (scores : List ℕ) (rows : List OpenRow) (drafts : List Draft) : Type 0 where
  pub made : Problem
  pub of : IsWithVacant problem count made
  pub greatest : IsGreatest made roster
  pub scores_are : scores ≡ scores_of made roster
  pub rows_are : AreOpenRows problem made roster rows
  pub drafts_are : drafts ≡ none_drafts below ++ award_drafts made awarded reasons roster
  pub proof_readable : ForSome below (λ proof. IsReadable OpenNone (form.NoRoster proof))
  pub certificate_readable : IsReadable OpenCertificate (form.Award awarded)
  pub reasons_readable : AreReadableReasons made reasons
  pub roster_readable : IsReadableRoster made roster

-- As many vacant lines as were asked for can be added. So many are needed, no more than that, and no lesser number is
-- enough; the award with them is accepted, with the proof that one less is not enough; no pairing can go from a vacant line to a
-- member so that all lines stay legal and each score what it is; and it is said so.
pub record FindsOpen (problem : Problem) (most nodes count : ℕ) (scores : List ℕ) (rows : List OpenRow) (ledger : Book) (drafts : List Draft) : Type 0 where
  pub below : Option (List Item)
  pub roster : List (List ℕ)
  pub reasons : List Denial
  pub awarded : Awarded
  pub most_fit : HasRoomFor problem most
  pub within : count ≤ most
  pub needs : NeedsVacant problem count
  pub fewest : IsUnfilledUnder problem count
  pub award : IsOpenAward problem count below roster reasons awarded
  pub settled : IsSettledWith problem count roster
  pub says : SaysAward problem count below roster reasons awarded scores rows drafts
  pub run : IsRunWith problem count nodes ledger
  pub room : length ledger.entries < nodes
  pub splits : all_splits awarded.proofs + shown_splits awarded.shown ≤ length ledger.entries

-- the most that were asked for can be added, a proof that they are not enough, and the file that says it
pub record FindsNone (problem : Problem) (most nodes : ℕ) (ledger : Book) (drafts : List Draft) : Type 0 where
  pub proof : List Item
  pub most_fit : HasRoomFor problem most
  pub refuted : IsRefutedWith problem most proof
  pub run : IsRunWith problem most nodes ledger
  pub room : length ledger.entries < nodes
  pub splits : splits_in proof ≤ length ledger.entries
  pub drafts_are : drafts ≡ certificate_draft OpenNone (form.NoRoster proof) ∷ []
  pub readable : IsReadable OpenNone (form.NoRoster proof)

abbrev pub Finds : Problem → ℕ → ℕ → Opening → Book → List Draft → Type 0
Finds problem most nodes (Award count scores rows) ledger drafts = FindsOpen problem most nodes count scores rows ledger drafts
Finds problem most nodes NoRoster ledger drafts = FindsNone problem most nodes ledger drafts

-- the most vacant lines that were asked for can be added; for one of the numbers up to that, one less is not enough, and its
-- ledger is full
pub record IsSpent (problem : Problem) (most nodes : ℕ) (ledger : Book) : Type 0 where
  pub most_fit : HasRoomFor problem most
  pub count : ℕ
  pub within : count ≤ most
  pub fewer : IsUnfilledBelow problem count
  pub run : IsRunWith problem count nodes ledger
  pub full : IsFull ledger

-- so many cannot be added, for this reason
abbrev pub IsRefused : Problem → ℕ → OpenFault → Type 0
IsRefused problem most why = (why ≢ fault.NoMemory) × IsOpenFault problem most why

-- what the search comes to
abbrev pub IsOpenEnd : Problem → ℕ → ℕ → Result OpenFinding OpenMiss → Type 0
IsOpenEnd problem most nodes (Ok f) = Finds problem most nodes f.found f.ledger f.drafts
IsOpenEnd problem most nodes (Err (miss.No why)) = IsRefused problem most why
IsOpenEnd problem most nodes (Err (miss.Budget ledger)) = IsSpent problem most nodes ledger
IsOpenEnd problem most nodes (Err miss.NoMemory) = Unit {0}

-- ---- over files

-- the inputs name this problem, of which P holds
pub record OfMonth (files : Files) (P : Problem → Type 0) : Type 0 where
  pub inputs : Inputs
  pub read : texts_in files ≡ Ok inputs
  pub problem : Problem
  pub names : Names inputs problem
  pub found : P problem

-- the inputs have this first fault
pub record HasBadMonth (files : Files) (why : InputFault) : Type 0 where
  pub inputs : Inputs
  pub read : texts_in files ≡ Ok inputs
  pub bad : HasFault inputs why

abbrev pub IsBadMonth : Files → BadInput → Type 0
IsBadMonth files (bad.Fault why) = HasBadMonth files why
IsBadMonth files bad.NoMemory = Unit {0}

abbrev pub IsFound : Files → ℕ → ℕ → OpenFinding → Type 0
IsFound files most nodes f = OfMonth files (λ problem. Finds problem most nodes f.found f.ledger f.drafts)

-- this was found, and the file behind those that were written was not
pub record IsUnwritten (files : Files) (most nodes : ℕ) (f : OpenFinding) (u : Unwritten) : Type 0 where
  pub found : IsFound files most nodes f
  pub stopped : IsStop f.drafts u

abbrev pub IsOpen : Files → ℕ → ℕ → Result OpenFinding OpenStop → Type 0
IsOpen files most nodes (Ok f) = IsFound files most nodes f
IsOpen files most nodes (Err (stop.Unread why)) = UnreadIs why (texts_in files)
IsOpen files most nodes (Err (stop.BadInput why)) = IsBadMonth files why
IsOpen files most nodes (Err (stop.No why)) = OfMonth files (λ problem. IsRefused problem most why)
IsOpen files most nodes (Err (stop.Budget ledger)) = OfMonth files (λ problem. IsSpent problem most nodes ledger)
IsOpen files most nodes (Err (stop.Unwritten f u)) = IsUnwritten files most nodes f u
IsOpen files most nodes (Err stop.NoMemory) = Unit {0}

-- ---- of the texts that reads handed in, be files told or not

-- the files in the order in which `open` reads them
abbrev pub opening_order : List File
opening_order = Rules ∷ Pairings ∷ Duties ∷ Legs ∷ Crew ∷ History ∷ Fixed ∷ Bids ∷ []

-- where not all were read, or memory was wanting, nothing is said
abbrev pub IsOpenHanded : Entries → Entries → ℕ → ℕ → Result OpenFinding OpenStop → Type 0
IsOpenHanded old new most nodes (Ok f) = FromReads opening_order old new (λ files. IsFound files most nodes f)
IsOpenHanded old new most nodes (Err (stop.Unread why)) = Unit {0}
IsOpenHanded old new most nodes (Err (stop.BadInput why)) = FromReads opening_order old new (λ files. IsBadMonth files why)
IsOpenHanded old new most nodes (Err (stop.No why)) =
    FromReads opening_order old new (λ files. OfMonth files (λ problem. IsRefused problem most why))
IsOpenHanded old new most nodes (Err (stop.Budget ledger)) =
    FromReads opening_order old new (λ files. OfMonth files (λ problem. IsSpent problem most nodes ledger))
IsOpenHanded old new most nodes (Err (stop.Unwritten f u)) =
    FromReads opening_order old new (λ files. IsUnwritten files most nodes f u)
IsOpenHanded old new most nodes (Err stop.NoMemory) = Unit {0}
