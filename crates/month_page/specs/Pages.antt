-- What is found in the files of a folder: a month with a roster and reasons, or the first fault.
use Rattle.std.specs.Prelude.{◌≡◌, ◌++◌, [], ◌∷◌, ℕ, List, length, Result, Ok, Err}
use Rattle.shelf.specs.Files.{Files}
use Rattle.shelf.specs.Logs.{Entries}
use Rattle.roster_model.specs.declared.problem.Problem.{Problem}
use Rattle.roster_model.specs.declared.award.Denial.{Denial}
use Rattle.month_files.specs.declared.fault.BadInput.{BadInput}
use Rattle.month_files.specs.declared.fault.BadInput.TheVariants as bad
use Rattle.month_files.specs.declared.file.File.{File}
use Rattle.month_files.specs.declared.file.File.TheVariants.{Rules, Pairings, Duties, Legs, Crew, History, Fixed, Bids, Roster, Reasons}
use Rattle.month_files.specs.declared.unread.Unread.{Unread}
use Rattle.month_files.specs.FileNames.{name_of}
use Rattle.month_files.specs.Handing.{FromReads, input_texts}
use Rattle.month_files.specs.Months.{Names, HasFault}
use Rattle.month_files.specs.Reading.{◌>>=◌, Inputs, UnreadIs, view_texts, text_in, texts_in}
use Rattle.roster_text.specs.declared.reason_fault.ReasonTextFault.{ReasonTextFault}
use Rattle.roster_text.specs.ReasonFaults.{HasReasonFault}
use Rattle.roster_text.specs.ReasonText.{IsReasonsText}
use Rattle.roster_text.specs.RosterFaults.{HasFault as HasRosterFault}
use Rattle.roster_text.specs.RosterText.{IsTextOf}
use Rattle.month_page.specs.declared.paging.Sheet.{Sheet}
use Rattle.month_page.specs.declared.paging.Seen.{Seen as Read}
use Rattle.month_page.specs.declared.page_stop.PageStop.{PageStop}
use Rattle.month_page.specs.declared.page_stop.PageStop.TheVariants as stop

-- the inputs, the roster and the reasons, in the order in which they are read
pub record Seen : Type 0 where
  pub inputs : Inputs
  pub roster : List ℕ
  pub reasons : List ℕ

unfoldable pub seen_in : Files → Result Seen Unread
seen_in files = do
  inputs ← texts_in files
  roster ← text_in files Roster
  reasons ← text_in files Reasons
  Ok (record { inputs = inputs; roster = roster; reasons = reasons })

abbrev pub view_seen : Read → Seen
view_seen read = record { inputs = view_texts read.texts; roster = read.roster.items; reasons = read.reasons.items }

-- ---- what the texts are

-- the inputs name a problem, the other texts are those of a roster and of reasons, and so many members are shown
pub record IsShown (members : ℕ) (seen : Seen) : Type 0 where
  pub problem : Problem
  pub names : Names seen.inputs problem
  pub roster : List (List ℕ)
  pub roster_read : IsTextOf problem seen.roster roster
  pub reasons : List Denial
  pub reasons_read : IsReasonsText problem seen.reasons reasons
  pub all : members ≡ length problem.base.members

-- the inputs name a problem, and of it P holds
pub record OfMonth (seen : Seen) (P : Problem → Type 0) : Type 0 where
  pub problem : Problem
  pub names : Names seen.inputs problem
  pub found : P problem

-- the roster's text reads, and that of the reasons has this first fault
pub record HasNoReasons (seen : Seen) (fault : ReasonTextFault) (problem : Problem) : Type 0 where
  pub roster : List (List ℕ)
  pub read : IsTextOf problem seen.roster roster
  pub bad : HasReasonFault problem seen.reasons fault

abbrev pub HasBadMonth : Seen → BadInput → Type 0
HasBadMonth seen (bad.Fault fault) = HasFault seen.inputs fault
HasBadMonth seen bad.NoMemory = Unit {0}

-- what stands against a page of the texts, once they are read
abbrev pub StandsAgainst : PageStop → Seen → Type 0
StandsAgainst (stop.Unread why) seen = ⊥
StandsAgainst (stop.BadInput why) seen = HasBadMonth seen why
StandsAgainst (stop.Roster fault) seen = OfMonth seen (λ problem. HasRosterFault problem seen.roster fault)
StandsAgainst (stop.Reasons fault) seen = OfMonth seen (HasNoReasons seen fault)
StandsAgainst (stop.Unwritten why) seen = ⊥
StandsAgainst stop.NoMemory seen = Unit {0}

abbrev pub ComesOf : Seen → Result Sheet PageStop → Type 0
ComesOf seen (Ok sheet) = IsShown sheet.members seen
ComesOf seen (Err why) = StandsAgainst why seen

-- ---- what is answered

-- the texts are read, and of them P holds
pub record OfSight (P : Seen → Type 0) (files : Files) : Type 0 where
  pub seen : Seen
  pub read : seen_in files ≡ Ok seen
  pub found : P seen

-- a page that was not written could have been
abbrev pub IsPageRun : Files → Result ℕ PageStop → Type 0
IsPageRun files (Ok members) = OfSight (IsShown members) files
IsPageRun files (Err (stop.Unread why)) = UnreadIs why (seen_in files)
IsPageRun files (Err (stop.BadInput why)) = OfSight (StandsAgainst (stop.BadInput why)) files
IsPageRun files (Err (stop.Roster fault)) = OfSight (StandsAgainst (stop.Roster fault)) files
IsPageRun files (Err (stop.Reasons fault)) = OfSight (StandsAgainst (stop.Reasons fault)) files
IsPageRun files (Err (stop.Unwritten why)) = OfSight (λ seen. (members : ℕ) × IsShown members seen) files
IsPageRun files (Err stop.NoMemory) = Unit {0}

-- ---- of the texts that reads handed in, be files told or not

-- the files in the order in which they are read
abbrev pub paging_order : List File
paging_order = Rules ∷ Pairings ∷ Duties ∷ Legs ∷ Crew ∷ History ∷ Fixed ∷ Bids ∷ Roster ∷ Reasons ∷ []

-- the inputs, the roster and the reasons, as they are read
abbrev pub seen_texts : Seen → Entries
seen_texts seen = input_texts seen.inputs ++ (name_of Roster, seen.roster) ∷ (name_of Reasons, seen.reasons) ∷ []

-- where not all were read, or memory was wanting, nothing is said
abbrev pub IsPageHanded : Entries → Entries → Result ℕ PageStop → Type 0
IsPageHanded old new (Ok members) = FromReads paging_order old new (OfSight (IsShown members))
IsPageHanded old new (Err (stop.Unread why)) = Unit {0}
IsPageHanded old new (Err (stop.BadInput why)) = FromReads paging_order old new (OfSight (StandsAgainst (stop.BadInput why)))
IsPageHanded old new (Err (stop.Roster fault)) = FromReads paging_order old new (OfSight (StandsAgainst (stop.Roster fault)))
IsPageHanded old new (Err (stop.Reasons fault)) = FromReads paging_order old new (OfSight (StandsAgainst (stop.Reasons fault)))
IsPageHanded old new (Err (stop.Unwritten why)) = FromReads paging_order old new (OfSight (λ seen. (members : ℕ) × IsShown members seen))
IsPageHanded old new (Err stop.NoMemory) = Unit {0}
