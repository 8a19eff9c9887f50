-- What `show` finds in the files of a folder: the month of a member.
use Rattle.std.specs.Prelude.{◌≡◌, [], ◌∷◌, ℕ, List, Some, None, Result, Ok, Err}
use Rattle.shelf.specs.Files.{Files}
use Rattle.shelf.specs.Logs.{Entries}
use Rattle.roster_model.specs.declared.problem.Problem.{Problem}
use Rattle.month_files.specs.declared.file.File.{File}
use Rattle.month_files.specs.declared.file.File.TheVariants.{Rules, Pairings, Duties, Legs, Crew, History, Fixed, Bids, Roster}
use Rattle.month_files.specs.Handing.{FromReads}
use Rattle.month_files.specs.Reading.{UnreadIs}
use Rattle.month_files.specs.Sights.{seen_in, IsBadSight, OfSight}
use Rattle.roster_text.specs.MonthText.{month_text}
use Rattle.roster_text.specs.ReasonWords.{member_named}
use Rattle.roster_text.specs.RosterFaults.{HasFault as HasRosterFault}
use Rattle.roster_text.specs.RosterText.{IsTextOf}
use Rattle.month_commands.specs.declared.show_stop.ShowStop.{ShowStop}
use Rattle.month_commands.specs.declared.show_stop.ShowStop.TheVariants as stop
use Rattle.month_commands.specs.declared.show_stop.Unshown.{Unshown}
use Rattle.month_commands.specs.declared.show_stop.Unshown.TheVariants as unshown

-- the text is that of a roster, and no member has the name
pub record NamesNobody (name : List ℕ) (problem : Problem) (text : List ℕ) : Type 0 where
  pub roster : List (List ℕ)
  pub read : IsTextOf problem text roster
  pub nobody : member_named problem name ≡ None

-- the text is that of a roster, and this is the month in it of the member with the name
pub record IsView (name view : List ℕ) (problem : Problem) (text : List ℕ) : Type 0 where
  pub roster : List (List ℕ)
  pub read : IsTextOf problem text roster
  pub member : ℕ
  pub named : member_named problem name ≡ Some member
  pub view_is : view ≡ month_text problem roster member

-- ---- what `show` answers

abbrev pub IsShown : Files → List ℕ → List ℕ → Type 0
IsShown files name view = OfSight files (IsView name view)

abbrev pub IsUnshown : Files → List ℕ → Unshown → Type 0
IsUnshown files name (unshown.Roster fault) = OfSight files (λ problem text. HasRosterFault problem text fault)
IsUnshown files name unshown.Member = OfSight files (NamesNobody name)

abbrev pub IsShow : Files → List ℕ → Result (List ℕ) ShowStop → Type 0
IsShow files name (Ok view) = IsShown files name view
IsShow files name (Err (stop.Unread why)) = UnreadIs why (seen_in files)
IsShow files name (Err (stop.BadInput why)) = IsBadSight files why
IsShow files name (Err (stop.No why)) = IsUnshown files name why
IsShow files name (Err stop.NoMemory) = Unit {0}

-- ---- of the texts that reads handed in, be files told or not

-- the files in the order in which `show` reads them
abbrev pub showing_order : List File
showing_order = Rules ∷ Pairings ∷ Duties ∷ Legs ∷ Crew ∷ History ∷ Fixed ∷ Bids ∷ Roster ∷ []

-- where not all were read, or memory was wanting, nothing is said
abbrev pub IsShowHanded : Entries → Entries → List ℕ → Result (List ℕ) ShowStop → Type 0
IsShowHanded old new name (Ok view) = FromReads showing_order old new (λ files. IsShown files name view)
IsShowHanded old new name (Err (stop.Unread why)) = Unit {0}
IsShowHanded old new name (Err (stop.BadInput why)) = FromReads showing_order old new (λ files. IsBadSight files why)
IsShowHanded old new name (Err (stop.No why)) = FromReads showing_order old new (λ files. IsUnshown files name why)
IsShowHanded old new name (Err stop.NoMemory) = Unit {0}
