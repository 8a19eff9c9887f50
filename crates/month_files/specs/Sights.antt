-- What a command finds that reads the month and its roster.
use Rattle.std.specs.Prelude.{◌≡◌, ◌++◌, [], ◌∷◌, ℕ, List, Result, Ok, Vec}
use Rattle.std.specs.declared.alloc.Global.{Global}
use Rattle.shelf.specs.Files.{Files}
use Rattle.shelf.specs.Logs.{Entries}
use Rattle.roster_model.specs.declared.problem.Problem.{Problem}
use Rattle.month_files.specs.declared.fault.BadInput.{BadInput}
use Rattle.month_files.specs.declared.fault.BadInput.TheVariants as bad
use Rattle.month_files.specs.declared.fault.InputFault.{InputFault}
use Rattle.month_files.specs.declared.file.File.TheVariants.{Roster}
use Rattle.month_files.specs.declared.reading.Texts.{Texts}
use Rattle.month_files.specs.declared.unread.Unread.{Unread}
use Rattle.month_files.specs.FileNames.{name_of}
use Rattle.month_files.specs.Handing.{input_texts}
use Rattle.month_files.specs.Months.{Names, HasFault}
use Rattle.month_files.specs.Reading.{◌>>=◌, Inputs, view_texts, text_in, texts_in}

-- the inputs and the roster, in the order in which they are read
pub record Seen : Type 0 where
  pub inputs : Inputs
  pub roster : List ℕ

unfoldable pub seen_in : Files → Result Seen Unread
seen_in files = do
  inputs ← texts_in files
  roster ← text_in files Roster
  Ok (record { inputs = inputs; roster = roster })

abbrev pub view_seen : Texts × Vec ℕ Global → Seen
view_seen x = record { inputs = view_texts x.0; roster = x.1.items }

-- ---- what the texts are

-- the inputs have this first fault
pub record HasBadSight (files : Files) (fault : InputFault) : Type 0 where
  pub seen : Seen
  pub read : seen_in files ≡ Ok seen
  pub bad : HasFault seen.inputs fault

abbrev pub IsBadSight : Files → BadInput → Type 0
IsBadSight files (bad.Fault fault) = HasBadSight files fault
IsBadSight files bad.NoMemory = Unit {0}

-- the inputs name a problem, and of it and the text of the roster's file P holds
pub record OfSight (files : Files) (P : Problem → List ℕ → Type 0) : Type 0 where
  pub seen : Seen
  pub read : seen_in files ≡ Ok seen
  pub problem : Problem
  pub names : Names seen.inputs problem
  pub found : P problem seen.roster

-- the inputs and the roster, as they are read
abbrev pub seen_texts : Seen → Entries
seen_texts seen = input_texts seen.inputs ++ (name_of Roster, seen.roster) ∷ []
