-- Whether the readers of a month take the text of a file, behind the files that they read before it.
use Rattle.std.specs.Prelude.{◌≡◌, ℕ, List, [], Result, Ok, Err, IsOk}
use Rattle.crew_files.specs.Files.{members_of}
use Rattle.duty_calendar.specs.declared.horizon.Horizon.{Horizon}
use Rattle.field_text.specs.declared.file_fault.FileCode.TheVariants.{Header}
use Rattle.field_text.specs.declared.file_fault.FileFault.{FileFault}
use Rattle.field_text.specs.declared.file_fault.FileName.{FileName}
use Rattle.field_text.specs.declared.file_fault.FileName.TheVariants.{Pairings, Duties, Legs, Crew, History, Fixed}
use Rattle.pairing_files.specs.Files.{pairings_of}

-- a file has no header
pub record LacksHeader (file : FileName) (fault : FileFault) : Type 0 where
  pub file_named : fault.file ≡ file
  pub code_named : fault.code ≡ Header

-- reading meets no fault before this file, which is empty
abbrev pub GetsTo : {A : Type 0} → FileName → Result A FileFault → Type 0
GetsTo file (Ok x) = Unit {0}
GetsTo file (Err fault) = LacksHeader file fault

-- the readers find no fault in this file's text, nor in those of the files before it, two at most
abbrev pub Takes : Horizon → FileName → List ℕ → List ℕ → List ℕ → Type 0
Takes h Pairings first second text = GetsTo Duties (pairings_of h text [] [])
Takes h Duties first second text = GetsTo Legs (pairings_of h first text [])
Takes h Legs first second text = IsOk (pairings_of h first second text)
Takes h Crew first second text = GetsTo History (members_of h text [] [])
Takes h History first second text = GetsTo Fixed (members_of h first text [])
Takes h Fixed first second text = IsOk (members_of h first second text)
