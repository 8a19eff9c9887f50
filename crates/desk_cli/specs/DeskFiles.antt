-- Which files a command of the desk writes in the month's folder: those that it names, and no other.
use Rattle.std.specs.Prelude.{◌≡◌, List, ◌++◌, ℕ, Option, Some, codes, string_bytes}
use Rattle.std.specs.Option.{ForSome}
use Rattle.shelf.specs.Files.{Files, SameButAt, told_file}
use Rattle.month_files.specs.declared.file.File.{File}
use Rattle.month_files.specs.FileNames.{name_of}
use Rattle.desk_cli.specs.declared.words.DeskCommand.{DeskCommand}
use Rattle.desk_cli.specs.declared.words.DeskCommand.TheVariants as command

-- the file of the page of a pilot
unfoldable pub pilot_file : List ℕ → List ℕ
pilot_file name = (codes "pilot-" ++ name) ++ codes ".html"

-- each file but these two has stayed
pub record SameButAtTwo (first second : List ℕ) (old new : Option Files) : Type 0 where
  pub between : Option Files
  pub first_alone : SameButAt first old between
  pub second_alone : SameButAt second between new

-- where this file is there, it has stayed, and so has each other one
abbrev pub StaysIfThere : List ℕ → Option Files → Option Files → Type 0
StaysIfThere name old new = ForSome (told_file old name) (λ bytes. new ≡ old)

-- each file that is there has stayed
abbrev pub StayThere : Option Files → Option Files → Type 0
StayThere old new = (name : List ℕ) → ForSome (told_file old name) (λ bytes. told_file new name ≡ Some bytes)

-- each file but one of a month's has stayed
pub record SameButOne (old new : Option Files) : Type 0 where
  pub file : File
  pub others : SameButAt (name_of file) old new

abbrev pub Leaves : DeskCommand → Option Files → Option Files → Type 0
Leaves (command.Explain line) old new = new ≡ old
Leaves command.ExplainInput old new = new ≡ old
Leaves command.Lint old new = new ≡ old
Leaves command.Page old new = SameButAt (codes "month.html") old new
Leaves (command.PageSince other) old new = new ≡ old
Leaves (command.PilotPage name) old new = SameButAt (pilot_file (string_bytes name)) old new
Leaves command.Packet old new = SameButAt (codes "packet.html") old new
Leaves (command.Collect words) old new = new ≡ old
Leaves (command.Diff other) old new = new ≡ old
Leaves (command.Calendars since) old new = new ≡ old
Leaves (command.History words) old new = new ≡ old
Leaves (command.Import words) old new = new ≡ old
Leaves command.Report old new = SameButAtTwo (codes "report.html") (codes "report.csv") old new
Leaves command.Help old new = new ≡ old
Leaves command.Usage old new = new ≡ old
