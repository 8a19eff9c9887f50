-- Which changes of the shelf's counts and which files an end of `make` comes with.
use Rattle.std.specs.Prelude.{◌≡◌, List, Result, Ok, Err}
use Rattle.shelf.specs.declared.tally.Tally.{Tally}
use Rattle.month_files.specs.FileNames.{name_of}
use Rattle.month_files.specs.Writes.{Written, nothing_written, written, StopCause}
use Rattle.month_files.specs.declared.writing.Draft.{Draft}
use Rattle.month_commands.specs.declared.make_stop.MakeStop.{MakeStop}
use Rattle.month_commands.specs.declared.make_stop.MakeStop.TheVariants as stop

-- which change of the shelf's counts an end comes with
abbrev pub MakeCause : Tally → Tally → Result (List Draft) MakeStop → Type 0
MakeCause old new (Ok drafts) = new ≡ old
MakeCause old new (Err (stop.Unwritten drafts u)) = StopCause (name_of u.file) old new u.why
MakeCause old new (Err stop.NoMemory) = new ≡ old

-- the files that are written: all of the month, or those before the one that was not written
abbrev pub make_written : Result (List Draft) MakeStop → Written
make_written (Ok drafts) = written drafts (Ok tt)
make_written (Err (stop.Unwritten drafts u)) = written drafts (Err u)
make_written (Err stop.NoMemory) = nothing_written
