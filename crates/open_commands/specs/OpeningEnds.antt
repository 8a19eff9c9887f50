-- What the end of the search of `open` becomes, and which changes of the shelf's counts and which files an end of the
-- command comes with.
use Rattle.std.specs.Prelude.{◌≡◌, Result, Ok, Err}
use Rattle.shelf.specs.declared.tally.Tally.{Tally}
use Rattle.month_files.specs.FileNames.{name_of}
use Rattle.month_files.specs.Reading.{UnreadCause}
use Rattle.month_files.specs.Writes.{Written, nothing_written, written, StopCause}
use Rattle.open_commands.specs.declared.open_stop.OpenFinding.{OpenFinding}
use Rattle.open_commands.specs.declared.open_stop.OpenMiss.{OpenMiss}
use Rattle.open_commands.specs.declared.open_stop.OpenMiss.TheVariants as miss
use Rattle.open_commands.specs.declared.open_stop.OpenStop.{OpenStop}
use Rattle.open_commands.specs.declared.open_stop.OpenStop.TheVariants as stop

abbrev pub miss_end : OpenMiss → OpenStop
miss_end (miss.No why) = stop.No why
miss_end (miss.Budget ledger) = stop.Budget ledger
miss_end miss.NoMemory = stop.NoMemory

-- which change of the shelf's counts an end comes with
abbrev pub OpenCause : Tally → Tally → Result OpenFinding OpenStop → Type 0
OpenCause old new (Ok f) = new ≡ old
OpenCause old new (Err (stop.Unread why)) = UnreadCause old new why
OpenCause old new (Err (stop.BadInput why)) = new ≡ old
OpenCause old new (Err (stop.No why)) = new ≡ old
OpenCause old new (Err (stop.Budget ledger)) = new ≡ old
OpenCause old new (Err (stop.Unwritten f u)) = StopCause (name_of u.file) old new u.why
OpenCause old new (Err stop.NoMemory) = new ≡ old

-- the files that are written: all that say what was found, or those before the one that was not written
abbrev pub open_written : Result OpenFinding OpenStop → Written
open_written (Ok f) = written f.drafts (Ok tt)
open_written (Err (stop.Unread why)) = nothing_written
open_written (Err (stop.BadInput why)) = nothing_written
open_written (Err (stop.No why)) = nothing_written
open_written (Err (stop.Budget ledger)) = nothing_written
open_written (Err (stop.Unwritten f u)) = written f.drafts (Err u)
open_written (Err stop.NoMemory) = nothing_written
