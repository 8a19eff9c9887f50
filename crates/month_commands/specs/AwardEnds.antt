-- What the end of the search of `award` becomes, and which changes of the shelf's counts and which files an end of the
-- command comes with.
use Rattle.std.specs.Prelude.{◌≡◌, Result, Ok, Err}
use Rattle.shelf.specs.declared.tally.Tally.{Tally}
use Rattle.month_files.specs.FileNames.{name_of}
use Rattle.month_files.specs.Reading.{UnreadCause}
use Rattle.month_files.specs.Writes.{Written, nothing_written, written, StopCause}
use Rattle.month_commands.specs.declared.award_stop.AwardStop.{AwardStop}
use Rattle.month_commands.specs.declared.award_stop.AwardStop.TheVariants as stop
use Rattle.month_commands.specs.declared.award_stop.Finding.{Finding}
use Rattle.month_commands.specs.declared.award_stop.Miss.{Miss}
use Rattle.month_commands.specs.declared.award_stop.Miss.TheVariants as miss

abbrev pub miss_stop : Miss → AwardStop
miss_stop (miss.Budget ledger) = stop.Budget ledger
miss_stop miss.NoMemory = stop.NoMemory

-- which change of the shelf's counts an end comes with
abbrev pub AwardCause : Tally → Tally → Result Finding AwardStop → Type 0
AwardCause old new (Ok f) = new ≡ old
AwardCause old new (Err (stop.Unread why)) = UnreadCause old new why
AwardCause old new (Err (stop.BadInput why)) = new ≡ old
AwardCause old new (Err (stop.Budget ledger)) = new ≡ old
AwardCause old new (Err (stop.Unwritten f u)) = StopCause (name_of u.file) old new u.why
AwardCause old new (Err stop.NoMemory) = new ≡ old

-- the files that are written: all that say what was found, or those before the one that was not written
abbrev pub award_written : Result Finding AwardStop → Written
award_written (Ok f) = written f.drafts (Ok tt)
award_written (Err (stop.Unread why)) = nothing_written
award_written (Err (stop.BadInput why)) = nothing_written
award_written (Err (stop.Budget ledger)) = nothing_written
award_written (Err (stop.Unwritten f u)) = written f.drafts (Err u)
award_written (Err stop.NoMemory) = nothing_written
