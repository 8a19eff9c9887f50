-- What a run leaves of the files of a shelf.
use Rattle.std.specs.Prelude.{◌≡◌, ℕ, List, [], ◌∷◌, map, take, slice_get, Option, Some, None, Result, Ok, Err}
use Rattle.shelf.specs.Files.{Files, SameButAt, with_file}
use Rattle.shelf.specs.Tallies.{WriteFails, Wants}
use Rattle.shelf.specs.declared.tally.Tally.{Tally}
use Rattle.month_files.specs.FileNames.{name_of}
use Rattle.month_files.specs.declared.writing.Draft.{Draft}
use Rattle.month_files.specs.declared.writing.Unwritten.{Unwritten}
use Rattle.month_files.specs.declared.writing.WriteStop.{WriteStop}
use Rattle.month_files.specs.declared.writing.WriteStop.TheVariants as stop

-- the files that a run wrote whole, in their order, and one whose write did not end well
pub record Written : Type 0 where
  pub whole : List (List ℕ × List ℕ)
  pub torn : Option (List ℕ)

abbrev pub nothing_written : Written
nothing_written = record { whole = []; torn = None }

-- the files after these were given these bytes, one after the other
abbrev pub with_files : Option Files → List (List ℕ × List ℕ) → Option Files
with_files told [] = told
with_files told (x ∷ xs) = with_files (with_file told x.0 x.1) xs

-- the written files hold their bytes, the torn one anything, and the others what they held
abbrev pub IsLeft : Option Files → Option Files → Option (List ℕ) → Type 0
IsLeft due new None = new ≡ due
IsLeft due new (Some name) = SameButAt name due new

abbrev pub Leaves : Option Files → Option Files → Written → Type 0
Leaves old new written = IsLeft (with_files old written.whole) new written.torn

-- ---- writing files in order

-- a file's name and the bytes that it is to hold
abbrev pub named_bytes : Draft → List ℕ × List ℕ
named_bytes d = (name_of d.file, d.bytes)

-- all were written, or those before the one whose write did not end well
abbrev pub written : List Draft → Result (Unit {0}) Unwritten → Written
written drafts (Ok _) = record { whole = map named_bytes drafts; torn = None }
written drafts (Err u) = record { whole = map named_bytes (take u.before drafts); torn = Some (name_of u.file) }

-- the one whose write did not end well stands behind those that were written
pub record IsStop (drafts : List Draft) (u : Unwritten) : Type 0 where
  pub draft : Draft
  pub there : slice_get drafts u.before ≡ Some draft
  pub its_file : u.file ≡ draft.file

-- which change of the shelf's counts a write comes with that did not end well
abbrev pub StopCause : List ℕ → Tally → Tally → WriteStop → Type 0
StopCause name old new stop.Fault = WriteFails name old new
StopCause name old new stop.NoMemory = Wants name old new

abbrev pub FileCause : List ℕ → Tally → Tally → Result (Unit {0}) WriteStop → Type 0
FileCause name old new (Ok _) = new ≡ old
FileCause name old new (Err why) = StopCause name old new why

abbrev pub WritesCause : Tally → Tally → Result (Unit {0}) Unwritten → Type 0
WritesCause old new (Ok _) = new ≡ old
WritesCause old new (Err u) = StopCause (name_of u.file) old new u.why
