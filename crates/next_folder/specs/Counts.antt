-- Which changes of the counts of both shelves an end of `history` comes with.
use Rattle.std.specs.Prelude.{◌≡◌, ◌≤◌, Result, Ok, Err}
use Rattle.shelf.specs.declared.tally.Tally.{Tally}
use Rattle.month_files.specs.FileNames.{name_of}
use Rattle.month_files.specs.Reading.{UnreadCause}
use Rattle.month_files.specs.Writes.{IsStop, StopCause}
use Rattle.month_files.specs.declared.unread.Unread.{Unread}
use Rattle.next_folder.specs.declared.rolled.RolledOver.{RolledOver}
use Rattle.next_folder.specs.declared.barrier.Barrier.{Barrier}
use Rattle.next_folder.specs.declared.barrier.Barrier.TheVariants as bar
use Rattle.next_folder.specs.declared.stop.HistoryStop.{HistoryStop}
use Rattle.next_folder.specs.declared.stop.HistoryStop.TheVariants as stop

-- no count rose but that of files that are not there
pub record MayMiss (old new : Tally) : Type 0 where
  pub later : old.misses ≤ new.misses
  pub rest : new ≡ record old { misses = new.misses; last = new.last }

-- and then this came
pub record AfterMisses (old : Tally) (P : Tally → Type 0) : Type 0 where
  pub between : Tally
  pub missed : MayMiss old between
  pub came : P between

-- the next month's files may be missing
abbrev pub NextCause : {X : Type 0} → Tally → Tally → Result X Unread → Type 0
NextCause old new (Ok x) = MayMiss old new
NextCause old new (Err why) = AfterMisses old (λ t. UnreadCause t new why)

abbrev pub BarCause : Tally → Tally → Tally → Tally → Barrier → Type 0
BarCause old new others_old others_new (bar.Unread why) = UnreadCause old new why × (others_new ≡ others_old)
BarCause old new others_old others_new (bar.BadInput why) = (new ≡ old) × MayMiss others_old others_new
BarCause old new others_old others_new (bar.Roster fault) = (new ≡ old) × MayMiss others_old others_new
BarCause old new others_old others_new (bar.Incomplete why) = (new ≡ old) × MayMiss others_old others_new
BarCause old new others_old others_new bar.LastMonth = (new ≡ old) × MayMiss others_old others_new
BarCause old new others_old others_new (bar.NextUnread why) =
    (new ≡ old) × AfterMisses others_old (λ t. UnreadCause t others_new why)
BarCause old new others_old others_new (bar.NextRules fault) = (new ≡ old) × MayMiss others_old others_new
BarCause old new others_old others_new bar.OtherMonth = (new ≡ old) × MayMiss others_old others_new
BarCause old new others_old others_new (bar.NextMembers fault) = (new ≡ old) × MayMiss others_old others_new
BarCause old new others_old others_new bar.IsThere = (new ≡ old) × MayMiss others_old others_new
BarCause old new others_old others_new (bar.Heir why) = (new ≡ old) × MayMiss others_old others_new
BarCause old new others_old others_new (bar.TooLong f) = (new ≡ old) × MayMiss others_old others_new
BarCause old new others_old others_new bar.NoMemory = (new ≡ old) × MayMiss others_old others_new

abbrev pub PlanCause : Tally → Tally → Tally → Tally → Result RolledOver Barrier → Type 0
PlanCause old new others_old others_new (Ok made) = (new ≡ old) × MayMiss others_old others_new
PlanCause old new others_old others_new (Err why) = BarCause old new others_old others_new why

abbrev pub RollCause : Tally → Tally → Tally → Tally → Result RolledOver HistoryStop → Type 0
RollCause old new others_old others_new (Ok made) = (new ≡ old) × MayMiss others_old others_new
RollCause old new others_old others_new (Err (stop.Unwritten made u)) =
    (new ≡ old) × AfterMisses others_old (λ t. StopCause (name_of u.file) t others_new u.why)
RollCause old new others_old others_new (Err (stop.Barred why)) = BarCause old new others_old others_new why

-- what was planned is written, or its write stopped so
abbrev pub IsWritten : RolledOver → Tally → Tally → Result RolledOver HistoryStop → Type 0
IsWritten rolled old new (Ok made) = (made ≡ rolled) × (new ≡ old)
IsWritten rolled old new (Err (stop.Unwritten made u)) =
    (made ≡ rolled) × IsStop made.drafts u × StopCause (name_of u.file) old new u.why
IsWritten rolled old new (Err (stop.Barred why)) = ⊥
