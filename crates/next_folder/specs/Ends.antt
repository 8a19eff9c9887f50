-- Which fault of which text comes as which end of `history`, which files are written, and what an end says of both folders.
use Rattle.std.specs.Prelude.{◌≡◌, ◌++◌, Bool, Result, Ok, Err}
use Rattle.field_text.specs.declared.file_fault.FileCode.{FileCode}
use Rattle.field_text.specs.declared.file_fault.FileCode.TheVariants as code
use Rattle.field_text.specs.declared.file_fault.FileFault.{FileFault}
use Rattle.line_legality.specs.declared.shortfall.RosterFault.{RosterFault}
use Rattle.line_legality.specs.declared.shortfall.RosterFault.TheVariants as shortfall
use Rattle.month_files.specs.Reading.{UnreadIs}
use Rattle.month_files.specs.Writes.{Written, IsStop, nothing_written, written}
use Rattle.month_files.specs.declared.unread.Unread.{Unread}
use Rattle.next_month.specs.declared.fault.HeirFault.{HeirFault}
use Rattle.next_month.specs.declared.fault.HeirFault.TheVariants as heir
use Rattle.roster_text.specs.declared.fault.RosterTextCode.{RosterTextCode}
use Rattle.roster_text.specs.declared.fault.RosterTextCode.TheVariants as text
use Rattle.roster_text.specs.declared.fault.RosterTextFault.{RosterTextFault}
use Rattle.rules_file.specs.declared.fault.RuleFault.{RuleFault}
use Rattle.rules_file.specs.declared.fault.RuleFault.TheVariants as rule
use Rattle.next_folder.specs.declared.rolled.RolledOver.{RolledOver}
use Rattle.next_folder.specs.declared.barrier.Barrier.{Barrier}
use Rattle.next_folder.specs.declared.barrier.Barrier.TheVariants as bar
use Rattle.next_folder.specs.declared.stop.HistoryStop.{HistoryStop}
use Rattle.next_folder.specs.declared.stop.HistoryStop.TheVariants as stop
use Rattle.next_folder.specs.Barred.{Bars}
use Rattle.next_folder.specs.Rolled.{HasRolled}
use Rattle.next_folder.specs.Texts.{Ours, Theirs, ours_in, ours_texts, theirs_in, theirs_texts}
use Rattle.shelf.specs.Files.{Files}
use Rattle.shelf.specs.Logs.{Entries}

abbrev pub unread_roster : RosterTextCode → RosterTextFault → Barrier
unread_roster text.NoMemory fault = bar.NoMemory
unread_roster text.Header fault = bar.Roster fault
unread_roster text.Shape fault = bar.Roster fault
unread_roster text.Member fault = bar.Roster fault
unread_roster text.Pairing fault = bar.Roster fault
unread_roster text.Sums fault = bar.Roster fault
unread_roster text.Rows fault = bar.Roster fault

abbrev pub incomplete_roster : RosterFault → Barrier
incomplete_roster shortfall.NoMemory = bar.NoMemory
incomplete_roster (shortfall.Line m why) = bar.Incomplete (shortfall.Line m why)
incomplete_roster (shortfall.Cover p count) = bar.Incomplete (shortfall.Cover p count)

abbrev pub heir_bar : HeirFault → Barrier
heir_bar heir.NoMemory = bar.NoMemory
heir_bar (heir.Overlap m) = bar.Heir (heir.Overlap m)
heir_bar (heir.LongHistory m) = bar.Heir (heir.LongHistory m)
heir_bar (heir.LongFixed m) = bar.Heir (heir.LongFixed m)

abbrev pub rule_bar : RuleFault → Barrier
rule_bar rule.NoMemory = bar.NoMemory
rule_bar rule.NotToml = bar.NextRules rule.NotToml
rule_bar (rule.MissingKey key) = bar.NextRules (rule.MissingKey key)
rule_bar (rule.UnknownKey key) = bar.NextRules (rule.UnknownKey key)
rule_bar (rule.Range key) = bar.NextRules (rule.Range key)

abbrev pub member_bar : FileFault → FileCode → Barrier
member_bar fault code.NoMemory = bar.NoMemory
member_bar fault code.Header = bar.NextMembers fault
member_bar fault code.Utf8 = bar.NextMembers fault
member_bar fault code.Width = bar.NextMembers fault
member_bar fault (code.Field column why) = bar.NextMembers fault
member_bar fault code.Duplicate = bar.NextMembers fault
member_bar fault code.Unknown = bar.NextMembers fault
member_bar fault code.Order = bar.NextMembers fault
member_bar fault code.OutsideMonth = bar.NextMembers fault
member_bar fault code.InnerRest = bar.NextMembers fault
member_bar fault (code.Limit number) = bar.NextMembers fault
member_bar fault code.Empty = bar.NextMembers fault

-- the files that are written: all drafts, those before the one whose write did not end well, or none
abbrev pub history_written : Result RolledOver HistoryStop → Written
history_written (Ok made) = written made.drafts (Ok tt)
history_written (Err (stop.Unwritten made u)) = written made.drafts (Err u)
history_written (Err (stop.Barred why)) = nothing_written

-- this holds of the texts in the two folders
pub record OverFolders (files others : Files) (P : Ours → Theirs → Type 0) : Type 0 where
  pub ours : Ours
  pub theirs : Theirs
  pub read : ours_in files ≡ Ok ours
  pub next_read : theirs_in others ≡ Ok theirs
  pub holds : P ours theirs

-- this holds of the texts that the reads of two folders handed in, each once and in order
pub record OverReads (old new others_old others_new : Entries) (P : Ours → Theirs → Type 0) : Type 0 where
  pub ours : Ours
  pub theirs : Theirs
  pub logged : new ≡ old ++ ours_texts ours
  pub next_logged : others_new ≡ others_old ++ theirs_texts theirs
  pub holds : P ours theirs

-- What an end says, where `over` says what holds of the texts of both months, and the others what is said where the texts of
-- this month, or those of the next one behind them, were not read.
abbrev pub IsBarred : ((Ours → Theirs → Type 0) → Type 0) → (Unread → Type 0) → (Unread → Type 0) → Bool → Barrier → Type 0
IsBarred over own others force (bar.Unread why) = own why
IsBarred over own others force (bar.BadInput why) = over (λ ours theirs. Bars ours theirs force (bar.BadInput why))
IsBarred over own others force (bar.Roster fault) = over (λ ours theirs. Bars ours theirs force (bar.Roster fault))
IsBarred over own others force (bar.Incomplete why) = over (λ ours theirs. Bars ours theirs force (bar.Incomplete why))
IsBarred over own others force bar.LastMonth = over (λ ours theirs. Bars ours theirs force bar.LastMonth)
IsBarred over own others force (bar.NextUnread why) = others why
IsBarred over own others force (bar.NextRules fault) = over (λ ours theirs. Bars ours theirs force (bar.NextRules fault))
IsBarred over own others force bar.OtherMonth = over (λ ours theirs. Bars ours theirs force bar.OtherMonth)
IsBarred over own others force (bar.NextMembers fault) = over (λ ours theirs. Bars ours theirs force (bar.NextMembers fault))
IsBarred over own others force bar.IsThere = over (λ ours theirs. Bars ours theirs force bar.IsThere)
IsBarred over own others force (bar.Heir why) = over (λ ours theirs. Bars ours theirs force (bar.Heir why))
IsBarred over own others force (bar.TooLong f) = over (λ ours theirs. Bars ours theirs force (bar.TooLong f))
IsBarred over own others force bar.NoMemory = Unit {0}

abbrev pub IsPlan : ((Ours → Theirs → Type 0) → Type 0) → (Unread → Type 0) → (Unread → Type 0) → Bool → Result RolledOver Barrier → Type 0
IsPlan over own others force (Ok made) = over (λ ours theirs. HasRolled ours theirs force made)
IsPlan over own others force (Err why) = IsBarred over own others force why

abbrev pub IsEnd : ((Ours → Theirs → Type 0) → Type 0) → (Unread → Type 0) → (Unread → Type 0) → Bool → Result RolledOver HistoryStop → Type 0
IsEnd over own others force (Ok made) = over (λ ours theirs. HasRolled ours theirs force made)
IsEnd over own others force (Err (stop.Unwritten made u)) =
    over (λ ours theirs. HasRolled ours theirs force made) × IsStop made.drafts u
IsEnd over own others force (Err (stop.Barred why)) = IsBarred over own others force why

-- this month's texts are read, and of those of the next one this is due
pub record IsNextUnread (files others : Files) (why : Unread) : Type 0 where
  pub ours : Ours
  pub read : ours_in files ≡ Ok ours
  pub due : UnreadIs why (theirs_in others)

-- over told files, and of the texts that reads handed in; where not all were read, nothing is said there
abbrev pub IsPlanOver : Files → Files → Bool → Result RolledOver Barrier → Type 0
IsPlanOver files others force r =
    IsPlan (OverFolders files others) (λ why. UnreadIs why (ours_in files)) (IsNextUnread files others) force r

abbrev pub IsPlanHanded : Entries → Entries → Entries → Entries → Bool → Result RolledOver Barrier → Type 0
IsPlanHanded old new others_old others_new force r =
    IsPlan (OverReads old new others_old others_new) (λ why. Unit {0}) (λ why. Unit {0}) force r

abbrev pub IsRolling : Files → Files → Bool → Result RolledOver HistoryStop → Type 0
IsRolling files others force r =
    IsEnd (OverFolders files others) (λ why. UnreadIs why (ours_in files)) (IsNextUnread files others) force r

abbrev pub IsRollingHanded : Entries → Entries → Entries → Entries → Bool → Result RolledOver HistoryStop → Type 0
IsRollingHanded old new others_old others_new force r =
    IsEnd (OverReads old new others_old others_new) (λ why. Unit {0}) (λ why. Unit {0}) force r
