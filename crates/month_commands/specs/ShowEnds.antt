-- What a fault of the roster's text becomes for `show`, and which changes of the shelf's counts an end comes with.
use Rattle.std.specs.Prelude.{◌≡◌, ℕ, List, Result, Ok, Err}
use Rattle.shelf.specs.declared.tally.Tally.{Tally}
use Rattle.month_files.specs.Reading.{UnreadCause}
use Rattle.roster_text.specs.declared.fault.RosterTextCode.{RosterTextCode}
use Rattle.roster_text.specs.declared.fault.RosterTextCode.TheVariants as text
use Rattle.roster_text.specs.declared.fault.RosterTextFault.{RosterTextFault}
use Rattle.month_commands.specs.declared.show_stop.ShowStop.{ShowStop}
use Rattle.month_commands.specs.declared.show_stop.ShowStop.TheVariants as stop
use Rattle.month_commands.specs.declared.show_stop.Unshown.TheVariants as unshown

abbrev pub unread_roster : RosterTextCode → RosterTextFault → ShowStop
unread_roster text.NoMemory fault = stop.NoMemory
unread_roster text.Header fault = stop.No (unshown.Roster fault)
unread_roster text.Shape fault = stop.No (unshown.Roster fault)
unread_roster text.Member fault = stop.No (unshown.Roster fault)
unread_roster text.Pairing fault = stop.No (unshown.Roster fault)
unread_roster text.Sums fault = stop.No (unshown.Roster fault)
unread_roster text.Rows fault = stop.No (unshown.Roster fault)

abbrev pub ShowCause : Tally → Tally → Result (List ℕ) ShowStop → Type 0
ShowCause old new (Ok view) = new ≡ old
ShowCause old new (Err (stop.Unread why)) = UnreadCause old new why
ShowCause old new (Err (stop.BadInput why)) = new ≡ old
ShowCause old new (Err (stop.No why)) = new ≡ old
ShowCause old new (Err stop.NoMemory) = new ≡ old
