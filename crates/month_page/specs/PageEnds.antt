-- What a fault of the roster's text and of the reasons' text becomes, and which counts and files an end comes with.
use Rattle.std.specs.Prelude.{◌≡◌, ℕ, List, Option, Result, Ok, Err, codes}
use Rattle.shelf.specs.Files.{Files, SameButAt}
use Rattle.shelf.specs.declared.tally.Tally.{Tally}
use Rattle.month_files.specs.Reading.{UnreadCause}
use Rattle.month_files.specs.Writes.{StopCause}
use Rattle.roster_text.specs.declared.reason_fault.ReasonTextCode.{ReasonTextCode}
use Rattle.roster_text.specs.declared.reason_fault.ReasonTextCode.TheVariants as reason
use Rattle.roster_text.specs.declared.reason_fault.ReasonTextFault.{ReasonTextFault}
use Rattle.roster_text.specs.declared.fault.RosterTextCode.{RosterTextCode}
use Rattle.roster_text.specs.declared.fault.RosterTextCode.TheVariants as text
use Rattle.roster_text.specs.declared.fault.RosterTextFault.{RosterTextFault}
use Rattle.month_page.specs.declared.page_stop.PageStop.{PageStop}
use Rattle.month_page.specs.declared.page_stop.PageStop.TheVariants as stop

-- the name of the page's file
abbrev pub page_name : List ℕ
page_name = codes "month.html"

abbrev pub roster_stop : RosterTextCode → RosterTextFault → PageStop
roster_stop text.NoMemory fault = stop.NoMemory
roster_stop text.Header fault = stop.Roster fault
roster_stop text.Shape fault = stop.Roster fault
roster_stop text.Member fault = stop.Roster fault
roster_stop text.Pairing fault = stop.Roster fault
roster_stop text.Sums fault = stop.Roster fault
roster_stop text.Rows fault = stop.Roster fault

abbrev pub reasons_stop : ReasonTextCode → ReasonTextFault → PageStop
reasons_stop reason.NoMemory fault = stop.NoMemory
reasons_stop reason.Shape fault = stop.Reasons fault
reasons_stop reason.Member fault = stop.Reasons fault
reasons_stop reason.Bid fault = stop.Reasons fault
reasons_stop reason.Place fault = stop.Reasons fault
reasons_stop reason.Text fault = stop.Reasons fault

-- which change of the shelf's counts an end comes with
abbrev pub PageCause : Tally → Tally → Result ℕ PageStop → Type 0
PageCause old new (Ok members) = new ≡ old
PageCause old new (Err (stop.Unread why)) = UnreadCause old new why
PageCause old new (Err (stop.BadInput why)) = new ≡ old
PageCause old new (Err (stop.Roster fault)) = new ≡ old
PageCause old new (Err (stop.Reasons fault)) = new ≡ old
PageCause old new (Err (stop.Unwritten why)) = StopCause page_name old new why
PageCause old new (Err stop.NoMemory) = new ≡ old

-- no file but the page's has changed, and that one only where all was read
abbrev pub PageLeaves : Option Files → Option Files → Result ℕ PageStop → Type 0
PageLeaves old new (Ok members) = SameButAt page_name old new
PageLeaves old new (Err (stop.Unread why)) = new ≡ old
PageLeaves old new (Err (stop.BadInput why)) = new ≡ old
PageLeaves old new (Err (stop.Roster fault)) = new ≡ old
PageLeaves old new (Err (stop.Reasons fault)) = new ≡ old
PageLeaves old new (Err (stop.Unwritten why)) = SameButAt page_name old new
PageLeaves old new (Err stop.NoMemory) = new ≡ old
