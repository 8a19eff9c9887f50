-- What the faults of the roster and of the trades become for `trade`, and which changes of the shelf's counts and which
-- files an end comes with.
use Rattle.std.specs.Prelude.{◌≡◌, Result, Ok, Err}
use Rattle.line_legality.specs.declared.shortfall.RosterFault.{RosterFault}
use Rattle.line_legality.specs.declared.shortfall.RosterFault.TheVariants as shortfall
use Rattle.shelf.specs.declared.tally.Tally.{Tally}
use Rattle.month_files.specs.FileNames.{name_of}
use Rattle.month_files.specs.Reading.{UnreadCause}
use Rattle.month_files.specs.Writes.{Written, nothing_written, written, StopCause}
use Rattle.roster_text.specs.declared.fault.RosterTextCode.{RosterTextCode}
use Rattle.roster_text.specs.declared.fault.RosterTextCode.TheVariants as text
use Rattle.roster_text.specs.declared.fault.RosterTextFault.{RosterTextFault}
use Rattle.trade_desk.specs.declared.fault.TradeCode.{TradeCode}
use Rattle.trade_desk.specs.declared.fault.TradeCode.TheVariants as code
use Rattle.trade_desk.specs.declared.fault.TradeFault.{TradeFault}
use Rattle.desk_commands.specs.declared.trade_stop.TradeStop.{TradeStop}
use Rattle.desk_commands.specs.declared.trade_stop.TradeStop.TheVariants as stop
use Rattle.desk_commands.specs.declared.trade_stop.Traded.{Traded}
use Rattle.desk_commands.specs.declared.trade_stop.Untraded.TheVariants as untraded

abbrev pub unread_roster : RosterTextCode → RosterTextFault → TradeStop
unread_roster text.NoMemory fault = stop.NoMemory
unread_roster text.Header fault = stop.No (untraded.Roster fault)
unread_roster text.Shape fault = stop.No (untraded.Roster fault)
unread_roster text.Member fault = stop.No (untraded.Roster fault)
unread_roster text.Pairing fault = stop.No (untraded.Roster fault)
unread_roster text.Sums fault = stop.No (untraded.Roster fault)
unread_roster text.Rows fault = stop.No (untraded.Roster fault)

abbrev pub incomplete_roster : RosterFault → TradeStop
incomplete_roster shortfall.NoMemory = stop.NoMemory
incomplete_roster (shortfall.Line m why) = stop.No (untraded.Incomplete (shortfall.Line m why))
incomplete_roster (shortfall.Cover p count) = stop.No (untraded.Incomplete (shortfall.Cover p count))

abbrev pub unread_trades : TradeCode → TradeFault → TradeStop
unread_trades code.NoMemory fault = stop.NoMemory
unread_trades code.Shape fault = stop.No (untraded.Trades fault)
unread_trades code.Member fault = stop.No (untraded.Trades fault)
unread_trades code.Pairing fault = stop.No (untraded.Trades fault)
unread_trades code.Limit fault = stop.No (untraded.Trades fault)

-- which change of the shelf's counts an end comes with
abbrev pub TradeCause : Tally → Tally → Result Traded TradeStop → Type 0
TradeCause old new (Ok t) = new ≡ old
TradeCause old new (Err (stop.Unread why)) = UnreadCause old new why
TradeCause old new (Err (stop.BadInput why)) = new ≡ old
TradeCause old new (Err (stop.No why)) = new ≡ old
TradeCause old new (Err (stop.Unwritten t u)) = StopCause (name_of u.file) old new u.why
TradeCause old new (Err stop.NoMemory) = new ≡ old

-- the file that is written: where there are verdicts the roster's, unless its write did not end well
abbrev pub trade_written : Result Traded TradeStop → Written
trade_written (Ok t) = written t.drafts (Ok tt)
trade_written (Err (stop.Unread why)) = nothing_written
trade_written (Err (stop.BadInput why)) = nothing_written
trade_written (Err (stop.No why)) = nothing_written
trade_written (Err (stop.Unwritten t u)) = written t.drafts (Err u)
trade_written (Err stop.NoMemory) = nothing_written
