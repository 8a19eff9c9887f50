-- The texts that `trade` reads, as its reads hand them in.
use Rattle.std.specs.Prelude.{◌≤◌, [], ◌∷◌, ◌++◌, length}
use Rattle.shelf.specs.Logs.{Entries}
use Rattle.month_files.specs.declared.file.File.TheVariants.{Roster, Trades}
use Rattle.month_files.specs.FileNames.{name_of, limit_of}
use Rattle.month_files.specs.Handing.{input_texts}
use Rattle.month_files.specs.Reading.{view_texts}
use Rattle.desk_commands.specs.declared.trading.TradeTexts.{TradeTexts}
use Rattle.desk_commands.specs.Trade.{Offered}

abbrev pub view_offered : TradeTexts → Offered
view_offered t = record { inputs = view_texts t.inputs; roster = t.roster.items; trades = t.trades.items }

-- each once, in the order in which they are read
abbrev pub offered_texts : Offered → Entries
offered_texts t = input_texts t.inputs ++ (name_of Roster, t.roster) ∷ (name_of Trades, t.trades) ∷ []

-- the roster and the trades are no longer than their limits
pub record AreBrief (t : Offered) : Type 0 where
  pub roster : length t.roster ≤ limit_of Roster
  pub trades : length t.trades ≤ limit_of Trades
