-- What an end of `trade` says, which way leads to it, and which counts it speaks of.
use Rattle.std.proofs.Common.{◌≡◌, ℕ, Result, Ok, Err, inl, inr, refl}
use Rattle.std.specs.Prelude.{◌⊎◌}
use Rattle.shelf.specs.Files.{Files}
use Rattle.shelf.specs.declared.tally.Tally.{Tally}
use Rattle.command_words.specs.declared.command.Command.TheVariants as command
use Rattle.desk_commands.specs.Trade.{IsTrading}
use Rattle.desk_commands.specs.TradeEnds.{TradeCause}
use Rattle.desk_commands.specs.declared.trade_stop.Traded.{Traded}
use Rattle.desk_commands.specs.declared.trade_stop.TradeStop.{TradeStop}
use Rattle.desk_commands.specs.declared.trade_stop.TradeStop.TheVariants as stop
use Rattle.month_files.specs.FileNames.{name_of}
use Rattle.month_files.specs.declared.fault.BadInput.TheVariants as bad
use Rattle.month_files.specs.declared.unread.Unread.TheVariants as unread
use Rattle.answer_texts.specs.TradeTexts.{trade_status}
use Rattle.answer_texts.specs.declared.status.Status.TheVariants as status
use Rattle.pbs_engine.specs.Rows.{IsQuiet}
use Rattle.pbs_engine.specs.Runs.{RunCause}
use Rattle.pbs_engine.proofs.AwardRows.{unwritten_caused}
use Rattle.pbs_engine.proofs.Meaning.{CommandMeans}
use Rattle.pbs_engine.proofs.Settled.{settled, unwritten_way, unwritten_means}
use Rattle.pbs_engine.proofs.TradeWays.{TradePath, traded_path, untraded_path, bad_offer_path, unread_offer_path}

pub trade_means : (files : Files) (end : Result Traded TradeStop) → IsTrading files end → CommandMeans files command.Trade (trade_status end)
trade_means files (Ok t) h = inl (inr (t, h))
trade_means files (Err (stop.Unread (unread.Missing f))) h = (f, h)
trade_means files (Err (stop.Unread (unread.ReadFault f))) h = tt
trade_means files (Err (stop.Unread (unread.TooLong f))) h = (f, h)
trade_means files (Err (stop.Unread unread.NoMemory)) h = tt
trade_means files (Err (stop.BadInput (bad.Fault fault))) h = (fault, h)
trade_means files (Err (stop.BadInput bad.NoMemory)) h = tt
trade_means files (Err (stop.No why)) h = (why, h)
trade_means files (Err (stop.Unwritten t u)) h = unwritten_means files command.Trade u.why
trade_means files (Err stop.NoMemory) h = tt

module _ (old new : Tally) (before after : ℕ) where
  pub trade_way : (files : Files) (end : Result Traded TradeStop) → IsQuiet old new before after → IsTrading files end → TradeCause old new end
      → TradePath files (settled (trade_status end)) ⊎ (trade_status end ≡ status.NoMemory)
  trade_way files (Ok t) quiet h cause = inl (traded_path files t h)
  trade_way files (Err (stop.Unread (unread.Missing f))) quiet h cause = inl (unread_offer_path files (unread.Missing f) h)
  trade_way files (Err (stop.Unread (unread.ReadFault f))) quiet h cause = absurd (quiet.reads cause.rose)
  trade_way files (Err (stop.Unread (unread.TooLong f))) quiet h cause = inl (unread_offer_path files (unread.TooLong f) h)
  trade_way files (Err (stop.Unread unread.NoMemory)) quiet h cause = inr refl
  trade_way files (Err (stop.BadInput (bad.Fault fault))) quiet h cause = inl (bad_offer_path files fault h)
  trade_way files (Err (stop.BadInput bad.NoMemory)) quiet h cause = inr refl
  trade_way files (Err (stop.No why)) quiet h cause = inl (untraded_path files why h)
  trade_way files (Err (stop.Unwritten t u)) quiet h cause = unwritten_way (TradePath files) u.why (traded_path files t h.found)
  trade_way files (Err stop.NoMemory) quiet h cause = inr refl

  pub trade_caused : (end : Result Traded TradeStop) → TradeCause old new end → after ≡ before → RunCause old new before after (trade_status end)
  trade_caused (Ok t) cause put = (cause, put)
  trade_caused (Err (stop.Unread (unread.Missing f))) cause put = cause.rose
  trade_caused (Err (stop.Unread (unread.ReadFault f))) cause put = cause.rose
  trade_caused (Err (stop.Unread (unread.TooLong f))) cause put = cause.rose
  trade_caused (Err (stop.Unread unread.NoMemory)) cause put = tt
  trade_caused (Err (stop.BadInput (bad.Fault fault))) cause put = (cause, put)
  trade_caused (Err (stop.BadInput bad.NoMemory)) cause put = tt
  trade_caused (Err (stop.No why)) cause put = (cause, put)
  trade_caused (Err (stop.Unwritten t u)) cause put = unwritten_caused old new before after (name_of u.file) u.why cause
  trade_caused (Err stop.NoMemory) cause put = tt
