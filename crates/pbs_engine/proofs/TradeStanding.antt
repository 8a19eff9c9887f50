-- What an end of `trade` says of the files before and after it, told or handed in.
use Rattle.std.proofs.Common.{◌≡◌, ℕ, List, map, Option, Some, Result, Ok, Err, refl, sym, ap, subst, ◌∙◌}
use Rattle.std.specs.FinMap.{insert}
use Rattle.shelf.specs.Files.{Files, file}
use Rattle.shelf.specs.Logs.{Entries}
use Rattle.shelf.specs.Puts.{with_piece}
use Rattle.command_words.specs.declared.command.Command.{Command}
use Rattle.command_words.specs.declared.command.Command.TheVariants as command
use Rattle.desk_commands.specs.Trade.{Offered, offered_in, HasTraded, IsTrading, IsTradingHanded, trading_order}
use Rattle.desk_commands.specs.TradeEnds.{trade_written}
use Rattle.desk_commands.specs.declared.trade_stop.Traded.{Traded}
use Rattle.desk_commands.specs.declared.trade_stop.TradeStop.{TradeStop}
use Rattle.desk_commands.specs.declared.trade_stop.TradeStop.TheVariants as stop
use Rattle.month_commands.specs.Award.{OfMonth}
use Rattle.month_files.specs.FileNames.{name_of}
use Rattle.month_files.specs.Reading.{◌>>=◌, text_in, texts_in}
use Rattle.month_files.specs.Writes.{Leaves, named_bytes, with_files, written}
use Rattle.month_files.specs.declared.fault.BadInput.TheVariants as bad
use Rattle.month_files.specs.declared.file.File.TheVariants.{Roster as RosterFile, Trades as TradesFile}
use Rattle.month_files.specs.declared.unread.Unread.{Unread}
use Rattle.month_files.specs.declared.unread.Unread.TheVariants as unread
use Rattle.month_files.specs.declared.writing.Draft.{Draft}
use Rattle.month_files.specs.declared.writing.WriteStop.{WriteStop}
use Rattle.month_files.specs.declared.writing.WriteStop.TheVariants as write
use Rattle.roster_text.specs.RosterText.{roster_text}
use Rattle.answer_texts.specs.TradeTexts.{trade_status, trade_text}
use Rattle.answer_texts.specs.WriteEnds.{write_status}
use Rattle.answer_texts.specs.declared.status.Status.{Status}
use Rattle.pbs_engine.specs.AwardHeadline.{Tells}
use Rattle.pbs_engine.specs.TradeHeadline.{AreTraded, DeskIsWritten, HasDesk, Trades, TradesRead}
use Rattle.pbs_engine.specs.Outcomes.{status_of, text_of, written_by, IsRight, IsHandedIn}
use Rattle.pbs_engine.specs.Runs.{Shelved, Sunk, ComesTo, Says}
use Rattle.pbs_engine.specs.declared.outcome.Outcome.{Outcome}
use Rattle.pbs_engine.specs.declared.outcome.Outcome.TheVariants as outcome
use Rattle.pbs_engine.proofs.Answering.{of_trade, said_by, on_reads}
use Rattle.pbs_engine.proofs.AwardStanding.{other_file, roster_stands}
use Rattle.pbs_engine.proofs.Standing.{bind_ok, there}

-- ---- the files that are read

pub record Reads (files : Files) (offered : Offered) : Type 0 where
  pub inputs : texts_in files ≡ Ok offered.inputs
  pub roster : text_in files RosterFile ≡ Ok offered.roster
  pub trades : text_in files TradesFile ≡ Ok offered.trades

offered_reads : (files : Files) (offered : Offered) → offered_in files ≡ Ok offered → Reads files offered
unfolding offered_in
offered_reads files offered e =
    let a = bind_ok (texts_in files) (λ inputs. text_in files RosterFile >>= λ roster. text_in files TradesFile >>= λ trades. Ok (record { inputs = inputs; roster = roster; trades = trades })) offered e in
    let b = bind_ok (text_in files RosterFile) (λ roster. text_in files TradesFile >>= λ trades. Ok (record { inputs = a.0; roster = roster; trades = trades })) offered a.2 in
    let d = bind_ok (text_in files TradesFile) (λ trades. Ok (record { inputs = a.0; roster = b.0; trades = trades })) offered b.2 in
    let whole : record { inputs = a.0; roster = b.0; trades = d.0 } ≡ offered = same_ok _ _ _ refl d.2 in
    record {
      inputs = a.1 ∙ ap (λ (o : Offered). Ok o.inputs) whole;
      roster = b.1 ∙ ap (λ (o : Offered). Ok o.roster) whole;
      trades = d.1 ∙ ap (λ (o : Offered). Ok o.trades) whole;
    }
  where
    same_ok : (r : Result Offered Unread) (x y : Offered) → r ≡ Ok x → r ≡ Ok y → x ≡ y
    same_ok r x y a b = cc

are_traded : (files : Files) (t : Traded) (h : HasTraded files t) → AreTraded files t.verdicts t.scores h.problem h.found.last
are_traded files t h =
    let reads = offered_reads files h.offered h.read in
    record {
      first = h.found.roster;
      first_file = there RosterFile (file files (name_of RosterFile)) h.offered.roster reads.roster ∙ ap (λ (text : List ℕ). Some text) h.found.before.read.1;
      first_complete = h.found.before.complete;
      text = h.offered.trades;
      trades_file = there TradesFile (file files (name_of TradesFile)) h.offered.trades reads.trades;
      trades = h.found.trades;
      read = h.found.listed;
      desk = h.found.desk;
      complete = h.found.complete;
      scores_are = h.found.scores_are;
    }

has_desk : (files : Files) (t : Traded) → HasTraded files t → OfMonth files (HasDesk files t.verdicts t.scores)
has_desk files t h = record {
  inputs = h.offered.inputs;
  read = (offered_reads files h.offered h.read).inputs;
  problem = h.problem;
  names = h.names;
  found = (h.found.last, are_traded files t h);
}

-- ---- the roster that is written

desk_left : (old : Files) (new : Option Files) (t : Traded) → HasTraded old t → Leaves (Some old) new (written t.drafts (Ok tt))
    → Tells new (λ files. OfMonth old (DeskIsWritten old files t.verdicts t.scores))
desk_left old new t h left =
    let bytes : List ℕ = roster_text h.problem h.found.last in
    record {
      files = insert old (name_of RosterFile) bytes;
      told = left ∙ ap (λ (ds : List Draft). with_files (Some old) (map named_bytes ds)) h.found.drafts_are;
      found = record {
        inputs = h.offered.inputs;
        read = (offered_reads old h.offered h.read).inputs;
        problem = h.problem;
        names = h.names;
        found = record {
          last = h.found.last;
          traded = are_traded old t h;
          roster_file = roster_stands old bytes;
          fits = h.found.readable.fits;
          others = λ name apart. other_file old (name_of RosterFile) bytes name apart;
        };
      };
    }

unwritten_trades : (old : Files) (new : Option Files) (why : WriteStop) (before after : Option (List ℕ)) → Trades old new before after (write_status why)
unwritten_trades old new write.Fault before after = tt
unwritten_trades old new write.NoMemory before after = tt

end_trades : (old : Files) (new : Option Files) (end : Result Traded TradeStop) → IsTrading old end → Leaves (Some old) new (trade_written end) → (before after : Option (List ℕ))
    → after ≡ with_piece before (trade_text end) → Trades old new before after (trade_status end)
end_trades old new (Ok t) right left before after put = record { verdicts = t.verdicts; scores = t.scores; files = desk_left old new t right left; put = put }
end_trades old new (Err (stop.Unread (unread.Missing f))) right left before after put = left
end_trades old new (Err (stop.Unread (unread.ReadFault f))) right left before after put = left
end_trades old new (Err (stop.Unread (unread.TooLong f))) right left before after put = left
end_trades old new (Err (stop.Unread unread.NoMemory)) right left before after put = tt
end_trades old new (Err (stop.BadInput (bad.Fault fault))) right left before after put = left
end_trades old new (Err (stop.BadInput bad.NoMemory)) right left before after put = tt
end_trades old new (Err (stop.No why)) right left before after put = record { why = why; untraded = right; same = left; put = put }
end_trades old new (Err (stop.Unwritten t u)) right left before after put = unwritten_trades old new u.why before after
end_trades old new (Err stop.NoMemory) right left before after put = tt

unwritten_read : (old new : Entries) (why : WriteStop) (before after : Option (List ℕ)) → TradesRead old new before after (write_status why)
unwritten_read old new write.Fault before after = tt
unwritten_read old new write.NoMemory before after = tt

end_read : (old new : Entries) (end : Result Traded TradeStop) → IsTradingHanded old new end → (before after : Option (List ℕ))
    → after ≡ with_piece before (trade_text end) → TradesRead old new before after (trade_status end)
end_read old new (Ok t) read before after put = record {
  verdicts = t.verdicts;
  scores = t.scores;
  found = on_reads trading_order old new _ _ read (λ files h. has_desk files t h);
  put = put;
}
end_read old new (Err (stop.Unread (unread.Missing f))) read before after put = tt
end_read old new (Err (stop.Unread (unread.ReadFault f))) read before after put = tt
end_read old new (Err (stop.Unread (unread.TooLong f))) read before after put = tt
end_read old new (Err (stop.Unread unread.NoMemory)) read before after put = tt
end_read old new (Err (stop.BadInput (bad.Fault fault))) read before after put = tt
end_read old new (Err (stop.BadInput bad.NoMemory)) read before after put = tt
end_read old new (Err (stop.No why)) read before after put = record { why = why; untraded = read; put = put }
end_read old new (Err (stop.Unwritten t u)) read before after put = unwritten_read old new u.why before after
end_read old new (Err stop.NoMemory) read before after put = tt

module _ (c : Option Command) (files : Files) (at to : Shelved) (before after : Sunk) where
  whole : (o : Outcome) (end : Result Traded TradeStop) → o ≡ outcome.Trade end → IsRight files o → Leaves (Some files) to.files (written_by o)
      → after.bytes ≡ with_piece before.bytes (text_of o) → Trades files to.files before.bytes after.bytes (status_of o)
  whole o end e =
      subst (λ (x : Outcome). IsRight files x → Leaves (Some files) to.files (written_by x) → after.bytes ≡ with_piece before.bytes (text_of x)
      → Trades files to.files before.bytes after.bytes (status_of x)) (sym e)
      (λ right left put. end_trades files to.files end right left before.bytes after.bytes put)

  pub run_trades : (o : Outcome) (result : Status) → ComesTo c at to o → at.files ≡ Some files → c ≡ Some command.Trade
      → Says o before after result → Trades files to.files before.bytes after.bytes result
  run_trades o result comes told asked says =
      let t = of_trade o (sym comes.asked ∙ asked) in
      said_by (λ (s : Status). Trades files to.files before.bytes after.bytes s) o before after result tt tt
      (whole o t.0 t.1 (comes.right files told) (subst (λ (held : Option Files). Leaves held to.files (written_by o)) told comes.left)) says

module _ (c : Option Command) (at to : Shelved) (before after : Sunk) where
  whole_read : (o : Outcome) (end : Result Traded TradeStop) → o ≡ outcome.Trade end → IsHandedIn at.log to.log o
      → after.bytes ≡ with_piece before.bytes (text_of o) → TradesRead at.log to.log before.bytes after.bytes (status_of o)
  whole_read o end e =
      subst (λ (x : Outcome). IsHandedIn at.log to.log x → after.bytes ≡ with_piece before.bytes (text_of x)
      → TradesRead at.log to.log before.bytes after.bytes (status_of x)) (sym e)
      (λ read put. end_read at.log to.log end read before.bytes after.bytes put)

  pub run_trades_read : (o : Outcome) (result : Status) → ComesTo c at to o → c ≡ Some command.Trade
      → Says o before after result → TradesRead at.log to.log before.bytes after.bytes result
  run_trades_read o result comes asked says =
      let t = of_trade o (sym comes.asked ∙ asked) in
      said_by (λ (s : Status). TradesRead at.log to.log before.bytes after.bytes s) o before after result tt tt
      (whole_read o t.0 t.1 comes.handed) says
