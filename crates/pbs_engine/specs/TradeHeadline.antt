-- What an answer of `trade` says of the files of a folder: of the trades in them, and of the roster that they leave.
use Rattle.std.specs.Prelude.{◌≡◌, ◌≢◌, ◌≤◌, ℕ, List, length, Option, Some, Ok}
use Rattle.shelf.specs.Files.{Files, file}
use Rattle.shelf.specs.Logs.{Entries}
use Rattle.shelf.specs.Puts.{with_piece}
use Rattle.desk_commands.specs.Trade.{HasUntraded, trading_order}
use Rattle.desk_commands.specs.declared.trade_stop.Untraded.{Untraded}
use Rattle.month_commands.specs.Award.{OfMonth}
use Rattle.month_files.specs.FileNames.{name_of, limit_of}
use Rattle.month_files.specs.Handing.{FromReads}
use Rattle.month_files.specs.declared.file.File.TheVariants.{Roster as RosterFile, Trades as TradesFile}
use Rattle.roster_model.specs.Rosters.{IsComplete, scores_of}
use Rattle.roster_model.specs.declared.problem.Problem.{Problem}
use Rattle.roster_text.specs.RosterText.{roster_text}
use Rattle.trade_desk.specs.Desks.{IsDesk}
use Rattle.trade_desk.specs.Reading.{trades_in}
use Rattle.trade_desk.specs.declared.refusal.TradeVerdict.{TradeVerdict}
use Rattle.trade_desk.specs.declared.trade.Trade.{Trade}
use Rattle.answer_texts.specs.TradeTexts.{traded_text, untraded_text}
use Rattle.answer_texts.specs.declared.status.Status.{Status}
use Rattle.answer_texts.specs.declared.status.Status.TheVariants as status
use Rattle.pbs_engine.specs.AwardHeadline.{Tells}

-- The roster's file is the text of a complete roster, and the other file one of trades. The verdicts are theirs, each on
-- the roster that those before it left; and this roster they leave at last: it is complete and has these scores.
pub record AreTraded (files : Files) (verdicts : List TradeVerdict) (scores : List ℕ) (problem : Problem)
    (last : List (List ℕ)) : Type 0 where
  pub first : List (List ℕ)
  pub first_file : file files (name_of RosterFile) ≡ Some (roster_text problem first)
  pub first_complete : IsComplete problem first
  pub text : List ℕ
  pub trades_file : file files (name_of TradesFile) ≡ Some text
  pub trades : List Trade
  pub read : trades_in problem text ≡ Ok trades
  pub desk : IsDesk problem first trades last verdicts
  pub complete : IsComplete problem last
  pub scores_are : scores ≡ scores_of problem last

-- the roster's file is now the text of that roster, and each other file is as before
pub record DeskIsWritten (old new : Files) (verdicts : List TradeVerdict) (scores : List ℕ)
    (problem : Problem) : Type 0 where
  pub last : List (List ℕ)
  pub traded : AreTraded old verdicts scores problem last
  pub roster_file : file new (name_of RosterFile) ≡ Some (roster_text problem last)
  pub fits : length (roster_text problem last) ≤ limit_of RosterFile
  pub others : (name : List ℕ) → name ≢ name_of RosterFile → file new name ≡ file old name

pub record EndsTraded (old : Files) (new : Option Files) (before after : Option (List ℕ)) : Type 0 where
  pub verdicts : List TradeVerdict
  pub scores : List ℕ
  pub files : Tells new (λ files. OfMonth old (DeskIsWritten old files verdicts scores))
  pub put : after ≡ with_piece before (traded_text verdicts scores)

-- the roster's file is no complete roster's text, or the trades' file no text of trades
pub record EndsUntraded (old : Files) (new : Option Files) (before after : Option (List ℕ)) : Type 0 where
  pub why : Untraded
  pub untraded : HasUntraded old why
  pub same : new ≡ Some old
  pub put : after ≡ with_piece before (untraded_text why)

-- what a run of `trade` says by its status
abbrev pub Trades : Files → Option Files → Option (List ℕ) → Option (List ℕ) → Status → Type 0
Trades old new before after status.Done = EndsTraded old new before after
Trades old new before after status.No = EndsUntraded old new before after
Trades old new before after status.Usage = ⊥
Trades old new before after status.NoRoster = ⊥
Trades old new before after status.Budget = ⊥
Trades old new before after status.BadInput = new ≡ Some old
Trades old new before after status.Missing = new ≡ Some old
Trades old new before after status.ReadFault = new ≡ Some old
Trades old new before after status.TooLong = new ≡ Some old
Trades old new before after status.WriteFault = Unit {0}
Trades old new before after status.NoMemory = Unit {0}

-- ---- of the texts that reads handed in, be files told or not

-- trades with these verdicts, and a roster that they leave with these scores
abbrev pub HasDesk : Files → List TradeVerdict → List ℕ → Problem → Type 0
HasDesk files verdicts scores problem = (last : List (List ℕ)) × AreTraded files verdicts scores problem last

pub record ReadsTraded (old new : Entries) (before after : Option (List ℕ)) : Type 0 where
  pub verdicts : List TradeVerdict
  pub scores : List ℕ
  pub found : FromReads trading_order old new (λ files. OfMonth files (HasDesk files verdicts scores))
  pub put : after ≡ with_piece before (traded_text verdicts scores)

pub record ReadsUntraded (old new : Entries) (before after : Option (List ℕ)) : Type 0 where
  pub why : Untraded
  pub untraded : FromReads trading_order old new (λ files. HasUntraded files why)
  pub put : after ≡ with_piece before (untraded_text why)

abbrev pub TradesRead : Entries → Entries → Option (List ℕ) → Option (List ℕ) → Status → Type 0
TradesRead old new before after status.Done = ReadsTraded old new before after
TradesRead old new before after status.No = ReadsUntraded old new before after
TradesRead old new before after status.Usage = ⊥
TradesRead old new before after status.NoRoster = ⊥
TradesRead old new before after status.Budget = ⊥
TradesRead old new before after status.BadInput = Unit {0}
TradesRead old new before after status.Missing = Unit {0}
TradesRead old new before after status.ReadFault = Unit {0}
TradesRead old new before after status.TooLong = Unit {0}
TradesRead old new before after status.WriteFault = Unit {0}
TradesRead old new before after status.NoMemory = Unit {0}
