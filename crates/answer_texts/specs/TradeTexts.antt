-- How a run of `trade` ends, and what it prints.
use Rattle.std.specs.Prelude.{ℕ, ◌+◌, List, [], ◌∷◌, ◌++◌, codes, decimal, Result, Ok, Err}
use Rattle.cert_checker.specs.declared.refusal.No.TheVariants as no
use Rattle.line_legality.specs.Numbers.{illegal_numbers}
use Rattle.line_legality.specs.declared.shortfall.RosterFault.{RosterFault}
use Rattle.line_legality.specs.declared.shortfall.RosterFault.TheVariants as fault
use Rattle.roster_text.specs.Codes.{roster_code}
use Rattle.trade_desk.specs.Codes.{trade_code}
use Rattle.trade_desk.specs.declared.refusal.Refusal.{Refusal}
use Rattle.trade_desk.specs.declared.refusal.Refusal.TheVariants as refusal
use Rattle.trade_desk.specs.declared.refusal.TradeVerdict.{TradeVerdict}
use Rattle.trade_desk.specs.declared.refusal.TradeVerdict.TheVariants as verdict
use Rattle.desk_commands.specs.declared.trade_stop.TradeStop.{TradeStop}
use Rattle.desk_commands.specs.declared.trade_stop.TradeStop.TheVariants as stop
use Rattle.desk_commands.specs.declared.trade_stop.Traded.{Traded}
use Rattle.desk_commands.specs.declared.trade_stop.Untraded.{Untraded}
use Rattle.desk_commands.specs.declared.trade_stop.Untraded.TheVariants as untraded
use Rattle.answer_texts.specs.declared.status.Status.{Status}
use Rattle.answer_texts.specs.declared.status.Status.TheVariants as status
use Rattle.answer_texts.specs.CheckTexts.{no_text}
use Rattle.answer_texts.specs.Lines.{line, line_of}
use Rattle.answer_texts.specs.MonthEnds.{unread_status, unread_text, input_status, bad_input_text}
use Rattle.answer_texts.specs.WriteEnds.{write_status, unwritten_text}

abbrev pub trade_status : Result Traded TradeStop → Status
trade_status (Ok t) = status.Done
trade_status (Err (stop.Unread why)) = unread_status why
trade_status (Err (stop.BadInput why)) = input_status why
trade_status (Err (stop.No why)) = status.No
trade_status (Err (stop.Unwritten t u)) = write_status u.why
trade_status (Err stop.NoMemory) = status.NoMemory

-- a refusal as numbers: its code, then its arguments. Members and pairings count from 1.
abbrev pub refusal_numbers : Refusal → List ℕ
refusal_numbers refusal.NoMemory = 0 ∷ []
refusal_numbers refusal.SameMember = 1 ∷ []
refusal_numbers (refusal.NotHeld m p) = 2 ∷ (m + 1) ∷ (p + 1) ∷ []
refusal_numbers (refusal.Held m p) = 3 ∷ (m + 1) ∷ (p + 1) ∷ []
refusal_numbers (refusal.Line m why) = 4 ∷ (m + 1) ∷ illegal_numbers why

-- what became of the trade of this number
abbrev pub verdict_line : ℕ → TradeVerdict → List ℕ
verdict_line k verdict.Accepted = line (codes "trade " ++ decimal k ++ codes " ok")
verdict_line k (verdict.Refused why) = line_of (codes "trade") (k ∷ refusal_numbers why)

-- one line for each, numbered from here on
abbrev pub verdict_lines : ℕ → List TradeVerdict → List ℕ
verdict_lines k [] = []
verdict_lines k (v ∷ vs) = verdict_line k v ++ verdict_lines (k + 1) vs

-- the trades count from 1, and the scores stand behind them
abbrev pub traded_text : List TradeVerdict → List ℕ → List ℕ
traded_text verdicts scores = verdict_lines 1 verdicts ++ line_of (codes "vector") scores

-- a roster that is not complete has the line that `check` prints for it
abbrev pub shortfall_text : RosterFault → List ℕ
shortfall_text fault.NoMemory = line (codes "no" ++ no_text no.NoMemory)
shortfall_text (fault.Line m why) = line (codes "no" ++ no_text (no.Member m why))
shortfall_text (fault.Cover p count) = line (codes "no" ++ no_text (no.Cover p count))

abbrev pub untraded_text : Untraded → List ℕ
untraded_text (untraded.Roster why) = line_of (codes "no roster") (why.row ∷ roster_code why.code ∷ [])
untraded_text (untraded.Incomplete why) = shortfall_text why
untraded_text (untraded.Trades why) = line_of (codes "no trades") (why.line ∷ trade_code why.code ∷ [])

abbrev pub trade_text : Result Traded TradeStop → List ℕ
trade_text (Ok t) = traded_text t.verdicts t.scores
trade_text (Err (stop.Unread why)) = unread_text why
trade_text (Err (stop.BadInput why)) = bad_input_text why
trade_text (Err (stop.No why)) = untraded_text why
trade_text (Err (stop.Unwritten t u)) = unwritten_text u
trade_text (Err stop.NoMemory) = []
