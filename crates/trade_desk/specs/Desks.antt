-- Trades taken in order, each on the roster that those before it left.
use Rattle.std.specs.Prelude.{◌≡◌, ℕ, List, [], ◌∷◌, take}
use Rattle.roster_model.specs.declared.problem.Problem.{Problem}
use Rattle.roster_model.specs.Rosters.{IsComplete}
use Rattle.trade_desk.specs.declared.trade.Trade.{Trade}
use Rattle.trade_desk.specs.declared.refusal.TradeVerdict.{TradeVerdict}
use Rattle.trade_desk.specs.declared.refusal.TradeVerdict.TheVariants.{Accepted, Refused}
use Rattle.trade_desk.specs.Trades.{traded, IsAllowed}
use Rattle.trade_desk.specs.Refusals.{IsFirstRefusal}

abbrev pub Lines : Type 0
Lines = List (List ℕ)

-- an allowed trade replaces the roster, and another leaves it
abbrev pub after : Lines → Trade → TradeVerdict → Lines
after roster trade Accepted = traded roster trade
after roster trade (Refused why) = roster

-- what trades with these verdicts leave
abbrev pub left : Lines → List Trade → List TradeVerdict → Lines
left roster [] verdicts = roster
left roster (t ∷ ts) [] = roster
left roster (t ∷ ts) (v ∷ vs) = left (after roster t v) ts vs

-- a trade is accepted where it is allowed, and else refused for the first reason
abbrev pub IsVerdict : Problem → Lines → Trade → TradeVerdict → Type 0
IsVerdict problem roster trade Accepted = IsAllowed problem roster trade
IsVerdict problem roster trade (Refused why) = IsFirstRefusal problem roster trade why

-- one verdict for each trade, on the roster that those before it left
abbrev pub AreVerdicts : Problem → Lines → List Trade → List TradeVerdict → Type 0
AreVerdicts problem roster [] [] = Unit {0}
AreVerdicts problem roster [] (v ∷ vs) = ⊥
AreVerdicts problem roster (t ∷ ts) [] = ⊥
AreVerdicts problem roster (t ∷ ts) (v ∷ vs) =
    IsVerdict problem roster t v × AreVerdicts problem (after roster t v) ts vs

-- the roster and the verdicts of a list of trades
pub record IsDesk (problem : Problem) (roster : Lines) (trades : List Trade) (last : Lines)
    (verdicts : List TradeVerdict) : Type 0 where
  pub judged : AreVerdicts problem roster trades verdicts
  pub final : last ≡ left roster trades verdicts

-- the roster after each first part of the list is complete
abbrev pub StaysComplete : Problem → Lines → List Trade → List TradeVerdict → Type 0
StaysComplete problem roster trades verdicts =
    (k : ℕ) → IsComplete problem (left roster (take k trades) (take k verdicts))
