-- The first refusal of a trade that is not allowed.
use Rattle.std.specs.Prelude.{◌≡◌, ◌≢◌, ℕ, ◌⊎◌, ◌==◌, List, Option, Some, None, Result, Ok, Err, if◌then◌else◌}
use Rattle.field_text.specs.Steps.{◌>>=◌}
use Rattle.line_legality.specs.declared.illegal.Illegal.{Illegal}
use Rattle.line_legality.specs.declared.illegal.Illegal.TheVariants as illegal
use Rattle.line_legality.specs.Faults.{IsFirstFault}
use Rattle.roster_model.specs.declared.problem.Problem.{Problem}
use Rattle.roster_model.specs.Legality.{IsLegal}
use Rattle.trade_desk.specs.declared.trade.Trade.{Trade}
use Rattle.trade_desk.specs.declared.refusal.Refusal.{Refusal}
use Rattle.trade_desk.specs.declared.refusal.Refusal.TheVariants.{NoMemory, SameMember, NotHeld, Held, Line}
use Rattle.trade_desk.specs.Trades.{giver, given, receiver, taken, has, giver_line, receiver_line}

-- two members differ
abbrev pub differ : ℕ → ℕ → Result (Unit {0}) Refusal
differ a b = if a == b then Err SameMember else Ok tt

-- a member has a pairing, where there is one
abbrev pub held : List (List ℕ) → ℕ → Option ℕ → Result (Unit {0}) Refusal
held roster m None = Ok tt
held roster m (Some p) = if has roster m p then Ok tt else Err (NotHeld m p)

-- a member has not a pairing, where there is one
abbrev pub free : List (List ℕ) → ℕ → Option ℕ → Result (Unit {0}) Refusal
free roster m None = Ok tt
free roster m (Some p) = if has roster m p then Err (Held m p) else Ok tt

-- the tests before those of the new lines, in their order
unfoldable pub tested : List (List ℕ) → Trade → Result (Unit {0}) Refusal
tested roster trade = do
  _ ← differ (giver trade) (receiver trade)
  _ ← held roster (giver trade) (Some (given trade))
  _ ← held roster (receiver trade) (taken trade)
  _ ← free roster (receiver trade) (Some (given trade))
  free roster (giver trade) (taken trade)

-- a line of a member is illegal, for its first reason; nothing is said where memory was wanting
abbrev pub IsIllegal : Problem → ℕ → List ℕ → Refusal → Type 0
IsIllegal problem member line NoMemory = Unit {0}
IsIllegal problem member line SameMember = ⊥
IsIllegal problem member line (NotHeld m p) = ⊥
IsIllegal problem member line (Held m p) = ⊥
IsIllegal problem member line (Line m why) =
    (m ≡ member) × (why ≢ illegal.NoMemory) × IsFirstFault problem m line why

-- The tests before are passed, and this new line is the first that is illegal, for this reason: the
-- giver's, or the receiver's where the giver's is legal.
pub record IsLineRefused (problem : Problem) (roster : List (List ℕ)) (trade : Trade) (m : ℕ)
    (why : Illegal) : Type 0 where
  pub before : tested roster trade ≡ Ok tt
  pub known : why ≢ illegal.NoMemory
  pub first :
      ((m ≡ giver trade) × IsFirstFault problem m (giver_line roster trade) why)
      ⊎ (IsLegal problem (giver trade) (giver_line roster trade)
      × (m ≡ receiver trade) × IsFirstFault problem m (receiver_line roster trade) why)

-- the first refusal of a trade; want of memory is none
abbrev pub IsFirstRefusal : Problem → List (List ℕ) → Trade → Refusal → Type 0
IsFirstRefusal problem roster trade NoMemory = ⊥
IsFirstRefusal problem roster trade SameMember = tested roster trade ≡ Err SameMember
IsFirstRefusal problem roster trade (NotHeld m p) = tested roster trade ≡ Err (NotHeld m p)
IsFirstRefusal problem roster trade (Held m p) = tested roster trade ≡ Err (Held m p)
IsFirstRefusal problem roster trade (Line m why) = IsLineRefused problem roster trade m why
