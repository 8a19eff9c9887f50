-- What stands on a line, and readers that take it token by token.
use Rattle.std.specs.Prelude.{ℕ, ◌+◌, Bool, List, [], ◌∷◌, length, map, slice_range, Result, Ok, Err, Option, Some, None}
use Rattle.field_text.specs.declared.token.Token.{Token}
use Rattle.field_text.specs.Gives.{Gives}
use Rattle.field_text.specs.Tokens.{lie_within}
use Rattle.bid_language.specs.declared.fault.Word.{Word}
use Rattle.bid_language.specs.declared.fault.Word.TheVariants.{EndOfLine}
use Rattle.bid_language.specs.declared.fault.BidCode.{BidCode}
use Rattle.bid_language.specs.declared.fault.BidCode.TheVariants as code
use Rattle.bid_language.specs.declared.fault.LineFault.{LineFault}
use Rattle.bid_language.specs.declared.fault.Stop.{Stop}
use Rattle.bid_language.specs.declared.fault.Stop.TheVariants as stop

-- a token, with the column of its first byte
pub record Spot : Type 0 where
  pub column : ℕ
  pub text : List ℕ

-- the tokens of a line that are still to be read, and the column behind the line's last byte
pub record Rest : Type 0 where
  pub spots : List Spot
  pub stop : ℕ

abbrev pub spot_of : List ℕ → Token → Spot
spot_of line t = record { column = t.start + 1; text = slice_range line t.start t.end }

abbrev pub rest_of : List ℕ → List Token → Rest
rest_of line tokens = record { spots = map (spot_of line) tokens; stop = length line + 1 }

abbrev pub are_within : List ℕ → List Token → Bool
are_within line tokens = lie_within (length line) tokens

-- A reader takes tokens from the front of a line and gives a value, or the first fault.
abbrev pub Reader : Type 0 → Type 0
Reader A = Rest → Result (A × Rest) LineFault

abbrev pub and_then : {A B : Type 0} → Result (A × Rest) LineFault → (A → Reader B)
    → Result (B × Rest) LineFault
and_then (Ok x) f = f x.0 x.1
and_then (Err e) f = Err e

infixl 10 ◌>>=◌
abbrev pub ◌>>=◌ : {A B : Type 0} → Reader A → (A → Reader B) → Reader B
(read >>= f) rest = and_then (read rest) f

abbrev pub done : {A : Type 0} → A → Reader A
done x rest = Ok (x, rest)

-- a fault at a token
abbrev pub wrong : {A : Type 0} → Spot → BidCode → Reader A
wrong spot c rest = Err (record { column = spot.column; code = c })

-- the next token, or the fault that one is missing
abbrev pub next_of : Word → ℕ → List Spot → Result (Spot × Rest) LineFault
next_of w stop [] = Err (record { column = stop; code = code.Expected w })
next_of w stop (s ∷ ss) = Ok (s, record { spots = ss; stop = stop })

unfoldable pub next : Word → Reader Spot
next w rest = next_of w rest.stop rest.spots

-- the next token, if there is one
abbrev pub optional_of : ℕ → List Spot → Result (Option Spot × Rest) LineFault
optional_of stop [] = Ok (None, record { spots = []; stop = stop })
optional_of stop (s ∷ ss) = Ok (Some s, record { spots = ss; stop = stop })

unfoldable pub optional : Reader (Option Spot)
optional rest = optional_of rest.stop rest.spots

-- the value of a token's text, or this fault
abbrev pub or_wrong : {A : Type 0} → Spot → BidCode → Option A → Reader A
or_wrong spot c (Some x) = done x
or_wrong spot c None = wrong spot c

-- the fault that an end of reading tells, unless memory ran out
abbrev pub told : Stop → Option LineFault
told stop.NoMemory = None
told (stop.Fault f) = Some f

-- what a function returned, and what it left of the line, are what the reader gives
abbrev pub ReadsAs : {X Y : Type 0} → (X → Y) → Result X Stop → Reader Y → Rest → Rest → Type 0
ReadsAs view result read before after = Gives told (λ x. (view x, after)) result (read before)

abbrev pub Reads : {X : Type 0} → Result X Stop → Reader X → Rest → Rest → Type 0
Reads result read before after = ReadsAs (λ x. x) result read before after

-- the end of the line
abbrev pub finished_of : ℕ → List Spot → Result (Unit {0} × Rest) LineFault
finished_of stop [] = Ok (tt, record { spots = []; stop = stop })
finished_of stop (s ∷ ss) = Err (record { column = s.column; code = code.Expected EndOfLine })

unfoldable pub finished : Reader (Unit {0})
finished rest = finished_of rest.stop rest.spots
