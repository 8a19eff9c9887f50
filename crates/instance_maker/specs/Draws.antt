-- How things are drawn from a number: each draw takes the state that the last one left, and gives a
-- value and the next state.
use Rattle.std.specs.Prelude.{◌≡◌, ℕ, zero, suc, ◌+◌, ◌*◌, ◌/◌, ◌%◌, ◌^◌, List, [], ◌∷◌, ◌++◌, Result, IfOk}

-- something that is drawn
abbrev pub Draw : Type 0 → Type 0
Draw A = ℕ → A × ℕ

-- one draw and then another, which may depend on the value of the first; and a value for which
-- nothing is drawn
infixl 10 ◌>>=◌
abbrev pub ◌>>=◌ : {A B : Type 0} → Draw A → (A → Draw B) → Draw B
(draw >>= next) state = next (draw state).0 (draw state).1

abbrev pub done : {A : Type 0} → A → Draw A
done value state = (value, state)

-- the state after a state: a linear congruence modulo 2 to the 64
unfoldable pub after : ℕ → ℕ
after state = (state * 6364136223846793005 + 1442695040888963407) % 2 ^ 64

-- a number below k, of the upper 31 bits of the next state
unfoldable pub below : ℕ → Draw ℕ
below k state = (after state / 2 ^ 33 % k, after state)

-- what is drawn for 0, 1 and so on, in this order, so many times
unfoldable pub in_order : {A : Type 0} → (ℕ → Draw A) → ℕ → Draw (List A)
in_order draw zero = done []
in_order draw (suc n) = do
  items ← in_order draw n
  item ← draw n
  done (items ++ item ∷ [])

-- what was made is what is drawn from one state to another, unless memory ran out
abbrev pub IsDrawn : {A E : Type 0} → Draw A → ℕ → ℕ → Result A E → Type 0
IsDrawn draw old new result = IfOk result (λ made. draw old ≡ (made, new))
