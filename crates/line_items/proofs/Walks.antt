-- Walks through places, and what a list of steps makes of a resource.
use Rattle.std.specs.Prelude.{ℕ, Bool, true, ◌&&◌, List, [], ◌∷◌, Option, Some, None}

-- what f makes of what is there
abbrev pub and_then : {A B : Type 0} → Option A → (A → Option B) → Option B
and_then None f = None
and_then (Some a) f = f a

-- the resource after all steps, where each can be taken
abbrev pub run : {R S : Type 0} → (R → S → Option R) → R → List S → Option R
run extend r [] = Some r
run extend r (step ∷ steps) = and_then (extend r step) (λ q. run extend q steps)

-- whether each two places in a row are joined, from place i on
abbrev pub walks : (ℕ → ℕ → Bool) → ℕ → List ℕ → Bool
walks joins i [] = true
walks joins i (j ∷ js) = joins i j && walks joins j js

-- the place in which the walk from place i ends
abbrev pub end_of : ℕ → List ℕ → ℕ
end_of i [] = i
end_of i (j ∷ js) = end_of j js

-- what f says of each two places in a row
abbrev pub along : {S : Type 0} → (ℕ → ℕ → S) → ℕ → List ℕ → List S
along f i [] = []
along f i (j ∷ js) = f i j ∷ along f j js
