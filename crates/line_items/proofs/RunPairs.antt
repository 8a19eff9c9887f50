-- What runs along a list of steps of two parts.
use Rattle.std.proofs.Common.{◌≡◌, ℕ, List, [], ◌∷◌, Option, Some, None, refl, ap}
use Rattle.std.specs.Prelude.{map}
use Rattle.label_lattice.specs.declared.pairs.Pair.{Pair}
use Rattle.label_lattice.specs.Pair.{both_of, pair_extend}
use Rattle.line_items.proofs.Walks.{and_then, run, along}

-- a pair runs exactly where both parts do
pub run_pair : {A B S T : Type 0} (extend_a : A → S → Option A) (extend_b : B → T → Option B) (r : Pair A B) (steps : List (S × T))
    → run (pair_extend extend_a extend_b) r steps ≡ both_of (run extend_a r.first (map (λ s. s.0) steps)) (run extend_b r.second (map (λ s. s.1) steps))
run_pair extend_a extend_b r [] = refl
run_pair {A} {B} {S} {T} extend_a extend_b r (step ∷ steps) = go (λ q. run_pair extend_a extend_b q steps) (extend_a r.first step.0) (extend_b r.second step.1)
  where
    none_second : (o : Option A) → ◌≡◌ {A = Option (Pair A B)} None (both_of o None)
    none_second None = refl
    none_second (Some a) = refl

    go : ((q : Pair A B) → run (pair_extend extend_a extend_b) q steps ≡ both_of (run extend_a q.first (map (λ (s : S × T). s.0) steps)) (run extend_b q.second (map (λ (s : S × T). s.1) steps)))
        → (o : Option A) (p : Option B)
        → and_then (both_of o p) (λ q. run (pair_extend extend_a extend_b) q steps)
        ≡ both_of (and_then o (λ q. run extend_a q (map (λ (s : S × T). s.0) steps))) (and_then p (λ q. run extend_b q (map (λ (s : S × T). s.1) steps)))
    go rest None p = refl
    go rest (Some a) None = none_second (run extend_a a (map (λ (s : S × T). s.0) steps))
    go rest (Some a) (Some b) = rest (record { first = a; second = b })

-- steps that are made of two parts
pub map-along : {S T : Type 0} (g : S → T) (f : ℕ → ℕ → S) (i : ℕ) (js : List ℕ) → map g (along f i js) ≡ along (λ a b. g (f a b)) i js
map-along g f i [] = refl
map-along g f i (j ∷ js) = ap (◌∷◌ (g (f i j))) (map-along g f j js)
