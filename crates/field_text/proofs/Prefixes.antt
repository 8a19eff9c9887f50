-- Parts of a text that is written in two steps.
use Rattle.std.proofs.Common.{◌≡◌, ℕ, zero, suc, List, [], ◌∷◌, ◌++◌, take, refl, ap, sym, ◌∙◌, append_assoc, Result, Ok, Err}
use Rattle.std.specs.Prelude.{OnErr}
use Rattle.field_text.specs.Spelling.{HasPartly}

take-front : (k : ℕ) (a b : List ℕ) → (j : ℕ) × (take j (a ++ b) ≡ take k a)
take-front zero a b = (0, refl)
take-front (suc k) [] b = (0, refl)
take-front (suc k) (x ∷ a) b = let h = take-front k a b in (suc h.0, ap (λ (t : List ℕ). x ∷ t) h.1)

take-back : (k : ℕ) (a b : List ℕ) → (j : ℕ) × (take j (a ++ b) ≡ a ++ take k b)
take-back k [] b = (k, refl)
take-back k (x ∷ a) b = let h = take-back k a b in (suc h.0, ap (λ (t : List ℕ). x ∷ t) h.1)

-- a part of the first text, and the first text with a part of the second
pub partly_front : (old a b new : List ℕ) → HasPartly old a new → HasPartly old (a ++ b) new
partly_front old a b new h = let t = take-front h.0 a b in (t.0, h.1 ∙ ap (λ (u : List ℕ). old ++ u) (sym t.1))

pub partly_back : (old a b c mid new : List ℕ) → c ≡ b → mid ≡ old ++ a → HasPartly mid c new → HasPartly old (a ++ b) new
partly_back old a b c mid new f e h =
    let t = take-back h.0 a b in
    (t.0, h.1 ∙ ap (λ (u : List ℕ). u ++ take h.0 c) e ∙ append_assoc old a (take h.0 c) ∙ ap (λ (u : List ℕ). old ++ (a ++ take h.0 u)) f ∙ ap (λ (u : List ℕ). old ++ u) (sym t.1))

-- both texts
pub whole-back : (old a b c mid new : List ℕ) → c ≡ b → mid ≡ old ++ a → new ≡ mid ++ c → new ≡ old ++ (a ++ b)
whole-back old a b c mid new f e h = h ∙ ap (λ (u : List ℕ). u ++ c) e ∙ append_assoc old a c ∙ ap (λ (u : List ℕ). old ++ (a ++ u)) f

pub on_err_is : {T E P : Type 0} (r : Result T E) → P → OnErr r P
on_err_is (Ok x) p = tt
on_err_is (Err e) p = p
