-- Small facts on answers and reads.
use Rattle.std.proofs.Common.{◌≡◌, ℕ, ◌+◌, ◌<◌, ◌⊎◌, false, List, [], ◌∷◌, ◌++◌, length, arith, refl, ap, sym, subst, ◌∙◌, inl, inr, zero, suc}
use Rattle.std.specs.Prelude.{OnOk, Result, Ok, Err, Some, slice_get, All}
use Rattle.std.specs.Result.{is_err}
use Rattle.std.proofs.lemmas.Bool.{cases_lt}
use Rattle.std.proofs.lemmas.Option.{get_or_from_slice_get, slice_get_within}

-- what a call that did not fail ensures
pub ok_fact : {T E P : Type 0} (r : Result T E) → is_err r ≡ false → OnOk r P → P
ok_fact (Ok x) e h = h
ok_fact (Err y) e h = cc

-- what is true of each element is true of one that is read
pub all_at : {X : Type 0} (P : X → Type 0) (xs : List X) (k : ℕ) (x : X) → All P xs → slice_get xs k ≡ Some x → P x
all_at P xs k x all e = subst P (get_or_from_slice_get xs k x x e) (all k x (slice_get_within xs k x e))

-- an element of a list that got one more is an old one, or the new one
pub get_pushed : {X : Type 0} (xs : List X) (y : X) (k : ℕ) (x : X) → slice_get (xs ++ y ∷ []) k ≡ Some x
    → (slice_get xs k ≡ Some x) ⊎ ((k ≡ length xs) × (x ≡ y))
get_pushed [] y zero x e = inr (refl, cc e)
get_pushed [] y (suc k) x e = absurd (cc e)
get_pushed (z ∷ xs) y zero x e = inl e
get_pushed (z ∷ xs) y (suc k) x e =
    elim (get_pushed xs y k x e) [ inl a ↦ inl a | inr b ↦ inr (ap suc b.0, b.1) ]

-- what is true of the numbers below one, and of this one
pub one_more : (P : ℕ → Type 0) (k : ℕ) → ((m : ℕ) → m < k → P m) → P k → (m : ℕ) → m < k + 1 → P m
one_more P k before here m lt =
    elim (cases_lt m k) [
      | inl less ↦ before m less
      | inr more ↦ let same : k ≡ m = omega (arith, lt, more) in subst P same here
    ]

-- what is true of each element by its number, and of the one that is added
pub each_more : {X : Type 0} (P : ℕ → X → Type 0) (xs longer : List X) (y : X) (n : ℕ)
    → ((m : ℕ) (x : X) → slice_get xs m ≡ Some x → P m x) → length xs ≡ n → P n y → longer ≡ xs ++ y ∷ []
    → (m : ℕ) (x : X) → slice_get longer m ≡ Some x → P m x
each_more P xs longer y n each count here is m x at =
    elim (get_pushed xs y m x (sym (ap (λ (l : List _). slice_get l m) is) ∙ at)) [
      | inl old ↦ each m x old
      | inr last ↦ subst (λ (k : ℕ). P k x) (sym (last.0 ∙ count)) (subst (P n) (sym last.1) here)
    ]
