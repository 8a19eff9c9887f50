-- A line with a pairing more ascends, and its pairings are those of the line and this one.
use Rattle.std.proofs.Common.{◌≡◌, ℕ, ◌+◌, ◌<◌, ◌≤◌, inl, inr, Bool, true, false, List, [], ◌∷◌, ◌++◌, refl, ap, subst, ◌∙◌, arith, append_assoc}
use Rattle.std.specs.Prelude.{All, nat_le, nat_lt, filter}
use Rattle.std.proofs.lemmas.Bool.{cases_order, and_parts, and_from, leb-true}
use Rattle.std.proofs.lemmas.Bool.Decides.{nat_tests}
use Rattle.std.proofs.lemmas.List.Elements.{All-append, All-cons, All-filter}
use Rattle.roster_model.specs.Ascending.{ascends_from, is_ascending}
use Rattle.open_time.specs.Eligible.{with_pairing}

below : (a b : ℕ) → a < b → nat_lt a b ≡ true
below a b h = grind (arith, nat_tests)

not_below : (a b : ℕ) → b ≤ a → nat_lt a b ≡ false
not_below a b h = grind (arith, nat_tests)

within : (a b : ℕ) → a ≤ b → nat_le a b ≡ true
within a b h = grind (arith, nat_tests)

-- one number more that passes a test, or that fails it
filter-passes : (f : ℕ → Bool) (x : ℕ) (xs : List ℕ) → f x ≡ true → filter f (x ∷ xs) ≡ x ∷ filter f xs
filter-passes f x xs e = rw e refl

filter-fails : (f : ℕ → Bool) (x : ℕ) (xs : List ℕ) → f x ≡ false → filter f (x ∷ xs) ≡ filter f xs
filter-fails f x xs e = rw e refl

-- numbers that ascend from above a limit are not below it, and all above it
none_below : (xs : List ℕ) (low p : ℕ) → p ≤ low → ascends_from low xs ≡ true → filter (λ q. nat_lt q p) xs ≡ []
none_below [] low p le up = refl
none_below (x ∷ xs) low p le up =
    let parts = and_parts _ _ up in
    let least : low ≤ x = leb-true _ _ parts.0 in
    filter-fails (λ q. nat_lt q p) x xs (not_below x p (omega (arith, least, le))) ∙ none_below xs (x + 1) p (omega (arith, least, le)) parts.1

all_above : (xs : List ℕ) (low p : ℕ) → p < low → ascends_from low xs ≡ true → filter (λ q. nat_lt p q) xs ≡ xs
all_above [] low p lt up = refl
all_above (x ∷ xs) low p lt up =
    let parts = and_parts _ _ up in
    let least : low ≤ x = leb-true _ _ parts.0 in
    filter-passes (λ q. nat_lt p q) x xs (below p x (omega (arith, least, lt)))
    ∙ ap (λ (ys : List ℕ). x ∷ ys) (all_above xs (x + 1) p (omega (arith, least, lt)) parts.1)

-- from the pairing on
ascends-last : (xs : List ℕ) (low p : ℕ) → low ≤ p → ascends_from (p + 1) xs ≡ true
    → ascends_from low (filter (λ q. nat_lt q p) xs ++ p ∷ filter (λ q. nat_lt p q) xs) ≡ true
ascends-last xs low p le up =
    let none = none_below xs (p + 1) p (omega arith) up in
    let all = all_above xs (p + 1) p (omega arith) up in
    ap (λ (ys : List ℕ). ascends_from low (ys ++ p ∷ filter (λ q. nat_lt p q) xs)) none
    ∙ ap (λ (ys : List ℕ). ascends_from low (p ∷ ys)) all
    ∙ and_from (nat_le low p) (ascends_from (p + 1) xs) (within low p le) up

ascends-more : (xs : List ℕ) (low p : ℕ) → low ≤ p → ascends_from low xs ≡ true
    → ascends_from low (filter (λ q. nat_lt q p) xs ++ p ∷ filter (λ q. nat_lt p q) xs) ≡ true
ascends-more [] low p le up = and_from (nat_le low p) true (within low p le) refl
ascends-more (x ∷ xs) low p le up =
    let parts = and_parts _ _ up in
    let least : low ≤ x = leb-true _ _ parts.0 in
    elim (cases_order x p) [
      | inl same ↦
          ap (λ (ys : List ℕ). ascends_from low (ys ++ p ∷ filter (λ q. nat_lt p q) (x ∷ xs))) (filter-fails (λ q. nat_lt q p) x xs (not_below x p (omega (arith, same))))
          ∙ ap (λ (ys : List ℕ). ascends_from low (filter (λ q. nat_lt q p) xs ++ p ∷ ys)) (filter-fails (λ q. nat_lt p q) x xs (not_below p x (omega (arith, same))))
          ∙ ascends-last xs low p le (subst (λ (y : ℕ). ascends_from (y + 1) xs ≡ true) same parts.1)
      | inr o ↦ elim o [
        | inl less ↦
            ap (λ (ys : List ℕ). ascends_from low (ys ++ p ∷ filter (λ q. nat_lt p q) (x ∷ xs))) (filter-passes (λ q. nat_lt q p) x xs (below x p less))
            ∙ ap (λ (ys : List ℕ). ascends_from low ((x ∷ filter (λ q. nat_lt q p) xs) ++ p ∷ ys)) (filter-fails (λ q. nat_lt p q) x xs (not_below p x (omega (arith, less))))
            ∙ and_from (nat_le low x) (ascends_from (x + 1) (filter (λ q. nat_lt q p) xs ++ p ∷ filter (λ q. nat_lt p q) xs)) parts.0
            (ascends-more xs (x + 1) p (omega (arith, less)) parts.1)
        | inr more ↦
            ascends-last (x ∷ xs) low p le
            (and_from (nat_le (p + 1) x) (ascends_from (x + 1) xs) (within (p + 1) x (omega (arith, more))) parts.1)
      ]
    ]

pub with_pairing-ascends : (line : List ℕ) (p : ℕ) → is_ascending line ≡ true → is_ascending (with_pairing line p) ≡ true
unfolding with_pairing
with_pairing-ascends line p up = ascends-more line 0 p (omega arith) up

pub with_pairing-within : (line : List ℕ) (p n : ℕ) → All (λ q. q < n) line → p < n → All (λ q. q < n) (with_pairing line p)
unfolding with_pairing
with_pairing-within line p n small lt =
    let one : All (λ q. q < n) (p ∷ filter (λ q. nat_lt p q) line) = All-cons (λ (q : ℕ). q < n) p (filter (λ q. nat_lt p q) line) lt (All-filter (λ q. nat_lt p q) (λ (q : ℕ). q < n) line small) in
    All-append (λ (q : ℕ). q < n) (filter (λ q. nat_lt q p) line) (p ∷ filter (λ q. nat_lt p q) line) (All-filter (λ q. nat_lt q p) (λ (q : ℕ). q < n) line small) one

-- the pairings as they are put together
pub put_together : (line : List ℕ) (p : ℕ) (known start one two three : List ℕ) → start ≡ [] → known ≡ line
    → one ≡ start ++ filter (λ q. nat_lt q p) known → two ≡ one ++ p ∷ [] → three ≡ two ++ filter (λ q. nat_lt p q) known
    → three ≡ with_pairing line p
unfolding with_pairing
put_together line p known start one two three none is first second third =
    let low = filter (λ q. nat_lt q p) known in
    let high = filter (λ q. nat_lt p q) known in
    let one_is : one ≡ low = first ∙ ap (λ (xs : List ℕ). xs ++ low) none in
    third ∙ ap (λ (xs : List ℕ). xs ++ high) second ∙ ap (λ (xs : List ℕ). (xs ++ p ∷ []) ++ high) one_is
    ∙ append_assoc low (p ∷ []) high
    ∙ ap (λ (xs : List ℕ). filter (λ q. nat_lt q p) xs ++ p ∷ filter (λ q. nat_lt p q) xs) is
