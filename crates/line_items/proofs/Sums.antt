-- Sums over a line are sums over the places that add it.
use Rattle.std.proofs.Common.{◌≡◌, ℕ, zero, suc, ◌+◌, ◌<◌, ◌≤◌, Bool, true, false, cond, ◌||◌, List, [], ◌∷◌, Option, Some, None, refl, ap, sym, ◌∙◌, arith, inl, inr, ◌⊎◌, ◌==◌}
use Rattle.std.specs.Prelude.{nat_lt, sum_by, filter}
use Rattle.std.specs.Option.{option_map_or}
use Rattle.std.specs.List.{range_with_len, filter_map, cons_option}
use Rattle.std.proofs.lemmas.Bool.{cases_Bool}
use Rattle.std.proofs.lemmas.Bool.Decides.{nat_tests}
use Rattle.std.proofs.lemmas.List.Sums.{sum_by-cons}
use Rattle.line_items.proofs.Places.{is_added, line_of}
use Rattle.line_items.proofs.Walking.{ascends}

-- the sum of what passes the test
abbrev pub passing : (ℕ → ℕ) → (ℕ → Bool) → ℕ → ℕ
passing g t p = cond (t p) (g p) 0

sum_if : (g : ℕ → ℕ) (b : Bool) (x : ℕ) (xs : List ℕ) → sum_by g (cond b (x ∷ xs) xs) ≡ cond b (g x) 0 + sum_by g xs
sum_if g true x xs = sum_by-cons g x xs
sum_if g false x xs = omega arith

pub sum_by-filter : (g : ℕ → ℕ) (t : ℕ → Bool) (xs : List ℕ) → sum_by g (filter t xs) ≡ sum_by (passing g t) xs
sum_by-filter g t [] = refl
sum_by-filter g t (x ∷ xs) =
    sum_if g (t x) x (filter t xs) ∙ ap (λ n. cond (t x) (g x) 0 + n) (sum_by-filter g t xs) ∙ sym (sum_by-cons (passing g t) x xs)

-- a test that the range's numbers pass alike gives the same sum
pub same_passing : (g : ℕ → ℕ) (t u : ℕ → Bool) (start n : ℕ) → ((p : ℕ) → start ≤ p → p < start + n → t p ≡ u p)
    → sum_by (passing g t) (range_with_len start n) ≡ sum_by (passing g u) (range_with_len start n)
same_passing g t u start zero h = refl
same_passing g t u start (suc n) h =
    let rest = same_passing g t u (start + 1) n (λ p a b. h p (omega arith) (omega arith)) in
    let here : passing g t start ≡ passing g u start = ap (λ b. cond b (g start) 0) (h start (omega arith) (omega arith)) in
    rw (sum_by-cons (passing g t) start (range_with_len (start + 1) n), sum_by-cons (passing g u) start (range_with_len (start + 1) n), rest, here) refl

-- one number more that passes adds its own
pub one_more : (g : ℕ → ℕ) (t : ℕ → Bool) (a start n : ℕ) → t a ≡ false → start ≤ a → a < start + n
    → sum_by (passing g (λ p. a == p || t p)) (range_with_len start n) ≡ g a + sum_by (passing g t) (range_with_len start n)
one_more g t a start zero h low high = absurd (omega arith)
one_more g t a start (suc n) h low high =
    let r = range_with_len (start + 1) n in
    let split = sum_by-cons (passing g (λ p. a == p || t p)) start r in
    let split_t = sum_by-cons (passing g t) start r in
    elim (cases_Bool (nat_lt start a)) [
      | inl later ↦
          let lt : start < a = grind (arith, nat_tests) in
          let rest = one_more g t a (start + 1) n h (omega arith) (omega arith) in
          let other : (a == start) ≡ false = grind (arith, nat_tests) in
          let here : passing g (λ p. a == p || t p) start ≡ passing g t start = ap (λ b. cond (b || t start) (g start) 0) other in
          omega (arith, split, split_t, rest, here)
      | inr now ↦
          let same : start ≡ a = grind (arith, nat_tests) in
          let rest = same_passing g (λ p. a == p || t p) t (start + 1) n (λ p x y. let ne : (a == p) ≡ false = grind (arith, nat_tests) in ap (λ b. b || t p) ne) in
          let yes_a : (a == start) ≡ true = grind (arith, nat_tests) in
          let here : passing g (λ p. a == p || t p) start ≡ g start = ap (λ b. cond (b || t start) (g start) 0) yes_a in
          let gone : passing g t start ≡ 0 = ap (λ b. cond b (g start) 0) (ap t same ∙ h) in
          let g_same : g start ≡ g a = ap g same in
          omega (arith, split, split_t, rest, here, gone, g_same)
    ]

-- a pairing that no later place adds
pub none_added : (count : ℕ) (adds : ℕ → ℕ) → ((i j : ℕ) → adds i < count → adds i ≡ adds j → i ≡ j)
    → (i j : ℕ) (js : List ℕ) → i ≤ j → ascends j js → adds i < count → is_added adds js (adds i) ≡ false
none_added count adds once i h [] le up small = refl
none_added count adds once i h (j ∷ js) le up small =
    let lt : h < j = up.0 in
    let ne : (adds j == adds i) ≡ false = differ (cases_Bool (adds j == adds i)) (omega arith) in
    rw ne (none_added count adds once i j js (omega arith) up.1 small)
  where
    differ : ((adds j == adds i) ≡ true) ⊎ ((adds j == adds i) ≡ false) → i < j → (adds j == adds i) ≡ false
    differ (inr n) lt = n
    differ (inl e) lt = let same : adds i ≡ adds j = grind (arith, nat_tests) in let ij = once i j small same in absurd (omega arith)

nothing : (g : ℕ → ℕ) (start n : ℕ) → sum_by (passing g (λ p. false)) (range_with_len start n) ≡ 0
nothing g start zero = refl
nothing g start (suc n) = let split = sum_by-cons (passing g (λ p. false)) start (range_with_len (start + 1) n) in let rest = nothing g (start + 1) n in omega arith

-- the sum over the pairings that are added is the sum over the places that add them
pub sum_added : (count : ℕ) (adds : ℕ → ℕ) → ((i j : ℕ) → adds i < count → adds i ≡ adds j → i ≡ j) → (g : ℕ → ℕ) → ((p : ℕ) → count ≤ p → g p ≡ 0)
    → (i : ℕ) (js : List ℕ) → ascends i js → sum_by (passing g (is_added adds js)) (range_with_len 0 count) ≡ sum_by (λ j. g (adds j)) js
sum_added count adds once g none i [] up = nothing g 0 count
sum_added count adds once g none i (j ∷ js) up =
    let rest = sum_added count adds once g none j js up.1 in
    let split = sum_by-cons (λ j. g (adds j)) j js in
    elim (cases_Bool (nat_lt (adds j) count)) [
      | inl small ↦
          let lt : adds j < count = grind (arith, nat_tests) in
          let more = one_more g (is_added adds js) (adds j) 0 count (none_added count adds once j j js (omega arith) up.1 lt) (omega arith) (omega arith) in
          omega (arith, more, rest, split)
      | inr large ↦
          let le : count ≤ adds j = grind (arith, nat_tests) in
          let same = same_passing g (is_added adds (j ∷ js)) (is_added adds js) 0 count (λ p x y. let ne : (adds j == p) ≡ false = grind (arith, nat_tests) in ap (λ b. b || is_added adds js p) ne) in
          omega (arith, same, rest, split, none (adds j) le)
    ]

-- the sum over the line is the sum over the places that add it
pub sum_line : (count : ℕ) (adds : ℕ → ℕ) → ((i j : ℕ) → adds i < count → adds i ≡ adds j → i ≡ j) → (g : ℕ → ℕ) → ((p : ℕ) → count ≤ p → g p ≡ 0)
    → (i : ℕ) (js : List ℕ) → ascends i js → sum_by g (line_of count adds js) ≡ sum_by (λ j. g (adds j)) js
sum_line count adds once g none i js up = sum_by-filter g (is_added adds js) (range_with_len 0 count) ∙ sum_added count adds once g none i js up

-- a sum over what a list names
pub sum_by-filter_map : {X : Type 0} (f : X → ℕ) (h : ℕ → Option X) (ps : List ℕ) → sum_by f (filter_map h ps) ≡ sum_by (λ p. option_map_or f (h p) 0) ps
sum_by-filter_map f h [] = refl
sum_by-filter_map {X} f h (p ∷ ps) = there (h p) (filter_map h ps) ∙ ap (λ n. option_map_or f (h p) 0 + n) (sum_by-filter_map f h ps) ∙ sym (sum_by-cons (λ p. option_map_or f (h p) 0) p ps)
  where
    there : (o : Option X) (xs : List X) → sum_by f (cons_option o xs) ≡ option_map_or f o 0 + sum_by f xs
    there None xs = omega arith
    there (Some x) xs = sum_by-cons f x xs
