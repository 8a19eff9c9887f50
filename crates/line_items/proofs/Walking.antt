-- Walks are the ascending lists of places that may be visited, with each that must be, and with each two fitting.
use Rattle.std.proofs.Common.{◌≡◌, ℕ, zero, suc, ◌+◌, ◌-◌, ◌<◌, ◌≤◌, Bool, true, false, not, ◌||◌, List, [], ◌∷◌, refl, ap, sym, ◌∙◌, arith, inl, inr, ◌==◌}
use Rattle.std.specs.Prelude.{nat_lt}
use Rattle.std.specs.List.{list_any, range_with_len, AllByRecursion}
use Rattle.std.proofs.lemmas.Bool.{and_parts, and_from, false≢true, cases_Bool}
use Rattle.std.proofs.lemmas.Bool.Decides.{nat_tests}
use Rattle.line_items.proofs.Walks.{walks, end_of}
use Rattle.line_items.specs.Joins.{joins_by}

-- the number is one of these
abbrev pub is_in_list : List ℕ → ℕ → Bool
is_in_list js k = list_any (λ j. j == k) js

-- each of them fits all later ones
abbrev pub fits_later : (ℕ → ℕ → Bool) → ℕ → List ℕ → Type 0
fits_later near i js = AllByRecursion (λ j. near i j ≡ true) js

abbrev pub all_fit : (ℕ → ℕ → Bool) → ℕ → List ℕ → Type 0
all_fit near i [] = Unit {0}
all_fit near i (j ∷ js) = fits_later near i (j ∷ js) × all_fit near j js

-- the numbers ascend from above i
abbrev pub ascends : ℕ → List ℕ → Type 0
ascends i [] = Unit {0}
ascends i (j ∷ js) = (i < j) × ascends j js

pub record IsStops (may must : ℕ → Bool) (near : ℕ → ℕ → Bool) (i : ℕ) (js : List ℕ) : Type 0 where
  pub up : ascends i js
  pub allowed : AllByRecursion (λ j. may j ≡ true) js
  pub all_must : (k : ℕ) → i < k → k < end_of i js → must k ≡ true → is_in_list js k ≡ true
  pub fit : all_fit near i js

-- a range without such a number, by its numbers
pub none_in_range : (f : ℕ → Bool) (start n : ℕ) → list_any f (range_with_len start n) ≡ false → (k : ℕ) → start ≤ k → k < start + n → f k ≡ false
none_in_range f start zero h k a b = absurd (omega arith)
none_in_range f start (suc n) h k a b =
    elim (cases_Bool (nat_lt start k)) [
      | inl later ↦ none_in_range f (start + 1) n (or_second (f start) (list_any f (range_with_len (start + 1) n)) h) k (grind (arith, nat_tests)) (omega arith)
      | inr here ↦
          let same : start ≡ k = grind (arith, nat_tests) in
          rw (← same) (or_first (f start) (list_any f (range_with_len (start + 1) n)) h)
    ]
  where
    or_first : (a b : Bool) → (a || b) ≡ false → a ≡ false
    or_first true b p = p
    or_first false b p = refl

    or_second : (a b : Bool) → (a || b) ≡ false → b ≡ false
    or_second true b p = cc
    or_second false b p = p

pub range_has_none : (f : ℕ → Bool) (start n : ℕ) → ((k : ℕ) → start ≤ k → k < start + n → f k ≡ false) → list_any f (range_with_len start n) ≡ false
range_has_none f start zero h = refl
range_has_none f start (suc n) h = rw (h start (omega arith) (omega arith)) (range_has_none f (start + 1) n (λ k a b. h k (omega arith) (omega arith)))

pub record Joined (may must : ℕ → Bool) (near : ℕ → ℕ → Bool) (i j : ℕ) : Type 0 where
  pub later : i < j
  pub allowed : may j ≡ true
  pub fits : near i j ≡ true
  pub none_between : (k : ℕ) → i < k → k < j → must k ≡ false

pub joined_parts : (may must : ℕ → Bool) (near : ℕ → ℕ → Bool) (i j : ℕ) → joins_by may must near i j ≡ true → Joined may must near i j
joined_parts may must near i j h =
    let p = and_parts (nat_lt i j) _ h in
    let q = and_parts (may j) _ p.1 in
    let r = and_parts (near i j) (not (list_any must (range_with_len (i + 1) (j - (i + 1))))) q.1 in
    let later : i < j = let t = p.0 in grind (arith, nat_tests) in
    record { later = later; allowed = q.0; fits = r.0; none_between = λ k a b. none_in_range must (i + 1) (j - (i + 1)) (flip (list_any must (range_with_len (i + 1) (j - (i + 1)))) r.1) k (omega arith) (omega arith) }
  where
    flip : (b : Bool) → not b ≡ true → b ≡ false
    flip true h = sym h
    flip false h = refl

pub joined_from : (may must : ℕ → Bool) (near : ℕ → ℕ → Bool) (i j : ℕ) → Joined may must near i j → joins_by may must near i j ≡ true
joined_from may must near i j h =
    let t : nat_lt i j ≡ true = let l = h.later in grind (arith, nat_tests) in
    let none = range_has_none must (i + 1) (j - (i + 1)) (λ k a b. h.none_between k (omega arith) (let l = h.later in omega arith)) in
    and_from (nat_lt i j) _ t (and_from (may j) _ h.allowed (and_from (near i j) _ h.fits (ap not none)))

in_cons : (a b : ℕ) (js : List ℕ) → is_in_list js b ≡ true → is_in_list (a ∷ js) b ≡ true
in_cons a b js h = or_right (a == b) (is_in_list js b) h
  where
    or_right : (x y : Bool) → y ≡ true → (x || y) ≡ true
    or_right true y p = refl
    or_right false y p = p

in_head : (a b : ℕ) (js : List ℕ) → a ≡ b → is_in_list (a ∷ js) b ≡ true
in_head a b js e = let t : (a == b) ≡ true = grind (arith, nat_tests) in rw t refl

-- what is not the head is in the tail
pub in_tail : (a b : ℕ) (js : List ℕ) → a < b → is_in_list (a ∷ js) b ≡ true → is_in_list js b ≡ true
in_tail a b js lt h = let t : (a == b) ≡ false = grind (arith, nat_tests) in rw t at h

-- what fits the first of a list whose each two fit
widens : (near : ℕ → ℕ → Bool) (i j : ℕ) (js : List ℕ) → ((k : ℕ) → near j k ≡ true → near i k ≡ true) → fits_later near j js → fits_later near i js
widens near i j [] h fit = fit
widens near i j (k ∷ ks) h fit = (h k fit.0, widens near i j ks h fit.1)

rest_of_fit : (near : ℕ → ℕ → Bool) (j : ℕ) (js : List ℕ) → all_fit near j js → fits_later near j js
rest_of_fit near j [] fit = tt
rest_of_fit near j (k ∷ ks) fit = fit.0

module _ (may must : ℕ → Bool) (near : ℕ → ℕ → Bool) (transitive : (i j k : ℕ) → may j ≡ true → near i j ≡ true → near j k ≡ true → near i k ≡ true) where
  pub stops_from : (i : ℕ) (js : List ℕ) → walks (joins_by may must near) i js ≡ true → IsStops may must near i js
  stops_from i [] h = record { up = tt; allowed = tt; all_must = λ k a b m. absurd (omega arith); fit = tt }
  stops_from i (j ∷ js) h =
      let parts = and_parts (joins_by may must near i j) (walks (joins_by may must near) j js) h in
      let one = joined_parts may must near i j parts.0 in
      let rest = stops_from j js parts.1 in
      record {
        up = (one.later, rest.up);
        allowed = (one.allowed, rest.allowed);
        all_must = λ k a b m. elim (cases_Bool (nat_lt k j)) [
          | inl before ↦ absurd (false≢true (sym (one.none_between k a (grind (arith, nat_tests))) ∙ m))
          | inr after ↦ elim (cases_Bool (nat_lt j k)) [
            | inl later ↦ in_cons j k js (rest.all_must k (grind (arith, nat_tests)) b m)
            | inr here ↦ in_head j k js (grind (arith, nat_tests))
          ]
        ];
        fit = ((one.fits, widens near i j js (λ k n. transitive i j k one.allowed one.fits n) (rest_of_fit near j js rest.fit)), rest.fit);
      }

  pub stops_walk : (i : ℕ) (js : List ℕ) → IsStops may must near i js → walks (joins_by may must near) i js ≡ true
  stops_walk i [] s = refl
  stops_walk i (j ∷ js) s =
      let one : Joined may must near i j = record {
        later = s.up.0;
        allowed = s.allowed.0;
        fits = s.fit.0.0;
        none_between = λ k a b. elim (cases_Bool (must k)) [
          | inl m ↦ absurd (false≢true (sym (below_all j js k b s.up.1) ∙ in_rest j js k b s.up.1 (s.all_must k a (let e = end_above j js s.up.1 in omega arith) m)))
          | inr n ↦ n
        ];
      } in
      and_from (joins_by may must near i j) (walks (joins_by may must near) j js) (joined_from may must near i j one)
      (stops_walk j js (record { up = s.up.1; allowed = s.allowed.1; all_must = λ k a b m. in_tail j k js a (s.all_must k (let l = s.up.0 in omega arith) b m); fit = s.fit.1 }))
    where
      below_all : (j : ℕ) (js : List ℕ) (k : ℕ) → k < j → ascends j js → is_in_list js k ≡ false
      below_all j [] k lt up = refl
      below_all j (x ∷ xs) k lt up = let t : (x == k) ≡ false = let u = up.0 in grind (arith, nat_tests) in rw t (below_all x xs k (let u = up.0 in omega arith) up.1)

      in_rest : (j : ℕ) (js : List ℕ) (k : ℕ) → k < j → ascends j js → is_in_list (j ∷ js) k ≡ true → is_in_list js k ≡ true
      in_rest j js k lt up h = let t : (j == k) ≡ false = grind (arith, nat_tests) in rw t at h

      end_above : (j : ℕ) (js : List ℕ) → ascends j js → j ≤ end_of j js
      end_above j [] up = omega arith
      end_above j (x ∷ xs) up = let h = end_above x xs up.1 in let u = up.0 in omega arith
