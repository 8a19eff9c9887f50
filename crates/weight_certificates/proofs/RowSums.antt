-- Rows of integers, as loops fill them.
use Rattle.std.proofs.Common.{◌≡◌, ℕ, zero, suc, ◌+◌, ◌*◌, ◌<◌, ◌≤◌, Bool, true, false, cond, ◌||◌, List, [], ◌∷◌, length, take, get_or, ◌==◌, refl, ap, sym, ◌∙◌, arith, set, length-set, subst, inl, inr, ◌^◌, get_or-set_other, get_or-set_same, to_z, of_z, w64, FitsSigned}
use Rattle.std.specs.Prelude.{ℤ, pos, neg_ℤ, ◌+ℤ◌, ◌-ℤ◌, ◌*ℤ◌, All, count_by, unsigned_abs, slice_get}
use Rattle.std.specs.Option.{option_map_or}
use Rattle.std.proofs.lemmas.Int.{ints, unsigned_abs-mul, to_z-of_z, fits_signed_from_abs}
use Rattle.std.proofs.lemmas.Nat.{mul-le}
use Rattle.std.proofs.lemmas.Bool.{and_parts, ne_eqb, eq-eqb, eqb-true, cases_eq}
use Rattle.std.proofs.lemmas.List.Sums.{sum_by-cons, count_by-le-length, count_by_more_no, count_by_more_yes}
use Rattle.std.proofs.lemmas.List.{length-take, get_or_default}
use Rattle.std.proofs.lemmas.List.Elements.{All-head, All-tail}
use Rattle.duty_calendar.specs.declared.horizon.Horizon.{Horizon}
use Rattle.duty_calendar.specs.declared.pairing.Pairing.{Pairing}
use Rattle.duty_calendar.specs.Checks.{IsPairing}
use Rattle.duty_calendar.specs.Minutes.{count_between}
use Rattle.duty_calendar.proofs.Counting.{count_between-none, count_between-one, count_between-le}
use Rattle.roster_model.specs.declared.problem.Problem.{Problem}
use Rattle.roster_model.specs.Ascending.{ascends_from}
use Rattle.roster_model.specs.Scores.{is_flown}
use Rattle.roster_model.specs.Rosters.{line_at, need_of}
use Rattle.roster_model.specs.Weights.{weight_at}
use Rattle.roster_model.proofs.Lines.{is_flown-below}
use Rattle.roster_model.proofs.Sums.{product_of, sum_below-one}
use Rattle.weight_certificates.specs.Rows.{AreWithin}

pub product-small : (x y : ℤ) → unsigned_abs x ≤ 2147483647 → unsigned_abs y ≤ 200 → unsigned_abs (x *ℤ y) ≤ 429496729400
product-small x y p q = omega (arith, unsigned_abs-mul x y, mul-le (unsigned_abs x) (unsigned_abs y) 2147483647 200 p q)

-- an ascending list has each number at most once
pub count-of_ascending : (xs : List ℕ) (low k : ℕ) → ascends_from low xs ≡ true → count_by (λ q. q == k) xs ≡ cond (is_flown xs k) 1 0
count-of_ascending [] low k up = refl
count-of_ascending (x ∷ xs) low k up =
    let parts = and_parts _ _ up in
    let rest = count-of_ascending xs (x + 1) k parts.1 in
    let here = sum_by-cons (λ q. cond (q == k) 1 0) x xs in
    rw (here, rest) (both (x == k) (is_flown xs k) (λ e. let same : x ≡ k = eqb-true x k e in is_flown-below xs (x + 1) k parts.1 (omega arith)))
  where
    both : (a b : Bool) → (a ≡ true → b ≡ false) → cond a 1 0 + cond b 1 0 ≡ cond (a || b) 1 0
    both true true h = absurd (cc (h refl))
    both true false h = refl
    both false b h = omega arith

-- an entry goes to 64 bits and back
pub back : (z : ℤ) → unsigned_abs z ≤ 2 ^ 60 → to_z w64 (of_z w64 z) ≡ z
back z small = to_z-of_z w64 z (fits_signed_from_abs w64 z (omega arith))

pub product-fits : (x y : ℤ) → unsigned_abs x ≤ 2147483647 → unsigned_abs y ≤ 200
    → FitsSigned w64 (to_z w64 (of_z w64 x) *ℤ to_z w64 (of_z w64 y))
product-fits x y p q =
    let small = product-small x y p q in
    rw (back x (omega arith), back y (omega arith)) (fits_signed_from_abs w64 (x *ℤ y) (omega arith))

pub product-back : (x y : ℤ) → unsigned_abs x ≤ 2147483647 → unsigned_abs y ≤ 200
    → to_z w64 (of_z w64 (to_z w64 (of_z w64 x) *ℤ to_z w64 (of_z w64 y))) ≡ x *ℤ y
product-back x y p q =
    let small = product-small x y p q in
    rw (back x (omega arith), back y (omega arith)) (back (x *ℤ y) (omega arith))

pub sum-fits : (s x y : ℤ) (k : ℕ) → unsigned_abs s ≤ 429496729400 * k → k < 600 → unsigned_abs x ≤ 2147483647 → unsigned_abs y ≤ 200
    → FitsSigned w64 (s +ℤ to_z w64 (of_z w64 (to_z w64 (of_z w64 x) *ℤ to_z w64 (of_z w64 y))))
sum-fits s x y k so_far few p q =
    let small = product-small x y p q in
    rw (product-back x y p q) (fits_signed_from_abs w64 (s +ℤ x *ℤ y) (omega (arith, ints)))

-- one turn of the loop of the inner product
pub record HasProduct (xs ys : List ℤ) (k : ℕ) (sum : ℤ) : Type 0 where
  pub is : sum ≡ product_of (weight_at xs) (weight_at ys) k
  pub small : unsigned_abs sum ≤ 429496729400 * k

pub product-turn : (xs ys : List ℤ) (k : ℕ) (s : ℤ) → s ≡ product_of (weight_at xs) (weight_at ys) k → unsigned_abs s ≤ 429496729400 * k → k < 600
    → unsigned_abs (weight_at xs k) ≤ 2147483647 → unsigned_abs (weight_at ys k) ≤ 200
    → HasProduct xs ys (k + 1) (to_z w64 (of_z w64 (s +ℤ to_z w64 (of_z w64 (to_z w64 (of_z w64 (weight_at xs k)) *ℤ to_z w64 (of_z w64 (weight_at ys k)))))))
product-turn xs ys k s is so_far few p q =
    let small = product-small (weight_at xs k) (weight_at ys k) p q in
    let next : to_z w64 (of_z w64 (s +ℤ to_z w64 (of_z w64 (to_z w64 (of_z w64 (weight_at xs k)) *ℤ to_z w64 (of_z w64 (weight_at ys k)))))) ≡ s +ℤ weight_at xs k *ℤ weight_at ys k =
    rw (product-back (weight_at xs k) (weight_at ys k) p q) (back (s +ℤ weight_at xs k *ℤ weight_at ys k) (omega (arith, ints))) in
    record {
      is = next ∙ ap (λ z. z +ℤ weight_at xs k *ℤ weight_at ys k) is ∙ sym (sum_below-one (λ j. weight_at xs j *ℤ weight_at ys j) k);
      small = rw next (omega (arith, ints));
    }

-- one turn of the loop over a line's pairings
pub count-turn : (counts initial : List ℤ) (items : List ℕ) (i j : ℕ)
    → ((j : ℕ) → j < length counts → weight_at counts j ≡ weight_at initial j +ℤ pos (count_by (λ q. q == j) (take i items)))
    → i < length items → get_or items i 0 < length counts → length items ≤ 600 → AreWithin (2 ^ 40) initial → length initial ≡ length counts
    → j < length (set counts (get_or items i 0) (to_z w64 (of_z w64 (to_z w64 (of_z w64 (weight_at counts (get_or items i 0))) +ℤ pos 1))))
    → weight_at (set counts (get_or items i 0) (to_z w64 (of_z w64 (to_z w64 (of_z w64 (weight_at counts (get_or items i 0))) +ℤ pos 1)))) j
    ≡ weight_at initial j +ℤ pos (count_by (λ q. q == j) (take (i + 1) items))
count-turn counts initial items i j so_far in_items in_counts few small same in_set =
    let in_row : j < length counts = omega (arith, length-set {A = ℤ}) in
    let p = get_or items i 0 in
    let e : weight_at counts (get_or items i 0) ≡ weight_at initial (get_or items i 0) +ℤ pos (count_by (λ q. q == get_or items i 0) (take i items)) = so_far (get_or items i 0) in_counts in
    let most = count_by-le-length (λ q. q == get_or items i 0) (take i items) in
    let taken = length-take i items in
    let start = small (get_or items i 0) (omega arith) in
    let little : unsigned_abs (weight_at counts (get_or items i 0)) ≤ 2 ^ 41 = omega (arith, ints) in
    let next : to_z w64 (of_z w64 (to_z w64 (of_z w64 (weight_at counts (get_or items i 0))) +ℤ pos 1)) ≡ weight_at counts (get_or items i 0) +ℤ pos 1 =
    rw (back (weight_at counts (get_or items i 0)) (omega arith)) (back (weight_at counts (get_or items i 0) +ℤ pos 1) (omega (arith, ints))) in
    rw next (elim (cases_eq (get_or items i 0) j) [
      | inl here ↦
          let more = count_by_more_yes (λ q. q == get_or items i 0) items i 0 in_items (eq-eqb (get_or items i 0) (get_or items i 0) refl) in
          subst (λ (k : ℕ). weight_at (set counts (get_or items i 0) (weight_at counts (get_or items i 0) +ℤ pos 1)) k ≡ weight_at initial k +ℤ pos (count_by (λ q. q == k) (take (i + 1) items))) here
          (get_or-set_same counts (get_or items i 0) (weight_at counts (get_or items i 0) +ℤ pos 1) (pos 0) in_counts ∙ omega (arith, ints))
      | inr other ↦
          let none = count_by_more_no (λ q. q == j) items i 0 in_items (ne_eqb (get_or items i 0) j other) in
          get_or-set_other counts (get_or items i 0) j (weight_at counts (get_or items i 0) +ℤ pos 1) (pos 0) (λ e. other (sym e)) ∙ so_far j in_row ∙ ap (λ n. weight_at initial j +ℤ pos n) (sym none)
    ])

take-whole : (xs : List ℕ) (i : ℕ) → length xs ≤ i → take i xs ≡ xs
take-whole [] zero le = refl
take-whole [] (suc i) le = refl
take-whole (x ∷ xs) zero le = absurd (omega arith)
take-whole (x ∷ xs) (suc i) le = ap (λ l. x ∷ l) (take-whole xs i (omega arith))

-- after the last turn
pub count-end : (items : List ℕ) (i j : ℕ) (x : ℤ) → length items ≤ i → ascends_from 0 items ≡ true
    → x +ℤ pos (count_by (λ q. q == j) (take i items)) ≡ x +ℤ pos (cond (is_flown items j) 1 0)
count-end items i j x done up = ap (λ n. x +ℤ pos n) (ap (count_by (λ q. q == j)) (take-whole items i done) ∙ count-of_ascending items 0 j up)

-- no pairing needs more than nine
need-le : (h : Horizon) (pairings : List Pairing) (p : ℕ) → All (IsPairing h) pairings
    → option_map_or (λ x. x.need) (slice_get pairings p) 0 ≤ 9
need-le h [] p each = omega arith
need-le h (x ∷ xs) zero each = (All-head (IsPairing h) x xs each).few_need
need-le h (x ∷ xs) (suc p) each = need-le h xs p (All-tail (IsPairing h) x xs each)

pub need-few : (problem : Problem) (p : ℕ) → need_of problem p ≤ 9
need-few problem p = need-le problem.base.rules.horizon problem.base.pairings p problem.valid.month.pairings_form.each

-- how many of the first lines of a round have the pairing, less its need
abbrev pub miss_below : Problem → List (List ℕ) → ℕ → ℕ → ℤ
miss_below problem round count p = pos (count_between (λ m. is_flown (line_at round m) p) 0 count) -ℤ pos (need_of problem p)

pub miss-none : (problem : Problem) (round : List (List ℕ)) (p : ℕ) (x : ℤ) → x ≡ neg_ℤ (pos (need_of problem p))
    → x ≡ miss_below problem round 0 p
miss-none problem round p x is =
    let none = count_between-none (λ m. is_flown (line_at round m) p) 0 in
    omega (arith, ints, is, none)

pub miss-more : (problem : Problem) (round : List (List ℕ)) (k p : ℕ) (line : List ℕ) (old new : ℤ)
    → k < length round → line ≡ get_or round k line → old ≡ miss_below problem round k p
    → new ≡ old +ℤ pos (cond (is_flown line p) 1 0) → new ≡ miss_below problem round (k + 1) p
miss-more problem round k p line old new inside here so_far is =
    let same : line ≡ line_at round k = here ∙ get_or_default round k line [] inside in
    let one = count_between-one (λ m. is_flown (line_at round m) p) 0 k (omega arith) in
    let flown : cond (is_flown line p) 1 0 ≡ cond (is_flown (line_at round k) p) 1 0 = ap {B = ℕ} (λ (l : List ℕ). cond (is_flown l p) 1 0) same in
    omega (arith, ints, so_far, is, one, flown)

-- a miss is at most 200
pub miss-within : (problem : Problem) (round : List (List ℕ)) (row : List ℤ) (count : ℕ) → count ≤ 200
    → length row ≡ length problem.base.pairings
    → ((p : ℕ) → p < length problem.base.pairings → weight_at row p ≡ miss_below problem round count p) → AreWithin 200 row
miss-within problem round row count few same is = λ p lt.
    let need = need-few problem p in
    let most = count_between-le (λ m. is_flown (line_at round m) p) 0 count in
    omega (arith, ints, is p (omega (arith, lt, same)), need, most, few)
