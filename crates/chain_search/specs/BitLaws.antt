-- The laws of `Bits`.
use Rattle.std.specs.Prelude.{◌≡◌, ◌<◌, ◌≤◌, ◌+◌, ◌-◌, ◌*◌, ◌/◌, ◌%◌, ◌^◌, ◌==◌, ◌&&◌, ◌||◌, ℕ, zero, suc, max, min, All, Bool, true, false, List, [], ◌∷◌, Some, bit_and, bit_or, length, nat_le, slice_index, sum, if◌then◌else◌, refl}
use Rattle.std.specs.Int.{bit_at, w64}
use Rattle.std.specs.Int.Bits.{and_lt}
use Rattle.std.proofs.Common.{arith, sym, ◌∙◌, ap, subst, pow-suc, inl, inr}
use Rattle.std.proofs.lemmas.Nat.{or_lt}
use Rattle.std.proofs.lemmas.List.Sums.{sum_by-cons}
use Rattle.std.proofs.lemmas.List.Elements.{All-head, All-tail}
use Rattle.std.proofs.lemmas.Bool.{and_parts, or_cases, cases_lt}
use Rattle.std.proofs.lemmas.Bool.Decides.{nat_tests}
use Rattle.std.proofs.lemmas.Nat.Bits.{bit_at-lt, bit_at-suc, bit_at-zero, bit_at_above, bit_at_and, bit_at_lowest, bit_at_not, bit_at_or, same_from_bits}
use Rattle.label_lattice.specs.declared.masks.Mask.{Mask}
use Rattle.label_lattice.specs.declared.masks.MaskStep.{MaskStep}
use Rattle.label_lattice.specs.declared.masks.MaskEnd.{MaskEnd}
use Rattle.label_lattice.specs.Mask.{mask_done, mask_extend, unset_weight}
use Rattle.chain_search.specs.declared.chosen.Chosen.{Chosen}
use Rattle.chain_search.specs.declared.chosen.Bits.{Bits}
use Rattle.chain_search.specs.Views.{CoarseLaws}
use Rattle.chain_search.specs.BitStates.{all_set, are_even, are_known, bits_count, bits_ends, bits_fit_end, bits_fit_step, bits_move, bits_moves, bits_sees, bits_shows, is_even, set_weight, state_of, weight_of}

same_of : (a b : ℕ) → (a == b) ≡ true → a ≡ b
same_of a b h = grind (arith, nat_tests)

same_is : (a b : ℕ) → a ≡ b → (a == b) ≡ true
same_is a b h = grind (arith, nat_tests)

le_of : (a b : ℕ) → nat_le a b ≡ true → a ≤ b
le_of a b h = grind (arith, nat_tests)

is_le : (a b : ℕ) → a ≤ b → nat_le a b ≡ true
is_le a b h = grind (arith, nat_tests)

low_bit : (a x : ℕ) → a < 2 → (a + 2 * x) % 2 ≡ a
low_bit a x p = omega arith

high_bits : (a x : ℕ) → a < 2 → (a + 2 * x) / 2 ≡ x
high_bits a x p = omega arith

bit_low : (a x : ℕ) → a < 2 → bit_at (a + 2 * x) 0 ≡ a
bit_low a x p = bit_at_lowest (a + 2 * x) ∙ low_bit a x p

bit_high : (a x i : ℕ) → a < 2 → bit_at (a + 2 * x) (suc i) ≡ bit_at x i
bit_high a x i p = bit_at-suc (a + 2 * x) i ∙ ap (λ n. bit_at n i) (high_bits a x p)

moved_bit : (x k t i : ℕ) → bit_at (bit_or (bit_and x k) t) i ≡ max (min (bit_at x i) (bit_at k i)) (bit_at t i)
moved_bit x k t i = bit_at_or (bit_and x k) t i ∙ ap (λ n. max n (bit_at t i)) (bit_at_and x k i)

-- bit by bit
double : (a b c x k t : ℕ) → a < 2 → b < 2 → c < 2 → max (min a b) c + 2 * bit_or (bit_and x k) t ≡ bit_or (bit_and (a + 2 * x) (b + 2 * k)) (c + 2 * t)
double a b c x k t p q r = same_from_bits _ _ each where
  each : (i : ℕ) → bit_at (max (min a b) c + 2 * bit_or (bit_and x k) t) i ≡ bit_at (bit_or (bit_and (a + 2 * x) (b + 2 * k)) (c + 2 * t)) i
  each zero =
      bit_low (max (min a b) c) (bit_or (bit_and x k) t) (omega arith)
      ∙ sym (moved_bit (a + 2 * x) (b + 2 * k) (c + 2 * t) 0 ∙ (ap (λ n. max (min n (bit_at (b + 2 * k) 0)) (bit_at (c + 2 * t) 0)) (bit_low a x p) ∙ (ap (λ n. max (min a n) (bit_at (c + 2 * t) 0)) (bit_low b k q) ∙ ap (λ n. max (min a b) n) (bit_low c t r))))
  each (suc i) =
      bit_high (max (min a b) c) (bit_or (bit_and x k) t) i (omega arith)
      ∙ (moved_bit x k t i
      ∙ sym (moved_bit (a + 2 * x) (b + 2 * k) (c + 2 * t) (suc i) ∙ (ap (λ n. max (min n (bit_at (b + 2 * k) (suc i))) (bit_at (c + 2 * t) (suc i))) (bit_high a x i p) ∙ (ap (λ n. max (min (bit_at x i) n) (bit_at (c + 2 * t) (suc i))) (bit_high b k i q) ∙ ap (λ n. max (min (bit_at x i) (bit_at k i)) n) (bit_high c t i r)))))

one_if : (t : Bool) → (if t then 1 else 0) < 2
one_if true = omega arith
one_if false = omega arith

pub set_small : (bits mask : ℕ) → all_set bits mask < 2
set_small bits mask = one_if (bit_and bits mask == mask)

-- what is set of a mask says whether all of it is
unfoldable told : ℕ → ℕ → ℕ
told part mask = if part == mask then 1 else 0

told_all : (part mask : ℕ) → part ≡ mask → told part mask ≡ 1
unfolding told
told_all part mask e = grind (arith, nat_tests)

told_none : (some mask : ℕ) → (mask ≡ 0 → some ≡ 0) → told 0 mask ≤ told some mask
unfolding told
told_none some zero h = let e = h refl in grind (arith, nat_tests)
told_none some (suc n) h = subst (λ (b : Bool). (if b then 1 else 0) ≤ told some (suc n)) (sym (differs n)) (omega arith)
  where
    differs : (n : ℕ) → (0 == suc n) ≡ false
    differs n = grind (arith, nat_tests)

told_is : (bits mask part : ℕ) → bit_and bits mask ≡ part → all_set bits mask ≡ told part mask
unfolding told
told_is bits mask part e = ap (λ (n : ℕ). told n mask) e

told_small : (part mask : ℕ) → told part mask < 2
unfolding told
told_small part mask = one_if (part == mask)

-- a mask of which all is set by a step, of which nothing is cleared or set, and of which all is cleared
set_by : (x k t m : ℕ) → bit_and t m ≡ m → bit_and (bit_or (bit_and x k) t) m ≡ m
set_by x k t m e = same_from_bits _ _ (λ i.
    let whole = bit_at_and (bit_or (bit_and x k) t) m i in
    let moved = moved_bit x k t i in
    let set : min (bit_at t i) (bit_at m i) ≡ bit_at m i = sym (bit_at_and t m i) ∙ ap (λ n. bit_at n i) e in
    omega (arith, whole, moved, set))

kept_by : (x k t m : ℕ) → bit_and t m ≡ 0 → bit_and k m ≡ m → bit_and (bit_or (bit_and x k) t) m ≡ bit_and x m
kept_by x k t m e f = same_from_bits _ _ (λ i.
    let whole = bit_at_and (bit_or (bit_and x k) t) m i in
    let before = bit_at_and x m i in
    let moved = moved_bit x k t i in
    let set : min (bit_at t i) (bit_at m i) ≡ 0 = sym (bit_at_and t m i) ∙ (ap (λ n. bit_at n i) e ∙ bit_at-zero i) in
    let kept : min (bit_at k i) (bit_at m i) ≡ bit_at m i = sym (bit_at_and k m i) ∙ ap (λ n. bit_at n i) f in
    omega (arith, whole, before, moved, set, kept))

cleared_by : (x k t m : ℕ) → bit_and t m ≡ 0 → bit_and k m ≡ 0 → bit_and (bit_or (bit_and x k) t) m ≡ 0
cleared_by x k t m e f = same_from_bits _ _ (λ i.
    let whole = bit_at_and (bit_or (bit_and x k) t) m i in
    let moved = moved_bit x k t i in
    let none = bit_at-zero i in
    let set : min (bit_at t i) (bit_at m i) ≡ 0 = sym (bit_at_and t m i) ∙ (ap (λ n. bit_at n i) e ∙ bit_at-zero i) in
    let kept : min (bit_at k i) (bit_at m i) ≡ 0 = sym (bit_at_and k m i) ∙ (ap (λ n. bit_at n i) f ∙ bit_at-zero i) in
    omega (arith, whole, moved, none, set, kept))

none_of : (x m : ℕ) → m ≡ 0 → bit_and x m ≡ 0
none_of x m e = same_from_bits _ _ (λ i.
    let whole = bit_at_and x m i in
    let none = bit_at-zero i in
    let mask : bit_at m i ≡ 0 = ap (λ n. bit_at n i) e ∙ bit_at-zero i in
    omega (arith, whole, none, mask))

all_moves : (new old kept set : ℕ) → new ≡ 1 → set ≡ 1 → old < 2 → kept < 2 → new ≡ max (min old kept) set
all_moves new old kept set a b p q = omega (arith, a, b, p, q)

kept_moves : (new old kept set : ℕ) → new ≡ old → kept ≡ 1 → set ≤ old → old < 2 → new ≡ max (min old kept) set
kept_moves new old kept set a b c p = omega (arith, a, b, c, p)

none_moves : (new old kept set : ℕ) → new ≡ set → kept ≡ set → new ≡ max (min old kept) set
none_moves new old kept set a b = omega (arith, a, b)

-- a step that treats the bits of a mask alike
pub group_moves : (x k t m : ℕ) → is_even k m ≡ true → is_even t m ≡ true
    → all_set (bit_or (bit_and x k) t) m ≡ max (min (all_set x m) (all_set k m)) (all_set t m)
group_moves x k t m keeps sets = elim (or_cases (bit_and t m == 0) (bit_and t m == m) sets) [
  | inr all ↦ (
      let e = same_of (bit_and t m) m all in
      all_moves (all_set (bit_or (bit_and x k) t) m) (all_set x m) (all_set k m) (all_set t m)
      (told_is (bit_or (bit_and x k) t) m m (set_by x k t m e) ∙ told_all m m refl) (told_is t m m e ∙ told_all m m refl) (set_small x m) (set_small k m))
  | inl unset ↦ (
      let e = same_of (bit_and t m) 0 unset in
      elim (or_cases (bit_and k m == 0) (bit_and k m == m) keeps) [
        | inr all ↦ (
            let f = same_of (bit_and k m) m all in
            let less : all_set t m ≤ all_set x m = subst (λ n. n ≤ all_set x m) (sym (told_is t m 0 e)) (subst (λ n. told 0 m ≤ n) (sym (told_is x m (bit_and x m) refl)) (told_none (bit_and x m) m (none_of x m))) in
            kept_moves (all_set (bit_or (bit_and x k) t) m) (all_set x m) (all_set k m) (all_set t m)
            (told_is (bit_or (bit_and x k) t) m (bit_and x m) (kept_by x k t m e f) ∙ sym (told_is x m (bit_and x m) refl)) (told_is k m m f ∙ told_all m m refl) less (set_small x m))
        | inl none ↦ (
            let f = same_of (bit_and k m) 0 none in
            none_moves (all_set (bit_or (bit_and x k) t) m) (all_set x m) (all_set k m) (all_set t m)
            (told_is (bit_or (bit_and x k) t) m 0 (cleared_by x k t m e f) ∙ sym (told_is t m 0 e)) (told_is k m 0 f ∙ sym (told_is t m 0 e)))
      ])
]

-- so does the complement of what it clears
not_bit : (clear i : ℕ) → clear < 2 ^ 64 → i < 64 → bit_at (2 ^ 64 - 1 - clear) i ≡ 1 - bit_at clear i
not_bit clear i small less = bit_at_not w64 clear i small less

not_none : (clear m : ℕ) → clear < 2 ^ 64 → m < 2 ^ 64 → bit_and clear m ≡ 0 → bit_and (2 ^ 64 - 1 - clear) m ≡ m
not_none clear m small wide e = same_from_bits _ _ (λ i.
    let whole = bit_at_and (2 ^ 64 - 1 - clear) m i in
    let low = bit_at-lt m i in
    let none : min (bit_at clear i) (bit_at m i) ≡ 0 = sym (bit_at_and clear m i) ∙ (ap (λ n. bit_at n i) e ∙ bit_at-zero i) in
    elim (cases_lt i 64) [
      | inl less ↦ (let turned = not_bit clear i small less in omega (arith, whole, low, none, turned))
      | inr over ↦ (let above = bit_at_above m 64 i wide over in omega (arith, whole, above))
    ])

not_all : (clear m : ℕ) → clear < 2 ^ 64 → m < 2 ^ 64 → bit_and clear m ≡ m → bit_and (2 ^ 64 - 1 - clear) m ≡ 0
not_all clear m small wide e = same_from_bits _ _ (λ i.
    let whole = bit_at_and (2 ^ 64 - 1 - clear) m i in
    let low = bit_at-lt clear i in
    let zero_is = bit_at-zero i in
    let all : min (bit_at clear i) (bit_at m i) ≡ bit_at m i = sym (bit_at_and clear m i) ∙ ap (λ n. bit_at n i) e in
    elim (cases_lt i 64) [
      | inl less ↦ (let turned = not_bit clear i small less in omega (arith, whole, low, zero_is, all, turned))
      | inr over ↦ (let above = bit_at_above m 64 i wide over in omega (arith, whole, zero_is, above))
    ])

not_wide : (clear m : ℕ) → 2 ^ 64 ≤ clear → bit_and (2 ^ 64 - 1 - clear) m ≡ 0
not_wide clear m over = same_from_bits _ _ (λ i.
    let none : 2 ^ 64 - 1 - clear ≡ 0 = omega (arith, over) in
    let whole = bit_at_and (2 ^ 64 - 1 - clear) m i in
    let zero_is = bit_at-zero i in
    let left : bit_at (2 ^ 64 - 1 - clear) i ≡ 0 = ap (λ n. bit_at n i) none ∙ bit_at-zero i in
    omega (arith, whole, zero_is, left))

even_none : (bits m : ℕ) → bit_and bits m ≡ 0 → is_even bits m ≡ true
even_none bits m e = ap (λ b. b || (bit_and bits m == m)) (same_is (bit_and bits m) 0 e)

even_all : (bits m : ℕ) → bit_and bits m ≡ m → is_even bits m ≡ true
even_all bits m e = ap (λ b. (bit_and bits m == 0) || b) (same_is (bit_and bits m) m e) ∙ or_true (bit_and bits m == 0)
  where
    or_true : (b : Bool) → (b || true) ≡ true
    or_true true = refl
    or_true false = refl

pub not_even : (clear m : ℕ) → m < 2 ^ 64 → is_even clear m ≡ true → is_even (2 ^ 64 - 1 - clear) m ≡ true
not_even clear m wide even = elim (cases_lt clear (2 ^ 64)) [
  | inr over ↦ even_none (2 ^ 64 - 1 - clear) m (not_wide clear m over)
  | inl small ↦ elim (or_cases (bit_and clear m == 0) (bit_and clear m == m) even) [
    | inl none ↦ even_all (2 ^ 64 - 1 - clear) m (not_none clear m small wide (same_of (bit_and clear m) 0 none))
    | inr all ↦ even_none (2 ^ 64 - 1 - clear) m (not_all clear m small wide (same_of (bit_and clear m) m all))
  ]
]

state_moves : (chosen : List Chosen) (x c t : ℕ) → All (λ bit. bit.bits < 2 ^ 64) chosen → are_even chosen c ≡ true → are_even chosen t ≡ true
    → state_of chosen (bit_or (bit_and x (2 ^ 64 - 1 - c)) t) ≡ bit_or (bit_and (state_of chosen x) (state_of chosen (2 ^ 64 - 1 - c))) (state_of chosen t)
state_moves [] x c t inside clears sets = refl
state_moves (bit ∷ chosen) x c t inside clears sets =
    let k = 2 ^ 64 - 1 - c in
    let clear = and_parts (is_even c bit.bits) (are_even chosen c) clears in
    let set = and_parts (is_even t bit.bits) (are_even chosen t) sets in
    let wide = All-head (λ (b : Chosen). b.bits < 2 ^ 64) bit chosen inside in
    ap (λ n. n + 2 * state_of chosen (bit_or (bit_and x k) t)) (group_moves x k t bit.bits (not_even c bit.bits wide clear.0) set.0)
    ∙ (ap (λ n. max (min (all_set x bit.bits) (all_set k bit.bits)) (all_set t bit.bits) + 2 * n) (state_moves chosen x c t (All-tail (λ (b : Chosen). b.bits < 2 ^ 64) bit chosen inside) clear.1 set.1)
    ∙ double (all_set x bit.bits) (all_set k bit.bits) (all_set t bit.bits) (state_of chosen x) (state_of chosen k) (state_of chosen t) (set_small x bit.bits) (set_small k bit.bits) (set_small t bit.bits))

pub state_below : (chosen : List Chosen) (bits : ℕ) → state_of chosen bits < 2 ^ length chosen
state_below [] bits = omega arith
state_below (bit ∷ chosen) bits =
    let less = state_below chosen bits in
    let twice = pow-suc 2 (length chosen) in
    let low = set_small bits bit.bits in
    omega (arith, less, twice, low)

-- all weights before a place
unfoldable pub total : List ℕ → ℕ → ℕ
total weights zero = 0
total weights (suc k) = total weights k + slice_index weights k

total_tail : (weight : ℕ) (weights : List ℕ) (k : ℕ) → total (weight ∷ weights) (suc k) ≡ weight + total weights k
unfolding total
total_tail weight weights zero = omega arith
total_tail weight weights (suc k) = let before = total_tail weight weights k in omega (arith, before)

pub total_is : (weights : List ℕ) → total weights (length weights) ≡ sum weights
unfolding total
total_is [] = refl
total_is (weight ∷ weights) = total_tail weight weights (length weights) ∙ (ap (λ n. weight + n) (total_is weights) ∙ sym (sum_by-cons (λ (n : ℕ). n) weight weights))

-- the numbers of the first places whose bits are set
unfoldable pub set_sum : ℕ → (ℕ → ℕ) → ℕ → ℕ
set_sum bits number zero = 0
set_sum bits number (suc k) = set_sum bits number k + bit_at bits k * number k

-- one bit is set or not
one_bit : (bit weight : ℕ) → bit < 2 → (if bit == 0 then weight else 0) + bit * weight ≡ weight
one_bit zero weight small = omega arith
one_bit (suc zero) weight small = omega arith
one_bit (suc (suc n)) weight small = absurd (omega (arith, small))

pub set_and_unset : (bits : ℕ) (weights : List ℕ) (k : ℕ) → unset_weight bits weights k + set_sum bits (slice_index weights) k ≡ total weights k
unfolding set_sum total
set_and_unset bits weights zero = refl
set_and_unset bits weights (suc k) =
    let before = set_and_unset bits weights k in
    let here = one_bit (bit_at bits k) (slice_index weights k) (bit_at-lt bits k) in
    omega (arith, before, here)

pub set_is : (bits : ℕ) (weights : List ℕ) → unset_weight bits weights (length weights) + set_sum bits (slice_index weights) (length weights) ≡ sum weights
set_is bits weights = set_and_unset bits weights (length weights) ∙ total_is weights

-- where two sets share no bit and are in a third, they weigh no more together
share : (a b c weight : ℕ) → a < 2 → b < 2 → a + b ≤ c → a * weight + b * weight ≤ c * weight
share zero b c weight p q h = times b c weight (omega (arith, h))
  where
    times : (b c weight : ℕ) → b ≤ c → 0 * weight + b * weight ≤ c * weight
    times zero c weight h = omega arith
    times (suc b) zero weight h = absurd (omega (arith, h))
    times (suc b) (suc c) weight h = let rest = times b c weight (omega (arith, h)) in omega (arith, rest)
share (suc zero) zero zero weight p q h = absurd (omega (arith, h))
share (suc zero) zero (suc c) weight p q h = omega arith
share (suc zero) (suc b) zero weight p q h = absurd (omega (arith, h))
share (suc zero) (suc zero) (suc zero) weight p q h = absurd (omega (arith, h))
share (suc zero) (suc zero) (suc (suc c)) weight p q h = omega arith
share (suc zero) (suc (suc b)) c weight p q h = absurd (omega (arith, q))
share (suc (suc a)) b c weight p q h = absurd (omega (arith, p))

set_share : (a b c : ℕ) (number : ℕ → ℕ) (k : ℕ) → ((i : ℕ) → bit_at a i + bit_at b i ≤ bit_at c i) → set_sum a number k + set_sum b number k ≤ set_sum c number k
unfolding set_sum
set_share a b c number zero apart = omega arith
set_share a b c number (suc k) apart =
    let before = set_share a b c number k apart in
    let here = share (bit_at a k) (bit_at b k) (bit_at c k) (number k) (bit_at-lt a k) (bit_at-lt b k) (apart k) in
    omega (arith, before, here)

set_less : (a c : ℕ) (number : ℕ → ℕ) (k : ℕ) → ((i : ℕ) → bit_at a i ≤ bit_at c i) → set_sum a number k ≤ set_sum c number k
set_less a c number k inside =
    let both = set_share a 0 c number k (λ i. let none = bit_at-zero i in let here = inside i in omega (arith, none, here)) in
    omega (arith, both)

pub record Known (used : ℕ) (bit : Chosen) (chosen : List Chosen) (weights : List ℕ) : Type 0 where
  pub apart : bit_and bit.bits used ≡ 0
  pub light : bit.weight ≤ set_weight bit.bits weights
  pub rest : are_known (bit_or used bit.bits) chosen weights ≡ true

pub known_parts : (used : ℕ) (bit : Chosen) (chosen : List Chosen) (weights : List ℕ) → are_known used (bit ∷ chosen) weights ≡ true → Known used bit chosen weights
known_parts used bit chosen weights known =
    let one = and_parts ((bit_and bit.bits used == 0) && nat_le bit.weight (set_weight bit.bits weights)) (are_known (bit_or used bit.bits) chosen weights) known in
    let two = and_parts (bit_and bit.bits used == 0) (nat_le bit.weight (set_weight bit.bits weights)) one.0 in
    record {
      apart = same_of (bit_and bit.bits used) 0 two.0;
      light = le_of bit.weight (set_weight bit.bits weights) two.1;
      rest = one.1;
    }

-- where all bits of a mask are set, they weigh what is set with them more than without them
here_set : (bits mask weight before after : ℕ) → (bit_and bits mask ≡ mask → weight + before ≤ after) → before ≤ after → (if all_set bits mask == 1 then weight else 0) + before ≤ after
here_set bits mask weight before after set unset = go (bit_and bits mask == mask) (λ e. set (same_of (bit_and bits mask) mask e))
  where
    go : (t : Bool) → (t ≡ true → weight + before ≤ after) → (if (if t then 1 else 0) == 1 then weight else 0) + before ≤ after
    go true h = h refl
    go false h = omega (arith, unset)

group_weight : (bits used mask weight : ℕ) (weights : List ℕ) → bit_and mask used ≡ 0 → weight ≤ set_weight mask weights
    → (if all_set bits mask == 1 then weight else 0) + set_sum (bit_and bits used) (slice_index weights) (length weights) ≤ set_sum (bit_and bits (bit_or used mask)) (slice_index weights) (length weights)
group_weight bits used mask weight weights apart light =
    here_set bits mask weight (set_sum (bit_and bits used) (slice_index weights) (length weights)) (set_sum (bit_and bits (bit_or used mask)) (slice_index weights) (length weights))
    (λ set.
    let all = set_is mask weights in
    let both = set_share mask (bit_and bits used) (bit_and bits (bit_or used mask)) (slice_index weights) (length weights) (λ i.
    let inside : min (bit_at bits i) (bit_at mask i) ≡ bit_at mask i = sym (bit_at_and bits mask i) ∙ ap (λ n. bit_at n i) set in
    let alone : min (bit_at mask i) (bit_at used i) ≡ 0 = sym (bit_at_and mask used i) ∙ (ap (λ n. bit_at n i) apart ∙ bit_at-zero i) in
    let old = bit_at_and bits used i in
    let new = bit_at_and bits (bit_or used mask) i in
    let more = bit_at_or used mask i in
    let low = bit_at-lt mask i in
    omega (arith, inside, alone, old, new, more, low)) in
    omega (arith, all, both, light))
    (set_less (bit_and bits used) (bit_and bits (bit_or used mask)) (slice_index weights) (length weights) (λ i.
    let old = bit_at_and bits used i in
    let new = bit_at_and bits (bit_or used mask) i in
    let more = bit_at_or used mask i in
    omega (arith, old, new, more)))

chosen_weight : (chosen : List Chosen) (bits used : ℕ) (weights : List ℕ) → are_known used chosen weights ≡ true
    → weight_of chosen (state_of chosen bits) + set_sum (bit_and bits used) (slice_index weights) (length weights) ≤ set_sum bits (slice_index weights) (length weights)
chosen_weight [] bits used weights known =
    let less = set_less (bit_and bits used) bits (slice_index weights) (length weights) (λ i. let same = bit_at_and bits used i in omega (arith, same)) in
    omega (arith, less)
chosen_weight (bit ∷ chosen) bits used weights known =
    let parts = known_parts used bit chosen weights known in
    let rest = chosen_weight chosen bits (bit_or used bit.bits) weights parts.rest in
    let here = group_weight bits used bit.bits bit.weight weights parts.apart parts.light in
    let small = set_small bits bit.bits in
    let half : (all_set bits bit.bits + 2 * state_of chosen bits) / 2 ≡ state_of chosen bits = high_bits (all_set bits bit.bits) (state_of chosen bits) small in
    let low : (all_set bits bit.bits + 2 * state_of chosen bits) % 2 ≡ all_set bits bit.bits = low_bit (all_set bits bit.bits) (state_of chosen bits) small in
    subst (λ n. (if (all_set bits bit.bits + 2 * state_of chosen bits) % 2 == 1 then bit.weight else 0) + weight_of chosen n + set_sum (bit_and bits used) (slice_index weights) (length weights) ≤ set_sum bits (slice_index weights) (length weights)) (sym half)
    (subst (λ n. (if n == 1 then bit.weight else 0) + weight_of chosen (state_of chosen bits) + set_sum (bit_and bits used) (slice_index weights) (length weights) ≤ set_sum bits (slice_index weights) (length weights)) (sym low)
    (together (if all_set bits bit.bits == 1 then bit.weight else 0) (weight_of chosen (state_of chosen bits)) (set_sum (bit_and bits used) (slice_index weights) (length weights)) (set_sum (bit_and bits (bit_or used bit.bits)) (slice_index weights) (length weights)) (set_sum bits (slice_index weights) (length weights)) here rest))
  where
    together : (one others before after all : ℕ) → one + before ≤ after → others + after ≤ all → one + others + before ≤ all
    together one others before after all p q = omega (arith, p, q)

bits_final : (view : Bits) (a : Mask) (end : MaskEnd) → bits_fit_end view end ≡ true → mask_done a end ≡ true → bits_ends view (bits_shows view a) ≡ true
bits_final view a end fits is =
    let parts = and_parts (are_known 0 view.chosen.items end.weights) (nat_le (sum end.weights) (view.allowed + end.floor)) fits in
    let most : sum end.weights ≤ view.allowed + end.floor = le_of (sum end.weights) (view.allowed + end.floor) parts.1 in
    let enough : end.floor ≤ unset_weight a.bits end.weights (length end.weights) = le_of end.floor (unset_weight a.bits end.weights (length end.weights)) is in
    let all = set_is a.bits end.weights in
    let less = chosen_weight view.chosen.items a.bits 0 end.weights parts.0 in
    is_le (weight_of view.chosen.items (bits_shows view a)) view.allowed (omega (arith, most, enough, all, less))

bits_along : (view : Bits) (a b : Mask) (step : MaskStep) → bits_fit_step view step ≡ true → mask_extend a step ≡ Some b → bits_moves (bits_move view step) (bits_shows view a) ≡ Some (bits_shows view b)
bits_along view a b step fits is =
    let even = and_parts (are_even view.chosen.items step.clear) (are_even view.chosen.items step.set) fits in
    let same : bit_or (bit_and a.bits (2 ^ 64 - 1 - step.clear)) step.set ≡ b.bits = bits_of (bit_or (bit_and a.bits (2 ^ 64 - 1 - step.clear)) step.set) b is in
    ap Some (sym (ap (state_of view.chosen.items) (sym same) ∙ state_moves view.chosen.items a.bits step.clear step.set view.inside even.0 even.1))
  where
    bits_of : (n : ℕ) (b : Mask) → Some (record { bits = n }) ≡ Some b → n ≡ b.bits
    bits_of n b e = let same : record { bits = n } ≡ b = cc in ap (λ (m : Mask). m.bits) same

bits_stay : (view : Bits) (step : MaskStep) (state next : ℕ) → state < bits_count view → bits_moves (bits_move view step) state ≡ Some next → next < bits_count view
bits_stay view step state next less is =
    let same : bit_or (bit_and state (state_of view.chosen.items (2 ^ 64 - 1 - step.clear))) (state_of view.chosen.items step.set) ≡ next = cc in
    let wide = length view.chosen.items in
    let kept = and_lt wide state (state_of view.chosen.items (2 ^ 64 - 1 - step.clear)) less (state_below view.chosen.items (2 ^ 64 - 1 - step.clear)) in
    let both = or_lt wide (bit_and state (state_of view.chosen.items (2 ^ 64 - 1 - step.clear))) (state_of view.chosen.items step.set) kept (state_below view.chosen.items step.set) in
    subst (λ n. n < bits_count view) same both

pub bits_laws : (view : Bits) → CoarseLaws mask_extend mask_done (bits_count view) (bits_shows view) (bits_sees view) (λ step. bits_moves (bits_move view step)) (bits_ends view) (bits_fit_step view) (bits_fit_end view)
bits_laws view = record {
  shown = λ a. state_below view.chosen.items a.bits;
  seen = λ a. same_is (bits_shows view a) (bits_shows view a) refl;
  stays = bits_stay view;
  along = λ a b step state fits seen is. record {
    next = bits_shows view b;
    is = subst (λ n. bits_moves (bits_move view step) n ≡ Some (bits_shows view b)) (sym (same_of state (bits_shows view a) seen)) (bits_along view a b step fits is);
    passes = same_is (bits_shows view b) (bits_shows view b) refl;
  };
  final = λ a end state fits seen is. subst (λ n. bits_ends view n ≡ true) (sym (same_of state (bits_shows view a) seen)) (bits_final view a end fits is);
}
