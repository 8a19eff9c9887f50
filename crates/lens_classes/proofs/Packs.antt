-- A set of numbers as bits.
use Rattle.std.proofs.Common.{◌≡◌, ℕ, zero, suc, ◌+◌, ◌-◌, ◌*◌, ◌^◌, ◌<◌, ◌≤◌, Bool, true, false, cond, ◌&&◌, ◌==◌, refl, ap, sym, ◌∙◌, inl, inr, arith}
use Rattle.std.specs.Prelude.{nat_lt}
use Rattle.std.specs.Int.{bit_at}
use Rattle.std.proofs.lemmas.Bool.{cases_Bool}
use Rattle.std.proofs.lemmas.Bool.Decides.{nat_tests}
use Rattle.std.proofs.lemmas.Nat.Bits.{bit_at-zero, bit_at_above, bit_at_cat_high, bit_at_cat_low}

module _ (holds : ℕ → Bool) where
  -- the numbers below n that pass the test
  abbrev pub pack : ℕ → ℕ
  pack zero = 0
  pack (suc n) = cond (holds n) 1 0 * 2 ^ n + pack n

  one_of : (b : Bool) → cond b 1 0 ≤ 1
  one_of true = omega arith
  one_of false = omega arith

  doubled : (n : ℕ) → 2 ^ suc n ≡ 2 * 2 ^ n
  doubled n = omega arith

  times : (c p : ℕ) → c ≤ 1 → c * p ≤ p
  times zero p le = omega arith
  times (suc zero) p le = omega arith
  times (suc (suc c)) p le = absurd (omega (arith, le))

  pub pack_small : (n : ℕ) → pack n < 2 ^ n
  pack_small zero = omega arith
  pack_small (suc n) =
      let rest = pack_small n in
      let top = times (cond (holds n) 1 0) (2 ^ n) (one_of (holds n)) in
      let two = doubled n in
      omega (arith, rest, top, two)

  is_bit : (c i : ℕ) → c ≤ 1 → i ≡ 0 → bit_at c i ≡ c
  is_bit zero i le e = bit_at-zero i
  is_bit (suc zero) i le e = rw e refl
  is_bit (suc (suc c)) i le e = absurd (omega (arith, le))

  pub pack_bit : (n i : ℕ) → bit_at (pack n) i ≡ cond (nat_lt i n && holds i) 1 0
  pack_bit zero i = let f : nat_lt i 0 ≡ false = grind (arith, nat_tests) in bit_at-zero i ∙ rw f refl
  pack_bit (suc n) i =
      elim (cases_Bool (nat_lt i n)) [
        | inl low ↦
            let lt : i < n = grind (arith, nat_tests) in
            let t : nat_lt i (suc n) ≡ true = grind (arith, nat_tests) in
            bit_at_cat_low (cond (holds n) 1 0) n (pack n) i lt ∙ (pack_bit n i ∙ ap (λ (x : Bool). cond (x && holds i) 1 0) (low ∙ sym t))
        | inr high ↦
            let le : n ≤ i = grind (arith, nat_tests) in
            let top = bit_at_cat_high (cond (holds n) 1 0) n (pack n) i (pack_small n) le in
            elim (cases_Bool (i == n)) [
              | inl same ↦
                  let e : i ≡ n = grind (arith, nat_tests) in
                  let t : nat_lt i (suc n) ≡ true = grind (arith, nat_tests) in
                  let z : i - n ≡ 0 = omega (arith, e) in
                  top ∙ (is_bit (cond (holds n) 1 0) (i - n) (one_of (holds n)) z ∙ (ap (λ (m : ℕ). cond (holds m) 1 0) (sym e) ∙ rw t refl))
              | inr other ↦
                  let f : nat_lt i (suc n) ≡ false = grind (arith, nat_tests) in
                  let more : 1 ≤ i - n = grind (arith, nat_tests) in
                  let small : cond (holds n) 1 0 < 2 ^ 1 = let o = one_of (holds n) in omega (arith, o) in
                  top ∙ (bit_at_above (cond (holds n) 1 0) 1 (i - n) small more ∙ rw f refl)
            ]
      ]

  -- where all that pass the test are below n, the bits are those that pass it
  as_bit : (b : Bool) → (cond b 1 0 == 1) ≡ b
  as_bit true = refl
  as_bit false = refl

  pub pack_is : (n : ℕ) → ((i : ℕ) → holds i ≡ true → i < n) → (i : ℕ) → (bit_at (pack n) i == 1) ≡ holds i
  pack_is n within i = ap (λ (m : ℕ). m == 1) (pack_bit n i) ∙ (as_bit (nat_lt i n && holds i) ∙ below (holds i) refl)
    where
      none : (b : Bool) → (b && false) ≡ false
      none true = refl
      none false = refl

      below : (h : Bool) → holds i ≡ h → (nat_lt i n && holds i) ≡ holds i
      below true e = let lt : i < n = within i e in let t : nat_lt i n ≡ true = grind (arith, nat_tests) in rw t refl
      below false e = rw e (none (nat_lt i n))
