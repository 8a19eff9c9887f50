-- Bits set one by one.
use Rattle.std.proofs.Common.{◌≡◌, ◌≢◌, ℕ, ◌+◌, ◌^◌, ◌<◌, ◌≤◌, Bool, true, false, cond, ◌&&◌, ◌==◌, Option, None, length, refl, ap, sym, ◌∙◌, subst, arith, inl, inr}
use Rattle.std.specs.Prelude.{nat_lt, slice_get, if◌then◌else◌}
use Rattle.std.specs.Int.{bit_at}
use Rattle.std.specs.Option.{option_map_or}
use Rattle.std.proofs.lemmas.Bool.{cases_Bool}
use Rattle.std.proofs.lemmas.Bool.Decides.{nat_tests}
use Rattle.std.proofs.lemmas.Nat.Bits.{bit_at-zero, bit_at_above}
use Rattle.std.proofs.lemmas.Option.{slice_get_past}
use Rattle.roster_model.specs.declared.bid.Bid.{Bid}
use Rattle.roster_model.specs.declared.problem.Problem.{Problem}
use Rattle.roster_model.specs.declared.proof.Lens.{Lens}
use Rattle.roster_model.specs.Scores.{bids_of}
use Rattle.roster_model.specs.Lenses.{is_tracked}
use Rattle.line_items.specs.declared.masks.Mark.{Mark}
use Rattle.line_items.specs.Masks.{is_bit, is_marked}

-- the mask has the first bits that pass, and no other
abbrev pub HasBits : (ℕ → Bool) → ℕ → ℕ → Type 0
HasBits test count mask = (b : ℕ) → bit_at mask b ≡ cond (nat_lt b count && test b) 1 0

pub bits_none : (test : ℕ → Bool) → HasBits test 0 0
bits_none test b = let e : nat_lt b 0 ≡ false = grind (arith, nat_tests) in bit_at-zero b ∙ ap (λ x. cond (x && test b) 1 0) (sym e)

bit_is : (t : Bool) (was v : ℕ) → was ≡ 0 → v ≡ cond t 1 was → v ≡ cond t 1 0
bit_is true was v none e = e
bit_is false was v none e = e ∙ none

bit_here : (test : ℕ → Bool) (k next was : ℕ) (on : Bool) → was ≡ cond (nat_lt k k && test k) 1 0 → on ≡ test k
    → bit_at next k ≡ cond on 1 was → bit_at next k ≡ cond (nat_lt k (k + 1) && test k) 1 0
bit_here test k next was on before is here =
    let low : nat_lt k (k + 1) ≡ true = grind (arith, nat_tests) in
    let out : nat_lt k k ≡ false = grind (arith, nat_tests) in
    bit_is (test k) was (bit_at next k) (before ∙ ap (λ x. cond (x && test k) 1 0) out) (here ∙ ap (λ v. cond v 1 was) is)
    ∙ ap (λ x. cond (x && test k) 1 0) (sym low)

bit_elsewhere : (test : ℕ → Bool) (k b mask : ℕ) → b ≢ k → bit_at mask b ≡ cond (nat_lt b k && test b) 1 0
    → bit_at mask b ≡ cond (nat_lt b (k + 1) && test b) 1 0
bit_elsewhere test k b mask apart before =
    let e : nat_lt b k ≡ nat_lt b (k + 1) = grind (arith, nat_tests) in
    before ∙ ap (λ x. cond (x && test b) 1 0) e

pub bits_more : (test : ℕ → Bool) (k mask next : ℕ) (on : Bool) → HasBits test k mask → on ≡ test k
    → bit_at next k ≡ cond on 1 (bit_at mask k) → ((b : ℕ) → b ≢ k → bit_at next b ≡ bit_at mask b) → HasBits test (k + 1) next
bits_more test k mask next on before is here others b =
    elim (cases_Bool (b == k)) [
      | inl same ↦
          let e : k ≡ b = grind (arith, nat_tests) in
          subst (λ (n : ℕ). bit_at next n ≡ cond (nat_lt n (k + 1) && test n) 1 0) e (bit_here test k next (bit_at mask k) on (before k) is here)
      | inr other ↦
          let apart : b ≢ k = grind (arith, nat_tests) in
          others b apart ∙ bit_elsewhere test k b mask apart (before b)
    ]

pub bits_all : (test : ℕ → Bool) (count mask : ℕ) → HasBits test count mask → ((b : ℕ) → count ≤ b → test b ≡ false)
    → (b : ℕ) → bit_at mask b ≡ cond (test b) 1 0
bits_all test count mask has past b =
    elim (cases_Bool (nat_lt b count)) [
      | inl low ↦ has b ∙ ap (λ x. cond (x && test b) 1 0) low
      | inr high ↦
          let none = past b (grind (arith, nat_tests)) in
          has b ∙ ap (λ x. cond (x && test b) 1 0) high ∙ ap (λ x. cond x 1 0) (sym none)
    ]

-- no bit stands behind the member's bids
pub no_bit : (problem : Problem) (member : ℕ) (lens : Lens) (mark : Mark) (b : ℕ) → length (bids_of problem member) ≤ b
    → is_bit problem member lens mark b ≡ false
no_bit problem member lens mark b le = by_tracked (is_tracked lens b) (slice_get (bids_of problem member) b) (slice_get_past (bids_of problem member) b le)
  where
    by_tracked : (t : Bool) (o : Option Bid) → o ≡ None → option_map_or (λ x. is_marked problem member mark x.wish) (if t then o else None) false ≡ false
    by_tracked false o e = refl
    by_tracked true o e = ap (λ p. option_map_or (λ (x : Bid). is_marked problem member mark x.wish) p false) e

-- a lens tracks no bid behind the 64th
pub untracked : (lens : Lens) (b : ℕ) → lens.tracked < 2 ^ 64 → 64 ≤ b → is_tracked lens b ≡ false
untracked lens b small le =
    let none = bit_at_above lens.tracked 64 b small le in
    grind (arith, nat_tests)
