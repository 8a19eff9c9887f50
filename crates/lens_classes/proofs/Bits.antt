-- Bits set one by one, bits behind the last, and how great the credit of a class is.
use Rattle.std.proofs.Common.{◌≡◌, ◌≢◌, ℕ, zero, suc, ◌+◌, ◌^◌, ◌<◌, ◌≤◌, Bool, true, false, cond, ◌&&◌, ◌==◌, List, [], ◌∷◌, Option, Some, length, refl, ap, sym, ◌∙◌, subst, arith, inl, inr}
use Rattle.std.specs.Prelude.{All, nat_lt, slice_get}
use Rattle.std.specs.Int.{bit_at}
use Rattle.std.specs.Option.{option_map_or}
use Rattle.std.proofs.lemmas.Bool.{cases_Bool}
use Rattle.std.proofs.lemmas.Bool.Decides.{nat_tests}
use Rattle.std.proofs.lemmas.List.Elements.{All-head, All-tail}
use Rattle.std.proofs.lemmas.Nat.Bits.{bit_at-zero, bit_at_above}
use Rattle.std.proofs.lemmas.Option.{slice_get_past}
use Rattle.duty_calendar.specs.declared.horizon.Horizon.{Horizon}
use Rattle.duty_calendar.specs.declared.member.Member.{Member}
use Rattle.duty_calendar.specs.Checks.{IsMember}
use Rattle.roster_model.specs.declared.bid.Bid.{Bid}
use Rattle.roster_model.specs.declared.problem.Problem.{Problem}
use Rattle.roster_model.specs.declared.proof.Lens.{Lens}
use Rattle.roster_model.specs.Legality.{high_of}
use Rattle.roster_model.specs.Scores.{bids_of}
use Rattle.lens_classes.specs.Classes.{asks, beyond_for, class_beyond, has_counting, is_counting, is_in}
use Rattle.lens_classes.proofs.Among.{least_keeps}

-- the mask has the first bits that pass, and no other
abbrev pub HasBits : (ℕ → Bool) → ℕ → ℕ → Type 0
HasBits test count mask = (b : ℕ) → bit_at mask b ≡ cond (nat_lt b count && test b) 1 0

pub bits_none : (test : ℕ → Bool) → HasBits test 0 0
bits_none test b = let e : nat_lt b 0 ≡ false = grind (arith, nat_tests) in bit_at-zero b ∙ ap (λ x. cond (x && test b) 1 0) (sym e)

bit_is : (t : Bool) (was v : ℕ) → was ≡ 0 → v ≡ cond t 1 was → v ≡ cond t 1 0
bit_is true was v none e = e
bit_is false was v none e = e ∙ none

bit_here : (test : ℕ → Bool) (k next was : ℕ) (on : Bool) → was ≡ cond (nat_lt k k && test k) 1 0 → on ≡ test k
    → bit_at next k ≡ cond on 1 was → bit_at next k ≡ cond (nat_lt k (k + 1) && test k) 1 0
bit_here test k next was on before is here =
    let low : nat_lt k (k + 1) ≡ true = grind (arith, nat_tests) in
    let out : nat_lt k k ≡ false = grind (arith, nat_tests) in
    bit_is (test k) was (bit_at next k) (before ∙ ap (λ x. cond (x && test k) 1 0) out) (here ∙ ap (λ v. cond v 1 was) is)
    ∙ ap (λ x. cond (x && test k) 1 0) (sym low)

bit_elsewhere : (test : ℕ → Bool) (k b mask : ℕ) → b ≢ k → bit_at mask b ≡ cond (nat_lt b k && test b) 1 0
    → bit_at mask b ≡ cond (nat_lt b (k + 1) && test b) 1 0
bit_elsewhere test k b mask apart before =
    let e : nat_lt b k ≡ nat_lt b (k + 1) = grind (arith, nat_tests) in
    before ∙ ap (λ x. cond (x && test b) 1 0) e

pub bits_more : (test : ℕ → Bool) (k mask next : ℕ) (on : Bool) → HasBits test k mask → on ≡ test k
    → bit_at next k ≡ cond on 1 (bit_at mask k) → ((b : ℕ) → b ≢ k → bit_at next b ≡ bit_at mask b) → HasBits test (k + 1) next
bits_more test k mask next on before is here others b =
    elim (cases_Bool (b == k)) [
      | inl same ↦
          let e : k ≡ b = grind (arith, nat_tests) in
          subst (λ (n : ℕ). bit_at next n ≡ cond (nat_lt n (k + 1) && test n) 1 0) e (bit_here test k next (bit_at mask k) on (before k) is here)
      | inr other ↦
          let apart : b ≢ k = grind (arith, nat_tests) in
          others b apart ∙ bit_elsewhere test k b mask apart (before b)
    ]

as_bit : (b : Bool) → (cond b 1 0 == 1) ≡ b
as_bit true = refl
as_bit false = refl

pub bits_are : (test : ℕ → Bool) (count mask : ℕ) → HasBits test count mask → ((b : ℕ) → count ≤ b → test b ≡ false)
    → (b : ℕ) → (bit_at mask b == 1) ≡ test b
bits_are test count mask has past b =
    elim (cases_Bool (nat_lt b count)) [
      | inl low ↦ ap (λ (n : ℕ). n == 1) (has b ∙ ap (λ x. cond (x && test b) 1 0) low) ∙ as_bit (test b)
      | inr high ↦
          let none = past b (grind (arith, nat_tests)) in
          ap (λ (n : ℕ). n == 1) (has b ∙ ap (λ x. cond (x && test b) 1 0) high) ∙ sym none
    ]

-- the bids whose pairings the class counts
abbrev pub is_counted_in : Problem → ℕ → Lens → ℕ → ℕ → Bool
is_counted_in problem member lens granted bid = asks lens (is_in granted) bid && has_counting problem member bid

none_of : (b : Bool) → (b && false) ≡ false
none_of true = refl
none_of false = refl

pub not_counted : (problem : Problem) (member : ℕ) (lens : Lens) (granted b : ℕ) → length (bids_of problem member) ≤ b
    → is_counted_in problem member lens granted b ≡ false
not_counted problem member lens granted b le =
    ap (λ (o : Option Bid). asks lens (is_in granted) b && option_map_or (λ (x : Bid). is_counting x.wish) o false) (slice_get_past (bids_of problem member) b le)
    ∙ none_of (asks lens (is_in granted) b)

pub counted_here : (problem : Problem) (member : ℕ) (lens : Lens) (granted k : ℕ) (bids : List Bid) (x : Bid) → bids ≡ bids_of problem member
    → slice_get bids k ≡ Some x → (asks lens (is_in granted) k && is_counting x.wish) ≡ is_counted_in problem member lens granted k
counted_here problem member lens granted k bids x same is =
    let there : slice_get (bids_of problem member) k ≡ Some x = subst (λ (xs : List Bid). slice_get xs k ≡ Some x) same is in
    ap (λ (o : Option Bid). asks lens (is_in granted) k && option_map_or (λ (y : Bid). is_counting y.wish) o false) (sym there)

-- no number of 64 bits has a bit behind the 64th
pub not_in : (bids b : ℕ) → bids < 2 ^ 64 → 64 ≤ b → is_in bids b ≡ false
not_in bids b small le =
    let none = bit_at_above bids 64 b small le in
    grind (arith, nat_tests)

-- no credit of a class is great
high_small : (h : Horizon) (members : List Member) (m : ℕ) → All (IsMember h) members
    → option_map_or (λ (x : Member). x.high) (slice_get members m) 0 ≤ 12000
high_small h [] m each = omega arith
high_small h (x ∷ xs) zero each = (All-head (IsMember h) x xs each).few_credit
high_small h (x ∷ xs) (suc m) each = high_small h xs m (All-tail (IsMember h) x xs each)

pub beyond_within : (problem : Problem) (member : ℕ) (lens : Lens) (granted : ℕ → Bool) → class_beyond problem member lens granted ≤ high_of problem member + 1
unfolding class_beyond
beyond_within problem member lens granted =
    least_keeps (beyond_for (high_of problem member + 1)) (asks lens granted) 0 (bids_of problem member) (high_of problem member + 1)

pub beyond_small : (problem : Problem) (member : ℕ) (lens : Lens) (granted : ℕ → Bool) (beyond : ℕ) → beyond ≡ class_beyond problem member lens granted
    → beyond ≤ 12001
beyond_small problem member lens granted beyond e =
    let kept = beyond_within problem member lens granted in
    let high = high_small problem.base.rules.horizon problem.base.members member problem.valid.month.members_form.each in
    omega (arith, kept, high, e)
