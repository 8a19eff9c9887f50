-- The choice of groups of bits.
use Rattle.std.proofs.Common.{◌≡◌, ℕ, zero, suc, min, ◌+◌, ◌-◌, ◌^◌, ◌<◌, ◌≤◌, ◌==◌, ◌&&◌, ◌++◌, Bool, true, false, List, [], ◌∷◌, refl, sym, ◌∙◌, ap, subst, arith, length, take, drop, get_or, append-nil, inl, inr}
use Rattle.std.specs.Prelude.{All, bit_and, bit_or, nat_le, sum}
use Rattle.std.specs.Int.{bit_at, w64}
use Rattle.std.proofs.lemmas.Bool.{cases_lt}
use Rattle.std.proofs.lemmas.Bool.Decides.{nat_tests}
use Rattle.std.proofs.lemmas.Nat.{and_le_r}
use Rattle.std.proofs.lemmas.Nat.Bits.{bit_at-lt, bit_at-zero, bit_at_above, bit_at_and, bit_at_not, bit_at_or, same_from_bits}
use Rattle.std.proofs.Math.Seq.{drop-cons}
use Rattle.std.proofs.lemmas.List.{append_assoc, drop_all, length-append}
use Rattle.std.proofs.lemmas.List.Elements.{All-nil, All-cons}
use Rattle.label_lattice.specs.Mask.{unset_weight}
use Rattle.chain_search.specs.declared.chosen.Chosen.{Chosen}
use Rattle.chain_search.specs.BitStates.{are_known, chosen_from, chosen_of, set_weight}

-- a group without the bits that are used
abbrev pub group_of : ℕ → ℕ → List ℕ → Chosen
group_of used mask weights = record { bits = bit_and mask (2 ^ 64 - 1 - used); weight = set_weight (bit_and mask (2 ^ 64 - 1 - used)) weights }

-- what was chosen, and what is still to come
pub record IsChosen (used : ℕ) (groups rest weights : List ℕ) (chosen : List Chosen) : Type 0 where
  pub few : length chosen ≤ 14
  pub is : chosen ++ take (14 - length chosen) (chosen_from used rest weights) ≡ chosen_of groups weights

pub chosen_start : (groups weights : List ℕ) → IsChosen 0 groups groups weights []
unfolding chosen_of
chosen_start groups weights = record { few = omega arith; is = refl }

-- there are enough
pub chosen_full : (used : ℕ) (groups rest other weights : List ℕ) (chosen : List Chosen) → 14 ≤ length chosen → IsChosen used groups rest weights chosen → IsChosen used groups other weights chosen
chosen_full used groups rest other weights chosen full so_far = record {
  few = so_far.few;
  is = none (chosen_from used other weights) ∙ (sym (none (chosen_from used rest weights)) ∙ so_far.is);
} where
  none : (bits : List Chosen) → chosen ++ take (14 - length chosen) bits ≡ chosen
  none bits = let no : 14 - length chosen ≡ 0 = omega (arith, full) in ap (λ (n : ℕ). chosen ++ take n bits) no ∙ append-nil chosen

-- and one more
chosen_push : (used mask : ℕ) (bit : Chosen) (groups rest weights : List ℕ) (chosen new : List Chosen) → length chosen < 14 → bit ≡ group_of used mask weights → new ≡ chosen ++ bit ∷ []
    → IsChosen used groups (mask ∷ rest) weights chosen → IsChosen (bit_or used mask) groups rest weights new
chosen_push used mask bit groups rest weights chosen new room bit_is pushed so_far =
    let long : length new ≡ length chosen + 1 = ap length pushed ∙ length-append chosen (bit ∷ []) in
    let left : 14 - length chosen ≡ suc (14 - length new) = omega (arith, long, room) in
    record {
      few = omega (arith, long, room);
      is =
          ap (λ (bits : List Chosen). bits ++ take (14 - length new) (chosen_from (bit_or used mask) rest weights)) pushed
          ∙ (append_assoc chosen (bit ∷ []) (take (14 - length new) (chosen_from (bit_or used mask) rest weights))
          ∙ (ap (λ (b : Chosen). chosen ++ b ∷ take (14 - length new) (chosen_from (bit_or used mask) rest weights)) bit_is
          ∙ (ap (λ (n : ℕ). chosen ++ take n (chosen_from used (mask ∷ rest) weights)) (sym left)
          ∙ so_far.is)));
    }

pub chosen_more : (used index : ℕ) (bit : Chosen) (groups weights : List ℕ) (chosen new : List Chosen) → index < length groups → length chosen < 14 → bit ≡ group_of used (get_or groups index 0) weights → new ≡ chosen ++ bit ∷ []
    → IsChosen used groups (drop index groups) weights chosen → IsChosen (bit_or used (get_or groups index 0)) groups (drop (index + 1) groups) weights new
chosen_more used index bit groups weights chosen new inside room bit_is pushed so_far =
    let next : suc index ≡ index + 1 = omega arith in
    let parts : drop index groups ≡ get_or groups index 0 ∷ drop (index + 1) groups = drop-cons groups index 0 inside ∙ ap (λ n. get_or groups index 0 ∷ drop n groups) next in
    chosen_push used (get_or groups index 0) bit groups (drop (index + 1) groups) weights chosen new room bit_is pushed
    (subst (λ (xs : List ℕ). IsChosen used groups xs weights chosen) parts so_far)

pub chosen_all : (used index : ℕ) (groups weights : List ℕ) (chosen : List Chosen) → length groups ≤ index → IsChosen used groups (drop index groups) weights chosen → chosen ≡ chosen_of groups weights
chosen_all used index groups weights chosen all so_far =
    sym (append-nil chosen) ∙ (sym (ap (λ (bits : List Chosen). chosen ++ bits) (no_more (14 - length chosen)))
    ∙ (sym (ap (λ (xs : List ℕ). chosen ++ take (14 - length chosen) (chosen_from used xs weights)) (drop_all index groups all)) ∙ so_far.is))
  where
    no_more : (n : ℕ) → take n (chosen_from used [] weights) ≡ []
    no_more zero = refl
    no_more (suc n) = refl

-- the weight that is counted
pub group_is : (bits used mask weight : ℕ) (weights : List ℕ) → bits ≡ bit_and mask (2 ^ 64 - 1 - used) → unset_weight bits weights (length weights) + weight ≡ sum weights
    → ◌≡◌ {A = Chosen} (record { bits = bits; weight = weight }) (group_of used mask weights)
group_is bits used mask weight weights bits_is all =
    let light : weight ≡ set_weight bits weights = omega (arith, all) in
    ap (λ (n : ℕ). record { bits = bits; weight = n }) light ∙ ap (λ (n : ℕ). record { bits = n; weight = set_weight n weights }) bits_is

same_is : (a b : ℕ) → a ≡ b → (a == b) ≡ true
same_is a b h = grind (arith, nat_tests)

le_self : (a : ℕ) → nat_le a a ≡ true
le_self a = grind (arith, nat_tests)

both : (a b : Bool) → a ≡ true → b ≡ true → (a && b) ≡ true
both true b p q = q
both false b p q = p

-- what is not used has no bit that is used
unused_bit : (mask used i : ℕ) → min (bit_at (bit_and mask (2 ^ 64 - 1 - used)) i) (bit_at used i) ≡ 0
unused_bit mask used i =
    let whole = bit_at_and mask (2 ^ 64 - 1 - used) i in
    let low = bit_at-lt used i in
    let zero_is = bit_at-zero i in
    elim (cases_lt used (2 ^ 64)) [
      | inr over ↦ (
          let none : 2 ^ 64 - 1 - used ≡ 0 = omega (arith, over) in
          let left : bit_at (2 ^ 64 - 1 - used) i ≡ 0 = ap (λ n. bit_at n i) none ∙ bit_at-zero i in
          omega (arith, whole, left))
      | inl small ↦ elim (cases_lt i 64) [
        | inl less ↦ (let turned = bit_at_not w64 used i small less in omega (arith, whole, low, turned))
        | inr above ↦ (let none = bit_at_above used 64 i small above in omega (arith, none))
      ]
    ]

-- what is chosen shares no bit with what is known to be used
from_known : (n used known : ℕ) (groups weights : List ℕ) → ((i : ℕ) → bit_at known i ≤ bit_at used i) → are_known known (take n (chosen_from used groups weights)) weights ≡ true
from_known zero used known groups weights inside = refl
from_known (suc n) used known [] weights inside = refl
from_known (suc n) used known (mask ∷ groups) weights inside =
    let bits = bit_and mask (2 ^ 64 - 1 - used) in
    let apart : bit_and bits known ≡ 0 = same_from_bits _ _ (λ i.
    let whole = bit_at_and bits known i in
    let none = unused_bit mask used i in
    let less = inside i in
    let zero_is = bit_at-zero i in
    omega (arith, whole, none, less, zero_is)) in
    both ((bit_and bits known == 0) && nat_le (set_weight bits weights) (set_weight bits weights)) (are_known (bit_or known bits) (take n (chosen_from (bit_or used mask) groups weights)) weights)
    (both (bit_and bits known == 0) (nat_le (set_weight bits weights) (set_weight bits weights)) (same_is (bit_and bits known) 0 apart) (le_self (set_weight bits weights)))
    (from_known n (bit_or used mask) (bit_or known bits) groups weights (λ i.
    let more = bit_at_or known bits i in
    let all = bit_at_or used mask i in
    let part = bit_at_and mask (2 ^ 64 - 1 - used) i in
    let less = inside i in
    omega (arith, more, all, part, less)))

pub chosen_known : (groups weights : List ℕ) → are_known 0 (chosen_of groups weights) weights ≡ true
unfolding chosen_of
chosen_known groups weights = from_known 14 0 0 groups weights (λ i. omega arith)

from_inside : (n used : ℕ) (groups weights : List ℕ) → All (λ bit. bit.bits < 2 ^ 64) (take n (chosen_from used groups weights))
from_inside zero used groups weights = All-nil (λ (bit : Chosen). bit.bits < 2 ^ 64)
from_inside (suc n) used [] weights = All-nil (λ (bit : Chosen). bit.bits < 2 ^ 64)
from_inside (suc n) used (mask ∷ groups) weights =
    let less = and_le_r mask (2 ^ 64 - 1 - used) in
    All-cons (λ (bit : Chosen). bit.bits < 2 ^ 64) (group_of used mask weights) (take n (chosen_from (bit_or used mask) groups weights)) (omega (arith, less)) (from_inside n (bit_or used mask) groups weights)

pub chosen_inside : (groups weights : List ℕ) → All (λ bit. bit.bits < 2 ^ 64) (chosen_of groups weights)
unfolding chosen_of
chosen_inside groups weights = from_inside 14 0 groups weights

from_light : (n used : ℕ) (groups weights : List ℕ) → sum weights < 2 ^ 39 → All (λ bit. bit.weight < 2 ^ 39) (take n (chosen_from used groups weights))
from_light zero used groups weights small = All-nil (λ (bit : Chosen). bit.weight < 2 ^ 39)
from_light (suc n) used [] weights small = All-nil (λ (bit : Chosen). bit.weight < 2 ^ 39)
from_light (suc n) used (mask ∷ groups) weights small =
    All-cons (λ (bit : Chosen). bit.weight < 2 ^ 39) (group_of used mask weights) (take n (chosen_from (bit_or used mask) groups weights)) (omega (arith, small)) (from_light n (bit_or used mask) groups weights small)

pub chosen_light : (groups weights : List ℕ) → sum weights < 2 ^ 39 → All (λ bit. bit.weight < 2 ^ 39) (chosen_of groups weights)
unfolding chosen_of
chosen_light groups weights small = from_light 14 0 groups weights small
