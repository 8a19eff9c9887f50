-- What the bits of a set weigh, bit by bit.
use Rattle.std.proofs.Common.{◌≡◌, ◌≢◌, ℕ, zero, suc, ◌+◌, ◌-◌, ◌*◌, ◌%◌, ◌^◌, ◌<◌, ◌≤◌, List, refl, sym, ◌∙◌, ap, subst, arith, length, sum, w64}
use Rattle.std.specs.Prelude.{bit_xor, nat_le, slice_index}
use Rattle.std.specs.Int.{bit_at, trailing_zeros}
use Rattle.std.proofs.lemmas.Bool.Decides.{nat_tests}
use Rattle.std.proofs.lemmas.Nat.{one_shl}
use Rattle.std.proofs.lemmas.Nat.Bits.{bit_at-lt, bit_at-pow_other, bit_at-pow_same, bit_at-trailing_zeros, bit_at-zero, bit_at_xor}
use Rattle.label_lattice.specs.Mask.{unset_weight}
use Rattle.chain_search.specs.BitLaws.{set_is, set_sum}

-- a bit that was set is turned
turned_other : (bits place i : ℕ) → i ≢ place → bit_at (bit_xor bits (2 ^ place)) i ≡ bit_at bits i
turned_other bits place i other =
    let none = bit_at-pow_other place i other in
    let low = bit_at-lt bits i in
    bit_at_xor bits (2 ^ place) i ∙ (let e : (bit_at bits i + bit_at (2 ^ place) i) % 2 ≡ bit_at bits i = omega (arith, none, low) in e)

turned_same : (bits place : ℕ) → bit_at bits place ≡ 1 → bit_at (bit_xor bits (2 ^ place)) place ≡ 0
turned_same bits place is =
    let one = bit_at-pow_same place in
    bit_at_xor bits (2 ^ place) place ∙ (let e : (bit_at bits place + bit_at (2 ^ place) place) % 2 ≡ 0 = omega (arith, one, is) in e)

before_place : (bits place : ℕ) (number : ℕ → ℕ) (k : ℕ) → k ≤ place → set_sum (bit_xor bits (2 ^ place)) number k ≡ set_sum bits number k
unfolding set_sum
before_place bits place number zero le = refl
before_place bits place number (suc k) le =
    let before = before_place bits place number k (omega (arith, le)) in
    let bit = turned_other bits place k (omega (arith, le)) in
    ap (λ n. n + bit_at (bit_xor bits (2 ^ place)) k * number k) before ∙ ap (λ b. set_sum bits number k + b * number k) bit

pub turned_less : (bits place : ℕ) (number : ℕ → ℕ) (more : ℕ) → bit_at bits place ≡ 1 → set_sum (bit_xor bits (2 ^ place)) number (suc place + more) + number place ≡ set_sum bits number (suc place + more)
unfolding set_sum
turned_less bits place number zero is =
    let at : suc place + zero ≡ suc place = omega arith in
    let before = before_place bits place number place (omega arith) in
    let bit = turned_same bits place is in
    subst (λ n. set_sum (bit_xor bits (2 ^ place)) number n + number place ≡ set_sum bits number n) (sym at)
    (subst (λ b. set_sum (bit_xor bits (2 ^ place)) number place + b * number place + number place ≡ set_sum bits number place + bit_at bits place * number place) (sym bit)
    (subst (λ b. set_sum (bit_xor bits (2 ^ place)) number place + 0 * number place + number place ≡ set_sum bits number place + b * number place) (sym is)
    (omega (arith, before))))
turned_less bits place number (suc more) is =
    let at : suc place + suc more ≡ suc (suc place + more) = omega arith in
    let before = turned_less bits place number more is in
    let bit = turned_other bits place (suc place + more) (omega arith) in
    subst (λ n. set_sum (bit_xor bits (2 ^ place)) number n + number place ≡ set_sum bits number n) (sym at)
    (subst (λ b. set_sum (bit_xor bits (2 ^ place)) number (suc place + more) + b * number (suc place + more) + number place ≡ set_sum bits number (suc place + more) + bit_at bits (suc place + more) * number (suc place + more)) (sym bit)
    (omega (arith, before)))

pub set_none : (number : ℕ → ℕ) (k : ℕ) → set_sum 0 number k ≡ 0
unfolding set_sum
set_none number zero = refl
set_none number (suc k) =
    let before = set_none number k in
    subst (λ b. set_sum 0 number k + b * number k ≡ 0) (sym (bit_at-zero k)) (omega (arith, before))

pub set_of_all : (bits : ℕ) (weights : List ℕ) (count : ℕ) → length weights ≡ count → unset_weight bits weights (length weights) + set_sum bits (slice_index weights) count ≡ sum weights
set_of_all bits weights count long = subst (λ n. unset_weight bits weights (length weights) + set_sum bits (slice_index weights) n ≡ sum weights) long (set_is bits weights)

-- the lowest bit is set
pub lowest_set : (bits : ℕ) → 0 < bits → bits < 2 ^ 64 → bit_at bits (trailing_zeros w64 bits) ≡ 1
lowest_set bits some small = (bit_at-trailing_zeros w64 bits some small).1

pub lowest_inside : (bits : ℕ) → 0 < bits → bits < 2 ^ 64 → trailing_zeros w64 bits < 64
lowest_inside bits some small = (bit_at-trailing_zeros w64 bits some small).0

-- without the lowest bit
pub lowest_turned : (bits : ℕ) (number : ℕ → ℕ) → 0 < bits → bits < 2 ^ 64 → set_sum (bit_xor bits (1 * 2 ^ trailing_zeros w64 bits % 2 ^ 64)) number 64 + number (trailing_zeros w64 bits) ≡ set_sum bits number 64
lowest_turned bits number some small =
    let place = trailing_zeros w64 bits in
    let inside = lowest_inside bits some small in
    let at : suc place + (63 - place) ≡ 64 = omega (arith, inside) in
    subst (λ n. set_sum (bit_xor bits n) number 64 + number place ≡ set_sum bits number 64) (sym (one_shl place 64 inside))
    (subst (λ n. set_sum (bit_xor bits (2 ^ place)) number n + number place ≡ set_sum bits number n) at (turned_less bits place number (63 - place) (lowest_set bits some small)))

pub enough_left : (unset lost asked floor whole : ℕ) → unset + lost ≡ whole → asked ≡ floor → nat_le (lost + asked) whole ≡ nat_le floor unset
enough_left unset lost asked floor whole all is = grind (arith, nat_tests)
