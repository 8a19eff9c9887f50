-- The loops over chosen bits.
use Rattle.std.proofs.Common.{◌≡◌, ℕ, suc, ◌+◌, ◌-◌, ◌*◌, ◌^◌, ◌<◌, ◌≤◌, List, ◌∷◌, sym, ◌∙◌, ap, subst, arith, length, get_or, drop}
use Rattle.std.specs.Prelude.{bit_and, bit_or}
use Rattle.std.specs.Int.Bits.{or_zero_r}
use Rattle.std.proofs.lemmas.Nat.{and_mask}
use Rattle.std.proofs.Math.Nat.{mod-eq_of_lt}
use Rattle.std.proofs.lemmas.List.{length-drop}
use Rattle.std.proofs.Math.Seq.{drop-cons}
use Rattle.std.proofs.Math.Pow.{pow_mono}
use Rattle.chain_search.specs.declared.chosen.Chosen.{Chosen}
use Rattle.chain_search.specs.BitStates.{all_set, state_of}
use Rattle.chain_search.specs.BitLaws.{state_below}

pub small_state : (chosen : List Chosen) (bits back state : ℕ) → length chosen ≤ 14 → back < length chosen → state ≡ state_of (drop (length chosen - back) chosen) bits → state < 2 ^ 13
small_state chosen bits back state few less is =
    let below = state_below (drop (length chosen - back) chosen) bits in
    let long : length (drop (length chosen - back) chosen) ≡ back = length-drop (length chosen - back) chosen ∙ omega (arith, less) in
    let short : back ≤ 13 = omega (arith, less, few) in
    let most : 2 ^ length (drop (length chosen - back) chosen) ≤ 2 ^ 13 = subst (λ n. 2 ^ n ≤ 2 ^ 13) (sym long) (pow_mono {i = back} {j = 13} short) in
    omega (arith, below, most, is)

pub state_more : (chosen : List Chosen) (bits back state bit : ℕ) (none : Chosen) → back < length chosen → bit ≡ all_set bits (get_or chosen (length chosen - 1 - back) none).bits → state ≡ state_of (drop (length chosen - back) chosen) bits
    → 2 * state + bit ≡ state_of (drop (length chosen - (back + 1)) chosen) bits
state_more chosen bits back state bit none less bit_is so_far =
    let at : length chosen - (back + 1) ≡ length chosen - 1 - back = omega arith in
    let next : suc (length chosen - 1 - back) ≡ length chosen - back = omega (arith, less) in
    let parts : drop (length chosen - (back + 1)) chosen ≡ get_or chosen (length chosen - 1 - back) none ∷ drop (length chosen - back) chosen =
    ap (λ n. drop n chosen) at ∙ (drop-cons chosen (length chosen - 1 - back) none (omega (arith, less)) ∙ ap (λ n. get_or chosen (length chosen - 1 - back) none ∷ drop n chosen) next) in
    let whole : state_of (drop (length chosen - (back + 1)) chosen) bits ≡ all_set bits (get_or chosen (length chosen - 1 - back) none).bits + 2 * state_of (drop (length chosen - back) chosen) bits = ap (λ (xs : List Chosen). state_of xs bits) parts in
    omega (arith, bit_is, so_far, whole)

-- a move that keeps all bits and sets none
pub all_stay : (wide state keep set : ℕ) → state < 2 ^ wide → keep ≡ 2 ^ wide - 1 → set ≡ 0 → bit_or (bit_and state keep) set ≡ state - 0
all_stay wide state keep set less all none =
    let same : state ≡ state - 0 = omega arith in
    ap (λ n. bit_or (bit_and state keep) n) none
    ∙ (or_zero_r (bit_and state keep)
    ∙ (ap (λ n. bit_and state n) all
    ∙ (and_mask state wide
    ∙ (mod-eq_of_lt less ∙ same))))
