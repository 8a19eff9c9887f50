-- The numbers of lenses and items are within the limits of certificates.
use Rattle.std.proofs.Common.{◌≡◌, ℕ, zero, suc, ◌+◌, ◌*◌, ◌/◌, ◌%◌, ◌^◌, ◌<◌, ◌≤◌, Bool, true, false, ◌||◌, ◌&&◌, ◌==◌, List, [], ◌∷◌, length, None, refl, sym, ap, ◌∙◌, arith, inl, inr, mod-lt, div-add-mod', zero-mul, pow_pos, shr-shr}
use Rattle.std.specs.Prelude.{All, nat_lt, nat_le, slice_get, unwrap_or, ℤ, pos, negsuc}
use Rattle.std.specs.Int.{bit_at}
use Rattle.std.specs.Option.{option_map_or}
use Rattle.std.proofs.lemmas.Bool.{cases_eq, eq-eqb, eqb-true, or_cases, and_from, false≢true}
use Rattle.std.proofs.lemmas.Bool.Decides.{nat_tests}
use Rattle.std.proofs.lemmas.Int.{ints}
use Rattle.std.proofs.lemmas.List.Elements.{All-head, All-tail}
use Rattle.std.proofs.lemmas.List.Sums.{list_all-from_AllPass}
use Rattle.std.proofs.lemmas.Nat.Bits.{bit_at_lowest, bit_at-suc, bit_at-lt}
use Rattle.std.proofs.lemmas.Option.{slice_get_past}
use Rattle.jiff_core.proofs.CalendarLemmas.{days_in_month_bounds}
use Rattle.duty_calendar.specs.Minutes.{count_between}
use Rattle.roster_model.specs.declared.bid.Bid.{Bid}
use Rattle.roster_model.specs.declared.problem.Problem.{Problem}
use Rattle.roster_model.specs.declared.proof.Lens.{Lens}
use Rattle.roster_model.specs.declared.proof.WindowKind.{WindowKind}
use Rattle.roster_model.specs.declared.proof.WindowKind.TheVariants.{Flight672, Duty672, Duty168, Flight365}
use Rattle.roster_model.specs.Scores.{bids_of}
use Rattle.roster_model.specs.Weights.{IsSmallWeight}
use Rattle.roster_model.specs.Lenses.{IsLens, IsInstance, is_grain, is_trackable, is_whole, is_whole_tracked, may_track}
use Rattle.cert_text.specs.declared.limits.TheConstants.{LAST_INDEX, LAST_MINUTE, GREATEST_WEIGHT, MOST_WINDOWS}
use Rattle.cert_text.specs.Limits.{is_index, is_weight, is_window, is_lens}

pub below : (n most : ℕ) → n < most → nat_lt n most ≡ true
below n most lt = grind (arith, nat_tests)

pub within : (n most : ℕ) → n ≤ most → nat_le n most ≡ true
within n most le = grind (arith, nat_tests)

-- a number without bits from one on is below the power of this one
no_bits : (most n : ℕ) → n ≤ most → ((i : ℕ) → bit_at n i ≡ 0) → n ≡ 0
no_bits zero n le none = omega arith
no_bits (suc most) n le none =
    let even : n % 2 ≡ 0 = sym (bit_at_lowest n) ∙ none 0 in
    let half : n / 2 ≡ 0 = no_bits most (n / 2) (omega arith) (λ i. sym (bit_at-suc n i) ∙ none (suc i)) in
    omega (arith, even, half)

below_by_bits : (n k : ℕ) → ((i : ℕ) → k ≤ i → bit_at n i ≡ 0) → n < 2 ^ k
below_by_bits n k none =
    let high : (i : ℕ) → bit_at (n / 2 ^ k) i ≡ 0 = λ i. ap (λ (x : ℕ). x % 2) (shr-shr n k i) ∙ none (k + i) (omega arith) in
    let gone : n / 2 ^ k * 2 ^ k ≡ 0 = ap (λ (x : ℕ). x * 2 ^ k) (no_bits (n / 2 ^ k) (n / 2 ^ k) (omega arith) high) ∙ zero-mul (2 ^ k) in
    omega (arith, gone, div-add-mod' n (2 ^ k), mod-lt n {m = 2 ^ k} (pow_pos k))

-- a lens tracks bids of its member alone, of which there are 64 at most
pub few_bids : (lists : List (List Bid)) (m : ℕ) → All (λ list. length list ≤ 64) lists → length (unwrap_or (slice_get lists m) []) ≤ 64
few_bids [] m few = omega arith
few_bids (x ∷ xs) zero few = All-head (λ (list : List Bid). length list ≤ 64) x xs few
few_bids (x ∷ xs) (suc m) few = few_bids xs m (All-tail (λ (list : List Bid). length list ≤ 64) x xs few)

no_kind : (looks few : Bool) → (false || (looks && (false && few))) ≡ false
no_kind true few = refl
no_kind false few = refl

not_trackable : (problem : Problem) (member : ℕ) (lens : Lens) (bid : ℕ) → 64 ≤ bid → may_track problem member lens bid ≡ false
not_trackable problem member lens bid far =
    let few : Bool = nat_lt (count_between (is_whole_tracked problem member lens) 0 bid) 6 in
    let past : slice_get (bids_of problem member) bid ≡ None =
    slice_get_past (bids_of problem member) bid (omega (arith, far, few_bids problem.bids member problem.valid.few_bids)) in
    ap (λ o. option_map_or (λ (b : Bid). is_trackable b.wish) o false || (lens.whole && (option_map_or (λ (b : Bid). is_whole b.wish) o false && few))) past
    ∙ no_kind lens.whole few

tracked-fits : (problem : Problem) (member : ℕ) (lens : Lens) → IsLens problem member lens → lens.tracked < 2 ^ 64
tracked-fits problem member lens shape = below_by_bits lens.tracked 64 (λ i far.
    elim (cases_eq (bit_at lens.tracked i) 1) [
      | inl one ↦ absurd (false≢true (sym (not_trackable problem member lens i far) ∙ shape.trackable i (eq-eqb (bit_at lens.tracked i) 1 one)))
      | inr other ↦ omega (arith, bit_at-lt lens.tracked i, other)
    ])

grain-fits : (grain : ℕ) → is_grain grain ≡ true → grain ≤ 60
grain-fits g h =
    elim (or_cases ((g == 60) || (g == 30) || (g == 15) || (g == 5)) (g == 1) h) [
      | inr e ↦ omega (arith, eqb-true g 1 e)
      | inl h ↦ elim (or_cases ((g == 60) || (g == 30) || (g == 15)) (g == 5) h) [
        | inr e ↦ omega (arith, eqb-true g 5 e)
        | inl h ↦ elim (or_cases ((g == 60) || (g == 30)) (g == 15) h) [
          | inr e ↦ omega (arith, eqb-true g 15 e)
          | inl h ↦ elim (or_cases (g == 60) (g == 30) h) [
            | inr e ↦ omega (arith, eqb-true g 30 e)
            | inl e ↦ omega (arith, eqb-true g 60 e)
          ]
        ]
      ]
    ]

pub start-fits : (problem : Problem) (start : ℕ) (kind : WindowKind) → IsInstance problem start kind → start ≤ 600000
start-fits problem start Flight672 is = omega (arith, is.0, (days_in_month_bounds problem.base.rules.horizon.year problem.base.rules.horizon.month).0)
start-fits problem start Duty672 is = omega (arith, is.0, (days_in_month_bounds problem.base.rules.horizon.year problem.base.rules.horizon.month).0)
start-fits problem start Duty168 is = omega (arith, is.0, (days_in_month_bounds problem.base.rules.horizon.year problem.base.rules.horizon.month).0)
start-fits problem start Flight365 is = omega (arith, is.1, (days_in_month_bounds problem.base.rules.horizon.year problem.base.rules.horizon.month).0)

-- what is known of the numbers of a lens
pub record HasSmallNumbers (lens : Lens) : Type 0 where
  pub grain : lens.grain ≤ 60
  pub tracked : lens.tracked < 2 ^ 64
  pub few : length lens.windows ≤ 16
  pub starts : All (λ w. w.start ≤ 600000) lens.windows

pub lens-numbers : (problem : Problem) (member : ℕ) (lens : Lens) → IsLens problem member lens → HasSmallNumbers lens
lens-numbers problem member lens shape = record {
  grain = grain-fits lens.grain shape.grain;
  tracked = tracked-fits problem member lens shape;
  few = shape.few_windows;
  starts = λ k w lt. start-fits problem _ _ (shape.windows k w lt);
}

pub lens-fits : (lens : Lens) → HasSmallNumbers lens → is_lens lens ≡ true
lens-fits lens small =
    and_from _ _ (within lens.grain LAST_MINUTE (omega (arith, small.grain)))
    (and_from _ _ (below lens.tracked (2 ^ 64) small.tracked)
    (and_from _ _ (within (length lens.windows) MOST_WINDOWS (omega (arith, small.few)))
    (list_all-from_AllPass is_window lens.windows (λ k w lt. within _ LAST_MINUTE (omega (arith, small.starts k w lt))))))

pub weight-fits : (w : ℤ) → IsSmallWeight w → is_weight w ≡ true
weight-fits (pos n) small = within n GREATEST_WEIGHT (omega (arith, ints, small.1))
weight-fits (negsuc n) small = below n GREATEST_WEIGHT (omega (arith, ints, small.0))

pub index-fits : (i : ℕ) → i < 600 → is_index i ≡ true
index-fits i lt = below i LAST_INDEX (omega (arith, lt))
