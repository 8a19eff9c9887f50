-- Numbers of any size are told apart by their digits.
use Rattle.std.proofs.Common.{◌≡◌, ℕ, ◌+◌, ◌<◌, ◌^◌, Bool, true, false, List, [], ◌∷◌, Option, Some, None, refl, sym, ap, ◌∙◌, arith, inl, inr, codes}
use Rattle.std.specs.Prelude.{◌&&◌, not, nat_lt, nat_le, IfOk, Result, Ok, Err}
use Rattle.std.specs.Option.{is_some, option_map}
use Rattle.std.specs.Char.{is_ascii_digit}
use Rattle.std.specs.Str.{all_ascii_digits}
use Rattle.std.proofs.lemmas.Bool.{cases_lt}
use Rattle.std.proofs.lemmas.Bool.Decides.{nat_tests}
use Rattle.cert_text.specs.declared.flaw.Flaw.{Flaw}
use Rattle.cert_text.specs.declared.flaw.Flaw.TheVariants.{Number}
use Rattle.cert_text.specs.Fields.{kept, plain_number, or_zero, is_number, size, capped, is_below, is_place, is_next}
use Rattle.cert_text.proofs.Numerals.{read_on, both, number_from_reads, lone_zero}
use Rattle.cert_text.proofs.Order.{IsSpelt, digit_range, below_is}

abbrev ok_number : ℕ → Result ℕ Flaw
ok_number n = Ok n

not_ok : (x : ℕ) → ok_number x ≡ Err Number → ⊥
not_ok x e = absurd cc

some_in : (w : List ℕ) → is_number w ≡ true → (n : ℕ) × (plain_number w ≡ Some n)
unfolding is_number
some_in w h = by_case (plain_number w) refl h
  where
    by_case : (o : Option ℕ) → plain_number w ≡ o → is_some o ≡ true → (n : ℕ) × (plain_number w ≡ Some n)
    by_case None e h = absurd cc
    by_case (Some n) e h = (n, e)

size_is : (w : List ℕ) (n : ℕ) → plain_number w ≡ Some n → size w ≡ n
unfolding size
size_is w n e = ap or_zero e

-- a word that spells a number, and that number
pub record IsNumeral (w : List ℕ) : Type 0 where
  pub spelt : IsSpelt w
  pub value : read_on 0 w ≡ size w

spelt_as : (w : List ℕ) (n : ℕ) → plain_number w ≡ Some n → IsSpelt w × (read_on 0 w ≡ n)
spelt_as [] n e = absurd cc
spelt_as (c ∷ cs) n e =
    let g = lone_zero c cs n e in
    let r = number_from_reads 0 (c ∷ cs) n g.0 in
    let range = digit_range c (both (is_ascii_digit c) (all_ascii_digits cs) r.digits).0 in (
      record {
        digits = r.digits;
        some = omega arith;
        leads = λ long. elim (cases_lt 48 c) [
          | inl high ↦ high
          | inr low ↦ let alone = g.1 (omega (arith, low, range.0)) in absurd (omega (arith, alone, long))
        ];
      },
      r.value,
    )

pub numeral : (w : List ℕ) → is_number w ≡ true → IsNumeral w
numeral w h =
    let n = some_in w h in
    let g = spelt_as w n.0 n.1 in
    record { spelt = g.0; value = g.1 ∙ sym (size_is w n.0 n.1) }

pub no_size : (w : List ℕ) → is_number w ≡ false → size w ≡ 0
unfolding is_number size
no_size w h = by_case (plain_number w) refl h
  where
    by_case : (o : Option ℕ) → plain_number w ≡ o → is_some o ≡ false → or_zero o ≡ 0
    by_case None e h = refl
    by_case (Some n) e h = absurd cc

-- numbers are below one another as their words are
below_sizes : (a b : List ℕ) → is_number a ≡ true → is_number b ≡ true → is_below a b ≡ nat_lt (size a) (size b)
below_sizes a b p q =
    let x = numeral a p in
    let y = numeral b q in
    below_is a b x.spelt y.spelt ∙ ap (λ (n : ℕ). nat_lt n (read_on 0 b)) x.value ∙ ap (λ (n : ℕ). nat_lt (size a) n) y.value

not_lt : (n m : ℕ) → not (nat_lt n m) ≡ nat_le m n
not_lt n m = elim (cases_lt n m) [
  | inl lt ↦
      let a : nat_lt n m ≡ true = grind (arith, nat_tests) in
      let b : nat_le m n ≡ false = grind (arith, nat_tests) in
      ap not a ∙ sym b
  | inr ge ↦
      let a : nat_lt n m ≡ false = grind (arith, nat_tests) in
      let b : nat_le m n ≡ true = grind (arith, nat_tests) in
      ap not a ∙ sym b
]

-- whether a word is a place, by its digits
pub place_words : (most last w : List ℕ) → is_number most ≡ true → is_number last ≡ true
    → (is_number w && (is_below last w && not (is_below most w))) ≡ is_place (size most) (size last) (size w)
place_words most last w p q = by_test (is_number w) refl
  where
    by_test : (b : Bool) → is_number w ≡ b → (is_number w && (is_below last w && not (is_below most w))) ≡ is_place (size most) (size last) (size w)
    by_test false h =
        let none : nat_lt (size last) (size w) ≡ false = let z = no_size w h in grind (arith, nat_tests) in
        rw (h, none) refl
    by_test true h =
        rw (h, below_sizes last w q h, below_sizes most w p h) (ap (λ (b : Bool). nat_lt (size last) (size w) && b) (not_lt (size most) (size w)))

pub place_true : (most last w : List ℕ) → is_number most ≡ true → is_number last ≡ true → is_number w ≡ true → is_below last w ≡ true → not (is_below most w) ≡ is_place (size most) (size last) (size w)
place_true most last w p q h b =
    let step : not (is_below most w) ≡ (is_number w && (is_below last w && not (is_below most w))) = rw (h, b) refl in
    step ∙ place_words most last w p q

pub place_false : (most last w : List ℕ) → is_number most ≡ true → is_number last ≡ true → is_number w ≡ true → is_below last w ≡ false → false ≡ is_place (size most) (size last) (size w)
place_false most last w p q h b =
    let step : false ≡ (is_number w && (is_below last w && not (is_below most w))) = rw (h, b) refl in
    step ∙ place_words most last w p q

pub place_none : (most last : ℕ) (w : List ℕ) → is_number w ≡ false → false ≡ is_place most last (size w)
place_none most last w h = let none : nat_lt last (size w) ≡ false = let z = no_size w h in grind (arith, nat_tests) in rw none refl

-- what is a place is a number
pub place_is_number : (most last : ℕ) (w : List ℕ) (said r : Result ℕ Flaw) → r ≡ kept (is_place most last (size w)) said → IfOk r (λ p. is_number w ≡ true)
place_is_number most last w said r e = by_test (is_number w) refl r e
  where
    by_test : (b : Bool) → is_number w ≡ b → (r : Result ℕ Flaw) → r ≡ kept (is_place most last (size w)) said → IfOk r (λ p. is_number w ≡ true)
    by_test true h (Ok x) e = h
    by_test true h (Err f) e = tt
    by_test false h (Err f) e = tt
    by_test false h (Ok x) e = absurd (not_ok x (e ∙ ap (λ (t : Bool). kept t said) (sym (place_none most last w h))))

-- what reads as a capped number
pub capped_size : (w : List ℕ) → or_zero (option_map capped (plain_number w)) ≡ capped (size w)
unfolding size
capped_size w = by_case (plain_number w)
  where
    by_case : (o : Option ℕ) → or_zero (option_map capped o) ≡ capped (or_zero o)
    by_case None = refl
    by_case (Some n) = refl

-- a limit in 32 bits is tested on capped numbers
pub next_capped : (total used n : ℕ) → total < 2 ^ 32 → is_next total used (capped n) ≡ is_next total used n
next_capped total used n small = elim (cases_lt n (2 ^ 32)) [
  | inl low ↦ let same : capped n ≡ n = omega (arith, low) in ap (is_next total used) same
  | inr high ↦
      let a = no_le n total (omega (arith, small, high)) in
      let b = no_le (capped n) total (omega (arith, small, high)) in
      ap (λ (t : Bool). nat_le 1 (capped n) && (t && nat_le (capped n) (used + 1))) b ∙ never (nat_le 1 (capped n)) ∙ sym (never (nat_le 1 n)) ∙ sym (ap (λ (t : Bool). nat_le 1 n && (t && nat_le n (used + 1))) a)
]
  where
    no_le : (a b : ℕ) → b < a → nat_le a b ≡ false
    no_le a b lt = grind (arith, nat_tests)

    never : (t : Bool) → (t && false) ≡ false
    never true = refl
    never false = refl

pub zero_number : (is_number (codes "0") ≡ true) × (size (codes "0") ≡ 0)
unfolding is_number size
zero_number = (refl, refl)
