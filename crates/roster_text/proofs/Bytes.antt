-- Where bytes stand and where they don't: names, numbers, and what is cut off before a byte.
use Rattle.std.proofs.Common.{◌≡◌, ◌≢◌, ℕ, zero, suc, ◌+◌, ◌-◌, ◌*◌, ◌^◌, ◌<◌, ◌≤◌, Bool, true, false, cond, eqb, eq-eqb, List, [], ◌∷◌, ◌++◌, length, take, drop, drop-cons, get_or, Option, Some, None, refl, sym, ap, subst, ◌∙◌, arith, rules, decimal, inl, inr}
use Rattle.std.specs.Prelude.{not, codes}
use Rattle.std.specs.List.{list_all}
use Rattle.std.specs.Char.{is_ascii_digit}
use Rattle.std.specs.Str.{all_ascii_digits}
use Rattle.std.specs.Str.Parse.{digits_value}
use Rattle.std.proofs.lemmas.Bool.{eqb-true, ne_eqb, false≢true, and_parts, cases_lt}
use Rattle.std.proofs.lemmas.List.{length-drop}
use Rattle.std.proofs.lemmas.Fmt.{decimal_is_IsNumeral, digits_decimal, decimal_nonempty, first_decimal, decimal_digit}
use Rattle.std.proofs.lemmas.Str.Parse.{IsNumeralModel, numerals_by_fold, tells_all_ascii_digits}
use Rattle.duty_calendar.specs.Forms.{is_name, is_name_byte}
use Rattle.roster_text.specs.NameReading.{◌>>=◌}
use Rattle.roster_text.specs.ReasonFaults.{is_numeral}
use Rattle.roster_text.specs.ReasonWords.{cut, kept, with_front}
use Rattle.roster_text.proofs.Words.{bind_some, some_if, some_is}

-- the byte is not there
abbrev pub without : ℕ → List ℕ → Bool
without b bytes = list_all (λ c. not (eqb c b)) bytes

not_true : (x : Bool) → not x ≡ true → x ≡ false
not_true true e = absurd cc
not_true false e = refl

-- a byte of another kind is not there
pub without_kind : (test : ℕ → Bool) (b : ℕ) (word : List ℕ) → test b ≡ false → list_all test word ≡ true → without b word ≡ true
without_kind test b [] other h = refl
without_kind test b (c ∷ cs) other h =
    let t = and_parts (test c) (list_all test cs) h in
    rw (ne_eqb c b (λ e. false≢true (sym other ∙ ap test (sym e) ∙ t.0))) (without_kind test b cs other t.1)

-- ---- what is cut off

module _ (b c : ℕ) (cs : List ℕ) (x : List ℕ × List ℕ) (later : (y : List ℕ × List ℕ) → cut b cs ≡ Some y → cs ≡ y.0 ++ b ∷ y.1) where
  cut_later : (o : Option (List ℕ × List ℕ)) → cut b cs ≡ o → with_front c o ≡ Some x → c ∷ cs ≡ x.0 ++ b ∷ x.1
  cut_later None o e = absurd cc
  cut_later (Some y) o e =
      subst (λ (z : List ℕ × List ℕ). c ∷ cs ≡ z.0 ++ b ∷ z.1) (some_is (c ∷ y.0, y.1) x e) (ap (λ (t : List ℕ). c ∷ t) (later y o))

  cut_here : (t : Bool) → eqb c b ≡ t → cond t (Some ([], cs)) (with_front c (cut b cs)) ≡ Some x → c ∷ cs ≡ x.0 ++ b ∷ x.1
  cut_here true t e =
      subst (λ (z : List ℕ × List ℕ). c ∷ cs ≡ z.0 ++ b ∷ z.1) (some_is ([], cs) x e) (ap (λ (k : ℕ). k ∷ cs) (eqb-true c b t))
  cut_here false t e = cut_later (cut b cs) refl e

pub cut_takes : (b : ℕ) (bytes : List ℕ) (x : List ℕ × List ℕ) → cut b bytes ≡ Some x → bytes ≡ x.0 ++ b ∷ x.1
unfolding cut
cut_takes b [] x e = absurd cc
cut_takes b (c ∷ cs) x e = cut_here b c cs x (cut_takes b cs) (eqb c b) refl e

pub cut_again : (b : ℕ) (front rest : List ℕ) → without b front ≡ true → cut b (front ++ b ∷ rest) ≡ Some (front, rest)
unfolding cut
cut_again b [] rest h = rw (eq-eqb b b refl) refl
cut_again b (c ∷ cs) rest h =
    let t = and_parts (not (eqb c b)) (without b cs) h in
    rw (not_true (eqb c b) t.0, cut_again b cs rest t.1) refl

-- cut at a place that was looked for
pub cut_none : (b n : ℕ) (bytes : List ℕ) → length bytes ≤ n → ((k : ℕ) → k < n → get_or bytes k 0 ≢ b) → cut b bytes ≡ None
unfolding cut
cut_none b n [] le none = refl
cut_none b zero (c ∷ cs) le none = absurd (omega arith)
cut_none b (suc n) (c ∷ cs) le none =
    rw (ne_eqb c b (none 0 (omega arith)), cut_none b n cs (omega arith) (λ k lt. none (suc k) (omega arith))) refl

pub cut_first : (b n : ℕ) (bytes : List ℕ) → n < length bytes → ((k : ℕ) → k < n → get_or bytes k 0 ≢ b) → get_or bytes n 0 ≡ b
    → cut b bytes ≡ Some (take n bytes, drop (suc n) bytes)
unfolding cut
cut_first b n [] lt none found = absurd (omega arith)
cut_first b zero (c ∷ cs) lt none found = rw (eq-eqb c b found) refl
cut_first b (suc n) (c ∷ cs) lt none found =
    rw (ne_eqb c b (none 0 (omega arith)), cut_first b n cs (omega arith) (λ k less. none (suc k) (omega arith)) found) refl

pub cut_at : (b n : ℕ) (bytes front rest : List ℕ) (first : ℕ) (behind : List ℕ) → n ≤ length bytes → front ≡ take n bytes → rest ≡ drop n bytes
    → rest ≡ first ∷ behind → ((k : ℕ) → k < n → get_or bytes k 0 ≢ b) → (n < length bytes → get_or bytes n 0 ≡ b) → Some (front, behind) ≡ cut b bytes
cut_at b n bytes front rest first behind le e f cons none found =
    let count : length rest ≡ suc (length behind) = ap (λ (t : List ℕ). length t) cons in
    let left : length rest + n ≡ length bytes = omega (arith, ap (λ (t : List ℕ). length t) f, length-drop n bytes, le) in
    let lt : n < length bytes = omega (arith, count, left) in
    let tail : get_or bytes n 0 ∷ drop (suc n) bytes ≡ first ∷ behind = sym (drop-cons bytes n 0 lt) ∙ sym f ∙ cons in
    let same : drop (suc n) bytes ≡ behind = cc in
    ap (λ (t : List ℕ). Some (t, behind)) e ∙ ap (λ (t : List ℕ). Some (take n bytes, t)) (sym same) ∙ sym (cut_first b n bytes lt none (found lt))

-- a word of a kind before a byte
pub word_taken : (test : List ℕ → Bool) (b : ℕ) (bytes : List ℕ) (x : List ℕ × List ℕ) → (cut b bytes >>= kept test) ≡ Some x
    → (bytes ≡ x.0 ++ b ∷ x.1) × (test x.0 ≡ true)
word_taken test b bytes x e =
    let a = bind_some (cut b bytes) (kept test) x e in
    let k = some_if (test a.0.0) a.0 x a.2 in
    subst (λ (z : List ℕ × List ℕ). (bytes ≡ z.0 ++ b ∷ z.1) × (test z.0 ≡ true)) k.1 (cut_takes b bytes a.0 a.1, k.0)

pub word_back : (test : List ℕ → Bool) (b : ℕ) (word rest : List ℕ) → without b word ≡ true → test word ≡ true
    → (cut b (word ++ b ∷ rest) >>= kept test) ≡ Some (word, rest)
word_back test b word rest h t = rw (cut_again b word rest h, t) refl

-- ---- names and numbers

pub name_bytes : (word : List ℕ) → is_name word ≡ true → list_all is_name_byte word ≡ true
name_bytes word h = (and_parts _ (list_all is_name_byte word) h).1

pub numeral_bytes : (word : List ℕ) → is_numeral word ≡ true → list_all is_ascii_digit word ≡ true
numeral_bytes [] h = absurd cc
numeral_bytes (c ∷ []) h = rw h refl
numeral_bytes (c ∷ d ∷ cs) h = by (eqb c 48) h
  where
    by : (t : Bool) → cond t false (list_all is_ascii_digit (c ∷ d ∷ cs)) ≡ true → list_all is_ascii_digit (c ∷ d ∷ cs) ≡ true
    by true e = absurd cc
    by false e = e

pub numeral_some : (word : List ℕ) → is_numeral word ≡ true → 0 < length word
numeral_some [] h = absurd cc
numeral_some (c ∷ cs) h = omega arith

abbrev read_on : ℕ → List ℕ → ℕ
read_on n [] = n
read_on n (c ∷ cs) = read_on (10 * n + (c - 48)) cs

own : IsNumeralModel (λ ds. all_ascii_digits ds ≡ true) (read_on 0)
own = numerals_by_fold _ tells_all_ascii_digits read_on (search rules)

all_digits : (ds : List ℕ) → all_ascii_digits ds ≡ true → list_all is_ascii_digit ds ≡ true
all_digits [] h = refl
all_digits (c ∷ cs) h =
    let t = and_parts (is_ascii_digit c) (all_ascii_digits cs) h in
    rw (t.0, all_digits cs t.1) refl

leads : (n : ℕ) → n < 2 ^ 64 → 1 < length (decimal n) → 48 < get_or (decimal n) 0 0
leads n wide long =
    elim (cases_lt 0 n) [
      | inl some ↦ first_decimal n some wide
      | inr none ↦
          let z : n ≡ 0 = omega arith in
          let one : length (decimal 0) ≡ 1 = ap (λ (t : List ℕ). length t) (decimal_digit 0 (omega arith)) in
          absurd (omega (arith, one, ap (λ (k : ℕ). length (decimal k)) z, long))
    ]

numeral_from : (word : List ℕ) → 0 < length word → list_all is_ascii_digit word ≡ true → (1 < length word → 48 < get_or word 0 0) → is_numeral word ≡ true
numeral_from [] some h leads = absurd (omega arith)
numeral_from (c ∷ []) some h leads = (and_parts (is_ascii_digit c) true h).0
numeral_from (c ∷ d ∷ cs) some h leads =
    let high : 48 < c = leads (omega arith) in
    rw (ne_eqb c 48 (λ e. absurd (omega (arith, e, high)))) h

pub numeral_text : (n : ℕ) → n < 2 ^ 64 → is_numeral (decimal n) ≡ true
numeral_text n wide =
    numeral_from (decimal n) (decimal_nonempty n wide) (all_digits (decimal n) (digits_decimal own n wide)) (leads n wide)

-- numbers that are spelt alike are one
pub number_same : (m n : ℕ) → m < 2 ^ 64 → n < 2 ^ 64 → decimal m ≡ decimal n → m ≡ n
number_same m n wide_m wide_n e =
    sym (decimal_is_IsNumeral m wide_m).1 ∙ ap (digits_value 10) e ∙ (decimal_is_IsNumeral n wide_n).1

pub zero_text : codes "0" ≡ decimal 0
zero_text = sym (decimal_digit 0 (omega arith))
