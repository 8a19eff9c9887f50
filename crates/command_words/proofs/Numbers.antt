-- Words that are read as numbers, and words that are too long for one.
use Rattle.std.proofs.Common.{◌≡◌, ℕ, ◌+◌, ◌^◌, ◌<◌, ◌≤◌, Bool, true, false, cond, List, [], ◌∷◌, length, get_or, Option, Some, None, Result, Ok, Err, refl, sym, ap, ◌∙◌, subst, arith, inl, inr}
use Rattle.std.proofs.lemmas.Bool.{cases_lt, cases_eq}
use Rattle.std.proofs.lemmas.Bool.Decides.{nat_tests}
use Rattle.std.proofs.lemmas.Fmt.{decimal-digits_value, length-decimal-le}
use Rattle.std.proofs.lemmas.Str.Parse.{numerals_by_value, tells_digits}
use Rattle.std.proofs.lemmas.Str.{digit_value_digit}
use Rattle.std.specs.Char.{digit_value}
use Rattle.std.specs.Prelude.{nat_lt, nat_le, ◌&&◌, ◌==◌}
use Rattle.std.specs.Str.Parse.{AllDigits, IsNumeral, ParsesUnsigned, digits_value, without_leading_plus}
use Rattle.field_text.specs.declared.form.Class.TheVariants.{Digit}
use Rattle.field_text.specs.declared.field_fault.FieldFault.{FieldFault}
use Rattle.field_text.specs.declared.field_fault.FieldFault.TheVariants.{Range}
use Rattle.field_text.specs.Fields.{number, number_field, below, shaped}
use Rattle.field_text.specs.Form.{finished, many, fault_from, is_in}
use Rattle.field_text.specs.Steps.{or_fault}
use Rattle.field_text.proofs.Numbers.{number-zeros, number-digits, number-other}
use Rattle.command_words.specs.Numbers.{within, number_in, if_read, long_in}

not_some : (o : Option ℕ) (n : ℕ) → o ≡ Some n → o ≡ None → ⊥
not_some o n a b = absurd cc

many_right : (n b : ℕ) (bs : List ℕ) → is_in Digit b ≡ true → fault_from n (many Digit finished) (b ∷ bs) ≡ fault_from (n + 1) (many Digit finished) bs
unfolding fault_from
many_right n b bs h = rw h refl

many_wrong : (n b : ℕ) (bs : List ℕ) → is_in Digit b ≡ false → fault_from n (many Digit finished) (b ∷ bs) ≡ Some n
unfolding fault_from
many_wrong n b bs h = rw h refl

digit_small : (b : ℕ) → is_in Digit b ≡ true → digit_value b < 10
digit_small b h =
    let least : 48 ≤ b = grind (arith, nat_tests) in
    let most : b ≤ 57 = grind (arith, nat_tests) in
    let value = digit_value_digit b (least, most) in
    omega (arith, value, most)

-- a text without a fault is digits
all_digits : (n : ℕ) (text : List ℕ) → fault_from n (many Digit finished) text ≡ None → AllDigits 10 text
all_digits n [] h = tt
all_digits n (b ∷ bs) h = by (is_in Digit b) refl (λ e. all_digits (n + 1) bs e)
  where
    by : (t : Bool) → is_in Digit b ≡ t → (fault_from (n + 1) (many Digit finished) bs ≡ None → AllDigits 10 bs) → AllDigits 10 (b ∷ bs)
    by true e later = (digit_small b e, later (sym (many_right n b bs e) ∙ h))
    by false e later = absurd (not_some (fault_from n (many Digit finished) (b ∷ bs)) n (many_wrong n b bs e) h)

-- a number is 0, or digits that do not begin with 0
pub record IsSpelt (b : ℕ) (bs : List ℕ) : Type 0 where
  pub digits : AllDigits 10 (b ∷ bs)
  pub least : 48 ≤ b
  pub lone : b ≡ 48 → length bs ≡ 0

zero_spelt : (b : ℕ) (bs : List ℕ) → b ≡ 48 → fault_from 1 number (b ∷ bs) ≡ None → IsSpelt b bs
zero_spelt b [] e h = let v = digit_value_digit b (omega (arith, e), omega (arith, e)) in record { digits = (omega (arith, v, e), tt); least = omega (arith, e); lone = λ _. refl }
zero_spelt b (c ∷ cs) e h =
    absurd (not_some (fault_from 1 number (b ∷ c ∷ cs)) 2 (ap (λ (x : ℕ). fault_from 1 number (x ∷ c ∷ cs)) e ∙ number-zeros c cs) h)

pub spelt : (b : ℕ) (bs : List ℕ) → fault_from 1 number (b ∷ bs) ≡ None → IsSpelt b bs
spelt b bs h = elim (cases_eq b 48) [
  | inl same ↦ zero_spelt b bs same h
  | inr other ↦ elim (cases_lt b 49) [
    | inl low ↦ absurd (not_some (fault_from 1 number (b ∷ bs)) 1 (number-other b bs other (λ k. absurd (omega (arith, low, k)))) h)
    | inr least ↦ elim (cases_lt 57 b) [
      | inl above ↦ absurd (not_some (fault_from 1 number (b ∷ bs)) 1 (number-other b bs other (λ k. above)) h)
      | inr most ↦
          let rest : AllDigits 10 bs = all_digits 2 bs (sym (number-digits b bs least most) ∙ h) in
          let value = digit_value_digit b (omega (arith, least), most) in
          record { digits = (omega (arith, value, most), rest); least = omega (arith, least); lone = λ e. absurd (other e) }
    ]
  ]
]

-- more digits than k write a number that is at least 10 to k
many_digits : (k : ℕ) (b : ℕ) (bs : List ℕ) → IsSpelt b bs → 0 < k → k < length (b ∷ bs)
    → digits_value 10 (b ∷ bs) < 10 ^ k → digits_value 10 (b ∷ bs) < 2 ^ 64 → ⊥
many_digits k b bs s some longer few fits =
    let spelled = decimal-digits_value (numerals_by_value (AllDigits 10) tells_digits) (b ∷ bs) s.digits (omega arith)
    (λ (e : get_or (b ∷ bs) 0 0 ≡ 48). let same : b ≡ 48 = e in let none = s.lone same in omega (arith, none)) fits in
    let short = length-decimal-le k (digits_value 10 (b ∷ bs)) some few fits in
    let same = ap length spelled in
    omega (arith, short, same, longer)

within_above : (least most v : ℕ) → most < v → within least most (Ok v) ≡ None
within_above least most v h =
    let over : nat_le v most ≡ false = grind (arith, nat_tests) in
    rw over (none (nat_le least v))
  where
    none : (t : Bool) → cond (t && false) (Some v) None ≡ None
    none true = refl
    none false = refl

below_above : (least most v : ℕ) → within least most (Ok v) ≡ None → within least most (or_fault Range (below (2 ^ 32) v)) ≡ None
below_above least most v h = by (nat_lt v (2 ^ 32))
  where
    by : (t : Bool) → within least most (or_fault Range (cond t (Some v) None)) ≡ None
    by true = h
    by false = refl

refused : (least most : ℕ) (f : Option ℕ) (value : Result ℕ FieldFault) → (f ≡ None → within least most value ≡ None) → within least most (shaped f value) ≡ None
refused least most None value h = h refl
refused least most (Some k) value h = refl

-- a word of more than five bytes writes no number up to 20,000
pub long_word : (least most : ℕ) (word : List ℕ) → most ≤ 20000 → 5 < length word → number_in least most word ≡ None
long_word least most [] small h = absurd (omega (arith, h))
long_word least most (b ∷ bs) small h =
    refused least most (fault_from 1 number (b ∷ bs)) (or_fault Range (below (2 ^ 32) (digits_value 10 (b ∷ bs)))) (λ e.
    below_above least most (digits_value 10 (b ∷ bs)) (within_above least most (digits_value 10 (b ∷ bs)) (more e)))
  where
    more : fault_from 1 number (b ∷ bs) ≡ None → most < digits_value 10 (b ∷ bs)
    more e = elim (cases_lt most (digits_value 10 (b ∷ bs))) [
      | inl above ↦ above
      | inr few ↦ absurd (many_digits 5 b bs (spelt b bs e) (omega arith) h (omega (arith, few, small)) (omega (arith, few, small)))
    ]

-- ---- numbers of 64 bits

not_long : (f : Option ℕ) (v : ℕ) → (f ≡ None → 2 ^ 64 ≤ v) → if_read (shaped f (or_fault Range (below (2 ^ 64) v))) ≡ None
not_long (Some k) v h = refl
not_long None v h = let over : nat_lt v (2 ^ 64) ≡ false = least v (h refl) in rw over refl
  where
    least : (v : ℕ) → 2 ^ 64 ≤ v → nat_lt v (2 ^ 64) ≡ false
    least v h = grind (arith, nat_tests)

-- a word of more than twenty bytes writes none
pub longer_word : (word : List ℕ) → 20 < length word → long_in word ≡ None
longer_word [] h = absurd (omega (arith, h))
longer_word (b ∷ bs) h = not_long (fault_from 1 number (b ∷ bs)) (digits_value 10 (b ∷ bs)) more
  where
    more : fault_from 1 number (b ∷ bs) ≡ None → 2 ^ 64 ≤ digits_value 10 (b ∷ bs)
    more e = elim (cases_lt (digits_value 10 (b ∷ bs)) (2 ^ 64)) [
      | inl fits ↦ absurd (many_digits 20 b bs (spelt b bs e) (omega arith) h (omega (arith, fits)) fits)
      | inr above ↦ above
    ]

wide : (f : Option ℕ) (v n : ℕ) → shaped f (or_fault Range (below (2 ^ 32) v)) ≡ Ok n → if_read (shaped f (or_fault Range (below (2 ^ 64) v))) ≡ Some n
wide (Some k) v n h = absurd cc
wide None v n h = by (nat_lt v (2 ^ 32)) refl h
  where
    same : (r : Result ℕ FieldFault) (a b : ℕ) → r ≡ Ok a → r ≡ Ok b → a ≡ b
    same r a b h k = cc

    fits : (v : ℕ) → nat_lt v (2 ^ 32) ≡ true → nat_lt v (2 ^ 64) ≡ true
    fits v h = grind (arith, nat_tests)

    by : (t : Bool) → nat_lt v (2 ^ 32) ≡ t → or_fault Range (cond t (Some v) None) ≡ Ok n → if_read (or_fault Range (below (2 ^ 64) v)) ≡ Some n
    by true e h = rw (fits v e) (ap (λ (x : ℕ). Some x) (same (Ok v) v n refl h))
    by false e h = absurd cc

pub read_is_long : (word : List ℕ) (n : ℕ) → number_field word ≡ Ok n → long_in word ≡ Some n
read_is_long [] n h = absurd cc
read_is_long (b ∷ bs) n h = wide (fault_from 1 number (b ∷ bs)) (digits_value 10 (b ∷ bs)) n h

misspelt : (f : Option ℕ) (v : ℕ) (e : FieldFault) → shaped f (or_fault Range (below (2 ^ 32) v)) ≡ Err e → (e ≡ Range → ⊥) → if_read (shaped f (or_fault Range (below (2 ^ 64) v))) ≡ None
misspelt (Some k) v e h other = refl
misspelt None v e h other = by (nat_lt v (2 ^ 32)) h
  where
    same : (r : Result ℕ FieldFault) (a b : FieldFault) → r ≡ Err a → r ≡ Err b → a ≡ b
    same r a b h k = cc

    by : (t : Bool) → or_fault Range (cond t (Some v) None) ≡ Err e → if_read (or_fault Range (below (2 ^ 64) v)) ≡ None
    by true k = absurd cc
    by false k = absurd (other (same (Err Range) e Range k refl))

pub other_is_none : (word : List ℕ) (e : FieldFault) → number_field word ≡ Err e → (e ≡ Range → ⊥) → long_in word ≡ None
other_is_none [] e h other = refl
other_is_none (b ∷ bs) e h other = misspelt (fault_from 1 number (b ∷ bs)) (digits_value 10 (b ∷ bs)) e h other

no_fault : (f : Option ℕ) (value : Result ℕ FieldFault) → shaped f value ≡ Err Range → f ≡ None
no_fault None value h = refl
no_fault (Some k) value h = absurd cc

numeral : (b : ℕ) (bs : List ℕ) → IsSpelt b bs → without_leading_plus (b ∷ bs) ≡ b ∷ bs
numeral b bs s = let other : (b == 43) ≡ false = no_plus b s.least in rw other refl
  where
    no_plus : (b : ℕ) → 48 ≤ b → (b == 43) ≡ false
    no_plus b h = grind (arith, nat_tests)

is_under : (v : ℕ) → v < 2 ^ 64 → nat_lt v (2 ^ 64) ≡ true
is_under v h = grind (arith, nat_tests)

in_range : (f : Option ℕ) (v : ℕ) → f ≡ None → v < 2 ^ 64 → if_read (shaped f (or_fault Range (below (2 ^ 64) v))) ≡ Some v
in_range (Some k) v e h = absurd cc
in_range None v e h = let under : nat_lt v (2 ^ 64) ≡ true = is_under v h in rw under refl

-- what `parse` answers for a number of more than 32 bits
pub parsed : {E : Type 0} (word : List ℕ) (r : Result ℕ E) → number_field word ≡ Err Range → ParsesUnsigned 64 10 word r
    → long_in word ≡ (elim r [ Ok n ↦ Some n | Err e ↦ None ])
parsed [] r h k = absurd cc
parsed (b ∷ bs) (Ok n) h k =
    let f = no_fault (fault_from 1 number (b ∷ bs)) (or_fault Range (below (2 ^ 32) (digits_value 10 (b ∷ bs)))) h in
    let s = spelt b bs f in
    let t = numeral b bs s in
    let fits : digits_value 10 (b ∷ bs) < 2 ^ 64 = subst (λ (x : List ℕ). digits_value 10 x < 2 ^ 64) t k.0.1 in
    let is : n ≡ digits_value 10 (b ∷ bs) = k.1 ∙ ap (digits_value 10) t in
    in_range (fault_from 1 number (b ∷ bs)) (digits_value 10 (b ∷ bs)) f fits ∙ ap (λ (x : ℕ). Some x) (sym is)
parsed (b ∷ bs) (Err e) h k =
    let f = no_fault (fault_from 1 number (b ∷ bs)) (or_fault Range (below (2 ^ 32) (digits_value 10 (b ∷ bs)))) h in
    let s = spelt b bs f in
    let t = numeral b bs s in
    not_long (fault_from 1 number (b ∷ bs)) (digits_value 10 (b ∷ bs)) (λ _.
    elim (cases_lt (digits_value 10 (b ∷ bs)) (2 ^ 64)) [
      | inl fits ↦ absurd (k ((subst (λ (x : List ℕ). IsNumeral 10 x) (sym t) (omega arith, s.digits)), subst (λ (x : List ℕ). digits_value 10 x < 2 ^ 64) (sym t) fits))
      | inr above ↦ above
    ])

pub parsed_ok : {E : Type 0} (word : List ℕ) (r : Result ℕ E) (n : ℕ) → r ≡ Ok n → number_field word ≡ Err Range → ParsesUnsigned 64 10 word r
    → Some n ≡ long_in word
parsed_ok {E} word r n e h k = sym (parsed {E = E} word (Ok n) h (subst (λ (x : Result ℕ E). ParsesUnsigned 64 10 word x) e k))

pub parsed_err : {E : Type 0} (word : List ℕ) (r : Result ℕ E) (fault : E) → r ≡ Err fault → number_field word ≡ Err Range → ParsesUnsigned 64 10 word r
    → None ≡ long_in word
parsed_err {E} word r fault e h k = sym (parsed {E = E} word (Err fault) h (subst (λ (x : Result ℕ E). ParsesUnsigned 64 10 word x) e k))
