-- Reading what a printer wrote.
use Rattle.std.proofs.Common.{◌≡◌, ℕ, zero, suc, ◌+◌, ◌-◌, ◌*◌, ◌/◌, ◌%◌, ◌^◌, ◌<◌, ◌≤◌, List, [], ◌∷◌, ◌++◌, take, length, get_or, true, false, Some, None, Result, Ok, refl, arith, ap, ◌∙◌, length-append}
use Rattle.std.proofs.lemmas.Bool.Decides.{nat_tests}
use Rattle.std.proofs.lemmas.Fmt.{decimal_is_IsNumeral, decimal_digit, first_decimal, length-decimal-le}
use Rattle.std.proofs.lemmas.List.{get_or-append-add}
use Rattle.std.proofs.Math.Seq.{take-append_seam}
use Rattle.std.specs.Prelude.{decimal, nat_lt}
use Rattle.std.specs.Str.Parse.{AllDigits, digits_value}
use Rattle.field_text.specs.declared.form.Class.TheVariants.{Digit, NonZero, Byte}
use Rattle.field_text.specs.declared.field_fault.FieldFault.{FieldFault}
use Rattle.field_text.specs.declared.field_fault.FieldFault.TheVariants.{Range}
use Rattle.field_text.specs.Steps.{or_fault}
use Rattle.field_text.specs.Form.{Form, fault_from, is_in}
use Rattle.field_text.specs.Fields.{field, number, number_field, below, minutes, minutes_value, minutes_field}
use Rattle.field_text.specs.Spelling.{minutes_text}
use Rattle.field_text.proofs.Numbers.{digits-all, digit_in, digit_of, number-zero, number-digits}
use Rattle.std.specs.Char.{digit_value}

-- a field that is not empty and of its form
pub field-of : {A : Type 0} (form : Form) (value : List ℕ → Result A FieldFault) (text : List ℕ) → 0 < length text → fault_from 1 form text ≡ None → field form value text ≡ value text
field-of form value [] h e = absurd (omega arith)
field-of form value (b ∷ bs) h e = rw e refl

number-form : (text : List ℕ) → AllDigits 10 text → 0 < length text → 48 < get_or text 0 0 → fault_from 1 number text ≡ None
number-form [] d h f = absurd (omega arith)
number-form (b ∷ bs) d h f = number-digits b bs (omega arith) (omega (arith, digit_of b d.0)) ∙ digits-all 2 bs d.1

decimal-form : (n : ℕ) → n < 2 ^ 64 → fault_from 1 number (decimal n) ≡ None
decimal-form zero h = rw (decimal_digit 0 (omega arith)) number-zero
decimal-form (suc n) h =
    let d = decimal_is_IsNumeral (suc n) h in
    number-form (decimal (suc n)) d.0.1 d.0.0 (first_decimal (suc n) (omega arith) h)

pub number-again : (n : ℕ) → n < 2 ^ 32 → number_field (decimal n) ≡ Ok n
number-again n h =
    let wide : n < 2 ^ 64 = omega arith in
    let d = decimal_is_IsNumeral n wide in
    let fits : nat_lt n (2 ^ 32) ≡ true = grind (arith, nat_tests) in
    field-of number (λ text. or_fault Range (below (2 ^ 32) (digits_value 10 text))) (decimal n) d.0.0 (decimal-form n wide)
    ∙ rw (d.1, fits) refl

-- a field of minutes, from its hours to its end
minutes-zero : (a b : ℕ) → is_in Digit a ≡ true → is_in Digit b ≡ true → fault_from 1 minutes (48 ∷ 58 ∷ a ∷ b ∷ []) ≡ None
unfolding fault_from
minutes-zero a b h k = rw (h, k) refl

minutes-one : (x a b : ℕ) → is_in (Byte 48) x ≡ false → is_in NonZero x ≡ true → is_in Digit a ≡ true → is_in Digit b ≡ true → fault_from 1 minutes (x ∷ 58 ∷ a ∷ b ∷ []) ≡ None
unfolding fault_from
minutes-one x a b g f h k = rw (g, f, h, k) refl

minutes-two : (x y a b : ℕ) → is_in (Byte 48) x ≡ false → is_in NonZero x ≡ true → is_in Digit y ≡ true → is_in Digit a ≡ true → is_in Digit b ≡ true → fault_from 1 minutes (x ∷ y ∷ 58 ∷ a ∷ b ∷ []) ≡ None
unfolding fault_from
minutes-two x y a b g f e h k = rw (g, f, e, h, k) refl

minutes-three : (x y z a b : ℕ) → is_in (Byte 48) x ≡ false → is_in NonZero x ≡ true → is_in Digit y ≡ true → is_in Digit z ≡ true → is_in Digit a ≡ true → is_in Digit b ≡ true
    → fault_from 1 minutes (x ∷ y ∷ z ∷ 58 ∷ a ∷ b ∷ []) ≡ None
unfolding fault_from
minutes-three x y z a b g f e d h k = rw (g, f, e, d, h, k) refl

digit_at_place : (b : ℕ) → digit_value b < 10 → is_in Digit b ≡ true
digit_at_place b h = let d = digit_of b h in digit_in b d.0 d.1

minutes-form : (hours : List ℕ) (a b : ℕ) → AllDigits 10 hours → 0 < length hours → length hours ≤ 3 → 48 < get_or hours 0 0 → is_in Digit a ≡ true → is_in Digit b ≡ true
    → fault_from 1 minutes (hours ++ 58 ∷ a ∷ b ∷ []) ≡ None
minutes-form [] a b d h l f p q = absurd (omega arith)
minutes-form (x ∷ []) a b d h l f p q =
    let r = digit_of x d.0 in minutes-one x a b (grind (arith, nat_tests)) (grind (arith, nat_tests)) p q
minutes-form (x ∷ y ∷ []) a b d h l f p q =
    let r = digit_of x d.0 in minutes-two x y a b (grind (arith, nat_tests)) (grind (arith, nat_tests)) (digit_at_place y d.1.0) p q
minutes-form (x ∷ y ∷ z ∷ []) a b d h l f p q =
    let r = digit_of x d.0 in minutes-three x y z a b (grind (arith, nat_tests)) (grind (arith, nat_tests)) (digit_at_place y d.1.0) (digit_at_place z d.1.1.0) p q
minutes-form (x ∷ y ∷ z ∷ w ∷ ws) a b d h l f p q = absurd (omega arith)

minutes_text-form : (h a b : ℕ) → h < 1000 → is_in Digit a ≡ true → is_in Digit b ≡ true → fault_from 1 minutes (decimal h ++ 58 ∷ a ∷ b ∷ []) ≡ None
minutes_text-form zero a b l p q = rw (decimal_digit 0 (omega arith)) (minutes-zero a b p q)
minutes_text-form (suc h) a b l p q =
    let d = decimal_is_IsNumeral (suc h) (omega arith) in
    minutes-form (decimal (suc h)) a b d.0.1 d.0.0 (length-decimal-le 3 (suc h) (omega arith) (omega arith) (omega arith)) (first_decimal (suc h) (omega arith) (omega arith)) p q

-- the value of such a text
minutes-value : (hours : List ℕ) (a b k n : ℕ) → k ≡ length hours → digits_value 10 hours ≡ n → 10 * (a - 48) + (b - 48) < 60
    → minutes_value (hours ++ 58 ∷ a ∷ b ∷ []) k ≡ Some (60 * n + (10 * (a - 48) + (b - 48)))
minutes-value hours a b k n e d h =
    let first : get_or (hours ++ 58 ∷ a ∷ b ∷ []) (k + 1) 0 ≡ a = ap (λ j. get_or (hours ++ 58 ∷ a ∷ b ∷ []) (j + 1) 0) e ∙ get_or-append-add hours (58 ∷ a ∷ b ∷ []) 1 0 in
    let places : k + 1 + 1 ≡ length hours + 2 = omega arith in
    let second : get_or (hours ++ 58 ∷ a ∷ b ∷ []) (k + 1 + 1) 0 ≡ b = ap (λ j. get_or (hours ++ 58 ∷ a ∷ b ∷ []) j 0) places ∙ get_or-append-add hours (58 ∷ a ∷ b ∷ []) 2 0 in
    let front : take k (hours ++ 58 ∷ a ∷ b ∷ []) ≡ hours = ap (λ j. take j (hours ++ 58 ∷ a ∷ b ∷ [])) e ∙ take-append_seam hours (58 ∷ a ∷ b ∷ []) in
    let fits : nat_lt (10 * (a - 48) + (b - 48)) 60 ≡ true = grind (arith, nat_tests) in
    rw (first, second, fits, front, d) refl

pub minutes-again : (n : ℕ) → n < 60000 → minutes_field (minutes_text n) ≡ Ok n
minutes-again n h =
    let d = decimal_is_IsNumeral (n / 60) (omega arith) in
    let a = 48 + n % 60 / 10 in
    let b = 48 + n % 60 % 10 in
    let p : is_in Digit a ≡ true = digit_in a (omega arith) (omega arith) in
    let q : is_in Digit b ≡ true = digit_in b (omega arith) (omega arith) in
    let text = minutes_text n in
    let long : length text ≡ length (decimal (n / 60)) + 3 = length-append (decimal (n / 60)) (58 ∷ a ∷ b ∷ []) in
    let value = minutes-value (decimal (n / 60)) a b (length text - 3) (n / 60) (omega arith) d.1 (omega arith) in
    let same : 60 * (n / 60) + (10 * (a - 48) + (b - 48)) ≡ n = omega arith in
    field-of minutes (λ t. or_fault Range (minutes_value t (length t - 3))) text (omega arith) (minutes_text-form (n / 60) a b (omega arith) p q)
    ∙ ap (or_fault Range) value ∙ ap Ok same
