-- How large the values of fields can be.
use Rattle.std.proofs.Common.{◌≡◌, ℕ, zero, suc, ◌+◌, ◌-◌, ◌*◌, ◌^◌, ◌<◌, ◌≤◌, List, [], ◌∷◌, length, take, Bool, true, false, Option, Some, None, Result, Ok, refl, ap, arith}
use Rattle.std.specs.Prelude.{◌&&◌, nat_lt, if◌then◌else◌}
use Rattle.std.specs.Str.Parse.{AllDigits, digits_value}
use Rattle.std.proofs.lemmas.Bool.Decides.{nat_tests}
use Rattle.std.proofs.lemmas.Int.Digits.{digits_value-lt}
use Rattle.std.proofs.lemmas.Str.{digit_value_digit}
use Rattle.field_text.specs.declared.form.Class.TheVariants.{Digit, NonZero, Byte}
use Rattle.field_text.specs.declared.field_fault.FieldFault.{FieldFault}
use Rattle.field_text.specs.declared.field_fault.FieldFault.TheVariants.{Range}
use Rattle.field_text.specs.Form.{Form, row, up_to, fault_from, is_in}
use Rattle.field_text.specs.Fields.{shaped, field, clock, clock_value, clock_field, minutes, minutes_end, minutes_value, minutes_field, two_digits}
use Rattle.field_text.specs.Steps.{or_fault}
use Rattle.field_text.proofs.RowForms.{row_from_none, length-row, digit_bounds}
use Rattle.std.specs.Char.{digit_value}
use Rattle.std.proofs.lemmas.List.{length-take-le}

-- what a field that reads has
shaped-ok : {A : Type 0} (o : Option ℕ) (v : Result A FieldFault) (x : A) → shaped o v ≡ Ok x → (o ≡ None) × (v ≡ Ok x)
shaped-ok None v x e = (refl, e)
shaped-ok (Some column) v x e = cc

field-ok : {A : Type 0} (form : Form) (value : List ℕ → Result A FieldFault) (text : List ℕ) (x : A) → field form value text ≡ Ok x → (fault_from 1 form text ≡ None) × (value text ≡ Ok x)
field-ok form value [] x e = cc
field-ok form value (b ∷ bs) x e = shaped-ok (fault_from 1 form (b ∷ bs)) (value (b ∷ bs)) x e

or_fault-ok : (f : FieldFault) (o : Option ℕ) (n : ℕ) → or_fault f o ≡ Ok n → o ≡ Some n
or_fault-ok f (Some m) n e = let same : m ≡ n = cc in ap Some same
or_fault-ok f None n e = cc

-- clocks
clock-bound : (a b n : ℕ) (t : Bool) → (nat_lt a 24 && nat_lt b 60) ≡ t → (if t then Some (60 * a + b) else None) ≡ Some n → n < 1440
clock-bound a b n true e f =
    let same : 60 * a + b ≡ n = cc in
    let hour : a < 24 = grind (arith, nat_tests) in
    let minute : b < 60 = grind (arith, nat_tests) in
    omega arith
clock-bound a b n false e f = cc

pub clock_field-bound : (text : List ℕ) (n : ℕ) → clock_field text ≡ Ok n → n < 1440
clock_field-bound text n e =
    let f = field-ok (row clock) (λ t. or_fault Range (clock_value t)) text n e in
    clock-bound (two_digits text 0) (two_digits text 3) n (nat_lt (two_digits text 0) 24 && nat_lt (two_digits text 3) 60) refl (or_fault-ok Range (clock_value text) n f.1)

-- minutes: at most three digits stand in front of a row of three bytes
pub record HasHours (text : List ℕ) : Type 0 where
  pub count : ℕ
  pub few : count ≤ 3
  pub digits : AllDigits 10 (take count text)
  pub rest : length text ≡ count + 3

row-length : (n : ℕ) (bs : List ℕ) → fault_from n (row minutes_end) bs ≡ None → length bs ≡ 3
row-length n bs e = length-row minutes_end bs (row_from_none n minutes_end bs e)

digit_small : (b : ℕ) → 48 ≤ b → b ≤ 57 → digit_value b < 10
digit_small b h k = omega (arith, digit_value_digit b (h, k))

-- so many digits more
record HasMore (most : ℕ) (bs : List ℕ) : Type 0 where
  pub count : ℕ
  pub few : count ≤ most
  pub digits : AllDigits 10 (take count bs)
  pub rest : length bs ≡ count + 3

none-more : (most n : ℕ) (bs : List ℕ) → fault_from n (row minutes_end) bs ≡ None → HasMore most bs
none-more most n bs e = record { count = 0; few = omega arith; digits = tt; rest = row-length n bs e }

one-more : (most b : ℕ) (bs : List ℕ) → 48 ≤ b → b ≤ 57 → HasMore most bs → HasMore (suc most) (b ∷ bs)
one-more most b bs h k m = record { count = suc m.count; few = omega (arith, m.few); digits = (digit_small b h k, m.digits); rest = omega (arith, m.rest) }

some-more : (n k : ℕ) (bs : List ℕ) → fault_from n (up_to k Digit (row minutes_end)) bs ≡ None → HasMore k bs
unfolding fault_from
some-more n k [] e = cc
some-more n zero (b ∷ bs) e = none-more 0 n (b ∷ bs) e
some-more n (suc k) (b ∷ bs) e = by_digit (is_in Digit b) refl e (λ f. some-more (n + 1) k bs f)
  where
    by_digit : (t : Bool) → is_in Digit b ≡ t → fault_from n (up_to (suc k) Digit (row minutes_end)) (b ∷ bs) ≡ None
        → (fault_from (n + 1) (up_to k Digit (row minutes_end)) bs ≡ None → HasMore k bs) → HasMore (suc k) (b ∷ bs)
    by_digit true t f more = let d = digit_bounds b t in one-more k b bs d.0 d.1 (more (rw t at f))
    by_digit false t f more = none-more (suc k) n (b ∷ bs) (rw t at f)

hours : (text : List ℕ) → fault_from 1 minutes text ≡ None → HasHours text
unfolding fault_from
hours [] e = cc
hours (b ∷ bs) e = by_zero (is_in (Byte 48) b) refl e
  where
    with_first : (48 ≤ b) → (b ≤ 57) → HasMore 2 bs → HasHours (b ∷ bs)
    with_first h k m = record { count = suc m.count; few = omega (arith, m.few); digits = (digit_small b h k, m.digits); rest = omega (arith, m.rest) }

    by_other : (t : Bool) → is_in NonZero b ≡ t → is_in (Byte 48) b ≡ false → fault_from 1 minutes (b ∷ bs) ≡ None → HasHours (b ∷ bs)
    by_other true t z f = with_first (grind (arith, nat_tests)) (grind (arith, nat_tests)) (some-more 2 2 bs (rw (z, t) at f))
    by_other false t z f = let g = rw (z, t) at f in cc

    by_zero : (t : Bool) → is_in (Byte 48) b ≡ t → fault_from 1 minutes (b ∷ bs) ≡ None → HasHours (b ∷ bs)
    by_zero true z f = with_first (grind (arith, nat_tests)) (grind (arith, nat_tests)) (none-more 2 2 bs (rw z at f))
    by_zero false z f = by_other (is_in NonZero b) refl z f

minutes-small : (hour minute n : ℕ) (t : Bool) → hour < 1000 → nat_lt minute 60 ≡ t → (if t then Some (60 * hour + minute) else None) ≡ Some n → n ≤ 59999
minutes-small hour minute n true h e f =
    let same : 60 * hour + minute ≡ n = cc in
    let small : minute < 60 = grind (arith, nat_tests) in
    omega arith
minutes-small hour minute n false h e f = cc

pub minutes_field-bound : (text : List ℕ) (n : ℕ) → minutes_field text ≡ Ok n → n ≤ 59999
minutes_field-bound text n e =
    let f = field-ok minutes (λ t. or_fault Range (minutes_value t (length t - 3))) text n e in
    let h = hours text f.0 in
    let count : length text - 3 ≡ h.count = omega (arith, h.rest) in
    let power : 10 ^ length (take h.count text) ≤ 1000 = ten_powers (length (take h.count text)) (omega (arith, length-take-le h.count text (omega (arith, h.rest)), h.few)) in
    let digits : digits_value 10 (take h.count text) < 1000 = omega (arith, digits_value-lt 10 (take h.count text) h.digits, power) in
    let small : digits_value 10 (take (length text - 3) text) < 1000 = rw count digits in
    minutes-small (digits_value 10 (take (length text - 3) text)) (two_digits text (length text - 3 + 1)) n (nat_lt (two_digits text (length text - 3 + 1)) 60) small refl
    (or_fault-ok Range (minutes_value text (length text - 3)) n f.1)
  where
    ten_powers : (k : ℕ) → k ≤ 3 → 10 ^ k ≤ 1000
    ten_powers zero h = omega arith
    ten_powers (suc zero) h = omega arith
    ten_powers (suc (suc zero)) h = omega arith
    ten_powers (suc (suc (suc zero))) h = omega arith
    ten_powers (suc (suc (suc (suc k)))) h = absurd (omega arith)
