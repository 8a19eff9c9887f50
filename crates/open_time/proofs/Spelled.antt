-- The names of vacant lines have the form of names, and differ.
use Rattle.std.proofs.Common.{◌≡◌, ◌≢◌, ℕ, ◌<◌, ◌≤◌, ◌+◌, true, List, [], ◌∷◌, ◌++◌, length, refl, ap, ◌∙◌, arith, length-append}
use Rattle.std.specs.Prelude.{◌&&◌, nat_le, IsTrue, codes, decimal}
use Rattle.std.specs.List.{list_all}
use Rattle.std.specs.Char.{digit_value}
use Rattle.std.specs.Str.Parse.{AllDigits}
use Rattle.std.proofs.lemmas.Bool.{and_from}
use Rattle.std.proofs.lemmas.Bool.Decides.{nat_tests}
use Rattle.std.proofs.lemmas.Fmt.{decimal_is_IsNumeral, length-decimal-le, decimal_injective}
use Rattle.std.proofs.lemmas.List.{append_cancel_left}
use Rattle.std.proofs.lemmas.List.Folds.{list_all-append}
use Rattle.duty_calendar.specs.Forms.{is_name, is_name_byte}
use Rattle.open_time.specs.Vacant.{vacant_name}

digit_is_named : (b : ℕ) → 48 ≤ b → b ≤ 57 → is_name_byte b ≡ true
digit_is_named b h k = grind (arith, nat_tests)

digit_is : (b : ℕ) → digit_value b < 10 → (48 ≤ b) × (b ≤ 57)
digit_is b h = grind (arith, nat_tests)

digits_are_named : (bs : List ℕ) → AllDigits 10 bs → list_all is_name_byte bs ≡ true
digits_are_named [] h = refl
digits_are_named (b ∷ bs) h =
    let d = digit_is b h.0 in
    and_from (is_name_byte b) (list_all is_name_byte bs) (digit_is_named b d.0 d.1) (digits_are_named bs h.1)

-- between 1 and 16 bytes
sized : (n : ℕ) → 1 ≤ n → n ≤ 16 → (nat_le 1 n && nat_le n 16) ≡ true
sized n h k = grind (arith, nat_tests)

pub vacant_is_name : (n : ℕ) → n ≤ 200 → IsTrue (is_name (vacant_name n))
unfolding vacant_name
vacant_is_name n small =
    let numeral = decimal_is_IsNumeral n (omega arith) in
    let short : length (decimal n) ≤ 3 = length-decimal-le 3 n (omega arith) (omega arith) (omega arith) in
    let name = codes "vacant-" ++ decimal n in
    let word : list_all is_name_byte (codes "vacant-") ≡ true = refl in
    let seven : length (codes "vacant-") ≡ 7 = refl in
    let long : length name ≡ 7 + length (decimal n) = length-append (codes "vacant-") (decimal n) ∙ ap (λ (k : ℕ). k + length (decimal n)) seven in
    and_from (nat_le 1 (length name) && nat_le (length name) 16) (list_all is_name_byte name)
    (sized (length name) (omega (arith, long)) (omega (arith, long, short)))
    (list_all-append is_name_byte (codes "vacant-") (decimal n)
    ∙ and_from (list_all is_name_byte (codes "vacant-")) (list_all is_name_byte (decimal n)) word (digits_are_named (decimal n) numeral.0.1))

-- two numbers make two names
pub vacant_differ : (m n : ℕ) → m < n → n ≤ 200 → vacant_name m ≢ vacant_name n
unfolding vacant_name
vacant_differ m n lt small same =
    let e : m ≡ n = decimal_injective m n (omega arith) (omega arith) (append_cancel_left (codes "vacant-") (decimal m) (decimal n) same) in
    omega (arith, lt, e)
