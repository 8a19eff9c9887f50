-- The form of a number.
use Rattle.std.proofs.Common.{◌≡◌, ℕ, suc, ◌+◌, ◌<◌, ◌≤◌, List, [], ◌∷◌, drop, length, get_or, true, false, Some, None, refl, arith, ◌∙◌, add-one, ◌≢◌}
use Rattle.std.proofs.Math.ListN.{drop_of_length-le}
use Rattle.std.proofs.Math.Seq.{drop-cons}
use Rattle.std.proofs.lemmas.List.{nil_from_length}
use Rattle.std.proofs.lemmas.Bool.Decides.{nat_tests}
use Rattle.std.specs.Char.{digit_value}
use Rattle.std.specs.Str.Parse.{AllDigits}
use Rattle.std.proofs.lemmas.Str.Parse.{digit_at}
use Rattle.field_text.specs.declared.form.Class.TheVariants.{Digit, NonZero, Byte}
use Rattle.field_text.specs.Form.{finished, many, fault_from, is_in}
use Rattle.field_text.specs.Fields.{number}

pub digit_in : (b : ℕ) → 48 ≤ b → b ≤ 57 → is_in Digit b ≡ true
digit_in b h k = grind (arith, nat_tests)

pub digit_out : (b : ℕ) → (48 ≤ b → 57 < b) → is_in Digit b ≡ false
digit_out b h = grind (arith, nat_tests)

many_right : (n b : ℕ) (bs : List ℕ) → is_in Digit b ≡ true → fault_from n (many Digit finished) (b ∷ bs) ≡ fault_from (n + 1) (many Digit finished) bs
unfolding fault_from
many_right n b bs h = rw h refl

many_wrong : (n b : ℕ) (bs : List ℕ) → is_in Digit b ≡ false → fault_from n (many Digit finished) (b ∷ bs) ≡ Some n
unfolding fault_from
many_wrong n b bs h = rw h refl

many_end : (n : ℕ) → fault_from n (many Digit finished) [] ≡ None
unfolding fault_from
many_end n = refl

pub digits-next : (n i : ℕ) (text : List ℕ) → i < length text → is_in Digit (get_or text i 0) ≡ true → fault_from (n + i) (many Digit finished) (drop i text) ≡ fault_from (n + (i + 1)) (many Digit finished) (drop (i + 1) text)
digits-next n i text q h =
    let e : n + (i + 1) ≡ n + i + 1 = omega arith in
    rw (e, add-one i, drop-cons text i 0 q) (many_right (n + i) (get_or text i 0) (drop (suc i) text) h)

pub digits-stop : (n i : ℕ) (text : List ℕ) → i < length text → is_in Digit (get_or text i 0) ≡ false → fault_from (n + i) (many Digit finished) (drop i text) ≡ Some (n + i)
digits-stop n i text q h = rw (drop-cons text i 0 q) (many_wrong (n + i) (get_or text i 0) (drop (suc i) text) h)

pub digits-end : (n i : ℕ) (text : List ℕ) → length text ≤ i → fault_from (n + i) (many Digit finished) (drop i text) ≡ None
digits-end n i text q = rw (drop_of_length-le text q) (many_end (n + i))

-- a byte whose value as a digit is below 10
pub digit_of : (b : ℕ) → digit_value b < 10 → (48 ≤ b) × (b ≤ 57)
digit_of b h = let d = digit_at (b ∷ []) 0 (h, tt) (omega arith) in d

-- digits have no fault
pub digits-all : (n : ℕ) (text : List ℕ) → AllDigits 10 text → fault_from n (many Digit finished) text ≡ None
digits-all n [] h = many_end n
digits-all n (b ∷ bs) h = let d = digit_of b h.0 in many_right n b bs (digit_in b d.0 d.1) ∙ digits-all (n + 1) bs h.1

pub number-zero : fault_from 1 number (48 ∷ []) ≡ None
unfolding fault_from
number-zero = refl

pub number-zeros : (b : ℕ) (bs : List ℕ) → fault_from 1 number (48 ∷ b ∷ bs) ≡ Some 2
unfolding fault_from
number-zeros b bs = refl

pub number-digits : (b : ℕ) (bs : List ℕ) → 49 ≤ b → b ≤ 57 → fault_from 1 number (b ∷ bs) ≡ fault_from 2 (many Digit finished) bs
unfolding fault_from
number-digits b bs h k =
    let other : is_in (Byte 48) b ≡ false = grind (arith, nat_tests) in
    let right : is_in NonZero b ≡ true = grind (arith, nat_tests) in
    rw (other, right) refl

pub number-other : (b : ℕ) (bs : List ℕ) → b ≢ 48 → (49 ≤ b → 57 < b) → fault_from 1 number (b ∷ bs) ≡ Some 1
unfolding fault_from
number-other b bs h k =
    let other : is_in (Byte 48) b ≡ false = grind (arith, nat_tests) in
    let wrong : is_in NonZero b ≡ false = grind (arith, nat_tests) in
    rw (other, wrong) refl

pub number-nothing : fault_from 1 number [] ≡ Some 1
unfolding fault_from
number-nothing = refl

-- the same of a text with this first byte and this rest
pub zero-alone : (text : List ℕ) (b : ℕ) (bs : List ℕ) → text ≡ b ∷ bs → b ≡ 48 → length bs ≡ 0 → fault_from 1 number text ≡ None
zero-alone text b bs e z h = rw (e, z, nil_from_length bs h) number-zero

pub zero-more : (text : List ℕ) (b : ℕ) (bs : List ℕ) → text ≡ b ∷ bs → b ≡ 48 → length bs ≢ 0 → fault_from 1 number text ≡ Some 2
zero-more text b [] e z h = absurd (h refl)
zero-more text b (d ∷ ds) e z h = rw (e, z) (number-zeros d ds)

pub other-first : (text : List ℕ) (b : ℕ) (bs : List ℕ) → text ≡ b ∷ bs → b ≢ 48 → (49 ≤ b → 57 < b) → fault_from 1 number text ≡ Some 1
other-first text b bs e z h = rw e (number-other b bs z h)

pub digit-first : (text : List ℕ) (b : ℕ) (bs : List ℕ) → text ≡ b ∷ bs → 49 ≤ b → b ≤ 57 → fault_from 1 number text ≡ fault_from 2 (many Digit finished) bs
digit-first text b bs e h k = rw e (number-digits b bs h k)

pub nothing-there : (text : List ℕ) → length text ≡ 0 → fault_from 1 number text ≡ Some 1
nothing-there text h = rw (nil_from_length text h) number-nothing
