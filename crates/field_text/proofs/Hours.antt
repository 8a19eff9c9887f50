-- The hours of minutes.
use Rattle.std.proofs.Common.{◌≡◌, ℕ, zero, suc, ◌+◌, ◌^◌, ◌<◌, ◌≤◌, List, [], ◌∷◌, drop, length, get_or, true, Some, ◌*◌, refl, arith, false, ◌∙◌}
use Rattle.std.proofs.lemmas.Bool.Decides.{nat_tests}
use Rattle.std.specs.Char.{is_ascii_digit}
use Rattle.field_text.specs.declared.form.Class.TheVariants.{Digit, NonZero, Byte}
use Rattle.field_text.specs.Form.{up_to, row, fault_from, is_in}
use Rattle.field_text.specs.Fields.{minutes, minutes_end}

first-zero : (b : ℕ) (bs : List ℕ) → b ≡ 48 → fault_from 1 minutes (b ∷ bs) ≡ fault_from 2 (row minutes_end) bs
unfolding fault_from
first-zero b bs h = rw h refl

first-other : (b : ℕ) (bs : List ℕ) → (b ≡ 48 → ⊥) → is_in NonZero b ≡ false → fault_from 1 minutes (b ∷ bs) ≡ Some 1
unfolding fault_from
first-other b bs h k =
    let other : is_in (Byte 48) b ≡ false = grind (arith, nat_tests) in
    rw (other, k) refl

first-digit : (b : ℕ) (bs : List ℕ) → (b ≡ 48 → ⊥) → is_in NonZero b ≡ true → fault_from 1 minutes (b ∷ bs) ≡ fault_from 2 (up_to 2 Digit (row minutes_end)) bs
unfolding fault_from
first-digit b bs h k =
    let other : is_in (Byte 48) b ≡ false = grind (arith, nat_tests) in
    rw (other, k) refl

-- more hours, or their end
more-none : (n k : ℕ) → fault_from n (up_to k Digit (row minutes_end)) [] ≡ fault_from n (row minutes_end) []
unfolding fault_from
more-none n k = refl

more-other : (n k b : ℕ) (bs : List ℕ) → is_in Digit b ≡ false → fault_from n (up_to k Digit (row minutes_end)) (b ∷ bs) ≡ fault_from n (row minutes_end) (b ∷ bs)
unfolding fault_from
more-other n zero b bs h = refl
more-other n (suc k) b bs h = rw h refl

more-digit : (n k b : ℕ) (bs : List ℕ) → is_in Digit b ≡ true → fault_from n (up_to (suc k) Digit (row minutes_end)) (b ∷ bs) ≡ fault_from (n + 1) (up_to k Digit (row minutes_end)) bs
unfolding fault_from
more-digit n k b bs h = rw h refl

more-full : (n : ℕ) (bs : List ℕ) → fault_from n (up_to 0 Digit (row minutes_end)) bs ≡ fault_from n (row minutes_end) bs
unfolding fault_from
more-full n [] = refl
more-full n (b ∷ bs) = refl

-- the same of a text, by its length and its first bytes
pub hours-zero : (text : List ℕ) → 1 ≤ length text → get_or text 0 0 ≡ 48 → fault_from 1 minutes text ≡ fault_from 2 (row minutes_end) (drop 1 text)
hours-zero [] l h = absurd (omega arith)
hours-zero (b ∷ bs) l h = first-zero b bs h

pub hours-none : (text : List ℕ) → 1 ≤ length text → (get_or text 0 0 ≡ 48 → ⊥) → is_in NonZero (get_or text 0 0) ≡ false → fault_from 1 minutes text ≡ Some 1
hours-none [] l h k = absurd (omega arith)
hours-none (b ∷ bs) l h k = first-other b bs h k

pub hours-one-ends : (text : List ℕ) → length text ≡ 1 → (get_or text 0 0 ≡ 48 → ⊥) → is_in NonZero (get_or text 0 0) ≡ true
    → fault_from 1 minutes text ≡ fault_from 2 (row minutes_end) (drop 1 text)
hours-one-ends [] l h k = absurd (omega arith)
hours-one-ends (b ∷ []) l h k = first-digit b [] h k ∙ more-none 2 2
hours-one-ends (b ∷ d ∷ ds) l h k = absurd (omega arith)

pub hours-one : (text : List ℕ) → 2 ≤ length text → (get_or text 0 0 ≡ 48 → ⊥) → is_in NonZero (get_or text 0 0) ≡ true → is_ascii_digit (get_or text 1 0) ≡ false
    → fault_from 1 minutes text ≡ fault_from 2 (row minutes_end) (drop 1 text)
hours-one [] l h k e = absurd (omega arith)
hours-one (b ∷ []) l h k e = absurd (omega arith)
hours-one (b ∷ d ∷ ds) l h k e = first-digit b (d ∷ ds) h k ∙ more-other 2 2 d ds e

pub hours-two-ends : (text : List ℕ) → length text ≡ 2 → (get_or text 0 0 ≡ 48 → ⊥) → is_in NonZero (get_or text 0 0) ≡ true → is_ascii_digit (get_or text 1 0) ≡ true
    → fault_from 1 minutes text ≡ fault_from 3 (row minutes_end) (drop 2 text)
hours-two-ends [] l h k e = absurd (omega arith)
hours-two-ends (b ∷ []) l h k e = absurd (omega arith)
hours-two-ends (b ∷ d ∷ []) l h k e = first-digit b (d ∷ []) h k ∙ more-digit 2 1 d [] e ∙ more-none 3 1
hours-two-ends (b ∷ d ∷ x ∷ xs) l h k e = absurd (omega arith)

pub hours-two : (text : List ℕ) → 3 ≤ length text → (get_or text 0 0 ≡ 48 → ⊥) → is_in NonZero (get_or text 0 0) ≡ true → is_ascii_digit (get_or text 1 0) ≡ true
    → is_ascii_digit (get_or text 2 0) ≡ false → fault_from 1 minutes text ≡ fault_from 3 (row minutes_end) (drop 2 text)
hours-two [] l h k e f = absurd (omega arith)
hours-two (b ∷ []) l h k e f = absurd (omega arith)
hours-two (b ∷ d ∷ []) l h k e f = absurd (omega arith)
hours-two (b ∷ d ∷ x ∷ xs) l h k e f = first-digit b (d ∷ x ∷ xs) h k ∙ more-digit 2 1 d (x ∷ xs) e ∙ more-other 3 1 x xs f

pub hours-three : (text : List ℕ) → 3 ≤ length text → (get_or text 0 0 ≡ 48 → ⊥) → is_in NonZero (get_or text 0 0) ≡ true → is_ascii_digit (get_or text 1 0) ≡ true
    → is_ascii_digit (get_or text 2 0) ≡ true → fault_from 1 minutes text ≡ fault_from 4 (row minutes_end) (drop 3 text)
hours-three [] l h k e f = absurd (omega arith)
hours-three (b ∷ []) l h k e f = absurd (omega arith)
hours-three (b ∷ d ∷ []) l h k e f = absurd (omega arith)
hours-three (b ∷ d ∷ x ∷ xs) l h k e f = first-digit b (d ∷ x ∷ xs) h k ∙ more-digit 2 1 d (x ∷ xs) e ∙ more-digit 3 0 x xs f ∙ more-full 4 xs

-- one more digit
pub tens-next : (i v d : ℕ) → i < 3 → v < 10 ^ i → d ≤ 9 → 10 * v + d < 10 ^ (i + 1)
tens-next zero v d h k l = omega arith
tens-next (suc zero) v d h k l = omega arith
tens-next (suc (suc zero)) v d h k l = omega arith
tens-next (suc (suc (suc i))) v d h k l = absurd (omega arith)
