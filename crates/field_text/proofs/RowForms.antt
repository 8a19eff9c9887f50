-- Forms of bytes in a row.
use Rattle.std.proofs.Common.{◌≡◌, ℕ, zero, suc, ◌+◌, ◌<◌, ◌≤◌, List, [], ◌∷◌, ◌++◌, drop, take, length, get_or, Bool, true, false, Some, None, refl, arith, ap, sym, ◌∙◌, add-one}
use Rattle.std.proofs.Math.ListN.{drop_of_length-le}
use Rattle.std.proofs.Math.Seq.{drop-cons}
use Rattle.std.proofs.lemmas.Bool.Decides.{nat_tests}
use Rattle.field_text.specs.declared.form.Class.{Class}
use Rattle.field_text.specs.declared.form.Class.TheVariants.{Digit}
use Rattle.field_text.specs.Form.{fault_from, row, is_in, IsRow, is_nothing}

row_is_something : (cs : List Class) → is_nothing (row cs) ≡ false
row_is_something [] = refl
row_is_something (c ∷ cs) = refl

-- a byte of the class at its place, and one that is not
pub fault_from-right : (n : ℕ) (c : Class) (cs : List Class) (b : ℕ) (bs : List ℕ) → is_in c b ≡ true → fault_from n (row (c ∷ cs)) (b ∷ bs) ≡ fault_from (n + 1) (row cs) bs
unfolding fault_from
fault_from-right n c cs b bs h = rw (h, row_is_something cs) refl

pub fault_from-wrong : (n : ℕ) (c : Class) (cs : List Class) (b : ℕ) (bs : List ℕ) → is_in c b ≡ false → fault_from n (row (c ∷ cs)) (b ∷ bs) ≡ Some n
unfolding fault_from
fault_from-wrong n c cs b bs h = rw h refl

pub fault_from-short : (n : ℕ) (c : Class) (cs : List Class) → fault_from n (row (c ∷ cs)) [] ≡ Some n
unfolding fault_from
fault_from-short n c cs = refl

pub fault_from-end : (n : ℕ) → fault_from n (row []) [] ≡ None
unfolding fault_from
fault_from-end n = refl

pub fault_from-long : (n : ℕ) (b : ℕ) (bs : List ℕ) → fault_from n (row []) (b ∷ bs) ≡ Some n
unfolding fault_from
fault_from-long n b bs = refl

-- no fault means a row
pub row_from_none : (n : ℕ) (cs : List Class) (text : List ℕ) → fault_from n (row cs) text ≡ None → IsRow cs text
unfolding fault_from
row_from_none n [] [] h = tt
row_from_none n [] (b ∷ bs) h = cc
row_from_none n (c ∷ cs) [] h = cc
row_from_none n (c ∷ cs) (b ∷ bs) h = go (is_in c b) refl (row_from_none (n + 1) cs bs)
  where
    go : (t : Bool) → t ≡ is_in c b → (fault_from (n + 1) (row cs) bs ≡ None → IsRow cs bs) → IsRow (c ∷ cs) (b ∷ bs)
    go true e more = (sym e, more (sym (fault_from-right n c cs b bs (sym e)) ∙ h))
    go false e more = absurd (let w = fault_from-wrong n c cs b bs (sym e) in cc)

-- the same, at a place of the list of classes and of the text
pub fault_from-next : (n m i : ℕ) (cs : List Class) (text : List ℕ) → m ≡ n + 1 → i < length cs → i < length text → is_in (get_or cs i Digit) (get_or text i 0) ≡ true
    → fault_from n (row (drop i cs)) (drop i text) ≡ fault_from m (row (drop (i + 1) cs)) (drop (i + 1) text)
fault_from-next n m i cs text e p q h =
    rw (e, add-one i, drop-cons cs i Digit p, drop-cons text i 0 q) (fault_from-right n (get_or cs i Digit) (drop (suc i) cs) (get_or text i 0) (drop (suc i) text) h)

pub fault_from-stops : (n i : ℕ) (cs : List Class) (text : List ℕ) → i < length cs → i < length text → is_in (get_or cs i Digit) (get_or text i 0) ≡ false
    → fault_from n (row (drop i cs)) (drop i text) ≡ Some n
fault_from-stops n i cs text p q h =
    rw (drop-cons cs i Digit p, drop-cons text i 0 q) (fault_from-wrong n (get_or cs i Digit) (drop (suc i) cs) (get_or text i 0) (drop (suc i) text) h)

pub fault_from-at_end : (n i : ℕ) (cs : List Class) (text : List ℕ) → i < length cs → length text ≤ i → fault_from n (row (drop i cs)) (drop i text) ≡ Some n
fault_from-at_end n i cs text p q =
    rw (drop-cons cs i Digit p, drop_of_length-le text q) (fault_from-short n (get_or cs i Digit) (drop (suc i) cs))

pub fault_from-whole : (n i : ℕ) (cs : List Class) (text : List ℕ) → length cs ≤ i → length text ≤ i → fault_from n (row (drop i cs)) (drop i text) ≡ None
fault_from-whole n i cs text p q = rw (drop_of_length-le cs p, drop_of_length-le text q) (fault_from-end n)

pub fault_from-more : (n i : ℕ) (cs : List Class) (text : List ℕ) → length cs ≤ i → i < length text → fault_from n (row (drop i cs)) (drop i text) ≡ Some n
fault_from-more n i cs text p q = rw (drop_of_length-le cs p, drop-cons text i 0 q) (fault_from-long n (get_or text i 0) (drop (suc i) text))

pub length-row : (cs : List Class) (text : List ℕ) → IsRow cs text → length text ≡ length cs
length-row [] [] h = refl
length-row [] (b ∷ bs) h = absurd h
length-row (c ∷ cs) [] h = absurd h
length-row (c ∷ cs) (b ∷ bs) h = ap (λ n. suc n) (length-row cs bs h.1)

pub row_at : (cs : List Class) (text : List ℕ) (i : ℕ) → IsRow cs text → i < length cs → is_in (get_or cs i Digit) (get_or text i 0) ≡ true
row_at [] text i h p = absurd (omega arith)
row_at (c ∷ cs) [] i h p = absurd h
row_at (c ∷ cs) (b ∷ bs) zero h p = h.0
row_at (c ∷ cs) (b ∷ bs) (suc i) h p = row_at cs bs i h.1 (omega arith)

-- a digit is its value above 48
pub digit_bounds : (b : ℕ) → is_in Digit b ≡ true → (48 ≤ b) × (b ≤ 57)
digit_bounds b h = (grind (arith, nat_tests), grind (arith, nat_tests))

-- a row has no fault
pub row_none : (n : ℕ) (cs : List Class) (text : List ℕ) → IsRow cs text → fault_from n (row cs) text ≡ None
row_none n [] [] h = fault_from-end n
row_none n [] (b ∷ bs) h = absurd h
row_none n (c ∷ cs) [] h = absurd h
row_none n (c ∷ cs) (b ∷ bs) h = fault_from-right n c cs b bs h.0 ∙ row_none (n + 1) cs bs h.1

-- the two parts of a row
pub row-parts : (cs ds : List Class) (text : List ℕ) → IsRow (cs ++ ds) text → IsRow cs (take (length cs) text) × IsRow ds (drop (length cs) text)
row-parts [] ds text h = (tt, h)
row-parts (c ∷ cs) ds [] h = absurd h
row-parts (c ∷ cs) ds (b ∷ bs) h = let p = row-parts cs ds bs h.1 in ((h.0, p.0), p.1)

-- two rows, one after the other
pub row-join : (cs ds : List Class) (a b : List ℕ) → IsRow cs a → IsRow ds b → IsRow (cs ++ ds) (a ++ b)
row-join [] ds [] b h k = k
row-join [] ds (x ∷ a) b h k = absurd h
row-join (c ∷ cs) ds [] b h k = absurd h
row-join (c ∷ cs) ds (x ∷ a) b h k = (h.0, row-join cs ds a b h.1 k)
