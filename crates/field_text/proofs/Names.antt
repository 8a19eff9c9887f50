-- The form of a name.
use Rattle.std.proofs.Common.{◌≡◌, ℕ, zero, suc, ◌+◌, ◌<◌, ◌≤◌, List, [], ◌∷◌, drop, length, get_or, true, false, Some, None, refl, arith, add-one}
use Rattle.std.proofs.Math.ListN.{drop_of_length-le}
use Rattle.std.proofs.Math.Seq.{drop-cons}
use Rattle.field_text.specs.declared.form.Class.TheVariants.{NameByte}
use Rattle.field_text.specs.Form.{finished, up_to, fault_from, is_in}
use Rattle.field_text.specs.Fields.{name}

pub name-right : (n k b : ℕ) (bs : List ℕ) → is_in NameByte b ≡ true → fault_from n (up_to (suc k) NameByte finished) (b ∷ bs) ≡ fault_from (n + 1) (up_to k NameByte finished) bs
unfolding fault_from
name-right n k b bs h = rw h refl

pub name-wrong : (n k b : ℕ) (bs : List ℕ) → is_in NameByte b ≡ false → fault_from n (up_to k NameByte finished) (b ∷ bs) ≡ Some n
unfolding fault_from
name-wrong n zero b bs h = refl
name-wrong n (suc k) b bs h = rw h refl

pub name-past : (n b : ℕ) (bs : List ℕ) → fault_from n (up_to 0 NameByte finished) (b ∷ bs) ≡ Some n
unfolding fault_from
name-past n b bs = refl

ends : (n k : ℕ) → fault_from n (up_to k NameByte finished) [] ≡ None
unfolding fault_from
ends n k = refl

-- a text that is not empty may be seen as at most 16 bytes
pub name-same : (text : List ℕ) → 1 ≤ length text → fault_from 1 name text ≡ fault_from 1 (up_to 16 NameByte finished) text
unfolding fault_from
name-same [] h = absurd (omega arith)
name-same (b ∷ bs) h = refl

-- at a place of the text
pub name-next : (n i k l : ℕ) (text : List ℕ) → k ≡ suc l → i < length text → is_in NameByte (get_or text i 0) ≡ true
    → fault_from n (up_to k NameByte finished) (drop i text) ≡ fault_from (n + 1) (up_to l NameByte finished) (drop (i + 1) text)
name-next n i k l text e p h = rw (e, add-one i, drop-cons text i 0 p) (name-right n l (get_or text i 0) (drop (suc i) text) h)

pub name-stop : (n i k : ℕ) (text : List ℕ) → i < length text → is_in NameByte (get_or text i 0) ≡ false → fault_from n (up_to k NameByte finished) (drop i text) ≡ Some n
name-stop n i k text p h = rw (drop-cons text i 0 p) (name-wrong n k (get_or text i 0) (drop (suc i) text) h)

pub name-full : (n i k : ℕ) (text : List ℕ) → k ≡ 0 → i < length text → fault_from n (up_to k NameByte finished) (drop i text) ≡ Some n
name-full n i k text e p = rw (e, drop-cons text i 0 p) (name-past n (get_or text i 0) (drop (suc i) text))

pub name-end : (n i k : ℕ) (text : List ℕ) → length text ≤ i → fault_from n (up_to k NameByte finished) (drop i text) ≡ None
name-end n i k text p = rw (drop_of_length-le text p) (ends n k)
