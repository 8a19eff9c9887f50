-- What is put for a text makes no markup, and reads as the text.
use Rattle.std.proofs.Common.{◌≡◌, ◌++◌, ℕ, Bool, true, false, cond, ◌||◌, ◌==◌, List, [], ◌∷◌, codes, refl, sym, subst, ◌∙◌, arith}
use Rattle.std.specs.List.{list_any, flat_map}
use Rattle.std.proofs.lemmas.List.Folds.{list_any-append}
use Rattle.std.proofs.lemmas.Bool.Decides.{nat_tests}
use Rattle.std.proofs.lemmas.List.Concat.{flat_map-cons}
use Rattle.page_parts.specs.Escaping.{is_bound, is_special, IsReference, ampersand, less, greater, quote, apostrophe, Reads, nothing, itself, referred, escaped_byte, escaped}

special_not : (b : ℕ) → (b == 38) ≡ false → (b == 60) ≡ false → (b == 62) ≡ false → (b == 34) ≡ false → (b == 39) ≡ false → is_special b ≡ false
special_not b a l g q p = rw (a, l, g, q, p) refl

equal_to : (b n : ℕ) → (b == n) ≡ true → b ≡ n
equal_to b n e = grind (arith, nat_tests)

-- a byte before HTML that reads as a text
reads_byte : (b : ℕ) (html text : List ℕ) → Reads html text → Reads (escaped_byte b ++ html) (b ∷ text)
reads_byte b html text h = at_38 (b == 38) refl
  where
    by_name : (n : ℕ) (name : List ℕ) → IsReference name n → (b == n) ≡ true → Reads (name ++ html) (b ∷ text)
    by_name n name r e = subst (λ (x : ℕ). Reads (name ++ html) (x ∷ text)) (sym (equal_to b n e)) (referred n name html text r h)

    at_39 : (b == 38) ≡ false → (b == 60) ≡ false → (b == 62) ≡ false → (b == 34) ≡ false → (t : Bool) → (b == 39) ≡ t
        → Reads (cond t (codes "&#39;") (b ∷ []) ++ html) (b ∷ text)
    at_39 a l g q true e = by_name 39 (codes "&#39;") apostrophe e
    at_39 a l g q false e = itself b html text (special_not b a l g q e) h

    at_34 : (b == 38) ≡ false → (b == 60) ≡ false → (b == 62) ≡ false → (t : Bool) → (b == 34) ≡ t
        → Reads (cond t (codes "&quot;") (cond (b == 39) (codes "&#39;") (b ∷ [])) ++ html) (b ∷ text)
    at_34 a l g true e = by_name 34 (codes "&quot;") quote e
    at_34 a l g false e = at_39 a l g e (b == 39) refl

    at_62 : (b == 38) ≡ false → (b == 60) ≡ false → (t : Bool) → (b == 62) ≡ t
        → Reads (cond t (codes "&gt;") (cond (b == 34) (codes "&quot;") (cond (b == 39) (codes "&#39;") (b ∷ []))) ++ html) (b ∷ text)
    at_62 a l true e = by_name 62 (codes "&gt;") greater e
    at_62 a l false e = at_34 a l e (b == 34) refl

    at_60 : (b == 38) ≡ false → (t : Bool) → (b == 60) ≡ t
        → Reads (cond t (codes "&lt;") (cond (b == 62) (codes "&gt;") (cond (b == 34) (codes "&quot;") (cond (b == 39) (codes "&#39;") (b ∷ [])))) ++ html) (b ∷ text)
    at_60 a true e = by_name 60 (codes "&lt;") less e
    at_60 a false e = at_62 a e (b == 62) refl

    at_38 : (t : Bool) → (b == 38) ≡ t
        → Reads (cond t (codes "&amp;") (cond (b == 60) (codes "&lt;") (cond (b == 62) (codes "&gt;") (cond (b == 34) (codes "&quot;") (cond (b == 39) (codes "&#39;") (b ∷ []))))) ++ html) (b ∷ text)
    at_38 true e = by_name 38 (codes "&amp;") ampersand e
    at_38 false e = at_60 e (b == 60) refl

pub reads_escaped : (text : List ℕ) → Reads (escaped text) text
unfolding escaped
reads_escaped [] = nothing
reads_escaped (b ∷ text) =
    subst (λ (html : List ℕ). Reads html (b ∷ text)) (sym (flat_map-cons escaped_byte b text))
    (reads_byte b (flat_map escaped_byte text) text (reads_escaped text))

bound_none : (b : ℕ) → is_special b ≡ false → is_bound b ≡ false
bound_none b e = by (is_bound b) (b == 38) e
  where
    by : (x y : Bool) → (x || y) ≡ false → x ≡ false
    by true y e = e
    by false y e = refl

reference_inert : (name : List ℕ) (b : ℕ) → IsReference name b → list_any is_bound name ≡ false
reference_inert name b ampersand = refl
reference_inert name b less = refl
reference_inert name b greater = refl
reference_inert name b quote = refl
reference_inert name b apostrophe = refl

-- HTML that reads as a text has no byte that begins or ends a tag, or ends the value of an attribute
pub reads_inert : (html text : List ℕ) → Reads html text → list_any is_bound html ≡ false
reads_inert html text nothing = refl
reads_inert html text (itself b html' text' plain rest) = rw (bound_none b plain) (reads_inert html' text' rest)
reads_inert html text (referred b name html' text' is rest) =
    list_any-append is_bound name html' ∙ rw (reference_inert name b is) (reads_inert html' text' rest)
