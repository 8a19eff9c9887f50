-- Where a text leaves a form.
use Rattle.std.proofs.Common.{◌≡◌, ◌↔◌, ℕ, zero, suc, ◌+◌, ◌≤◌, ◌<◌, List, [], ◌∷◌, take, length, Bool, true, false, not, cond, Option, Some, None, refl, arith, ap, subst, ◌∙◌}
use Rattle.std.proofs.lemmas.Bool.{and_parts}
use Rattle.std.proofs.lemmas.Bool.Decides.{nat_tests}
use Rattle.std.specs.Prelude.{IsTrue}
use Rattle.field_text.specs.declared.form.Class.{Class}
use Rattle.field_text.specs.declared.form.Class.TheVariants.{Digit, NonZero, Capital, NameByte, Byte}
use Rattle.field_text.specs.Form.{Form, nothing, finished, one, many, up_to, either, is_in, after, may_end, is_nothing, is_of, fault_from}
use Rattle.field_text.specs.Columns.{Fits, Begins, StopsAt, a_byte, a_text, begins_in, is_live}

pub byte-in : (c : Class) → is_in c (a_byte c) ≡ true
byte-in Digit = refl
byte-in NonZero = refl
byte-in Capital = refl
byte-in NameByte = refl
byte-in (Byte b) = grind (arith, nat_tests)

not_true : (b : Bool) → not b ≡ true → b ≡ false
not_true true h = cc
not_true false h = refl

one-behind : (c : Class) (f : Form) (b : ℕ) (text : List ℕ) → is_in c b ≡ true → is_of (one c f) (b ∷ text) ≡ is_of f text
unfolding is_of
one-behind c f b text h = rw h refl

either-behind : (c : Class) (f g : Form) (b : ℕ) (text : List ℕ) → is_in c b ≡ true → is_of (either c f g) (b ∷ text) ≡ is_of f text
unfolding is_of
either-behind c f g b text h = rw h refl

many-behind : (c : Class) (f : Form) (text : List ℕ) → begins_in c text ≡ false → is_of (many c f) text ≡ is_of f text
unfolding is_of
many-behind c f [] h = refl
many-behind c f (b ∷ bs) h = rw h refl

up_to-behind : (n : ℕ) (c : Class) (f : Form) (text : List ℕ) → begins_in c text ≡ false → is_of (up_to n c f) text ≡ is_of f text
unfolding is_of
up_to-behind n c f [] h = refl
up_to-behind zero c f (b ∷ bs) h = refl
up_to-behind (suc n) c f (b ∷ bs) h = rw h refl

-- a form whose parts can be gone on to their ends has a text
text-of : (f : Form) → is_live f ≡ true → is_of f (a_text f) ≡ true
unfolding is_of
text-of nothing h = cc
text-of finished h = refl
text-of (one c f) h = one-behind c f (a_byte c) (a_text f) (byte-in c) ∙ text-of f h
text-of (many c f) h = let p = and_parts (not (begins_in c (a_text f))) (is_live f) h in many-behind c f (a_text f) (not_true (begins_in c (a_text f)) p.0) ∙ text-of f p.1
text-of (up_to n c f) h = let p = and_parts (not (begins_in c (a_text f))) (is_live f) h in up_to-behind n c f (a_text f) (not_true (begins_in c (a_text f)) p.0) ∙ text-of f p.1
text-of (either c f g) h = let p = and_parts (is_live f) (is_live g) h in either-behind c f g (a_byte c) (a_text f) (byte-in c) ∙ text-of f p.0

-- and so has what stands behind a byte that may stand there
live-after : (f : Form) (b : ℕ) → is_live f ≡ true → is_nothing (after f b) ≡ false → is_live (after f b) ≡ true
live-after nothing b h k = cc
live-after finished b h k = cc
live-after (one c f) b h k = go (is_in c b) k
  where
    go : (t : Bool) → is_nothing (cond t f nothing) ≡ false → is_live (cond t f nothing) ≡ true
    go true e = h
    go false e = cc
live-after (many c f) b h k = go (is_in c b) k (live-after f b (and_parts (not (begins_in c (a_text f))) (is_live f) h).1)
  where
    go : (t : Bool) → is_nothing (cond t (many c f) (after f b)) ≡ false → (is_nothing (after f b) ≡ false → is_live (after f b) ≡ true) → is_live (cond t (many c f) (after f b)) ≡ true
    go true e more = h
    go false e more = more e
live-after (up_to zero c f) b h k = live-after f b (and_parts (not (begins_in c (a_text f))) (is_live f) h).1 k
live-after (up_to (suc n) c f) b h k = go (is_in c b) k (live-after f b (and_parts (not (begins_in c (a_text f))) (is_live f) h).1)
  where
    go : (t : Bool) → is_nothing (cond t (up_to n c f) (after f b)) ≡ false → (is_nothing (after f b) ≡ false → is_live (after f b) ≡ true) → is_live (cond t (up_to n c f) (after f b)) ≡ true
    go true e more = h
    go false e more = more e
live-after (either c f g) b h k = go (is_in c b) k (live-after g b (and_parts (is_live f) (is_live g) h).1)
  where
    go : (t : Bool) → is_nothing (cond t f (after g b)) ≡ false → (is_nothing (after g b) ≡ false → is_live (after g b) ≡ true) → is_live (cond t f (after g b)) ≡ true
    go true e more = (and_parts (is_live f) (is_live g) h).0
    go false e more = more e

-- no text has the form without texts
never : (text : List ℕ) → is_of nothing text ≡ false
unfolding is_of
never [] = refl
never (b ∷ bs) = never bs

never-of : (f : Form) (text : List ℕ) → is_nothing f ≡ true → is_of f text ≡ false
never-of nothing text h = never text
never-of finished text h = cc
never-of (one c f) text h = cc
never-of (many c f) text h = cc
never-of (up_to n c f) text h = cc
never-of (either c f g) text h = cc

-- a column is no earlier than the begin
fault-least : (n k : ℕ) (f : Form) (text : List ℕ) → fault_from n f text ≡ Some k → n ≤ k
unfolding fault_from
fault-least n k f [] h = go (may_end f) h
  where
    go : (t : Bool) → cond t None (Some n) ≡ Some k → n ≤ k
    go true e = cc
    go false e = let s : n ≡ k = cc in omega arith
fault-least n k f (b ∷ bs) h = go (is_nothing (after f b)) h (fault-least (n + 1) k (after f b) bs)
  where
    go : (t : Bool) → cond t (Some n) (fault_from (n + 1) (after f b) bs) ≡ Some k → (fault_from (n + 1) (after f b) bs ≡ Some k → n + 1 ≤ k) → n ≤ k
    go true e more = let s : n ≡ k = cc in omega arith
    go false e more = let s = more e in omega arith

-- where a text leaves a form, as so many bytes that it shares with texts of the form
record Leaves (f : Form) (text : List ℕ) (j : ℕ) : Type 0 where
  within : j ≤ length text
  before : Begins (Fits f) (take j text)
  here : j < length text → ¬ Begins (Fits f) (take (suc j) text)
  ends : ¬ IsTrue (is_of f text)

leaves-end : (f : Form) → is_live f ≡ true → may_end f ≡ false → Leaves f [] 0
unfolding is_of
leaves-end f h e = record {
  within = omega arith;
  before = (a_text f, text-of f h);
  here = λ l. absurd (omega arith);
  ends = λ t. cc;
}

leaves-here : (f : Form) (b : ℕ) (bs : List ℕ) → is_live f ≡ true → is_nothing (after f b) ≡ true → Leaves f (b ∷ bs) 0
unfolding is_of
leaves-here f b bs h e = record {
  within = omega arith;
  before = (a_text f, text-of f h);
  here = λ l (w : Begins (Fits f) (b ∷ [])). let n = never-of (after f b) w.0 e in let t = w.1 in cc;
  ends = λ t. let n = never-of (after f b) bs e in cc;
}

leaves-later : (f : Form) (b : ℕ) (bs : List ℕ) (i : ℕ) → Leaves (after f b) bs i → Leaves f (b ∷ bs) (suc i)
unfolding is_of
leaves-later f b bs i l = record {
  within = omega (arith, l.within);
  before = l.before;
  here = λ p w. l.here (omega arith) w;
  ends = l.ends;
}

leaves : (n j : ℕ) (f : Form) (text : List ℕ) → is_live f ≡ true → fault_from n f text ≡ Some (n + j) → Leaves f text j
unfolding fault_from
leaves n j f [] h e = go (may_end f) refl e
  where
    go : (t : Bool) → may_end f ≡ t → cond t None (Some n) ≡ Some (n + j) → Leaves f [] j
    go true m k = cc
    go false m k = let s : n ≡ n + j = cc in let z : 0 ≡ j = omega arith in subst (λ (i : ℕ). Leaves f [] i) z (leaves-end f h m)
leaves n j f (b ∷ bs) h e = go (is_nothing (after f b)) refl e (λ i. leaves (n + 1) i (after f b) bs)
  where
    go : (t : Bool) → is_nothing (after f b) ≡ t → cond t (Some n) (fault_from (n + 1) (after f b) bs) ≡ Some (n + j)
        → ((i : ℕ) → is_live (after f b) ≡ true → fault_from (n + 1) (after f b) bs ≡ Some (n + 1 + i) → Leaves (after f b) bs i) → Leaves f (b ∷ bs) j
    go true m k more = let s : n ≡ n + j = cc in let z : 0 ≡ j = omega arith in subst (λ (i : ℕ). Leaves f (b ∷ bs) i) z (leaves-here f b bs h m)
    go false m k more = later j k (fault-least (n + 1) (n + j) (after f b) bs k)
      where
        later : (j : ℕ) → fault_from (n + 1) (after f b) bs ≡ Some (n + j) → n + 1 ≤ n + j → Leaves f (b ∷ bs) j
        later zero k l = absurd (omega arith)
        later (suc i) k l = let s : n + suc i ≡ n + 1 + i = omega arith in leaves-later f b bs i (more i (live-after f b h m) (k ∙ ap Some s))

-- a text without a column is of the form, and the other way round
fits-of : (n : ℕ) (f : Form) (text : List ℕ) → fault_from n f text ≡ None → is_of f text ≡ true
unfolding fault_from is_of
fits-of n f [] h = go (may_end f) h
  where
    go : (t : Bool) → cond t None (Some n) ≡ None → t ≡ true
    go true e = refl
    go false e = cc
fits-of n f (b ∷ bs) h = go (is_nothing (after f b)) h (fits-of (n + 1) (after f b) bs)
  where
    go : (t : Bool) → cond t (Some n) (fault_from (n + 1) (after f b) bs) ≡ None → (fault_from (n + 1) (after f b) bs ≡ None → is_of (after f b) bs ≡ true) → is_of (after f b) bs ≡ true
    go true e more = cc
    go false e more = more e

pub stops : (f : Form) (text : List ℕ) (column : ℕ) → IsTrue (is_live f) → fault_from 1 f text ≡ Some column → StopsAt (Fits f) text column
stops f text zero h e = absurd (omega (arith, fault-least 1 0 f text e))
stops f text (suc j) h e =
    let l = leaves 1 j f text h (e ∙ ap Some (omega arith)) in
    record {
      counted = omega arith;
      within = omega (arith, l.within);
      before = λ k s. let z : j ≡ k = omega arith in subst (λ (i : ℕ). Begins (Fits f) (take i text)) z l.before;
      here = λ p. l.here (omega arith);
      ends = l.ends;
    }

pub fits : (f : Form) (text : List ℕ) → IsTrue (is_live f) → (fault_from 1 f text ≡ None) ↔ IsTrue (is_of f text)
fits f text h = (fits-of 1 f text, λ t. go (fault_from 1 f text) refl t)
  where
    go : (o : Option ℕ) → fault_from 1 f text ≡ o → IsTrue (is_of f text) → o ≡ None
    go None e t = refl
    go (Some k) e t = absurd ((stops f text k h e).ends t)
