-- Values that spell texts, and the texts that are read of values.
use Rattle.std.proofs.Common.{◌≡◌, ℕ, Bool, true, false, List, [], ◌∷◌, ◌++◌, Option, Some, None, refl, sym, ap, subst, ◌∙◌, arith, inl, inr}
use Rattle.std.specs.Prelude.{◌==◌, ◌&&◌, ◌||◌, not, nat_le, if◌then◌else◌}
use Rattle.std.specs.List.{list_all, flat_map}
use Rattle.std.proofs.lemmas.Bool.{and_parts, and_from, or_cases}
use Rattle.std.proofs.lemmas.Bool.Decides.{nat_tests}
use Rattle.std.proofs.lemmas.List.Folds.{list_all-append}
use Rattle.crew_calendar.specs.Folding.{is_inner}
use Rattle.crew_calendar.specs.Texts.{text_from, text_in, escaped, escaped_byte, is_text, is_text_byte, is_marked, is_printable, is_plain, marked, with_byte, put_before}
use Rattle.crew_calendar.specs.Content.{Spells, SpellsByte}
use Rattle.crew_calendar.proofs.ValuesAgain.{byte_again, byte_inner}

-- ---- a value that spells a text is read as the text

capital_again : (feeds : Bool) (rest bs : List ℕ) → is_text_byte feeds 10 ≡ true
    → text_from feeds false rest ≡ Some bs → text_from feeds false (92 ∷ (78 ∷ rest)) ≡ Some (10 ∷ bs)
unfolding text_from
capital_again true rest bs h e = rw e refl
capital_again false rest bs h e = absurd cc

piece_read : (feeds : Bool) (b : ℕ) (piece rest bs : List ℕ) → is_text_byte feeds b ≡ true → SpellsByte b piece
    → text_from feeds false rest ≡ Some bs → text_from feeds false (piece ++ rest) ≡ Some (b ∷ bs)
piece_read feeds b piece rest bs h (inl is) e =
    ap (λ (l : List ℕ). text_from feeds false (l ++ rest)) is ∙ byte_again feeds b rest bs h e
piece_read feeds b piece rest bs h (inr x) e =
    let there : is_text_byte feeds 10 ≡ true = subst (λ (c : ℕ). is_text_byte feeds c ≡ true) x.0 h in
    ap (λ (l : List ℕ). text_from feeds false (l ++ rest)) x.1 ∙ capital_again feeds rest bs there e
    ∙ ap (λ (c : ℕ). Some (c ∷ bs)) (sym x.0)

pub spelt_read : (feeds : Bool) (t v : List ℕ) → is_text feeds t ≡ true → Spells t v → text_in feeds v ≡ Some t
unfolding Spells text_from
spelt_read feeds [] v h s = ap (λ (l : List ℕ). text_from feeds false l) s
spelt_read feeds (b ∷ bs) v h s =
    let p = and_parts (is_text_byte feeds b) (is_text feeds bs) h in
    ap (λ (l : List ℕ). text_from feeds false l) s.parts
    ∙ piece_read feeds b s.piece s.rest bs p.0 s.first (spelt_read feeds bs s.rest p.1 s.behind)

-- no line ends in it
piece_inner : (feeds : Bool) (b : ℕ) (piece : List ℕ) → is_text_byte feeds b ≡ true → SpellsByte b piece → list_all is_inner piece ≡ true
piece_inner feeds b piece h (inl is) = ap (λ (l : List ℕ). list_all is_inner l) is ∙ byte_inner feeds b h
piece_inner feeds b piece h (inr x) = ap (λ (l : List ℕ). list_all is_inner l) x.1

pub spelt_inner : (feeds : Bool) (t v : List ℕ) → is_text feeds t ≡ true → Spells t v → list_all is_inner v ≡ true
unfolding Spells
spelt_inner feeds [] v h s = ap (λ (l : List ℕ). list_all is_inner l) s
spelt_inner feeds (b ∷ bs) v h s =
    let p = and_parts (is_text_byte feeds b) (is_text feeds bs) h in
    ap (λ (l : List ℕ). list_all is_inner l) s.parts ∙ list_all-append is_inner s.piece s.rest
    ∙ and_from _ _ (piece_inner feeds b s.piece p.0 s.first) (spelt_inner feeds bs s.rest p.1 s.behind)

-- what is printed spells the text
pub escaped_spells : (t : List ℕ) → Spells t (escaped t)
unfolding Spells escaped
escaped_spells [] = refl
escaped_spells (b ∷ bs) =
    record { piece = escaped_byte b; rest = flat_map escaped_byte bs; parts = refl; first = inl refl; behind = escaped_spells bs }

-- ---- a text that is read of a value is spelt by it

pub record Spelt (feeds : Bool) (t v : List ℕ) : Type 0 where
  pub form : is_text feeds t ≡ true
  pub spells : Spells t v

-- the texts that are read of the bytes behind are spelt by them
abbrev pub Reads : Bool → List ℕ → Type 0
Reads feeds v = (t : List ℕ) → text_from feeds false v ≡ Some t → Spelt feeds t v

one_more : (feeds : Bool) (b : ℕ) (piece rest u t : List ℕ) → is_text_byte feeds b ≡ true → SpellsByte b piece
    → Spelt feeds u rest → b ∷ u ≡ t → Spelt feeds t (piece ++ rest)
unfolding Spells
one_more feeds b piece rest u t h s behind e =
    subst (λ (l : List ℕ). Spelt feeds l (piece ++ rest)) e (record {
      form = and_from (is_text_byte feeds b) (is_text feeds u) h behind.form;
      spells = record { piece = piece; rest = rest; parts = refl; first = s; behind = behind.spells };
    })

with_some : {P : Type 0} (b : ℕ) (o : Option (List ℕ)) (t : List ℕ) → with_byte b o ≡ Some t
    → ((u : List ℕ) → o ≡ Some u → b ∷ u ≡ t → P) → P
with_some b None t e next = absurd cc
with_some b (Some u) t e next = next u refl (some_same e)
  where
    some_same : Some (b ∷ u) ≡ Some t → b ∷ u ≡ t
    some_same h = cc

-- a byte that stands for itself
plain_facts : (feeds : Bool) (b : ℕ) → is_plain b ≡ true → (is_text_byte feeds b ≡ true) × (b ∷ [] ≡ escaped_byte b)
plain_facts feeds b h = go h (feed b h)
  where
    feed : (c : ℕ) → is_plain c ≡ true → (c == 10) ≡ false
    feed c k =
        let low = (and_parts (nat_le 32 c) (nat_le c 126) (and_parts (is_printable c) _ k).0).0 in
        grind (arith, nat_tests, low)

    from_not : (x : Bool) → not x ≡ true → x ≡ false
    from_not true k = absurd cc
    from_not false k = refl

    go : is_plain b ≡ true → (b == 10) ≡ false → (is_text_byte feeds b ≡ true) × (b ∷ [] ≡ escaped_byte b)
    go k ten =
        let p = and_parts (is_printable b) _ k in
        let unmarked : is_marked b ≡ false = from_not (is_marked b) p.1 in
        (rw p.0 refl, rw (unmarked, ten) refl)

plain_said : (feeds : Bool) (b : ℕ) (rest t : List ℕ) → is_plain b ≡ true → Reads feeds rest
    → with_byte b (text_from feeds false rest) ≡ Some t → Spelt feeds t (b ∷ rest)
plain_said feeds b rest t h reads e =
    let p = plain_facts feeds b h in
    with_some b (text_from feeds false rest) t e
    (λ u read same. one_more feeds b (b ∷ []) rest u t p.0 (inl p.1) (reads u read) same)

-- a byte behind a backslash
mark_text : (feeds : Bool) (b : ℕ) → is_marked b ≡ true → is_text_byte feeds b ≡ true
mark_text feeds b h =
    elim (or_cases ((b == 92) || (b == 59)) (b == 44) h) [
      | inl two ↦ elim (or_cases (b == 92) (b == 59) two) [
        | inl one ↦ same 92 one refl
        | inr one ↦ same 59 one refl
      ]
      | inr one ↦ same 44 one refl
    ]
  where
    same : (n : ℕ) → (b == n) ≡ true → is_text_byte feeds n ≡ true → is_text_byte feeds b ≡ true
    same n p q = let eq : n ≡ b = grind (arith, nat_tests) in subst (λ (x : ℕ). is_text_byte feeds x ≡ true) eq q

-- what a byte behind a backslash stands for, and how that is spelt
pub record IsMark (feeds : Bool) (b m : ℕ) : Type 0 where
  pub form : is_text_byte feeds m ≡ true
  pub spells : SpellsByte m (92 ∷ (b ∷ []))

feed_mark : (b : ℕ) → ((b == 110) || (b == 78)) ≡ true → IsMark true b 10
feed_mark b h =
    elim (or_cases (b == 110) (b == 78) h) [
      | inl small ↦ record { form = refl; spells = inl (ap (λ (x : ℕ). 92 ∷ (x ∷ [])) (is 110 small)) }
      | inr capital ↦ record { form = refl; spells = inr (refl, ap (λ (x : ℕ). 92 ∷ (x ∷ [])) (is 78 capital)) }
    ]
  where
    is : (n : ℕ) → (b == n) ≡ true → b ≡ n
    is n p = grind (arith, nat_tests)

some_ten : (feeds : Bool) (b m : ℕ) (x : Bool) → x ≡ ((b == 110) || (b == 78)) → (if feeds && x then Some 10 else None) ≡ Some m
    → IsMark feeds b m
some_ten false b m x is e = absurd cc
some_ten true b m false is e = absurd cc
some_ten true b m true is e =
    let ten : 10 ≡ m = cc in
    subst (λ (k : ℕ). IsMark true b k) ten (feed_mark b (sym is))

mark_facts : (feeds : Bool) (b m : ℕ) → marked feeds b ≡ Some m → IsMark feeds b m
mark_facts feeds b m e = go (is_marked b) refl e
  where
    go : (x : Bool) → x ≡ is_marked b → (if x then Some b else if feeds && ((b == 110) || (b == 78)) then Some 10 else None) ≡ Some m
        → IsMark feeds b m
    go true is k =
        let same : b ≡ m = cc in
        let there : is_marked b ≡ true = sym is in
        subst (λ (n : ℕ). IsMark feeds b n) same
        (record { form = mark_text feeds b there; spells = inl (rw there refl) })
    go false is k = some_ten feeds b m ((b == 110) || (b == 78)) refl k

mark_said : (feeds : Bool) (b : ℕ) (rest t : List ℕ) → Reads feeds rest
    → put_before (marked feeds b) (text_from feeds false rest) ≡ Some t → Spelt feeds t (92 ∷ (b ∷ rest))
mark_said feeds b rest t reads e = go (marked feeds b) refl e
  where
    go : (o : Option ℕ) → o ≡ marked feeds b → put_before o (text_from feeds false rest) ≡ Some t → Spelt feeds t (92 ∷ (b ∷ rest))
    go None is k = absurd cc
    go (Some m) is k =
        let p = mark_facts feeds b m (sym is) in
        with_some m (text_from feeds false rest) t k
        (λ u read same. one_more feeds m (92 ∷ (b ∷ [])) rest u t p.form p.spells (reads u read) same)

is_backslash : (b : ℕ) → (b == 92) ≡ true → b ≡ 92
is_backslash b h = grind (arith, nat_tests)

-- a byte, or two where the first is a backslash
first_said : (feeds : Bool) (b c : ℕ) (cs t : List ℕ) → Reads feeds cs → Reads feeds (c ∷ cs)
    → text_from feeds false (b ∷ (c ∷ cs)) ≡ Some t → Spelt feeds t (b ∷ (c ∷ cs))
unfolding text_from
first_said feeds b c cs t two one e = go (b == 92) refl (is_plain b) refl e
  where
    go : (x : Bool) → x ≡ (b == 92) → (y : Bool) → y ≡ is_plain b
        → (if x then put_before (marked feeds c) (text_from feeds false cs)
        else if y then with_byte b (text_from feeds false (c ∷ cs)) else None) ≡ Some t
        → Spelt feeds t (b ∷ (c ∷ cs))
    go true is y plain k =
        subst (λ (n : ℕ). Spelt feeds t (n ∷ (c ∷ cs))) (sym (is_backslash b (sym is))) (mark_said feeds c cs t two k)
    go false is true plain k = plain_said feeds b (c ∷ cs) t (sym plain) one k
    go false is false plain k = absurd cc

last_said : (feeds : Bool) (b : ℕ) (t : List ℕ) → Reads feeds [] → text_from feeds false (b ∷ []) ≡ Some t → Spelt feeds t (b ∷ [])
unfolding text_from
last_said feeds b t none e = go (b == 92) (is_plain b) refl e
  where
    go : (x y : Bool) → y ≡ is_plain b → (if x then None else if y then with_byte b (Some []) else None) ≡ Some t → Spelt feeds t (b ∷ [])
    go true y plain k = absurd cc
    go false true plain k = plain_said feeds b [] t (sym plain) none k
    go false false plain k = absurd cc

none_said : (feeds : Bool) → Reads feeds []
unfolding text_from Spells
none_said feeds t e =
    let empty : [] ≡ t = cc in
    subst (λ (l : List ℕ). Spelt feeds l []) empty (record { form = refl; spells = refl })

pub text_said : (feeds : Bool) (v : List ℕ) → Reads feeds v
text_said feeds [] = none_said feeds
text_said feeds (b ∷ []) = λ t e. last_said feeds b t (none_said feeds) e
text_said feeds (b ∷ (c ∷ cs)) = λ t e. first_said feeds b c cs t (text_said feeds cs) (text_said feeds (c ∷ cs)) e
