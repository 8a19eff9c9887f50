-- Lenses that look at whole lines, in a table and in the items that use it.
use Rattle.std.proofs.Common.{◌≡◌, ℕ, suc, Bool, true, false, ◌&&◌, not, List, [], ◌∷◌, ◌++◌, length, refl, sym, ap, ◌∙◌}
use Rattle.std.specs.Prelude.{◌||◌, ◌==◌, nat_lt, map, if◌then◌else◌}
use Rattle.std.specs.List.{list_all}
use Rattle.roster_model.specs.declared.proof.Lens.{Lens}
use Rattle.roster_model.specs.declared.proof.Item.{Item}
use Rattle.roster_model.specs.declared.proof.Item.TheVariants.{Split, Count, Fixed, NoLine, Weights}
use Rattle.cert_text.specs.declared.wanted.Wanted.{Wanted}
use Rattle.cert_text.specs.declared.wanted.May.{May}
use Rattle.cert_text.specs.Spelling.{words_text, lens_word, lens_words, lens_key, is_kept, with_key, keys_after, lenses_of, all_keys}
use Rattle.cert_text.specs.Reading.{may_in}
use Rattle.cert_text.specs.Limits.{is_plain_lens, is_plain_item, is_plain_proof}
use Rattle.cert_text.proofs.InVersion.{none_less}
use Rattle.cert_text.proofs.KeyLaws.{Key, same, same_is}

and_true : (b : Bool) → (b && true) ≡ b
and_true true = refl
and_true false = refl

and_and : (a b c : Bool) → ((a && b) && c) ≡ (a && (b && c))
and_and true b c = refl
and_and false b c = refl

pub all_more : {A : Type 0} (test : A → Bool) (xs : List A) (x : A) → list_all test (xs ++ x ∷ []) ≡ (list_all test xs && test x)
all_more test [] x = and_true (test x)
all_more test (y ∷ ys) x = ap (λ (b : Bool). test y && b) (all_more test ys x) ∙ sym (and_and (test y) (list_all test ys) (test x))

pub all_both : {A : Type 0} (test : A → Bool) (xs ys : List A) → list_all test (xs ++ ys) ≡ (list_all test xs && list_all test ys)
all_both test [] ys = refl
all_both test (x ∷ xs) ys = ap (λ (b : Bool). test x && b) (all_both test xs ys) ∙ sym (and_and (test x) (list_all test xs) (list_all test ys))

-- ---- by their keys: a key tells whether its lens looks at whole lines

plain_key : Key → Bool
plain_key [] = true
plain_key (b ∷ bs) = not (b == 119)

plain_word : (looks : Bool) (bytes : List ℕ) → plain_key (lens_word looks ++ bytes) ≡ not looks
unfolding plain_key
plain_word true bytes = refl
plain_word false bytes = refl

key_plain : (l : Lens) → plain_key (lens_key l) ≡ is_plain_lens l
unfolding lens_key
key_plain l = plain_word l.whole (words_text (lens_words l))

kept_plain : (keys : List Key) (key : Key) → is_kept keys key ≡ true → list_all plain_key keys ≡ true → plain_key key ≡ true
kept_plain [] key h g = absurd cc
kept_plain (k ∷ ks) key h g = by_test (same key k) refl (plain_key k) refl h g (λ h g. kept_plain ks key h g)
  where
    by_test : (b : Bool) → same key k ≡ b → (p : Bool) → plain_key k ≡ p → (b || is_kept ks key) ≡ true → (p && list_all plain_key ks) ≡ true
        → (is_kept ks key ≡ true → list_all plain_key ks ≡ true → plain_key key ≡ true) → plain_key key ≡ true
    by_test true e true f h g others = ap plain_key (same_is key k e) ∙ f
    by_test false e true f h g others = others h g
    by_test b e false f h g others = absurd cc

with_plain : (keys : List Key) (key : Key) → list_all plain_key (with_key keys key) ≡ (list_all plain_key keys && plain_key key)
with_plain keys key = by_test (is_kept keys key) refl (list_all plain_key keys) refl
  where
    by_test : (b : Bool) → is_kept keys key ≡ b → (p : Bool) → list_all plain_key keys ≡ p → list_all plain_key (if b then keys else keys ++ key ∷ []) ≡ (list_all plain_key keys && plain_key key)
    by_test true h true g = g ∙ sym (ap (λ (b : Bool). b && plain_key key) g ∙ kept_plain keys key h g)
    by_test true h false g = g ∙ sym (ap (λ (b : Bool). b && plain_key key) g)
    by_test false h p g = all_more plain_key keys key

after_plain : (keys : List Key) (ls : List Lens) → list_all plain_key (keys_after keys ls) ≡ (list_all plain_key keys && list_all is_plain_lens ls)
after_plain keys [] = sym (and_true (list_all plain_key keys))
after_plain keys (l ∷ ls) =
    after_plain (with_key keys (lens_key l)) ls
    ∙ ap (λ (b : Bool). b && list_all is_plain_lens ls) (with_plain keys (lens_key l) ∙ ap (λ (b : Bool). list_all plain_key keys && b) (key_plain l))
    ∙ and_and (list_all plain_key keys) (is_plain_lens l) (list_all is_plain_lens ls)

item_plain : (x : Item) → list_all is_plain_lens (lenses_of x) ≡ is_plain_item x
item_plain (Split m p) = refl
item_plain (Count p) = refl
item_plain (Fixed m) = refl
item_plain (NoLine m l) = and_true (is_plain_lens l)
item_plain (Weights ys ls) = refl

all_plain : (keys : List Key) (xs : List Item) → list_all plain_key (all_keys keys xs) ≡ (list_all plain_key keys && list_all is_plain_item xs)
all_plain keys [] = sym (and_true (list_all plain_key keys))
all_plain keys (x ∷ xs) =
    all_plain (keys_after keys (lenses_of x)) xs
    ∙ ap (λ (b : Bool). b && list_all is_plain_item xs) (after_plain keys (lenses_of x) ∙ ap (λ (b : Bool). list_all plain_key keys && b) (item_plain x))
    ∙ and_and (list_all plain_key keys) (is_plain_item x) (list_all is_plain_item xs)

keys_plain : (table : List Lens) → list_all plain_key (map lens_key table) ≡ list_all is_plain_lens table
keys_plain [] = refl
keys_plain (l ∷ ls) = ap (λ (b : Bool). b && list_all plain_key (map lens_key ls)) (key_plain l) ∙ ap (λ (b : Bool). is_plain_lens l && b) (keys_plain ls)

none_plain : list_all plain_key [] ≡ true
none_plain = refl

-- the lenses of a table are plain exactly where its items are
pub table_plain : (table : List Lens) (xs : List Item) → all_keys [] xs ≡ map lens_key table → list_all is_plain_lens table ≡ is_plain_proof xs
table_plain table xs e =
    sym (keys_plain table) ∙ ap (list_all plain_key) (sym e) ∙ all_plain [] xs

-- ---- what is wanted of a table, where so many lenses still come

abbrev pub suits : Wanted → ℕ → Bool → Bool
suits wanted left plain = (wanted.may || plain) && (not wanted.must || (nat_lt 0 left || not plain))

-- whether the first word of the line of a lens may stand there
abbrev pub is_said : May → Lens → Bool
is_said may l = if l.whole then may.whole else may.lens

-- so many lenses suit before the first one
pub suits_none : (wanted : Wanted) (n : ℕ) → (not wanted.must || nat_lt 0 n) ≡ true → suits wanted n true ≡ true
suits_none wanted n h = by_case wanted.may wanted.must (nat_lt 0 n) h
  where
    by_case : (may must some : Bool) → (not must || some) ≡ true → ((may || true) && (not must || (some || false))) ≡ true
    by_case true false some h = refl
    by_case false false some h = refl
    by_case true true true h = refl
    by_case false true true h = refl
    by_case true true false h = absurd cc
    by_case false true false h = absurd cc

step : (may must plain whole some : Bool) → (may || plain) ≡ true → (if whole then may else (not must || (some || not plain))) ≡ true
    → ((may || (plain && not whole)) && (not must || (some || not (plain && not whole)))) ≡ true
step true false plain whole some h g = refl
step true true plain whole true h g = refl
step true true true true false h g = refl
step true true true false false h g = absurd cc
step true true false whole false h g = refl
step false must plain true some h g = absurd cc
step false must false false some h g = absurd cc
step false false true false some h g = refl
step false true true false true h g = refl
step false true true false false h g = absurd cc

-- a lens whose word may stand there suits
pub suits_next : (wanted : Wanted) (n : ℕ) (table : List Lens) (l : Lens) → suits wanted (suc n) (list_all is_plain_lens table) ≡ true → is_said (may_in wanted n table) l ≡ true
    → suits wanted n (list_all is_plain_lens (table ++ l ∷ [])) ≡ true
suits_next wanted n table l h g =
    ap (suits wanted n) (all_more is_plain_lens table l)
    ∙ step wanted.may wanted.must (list_all is_plain_lens table) l.whole (nat_lt 0 n) (first_of (wanted.may || list_all is_plain_lens table) _ h) g
  where
    first_of : (a b : Bool) → (a && b) ≡ true → a ≡ true
    first_of true b h = refl
    first_of false b h = absurd cc

last_said : (may must plain whole : Bool) → ((may || (plain && (not whole && true))) && (not must || (false || not (plain && (not whole && true))))) ≡ true
    → (if whole then may else (not must || (false || not plain))) ≡ true
last_said true must plain true h = refl
last_said true false plain false h = refl
last_said true true true false h = absurd cc
last_said true true false false h = refl
last_said false must true true h = absurd cc
last_said false must false true h = absurd cc
last_said false false plain false h = refl
last_said false true true false h = absurd cc
last_said false true false false h = absurd cc

early_said : (may must plain whole rest left some : Bool) → some ≡ true → ((may || (plain && (not whole && rest))) && left) ≡ true → (if whole then may else (not must || (some || not plain))) ≡ true
early_said true must plain true rest left some e h = refl
early_said may false plain false rest left some e h = refl
early_said may true plain false rest left true e h = refl
early_said may true plain false rest left false e h = absurd cc
early_said false must true true rest left some e h = absurd cc
early_said false must false true rest left some e h = absurd cc

-- each lens of a table that suits may stand there
pub suits_said : (wanted : Wanted) (table : List Lens) (l : Lens) (ls : List Lens) → suits wanted 0 (list_all is_plain_lens (table ++ (l ∷ ls))) ≡ true
    → is_said (may_in wanted (length ls) table) l ≡ true
suits_said wanted table l [] h =
    last_said wanted.may wanted.must (list_all is_plain_lens table) l.whole (sym (ap (suits wanted 0) (all_both is_plain_lens table (l ∷ []))) ∙ h)
suits_said wanted table l (x ∷ xs) h =
    early_said wanted.may wanted.must (list_all is_plain_lens table) l.whole (list_all is_plain_lens (x ∷ xs)) _ (nat_lt 0 (length (x ∷ xs))) (none_less (length xs))
    (sym (ap (suits wanted 0) (all_both is_plain_lens table (l ∷ (x ∷ xs)))) ∙ h)

-- a table that suits has a lens, where it must
pub suits_some : (wanted : Wanted) (table : List Lens) → suits wanted 0 (list_all is_plain_lens table) ≡ true → (not wanted.must || nat_lt 0 (length table)) ≡ true
suits_some wanted [] h = by_case wanted.may wanted.must h
  where
    by_case : (may must : Bool) → ((may || true) && (not must || (false || false))) ≡ true → (not must || nat_lt 0 0) ≡ true
    by_case may false h = refl
    by_case true true h = absurd cc
    by_case false true h = absurd cc
suits_some wanted (l ∷ ls) h = by_case wanted.must
  where
    by_case : (must : Bool) → (not must || nat_lt 0 (length (l ∷ ls))) ≡ true
    by_case false = refl
    by_case true = none_less (length ls)
