-- Words, and where a field ends.
use Rattle.std.proofs.Common.{◌≡◌, ℕ, Bool, true, false, cond, List, [], ◌∷◌, ◌++◌, length, take, drop, Option, Some, None, refl, sym, ap, ◌∙◌}
use Rattle.std.specs.List.{list_all}
use Rattle.std.proofs.lemmas.Bool.{false≢true, and_parts}
use Rattle.std.specs.Str.{bytes_eq}
use Rattle.std.proofs.lemmas.List.{take_at, drop_at, take-append-drop}
use Rattle.std.proofs.lemmas.Slice.Eq.{bytes_eq-Decides}
use Rattle.roster_text.specs.NameReading.{◌>>=◌, word_at}

pub bind_some : {A B : Type 0} (r : Option A) (f : A → Option B) (y : B) → (r >>= f) ≡ Some y → (x : A) × (r ≡ Some x) × (f x ≡ Some y)
bind_some (Some x) f y e = (x, refl, e)
bind_some None f y e = absurd cc

pub some_if : {A : Type 0} (b : Bool) (x y : A) → cond b (Some x) None ≡ Some y → (b ≡ true) × (x ≡ y)
some_if true x y e = (refl, cc)
some_if false x y e = absurd cc

abbrev pub done : {A : Type 0} → A → Option A
done x = Some x

pub some_is : {A : Type 0} (x y : A) → done x ≡ done y → x ≡ y
some_is x y e = cc

-- ---- words

pub word_takes : (word bytes rest : List ℕ) → word_at word bytes ≡ Some rest → bytes ≡ word ++ rest
word_takes word bytes rest e =
    let g = some_if (bytes_eq (take (length word) bytes) word) (drop (length word) bytes) rest e in
    let front : take (length word) bytes ≡ word = (bytes_eq-Decides _ _).0 g.0 in
    sym (take-append-drop (length word) bytes) ∙ ap (λ (t : List ℕ). t ++ drop (length word) bytes) front ∙ ap (λ (t : List ℕ). word ++ t) g.1

pub word_again : (word rest : List ℕ) → word_at word (word ++ rest) ≡ Some rest
word_again word rest =
    rw (take_at word rest (length word) refl, drop_at word rest (length word) refl, (bytes_eq-Decides word word).1 refl) refl

-- ---- where a field ends

-- a field ends where another one ends, if behind each stands a byte of no field
pub same_front : (test : ℕ → Bool) (m n : List ℕ) (s c : ℕ) (u v : List ℕ) → list_all test m ≡ true → list_all test n ≡ true
    → test s ≡ false → test c ≡ false → m ++ s ∷ u ≡ n ++ c ∷ v → (m ≡ n) × (u ≡ v)
same_front test [] [] s c u v hm hn hs hc e = (refl, cc)
same_front test [] (b ∷ n) s c u v hm hn hs hc e =
    let head : s ≡ b = cc in
    absurd (false≢true (sym hs ∙ ap test head ∙ (and_parts (test b) (list_all test n) hn).0))
same_front test (a ∷ m) [] s c u v hm hn hs hc e =
    let head : a ≡ c = cc in
    absurd (false≢true (sym hc ∙ ap test (sym head) ∙ (and_parts (test a) (list_all test m) hm).0))
same_front test (a ∷ m) (b ∷ n) s c u v hm hn hs hc e =
    let head : a ≡ b = cc in
    let rest : m ++ s ∷ u ≡ n ++ c ∷ v = cc in
    let tail = same_front test m n s c u v (and_parts (test a) (list_all test m) hm).1 (and_parts (test b) (list_all test n) hn).1 hs hc rest in
    (ap (λ (x : ℕ). x ∷ m) head ∙ ap (λ (x : List ℕ). b ∷ x) tail.0, tail.1)
