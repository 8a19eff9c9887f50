-- The texts of slices, and one more word of them.
use Rattle.std.proofs.Common.{◌≡◌, ◌<◌, ◌≤◌, ℕ, suc, ◌+◌, Bool, true, false, List, [], ◌∷◌, drop, length, map, get_or, refl, ap, subst, add-one, ◌&&◌}
use Rattle.std.specs.Borrow.{Bor}
use Rattle.std.specs.Str.{bytes_eq}
use Rattle.std.specs.Cmp.Lexicographic.{pointwise}
use Rattle.std.proofs.Math.ListN.{drop_of_length-le}
use Rattle.std.proofs.Math.Seq.{drop-cons}
use Rattle.clap.specs.Walk.{Text}
use Rattle.command_words.specs.Reading.{same_words, begins, has_option}

abbrev pub now_of : List (Bor Text) → List Text
now_of = map (λ w. w.now)

-- equality of slices of texts
pub same_texts : (xs ys : List (Bor Text)) → pointwise (λ (x : Bor Text) (y : Bor Text). bytes_eq x.now y.now) xs ys ≡ same_words (now_of xs) (now_of ys)
same_texts [] [] = refl
same_texts [] (y ∷ ys) = refl
same_texts (x ∷ xs) [] = refl
same_texts (x ∷ xs) (y ∷ ys) = ap (λ (t : Bool). bytes_eq x.now y.now && t) (same_texts xs ys)

cons_next : (w a : Text) (ws rest : List Text) (n : Text) → begins (w ∷ ws) n (a ∷ rest) ≡ false → bytes_eq w a ≡ true
    → has_option ws n rest ≡ has_option (w ∷ ws) n (a ∷ rest)
cons_next w a ws rest n h k = rw (h, k) refl

cons_stops : (w a : Text) (ws rest : List Text) (n : Text) → begins (w ∷ ws) n (a ∷ rest) ≡ false → bytes_eq w a ≡ false
    → has_option (w ∷ ws) n (a ∷ rest) ≡ false
cons_stops w a ws rest n h k = rw (h, k) refl

pub option_next : (words arguments : List (Bor Text)) (n : Text) (i : ℕ) (d e : Bor Text) → i < length words → i < length arguments
    → begins (now_of (drop i words)) n (now_of (drop i arguments)) ≡ false
    → bytes_eq (get_or words i d).now (get_or arguments i e).now ≡ true
    → has_option (now_of (drop (i + 1) words)) n (now_of (drop (i + 1) arguments)) ≡ has_option (now_of (drop i words)) n (now_of (drop i arguments))
option_next words arguments n i d e p q h k =
    let f = drop-cons words i d p in
    let g = drop-cons arguments i e q in
    let h2 = subst (λ (x : List (Bor Text)). begins (now_of x) n (now_of (get_or arguments i e ∷ drop (suc i) arguments)) ≡ false) f
    (subst (λ (x : List (Bor Text)). begins (now_of (drop i words)) n (now_of x) ≡ false) g h) in
    rw (add-one i, f, g) (cons_next (get_or words i d).now (get_or arguments i e).now (now_of (drop (suc i) words)) (now_of (drop (suc i) arguments)) n h2 k)

pub option_stops : (words arguments : List (Bor Text)) (n : Text) (i : ℕ) (d e : Bor Text) → i < length words → i < length arguments
    → begins (now_of (drop i words)) n (now_of (drop i arguments)) ≡ false
    → bytes_eq (get_or words i d).now (get_or arguments i e).now ≡ false
    → has_option (now_of (drop i words)) n (now_of (drop i arguments)) ≡ false
option_stops words arguments n i d e p q h k =
    let f = drop-cons words i d p in
    let g = drop-cons arguments i e q in
    let h2 = subst (λ (x : List (Bor Text)). begins (now_of x) n (now_of (get_or arguments i e ∷ drop (suc i) arguments)) ≡ false) f
    (subst (λ (x : List (Bor Text)). begins (now_of (drop i words)) n (now_of x) ≡ false) g h) in
    rw (f, g) (cons_stops (get_or words i d).now (get_or arguments i e).now (now_of (drop (suc i) words)) (now_of (drop (suc i) arguments)) n h2 k)

-- no word is left
pub option_missing : (words arguments : List (Bor Text)) (n : Text) (i : ℕ) (e : Bor Text) → length words ≤ i → i < length arguments
    → has_option (now_of (drop i words)) n (now_of (drop i arguments)) ≡ false
option_missing words arguments n i e p q =
    let f : drop i words ≡ [] = drop_of_length-le words p in
    let g = drop-cons arguments i e q in
    rw (f, g) refl

-- the option begins there
pub option_begins : (words arguments : List Text) (n : Text) → begins words n arguments ≡ true → has_option words n arguments ≡ true
option_begins words [] n h = h
option_begins words (a ∷ rest) n h = rw h refl
