-- How long the texts of lenses and items are at most, and how many lenses a proof has.
use Rattle.std.proofs.Common.{◌≡◌, ℕ, zero, suc, ◌+◌, ◌*◌, ◌/◌, ◌%◌, ◌^◌, ◌<◌, ◌≤◌, Bool, true, false, cond, ℤ, pos, negsuc, List, [], ◌∷◌, ◌++◌, length, map, decimal, codes, refl, ap, arith, lit≤, lit<, lt_of_lt_of_le, length-append}
use Rattle.std.specs.Prelude.{All}
use Rattle.std.specs.List.{flat_map}
use Rattle.std.proofs.lemmas.Grind.{flat_map-append}
use Rattle.std.proofs.lemmas.Fmt.{length-decimal-le}
use Rattle.std.proofs.lemmas.Int.{ints}
use Rattle.std.proofs.lemmas.List.Elements.{All-head, All-tail}
use Rattle.roster_model.specs.declared.proof.Lens.{Lens}
use Rattle.roster_model.specs.declared.proof.Window.{Window}
use Rattle.roster_model.specs.declared.proof.WindowKind.{WindowKind}
use Rattle.roster_model.specs.declared.proof.WindowKind.TheVariants.{Flight672, Duty672, Duty168, Flight365}
use Rattle.roster_model.specs.Weights.{IsSmallWeight}
use Rattle.cert_text.proofs.KeyLaws.{IsPlaced, place_new, placed, after_length}
use Rattle.cert_text.specs.Fields.{kind_word, is_zero}
use Rattle.cert_text.specs.Spelling.{spaced, words_text, line_text, flag_text, weight_text, hex_digit, hex_text, bits_text, window_text, lens_words, lens_word, lens_key, is_kept, with_key, place_in, number_text, numbers_text, keys_after, entry_text, entries_text, key_line}
use Rattle.month_award.proofs.Numbers.{HasSmallNumbers}

pub number-length : (n : ℕ) → n < 2 ^ 32 → length (decimal n) ≤ 10
number-length n lt = length-decimal-le 10 n (lit< tt) (lt_of_lt_of_le lt (lit≤ tt)) (lt_of_lt_of_le lt (lit≤ tt))

seven-digits : (n : ℕ) → n < 10000000 → length (decimal n) ≤ 7
seven-digits n lt = length-decimal-le 7 n (lit< tt) (lt_of_lt_of_le lt (lit≤ tt)) (lt_of_lt_of_le lt (lit≤ tt))

six-digits : (n : ℕ) → n < 1000000 → length (decimal n) ≤ 6
six-digits n lt = length-decimal-le 6 n (lit< tt) (lt_of_lt_of_le lt (lit≤ tt)) (lt_of_lt_of_le lt (lit≤ tt))

pub three-digits : (n : ℕ) → n < 1000 → length (decimal n) ≤ 3
three-digits n lt = length-decimal-le 3 n (lit< tt) (lt_of_lt_of_le lt (lit≤ tt)) (lt_of_lt_of_le lt (lit≤ tt))

two-digits : (n : ℕ) → n < 100 → length (decimal n) ≤ 2
two-digits n lt = length-decimal-le 2 n (lit< tt) (lt_of_lt_of_le lt (lit≤ tt)) (lt_of_lt_of_le lt (lit≤ tt))

hex-length : (k n : ℕ) → length (hex_text k n) ≡ k
hex-length zero n = refl
hex-length (suc k) n = let rest = hex-length k (n / 16) in omega (arith, rest, length-append (hex_text k (n / 16)) (hex_digit (n % 16) ∷ []))

bits-length : (n : ℕ) → length (bits_text n) ≡ 16
unfolding bits_text
bits-length n = hex-length 16 n

pub flag-length : (b : Bool) → length (flag_text b) ≡ 1
flag-length true = refl
flag-length false = refl

weight-length : (w : ℤ) → IsSmallWeight w → length (weight_text w) ≤ 11
weight-length (pos n) small = let short = number-length n (omega (arith, ints, small.1)) in omega (arith, short)
weight-length (negsuc n) small = let short = number-length (n + 1) (omega (arith, ints, small.0)) in omega (arith, short)

kind-length : (kind : WindowKind) → length (kind_word kind) ≡ 5
kind-length Flight672 = refl
kind-length Duty672 = refl
kind-length Duty168 = refl
kind-length Flight365 = refl

window-length : (w : Window) → w.start ≤ 600000 → length (window_text w) ≤ 11
window-length w small =
    omega (arith, length-append (kind_word w.kind) (decimal w.start), kind-length w.kind, six-digits w.start (omega (arith, small)))

-- a word more, each behind a space
pub words-more : (word : List ℕ) (words : List (List ℕ)) → length (words_text (word ∷ words)) ≡ 1 + length word + length (words_text words)
words-more word words = omega (arith, length-append (spaced word) (words_text words))

pub words-one : (word : List ℕ) → length (words_text (word ∷ [])) ≡ 1 + length word
words-one word = omega (arith, words-more word [])

pub line-length : (word : List ℕ) (words : List (List ℕ)) → length (line_text word words) ≡ length word + length (words_text words) + 1
line-length word words =
    omega (arith, length-append word (words_text words ++ 10 ∷ []), length-append (words_text words) (10 ∷ []))

-- words that are each so long at most
pub each-words : {X : Type 0} (f : X → List ℕ) (most : ℕ) (xs : List X) → All (λ x. length (f x) ≤ most) xs
    → length (words_text (map f xs)) ≤ length xs * (most + 1)
each-words f most [] short = omega arith
each-words f most (x ∷ xs) short =
    let first = All-head (λ y. length (f y) ≤ most) x xs short in
    let rest = each-words f most xs (All-tail (λ y. length (f y) ≤ most) x xs short) in
    omega (arith, words-more (f x) (map f xs), first, rest)

-- texts that are each so long at most
pub each-texts : {X : Type 0} (f : X → List ℕ) (most : ℕ) (xs : List X) → All (λ x. length (f x) ≤ most) xs
    → length (flat_map f xs) ≤ length xs * most
each-texts f most [] short = omega arith
each-texts f most (x ∷ xs) short =
    let first = All-head (λ y. length (f y) ≤ most) x xs short in
    let rest = each-texts f most xs (All-tail (λ y. length (f y) ≤ most) x xs short) in
    omega (arith, length-append (f x) (flat_map f xs), first, rest)

-- a weight behind its place and a colon
entry-length : (p : ℕ) (w : ℤ) → p < 1000 → IsSmallWeight w → length (entry_text p w) ≤ 15
entry-length p w lt small =
    omega (arith, length-append (decimal p) (58 ∷ weight_text w), three-digits p lt, weight-length w small)

-- the weights other than 0
pub entries-length : (k : ℕ) (ws : List ℤ) → All IsSmallWeight ws → k + length ws ≤ 600
    → length (words_text (entries_text k ws)) ≤ length ws * 16
entries-length k [] small few = omega arith
entries-length k (w ∷ ws) small few =
    by_test (is_zero w) refl (entries-length (k + 1) ws (All-tail IsSmallWeight w ws small) (omega (arith, few)))
  where
    by_test : (b : Bool) → is_zero w ≡ b → length (words_text (entries_text (k + 1) ws)) ≤ length ws * 16
        → length (words_text (entries_text k (w ∷ ws))) ≤ suc (length ws) * 16
    by_test true e rest =
        let same = ap (λ (b : Bool). length (words_text (cond b (entries_text (k + 1) ws) (entry_text (k + 1) w ∷ entries_text (k + 1) ws)))) e in
        omega (arith, same, rest)
    by_test false e rest =
        let same = ap (λ (b : Bool). length (words_text (cond b (entries_text (k + 1) ws) (entry_text (k + 1) w ∷ entries_text (k + 1) ws)))) e in
        omega (
          arith,
          same,
          rest,
          words-more (entry_text (k + 1) w) (entries_text (k + 1) ws),
          entry-length (k + 1) w (omega (arith, few)) (All-head IsSmallWeight w ws small),
        )

pub lens-words : (lens : Lens) → HasSmallNumbers lens → length (words_text (lens_words lens)) ≤ 216
lens-words lens small =
    let windows = map window_text lens.windows in
    let days = flag_text lens.days ∷ windows in
    let free = flag_text lens.free30 ∷ days in
    let tracked = bits_text lens.tracked ∷ free in
    omega (
      arith,
      words-more (decimal lens.grain) tracked,
      words-more (bits_text lens.tracked) free,
      words-more (flag_text lens.free30) days,
      words-more (flag_text lens.days) windows,
      two-digits lens.grain (omega (arith, small.grain)),
      bits-length lens.tracked,
      flag-length lens.free30,
      flag-length lens.days,
      each-words window_text 11 lens.windows (λ k w lt. window-length _ (small.starts k w lt)),
      small.few,
    )

-- ---- lenses by their words

word-length : (looks : Bool) → length (lens_word looks) ≤ 5
word-length true = let five : length (codes "whole") ≡ 5 = refl in omega (arith, five)
word-length false = let four : length (codes "lens") ≡ 4 = refl in omega (arith, four)

key-length : (lens : Lens) → HasSmallNumbers lens → length (key_line (lens_key lens)) ≤ 222
unfolding lens_key
key-length lens small =
    let words = words_text (lens_words lens) in
    omega (
      arith,
      word-length lens.whole,
      length-append (lens_word lens.whole) words,
      length-append (lens_word lens.whole ++ words) (10 ∷ []),
      lens-words lens small,
    )

-- a lens is one of those that were used, or the next one
place-within : (keys : List (List ℕ)) (key : List ℕ) → place_in keys key ≤ length keys
place-within keys key = by_test (is_kept keys key) refl
  where
    by_test : (b : Bool) → is_kept keys key ≡ b → place_in keys key ≤ length keys
    by_test true e = let there : IsPlaced keys key = placed keys key e in let lt = there.within in omega (arith, lt)
    by_test false e = let last = place_new keys key e in omega (arith, last)

pub number-of_lens : (keys : List (List ℕ)) (lens : Lens) → length keys + 1 < 10000000 → length (number_text keys lens) ≤ 7
number-of_lens keys lens few = seven-digits (place_in keys (lens_key lens) + 1) (omega (arith, few, place-within keys (lens_key lens)))

pub numbers-of_lenses : (keys : List (List ℕ)) (lenses : List Lens) → length keys + length lenses < 10000000
    → length (words_text (numbers_text keys lenses)) ≤ length lenses * 8
numbers-of_lenses keys [] few = omega arith
numbers-of_lenses keys (lens ∷ lenses) few =
    let after = with_key keys (lens_key lens) in
    let rest = numbers-of_lenses after lenses (omega (arith, few, after_length keys (lens ∷ []))) in
    omega (
      arith,
      words-more (number_text keys lens) (numbers_text after lenses),
      number-of_lens keys lens (omega (arith, few)),
      rest,
    )

-- the lines of lenses
abbrev pub lens_lines : List (List ℕ) → List ℕ
lens_lines keys = flat_map key_line keys

line-more : (keys : List (List ℕ)) (lens : Lens) → HasSmallNumbers lens
    → length (lens_lines (with_key keys (lens_key lens))) ≤ length (lens_lines keys) + 222
line-more keys lens small = by_test (is_kept keys (lens_key lens)) refl
  where
    by_test : (b : Bool) → is_kept keys (lens_key lens) ≡ b → length (lens_lines (with_key keys (lens_key lens))) ≤ length (lens_lines keys) + 222
    by_test true e =
        let same = ap (λ (b : Bool). length (lens_lines (cond b keys (keys ++ lens_key lens ∷ [])))) e in
        omega (arith, same)
    by_test false e =
        let same = ap (λ (b : Bool). length (lens_lines (cond b keys (keys ++ lens_key lens ∷ [])))) e in
        let apart = ap (λ (t : List ℕ). length t) (flat_map-append key_line keys (lens_key lens ∷ [])) in
        omega (
          arith,
          same,
          apart,
          length-append (lens_lines keys) (lens_lines (lens_key lens ∷ [])),
          length-append (key_line (lens_key lens)) [],
          key-length lens small,
        )

pub lines-more : (keys : List (List ℕ)) (lenses : List Lens) → All HasSmallNumbers lenses
    → length (lens_lines (keys_after keys lenses)) ≤ length (lens_lines keys) + length lenses * 222
lines-more keys [] small = omega arith
lines-more keys (lens ∷ lenses) small =
    let first = line-more keys lens (All-head HasSmallNumbers lens lenses small) in
    let rest = lines-more (with_key keys (lens_key lens)) lenses (All-tail HasSmallNumbers lens lenses small) in
    omega (arith, first, rest)
