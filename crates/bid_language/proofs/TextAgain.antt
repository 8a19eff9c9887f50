-- Reading lines of words that a printer wrote.
use Rattle.std.proofs.Common.{◌≡◌, ℕ, ◌+◌, ◌-◌, List, [], ◌∷◌, ◌++◌, length, map, drop, Bool, true, false, not, None, Ok, refl, ap, sym, subst, ◌∙◌, arith, append_assoc, length-append}
use Rattle.std.specs.Prelude.{◌&&◌, ◌||◌, ◌==◌, slice_range}
use Rattle.std.specs.List.{list_all}
use Rattle.std.proofs.Math.Seq.{take-append_seam, drop-append_seam}
use Rattle.std.proofs.lemmas.Bool.{and_parts, and_from, false≢true}
use Rattle.std.proofs.lemmas.Bool.Decides.{nat_tests}
use Rattle.std.proofs.lemmas.List.{append-nil}
use Rattle.field_text.specs.declared.token.Token.{Token}
use Rattle.field_text.specs.Tokens.{is_graphic, tokens_from, read_tokens}
use Rattle.field_text.proofs.Spelled.{tokens-joined, tokens-last}
use Rattle.duty_calendar.specs.declared.member.Base.{Base}
use Rattle.bid_language.specs.declared.sheet.Entry.{Entry}
use Rattle.bid_language.specs.Words.{spot_of}
use Rattle.bid_language.specs.Lines.{Read, before_comment, lines_with, without_return, entry_of, line_of}
use Rattle.bid_language.proofs.BidWords.{spaced}
use Rattle.bid_language.proofs.Rereading.{texts, Again}

-- a byte of a word, which begins no comment; such a byte or a space; a word of such bytes
abbrev pub is_plain : ℕ → Bool
is_plain b = is_graphic b && not (b == 35)

abbrev pub is_quiet : ℕ → Bool
is_quiet b = is_plain b || (b == 32)

abbrev pub is_word : List ℕ → Bool
is_word [] = false
is_word (b ∷ bs) = list_all is_plain (b ∷ bs)

-- words joined by spaces
abbrev pub joined_words : List ℕ → List (List ℕ) → List ℕ
joined_words w ws = w ++ spaced ws

plain-graphic : (bs : List ℕ) → list_all is_plain bs ≡ true → list_all is_graphic bs ≡ true
plain-graphic [] h = refl
plain-graphic (b ∷ bs) h =
    let p = and_parts (is_plain b) (list_all is_plain bs) h in
    let q = and_parts (is_graphic b) (not (b == 35)) p.0 in
    and_from (is_graphic b) (list_all is_graphic bs) q.0 (plain-graphic bs p.1)

-- the bytes of a word, between others
slice_word : (front w rest : List ℕ) (n m : ℕ) → length front ≡ n → m ≡ n + length w → slice_range (front ++ (w ++ rest)) n m ≡ w
slice_word front w rest n m e f =
    let size : m - n ≡ length w = omega arith in
    let back : drop n (front ++ (w ++ rest)) ≡ w ++ rest = rw (← e) (drop-append_seam front (w ++ rest)) in
    rw (size, back) (take-append_seam w rest)

-- tokens that stand where these words do, in a line that has so many bytes in front of them
pub record AreTokens (n : ℕ) (text : List ℕ) (words : List (List ℕ)) : Type 0 where
  pub tokens : List Token
  pub read : tokens_from None n text ≡ Ok tokens
  pub spelt : (front : List ℕ) → length front ≡ n → texts (map (spot_of (front ++ text)) tokens) ≡ words

tokens-one : (n b : ℕ) (bs : List ℕ) → list_all is_plain (b ∷ bs) ≡ true → AreTokens n ((b ∷ bs) ++ []) ((b ∷ bs) ∷ [])
tokens-one n b bs h = record {
  tokens = record { start = n; end = n + length (b ∷ bs) } ∷ [];
  read = ap (tokens_from None n) (append-nil (b ∷ bs)) ∙ tokens-last n b bs (plain-graphic (b ∷ bs) h);
  spelt = λ front e. ap (λ (w : List ℕ). w ∷ []) (slice_word front (b ∷ bs) [] n (n + length (b ∷ bs)) e refl);
}

tokens-more : (n b : ℕ) (bs text : List ℕ) (words : List (List ℕ)) → list_all is_plain (b ∷ bs) ≡ true → AreTokens (n + length (b ∷ bs) + 1) text words
    → AreTokens n ((b ∷ bs) ++ (32 ∷ text)) ((b ∷ bs) ∷ words)
tokens-more n b bs text words h rest = record {
  tokens = record { start = n; end = n + length (b ∷ bs) } ∷ rest.tokens;
  read = tokens-joined n b bs text (plain-graphic (b ∷ bs) h) ∙ rw (rest.read) refl;
  spelt =
      λ front e.
      let longer : List ℕ = front ++ ((b ∷ bs) ++ 32 ∷ []) in
      let size : length longer ≡ n + length (b ∷ bs) + 1 = omega (arith, e, length-append front ((b ∷ bs) ++ 32 ∷ []), length-append (b ∷ bs) (32 ∷ [])) in
      let same : longer ++ text ≡ front ++ ((b ∷ bs) ++ (32 ∷ text)) =
      append_assoc front ((b ∷ bs) ++ 32 ∷ []) text ∙ ap (λ (t : List ℕ). front ++ t) (append_assoc (b ∷ bs) (32 ∷ []) text) in
      let others : texts (map (spot_of (front ++ ((b ∷ bs) ++ (32 ∷ text)))) rest.tokens) ≡ words =
      subst (λ (t : List ℕ). texts (map (spot_of t) rest.tokens) ≡ words) same (rest.spelt longer size) in
      let first : slice_range (front ++ ((b ∷ bs) ++ (32 ∷ text))) n (n + length (b ∷ bs)) ≡ b ∷ bs =
      slice_word front (b ∷ bs) (32 ∷ text) n (n + length (b ∷ bs)) e refl in
      cons_both _ _ _ _ first others;
}
  where
    cons_both : (v w : List ℕ) (vs ws : List (List ℕ)) → v ≡ w → vs ≡ ws → v ∷ vs ≡ w ∷ ws
    cons_both v w vs ws e f = rw (e, f) refl

line-tokens : (n : ℕ) (w : List ℕ) (ws : List (List ℕ)) → list_all is_word (w ∷ ws) ≡ true → AreTokens n (joined_words w ws) (w ∷ ws)
line-tokens n [] ws h = absurd (false≢true h)
line-tokens n (b ∷ bs) [] h = let p = and_parts (is_word (b ∷ bs)) true h in tokens-one n b bs p.0
line-tokens n (b ∷ bs) (v ∷ vs) h =
    let p = and_parts (is_word (b ∷ bs)) (list_all is_word (v ∷ vs)) h in
    tokens-more n b bs (joined_words v vs) (v ∷ vs) p.0 (line-tokens (n + length (b ∷ bs) + 1) v vs p.1)

-- no byte of them is a line feed, a carriage return or begins a comment
quiet-plain : (bs : List ℕ) → list_all is_plain bs ≡ true → list_all is_quiet bs ≡ true
quiet-plain [] h = refl
quiet-plain (b ∷ bs) h =
    let p = and_parts (is_plain b) (list_all is_plain bs) h in
    let first : is_quiet b ≡ true = rw (p.0) refl in
    and_from (is_quiet b) (list_all is_quiet bs) first (quiet-plain bs p.1)

quiet-append : (xs ys : List ℕ) → list_all is_quiet xs ≡ true → list_all is_quiet ys ≡ true → list_all is_quiet (xs ++ ys) ≡ true
quiet-append [] ys g h = h
quiet-append (x ∷ xs) ys g h = let p = and_parts (is_quiet x) (list_all is_quiet xs) g in and_from (is_quiet x) (list_all is_quiet (xs ++ ys)) p.0 (quiet-append xs ys p.1 h)

word-quiet : (w : List ℕ) → is_word w ≡ true → list_all is_quiet w ≡ true
word-quiet [] h = refl
word-quiet (b ∷ bs) h = quiet-plain (b ∷ bs) h

spaced-quiet : (ws : List (List ℕ)) → list_all is_word ws ≡ true → list_all is_quiet (spaced ws) ≡ true
spaced-quiet [] h = refl
spaced-quiet (w ∷ ws) h =
    let p = and_parts (is_word w) (list_all is_word ws) h in
    quiet-append w (spaced ws) (word-quiet w p.0) (spaced-quiet ws p.1)

pub joined-quiet : (w : List ℕ) (ws : List (List ℕ)) → list_all is_word (w ∷ ws) ≡ true → list_all is_quiet (joined_words w ws) ≡ true
joined-quiet w ws h =
    let p = and_parts (is_word w) (list_all is_word ws) h in
    quiet-append w (spaced ws) (word-quiet w p.0) (spaced-quiet ws p.1)

not-comment : (b : ℕ) → is_quiet b ≡ true → (b == 35) ≡ false
not-comment b h = grind (arith, nat_tests)

not-feed : (b : ℕ) → is_quiet b ≡ true → (b == 10) ≡ false
not-feed b h = grind (arith, nat_tests)

not-return : (b : ℕ) → is_quiet b ≡ true → (b == 13) ≡ false
not-return b h = grind (arith, nat_tests)

no_comment : (line : List ℕ) → list_all is_quiet line ≡ true → before_comment line ≡ line
unfolding before_comment
no_comment [] h = refl
no_comment (b ∷ bs) h =
    let p = and_parts (is_quiet b) (list_all is_quiet bs) h in
    rw (not-comment b p.0) (ap (λ (t : List ℕ). b ∷ t) (no_comment bs p.1))

no_return : (line : List ℕ) → list_all is_quiet line ≡ true → without_return line ≡ line
unfolding without_return
no_return [] h = refl
no_return (b ∷ []) h =
    let p = and_parts (is_quiet b) true h in
    rw (not-return b p.0) refl
no_return (b ∷ (c ∷ cs)) h =
    let p = and_parts (is_quiet b) (list_all is_quiet (c ∷ cs)) h in
    ap (λ (t : List ℕ). b ∷ t) (no_return (c ∷ cs) p.1)

-- the first line of a text that such a line and a line feed begin
line_with : (front line rest : List ℕ) → list_all is_quiet front ≡ true → list_all is_quiet line ≡ true
    → lines_with front (line ++ (10 ∷ rest)) ≡ (front ++ line) ∷ lines_with [] rest
unfolding lines_with
line_with front [] rest g h = rw (no_return front g, append-nil front) refl
line_with front (b ∷ bs) rest g h =
    let p = and_parts (is_quiet b) (list_all is_quiet bs) h in
    let one : list_all is_quiet (b ∷ []) ≡ true = and_from (is_quiet b) true p.0 refl in
    rw (not-feed b p.0) (line_with (front ++ b ∷ []) bs rest (quiet-append front (b ∷ []) g one) p.1
    ∙ ap (λ (t : List ℕ). t ∷ lines_with [] rest) (append_assoc front (b ∷ []) bs))

pub first-line : (line rest : List ℕ) → list_all is_quiet line ≡ true → lines_with [] (line ++ (10 ∷ rest)) ≡ line ∷ lines_with [] rest
first-line line rest h = line_with [] line rest refl h

-- a line of words says what its words say
pub line-says : (base : Base) (n : ℕ) (read : Read) (e : Entry) (w : List ℕ) (ws : List (List ℕ)) → list_all is_word (w ∷ ws) ≡ true
    → Again (entry_of base read) e (w ∷ ws) [] → line_of base n read (joined_words w ws) ≡ Ok e
unfolding line_of
line-says base n read e w ws h again =
    let line = joined_words w ws in
    let t = line-tokens 0 w ws h in
    let same : before_comment line ≡ line = no_comment line (joined-quiet w ws h) in
    let spelt : texts (map (spot_of line) t.tokens) ≡ (w ∷ ws) ++ [] = t.spelt [] refl ∙ sym (append-nil (w ∷ ws)) in
    let u = again (map (spot_of line) t.tokens) (length line + 1) spelt in
    let tokens : read_tokens line ≡ Ok t.tokens = t.read in
    rw (same, tokens, u.2) refl
