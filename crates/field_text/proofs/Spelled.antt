-- The tokens of a text that a printer joined by blanks.
use Rattle.std.proofs.Common.{◌≡◌, ℕ, ◌+◌, List, [], ◌∷◌, ◌++◌, length, true, Some, None, Ok, refl, arith, ap, sym, ◌∙◌, append-nil}
use Rattle.std.specs.List.{list_all}
use Rattle.std.proofs.lemmas.Bool.{and_parts}
use Rattle.field_text.specs.Tokens.{is_graphic, ◌andthen◌, tokens_from}

-- graphic bytes go on with the token that is open
tokens-run : (s n : ℕ) (w rest : List ℕ) → list_all is_graphic w ≡ true → tokens_from (Some s) n (w ++ rest) ≡ tokens_from (Some s) (n + length w) rest
unfolding tokens_from
tokens-run s n [] rest h = let e : n ≡ n + 0 = omega arith in ap (λ k. tokens_from (Some s) k rest) e
tokens-run s n (b ∷ bs) rest h =
    let p = and_parts (is_graphic b) (list_all is_graphic bs) h in
    let e : n + 1 + length bs ≡ n + length (b ∷ bs) = omega arith in
    rw p.0 (tokens-run s (n + 1) bs rest p.1 ∙ ap (λ k. tokens_from (Some s) k rest) e)

-- a word, and what stands after it
tokens-word : (n b : ℕ) (bs rest : List ℕ) → list_all is_graphic (b ∷ bs) ≡ true → tokens_from None n ((b ∷ bs) ++ rest) ≡ tokens_from (Some n) (n + length (b ∷ bs)) rest
unfolding tokens_from
tokens-word n b bs rest h =
    let p = and_parts (is_graphic b) (list_all is_graphic bs) h in
    let e : n + 1 + length bs ≡ n + length (b ∷ bs) = omega arith in
    rw p.0 (tokens-run n (n + 1) bs rest p.1 ∙ ap (λ k. tokens_from (Some n) k rest) e)

-- a word and a blank in front of more words; the last word of a line
pub tokens-joined : (n b : ℕ) (bs rest : List ℕ) → list_all is_graphic (b ∷ bs) ≡ true
    → tokens_from None n ((b ∷ bs) ++ (32 ∷ rest)) ≡ (record { start = n; end = n + length (b ∷ bs) } ∷ []) andthen tokens_from None (n + length (b ∷ bs) + 1) rest
unfolding tokens_from
tokens-joined n b bs rest h = tokens-word n b bs (32 ∷ rest) h ∙ refl

pub tokens-last : (n b : ℕ) (bs : List ℕ) → list_all is_graphic (b ∷ bs) ≡ true
    → tokens_from None n (b ∷ bs) ≡ Ok (record { start = n; end = n + length (b ∷ bs) } ∷ [])
unfolding tokens_from
tokens-last n b bs h = ap (tokens_from None n) (sym (append-nil (b ∷ bs))) ∙ tokens-word n b bs [] h ∙ refl
