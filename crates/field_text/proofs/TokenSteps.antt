-- Steps of the reading of tokens.
use Rattle.std.proofs.Common.{◌≡◌, ℕ, ◌+◌, ◌<◌, ◌≤◌, List, ◌++◌, drop, length, get_or, true, false, Option, Some, None, Result, Ok, Err, refl, ap, sym, add-one, append_assoc}
use Rattle.std.specs.Prelude.{unwrap_or}
use Rattle.std.proofs.Math.ListN.{drop_of_length-le}
use Rattle.std.proofs.Math.Seq.{drop-cons}
use Rattle.field_text.specs.declared.token.Token.{Token}
use Rattle.field_text.specs.declared.token.TokenFault.{TokenFault}
use Rattle.field_text.specs.declared.token.TokenFault.TheVariants.{Byte}
use Rattle.field_text.specs.Tokens.{is_blank, is_graphic, closed, ◌andthen◌, tokens_from}

andthen_assoc : (a b : List Token) (r : Result (List Token) TokenFault) → a andthen (b andthen r) ≡ (a ++ b) andthen r
andthen_assoc a b (Ok c) = ap Ok (sym (append_assoc a b c))
andthen_assoc a b (Err e) = refl

-- a graphic byte at a place
pub tokens-graphic : (found : List Token) (run : Option ℕ) (i : ℕ) (line : List ℕ) → i < length line → is_graphic (get_or line i 0) ≡ true
    → found andthen tokens_from run i (drop i line) ≡ found andthen tokens_from (Some (unwrap_or run i)) (i + 1) (drop (i + 1) line)
unfolding tokens_from
tokens-graphic found run i line h g = rw (drop-cons line i 0 h, g, add-one i) refl

-- a blank there
pub tokens-blank : (found : List Token) (run : Option ℕ) (i : ℕ) (line : List ℕ) → i < length line → is_graphic (get_or line i 0) ≡ false → is_blank (get_or line i 0) ≡ true
    → found andthen tokens_from run i (drop i line) ≡ (found ++ closed run i) andthen tokens_from None (i + 1) (drop (i + 1) line)
unfolding tokens_from
tokens-blank found run i line h g k = rw (drop-cons line i 0 h, g, k, add-one i) (andthen_assoc found (closed run i) _)

-- another byte
pub tokens-other : (found : List Token) (run : Option ℕ) (i : ℕ) (line : List ℕ) → i < length line → is_graphic (get_or line i 0) ≡ false → is_blank (get_or line i 0) ≡ false
    → found andthen tokens_from run i (drop i line) ≡ Err (Byte (i + 1))
unfolding tokens_from
tokens-other found run i line h g k = rw (drop-cons line i 0 h, g, k) refl

pub tokens-end : (found : List Token) (run : Option ℕ) (i : ℕ) (line : List ℕ) → length line ≤ i
    → found andthen tokens_from run i (drop i line) ≡ Ok (found ++ closed run i)
unfolding tokens_from
tokens-end found run i line h = rw (drop_of_length-le line h) refl

-- the same where the tokens found and the run are known by equations
pub andthen_at : (i : ℕ) (rest : List ℕ) {found found' : List Token} {run run' : Option ℕ} {read : Result (List Token) TokenFault} → found ≡ found' → run ≡ run'
    → found' andthen tokens_from run' i rest ≡ read → found andthen tokens_from run i rest ≡ read
andthen_at i rest e f h = cc
