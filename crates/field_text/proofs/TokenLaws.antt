-- What holds of the tokens of a line: its bytes are ASCII.
use Rattle.std.proofs.Common.{◌≡◌, ℕ, suc, zero, ◌+◌, ◌<◌, ◌≤◌, List, [], ◌∷◌, ◌++◌, length, Bool, true, false, Option, Some, None, Result, Ok, Err, refl, arith, lit<}
use Rattle.std.proofs.lemmas.Bool.{and_parts}
use Rattle.std.specs.Prelude.{unwrap_or, if◌then◌else◌, ◌&&◌, nat_lt, nat_le}
use Rattle.std.specs.Str.{IsAscii}
use Rattle.std.proofs.lemmas.Bool.Decides.{nat_tests}
use Rattle.field_text.specs.declared.token.Token.{Token}
use Rattle.field_text.specs.declared.token.TokenFault.{TokenFault}
use Rattle.field_text.specs.declared.token.TokenFault.TheVariants.{Byte}
use Rattle.field_text.specs.Tokens.{is_blank, is_graphic, closed, ◌andthen◌, tokens_from, lie_within}

pub andthen_ok : (a found : List Token) (r : Result (List Token) TokenFault) → a andthen r ≡ Ok found → (more : List Token) × (r ≡ Ok more) × (found ≡ a ++ more)
andthen_ok a found (Ok more) h = (more, refl, cc)
andthen_ok a found (Err e) h = cc

ascii-more : (b : ℕ) (bs : List ℕ) → b < 128 → IsAscii bs → IsAscii (b ∷ bs)
ascii-more b bs h k zero = h
ascii-more b bs h k (suc i) = k i

-- the bytes of a line that has tokens
pub tokens-ascii : (run : Option ℕ) (at : ℕ) (line : List ℕ) (found : List Token) → tokens_from run at line ≡ Ok found → IsAscii line
unfolding tokens_from
tokens-ascii run at [] found h = λ i. lit< tt
tokens-ascii run at (b ∷ bs) found h = go (is_graphic b) refl (is_blank b) refl (λ r n m e. tokens-ascii r n bs m e) h
  where
    go : (g : Bool) → g ≡ is_graphic b → (k : Bool) → k ≡ is_blank b
        → ((r : Option ℕ) (n : ℕ) (m : List Token) → tokens_from r n bs ≡ Ok m → IsAscii bs)
        → (if g then tokens_from (Some (unwrap_or run at)) (at + 1) bs else (if k then closed run at andthen tokens_from None (at + 1) bs else Err (Byte (at + 1)))) ≡ Ok found → IsAscii (b ∷ bs)
    go true e k f rest i = ascii-more b bs (grind (arith, nat_tests)) (rest _ _ found i)
    go false e true f rest i = let o = andthen_ok (closed run at) found _ i in ascii-more b bs (grind (arith, nat_tests)) (rest _ _ o.0 o.1)
    go false e false f rest i = cc

within-append : (n : ℕ) (a b : List Token) → lie_within n a ≡ true → lie_within n b ≡ true → lie_within n (a ++ b) ≡ true
within-append n [] b h k = k
within-append n (t ∷ ts) b h k = let p = and_parts (nat_lt t.start t.end && nat_le t.end n) (lie_within n ts) h in rw p.0 (within-append n ts b p.1 k)

within-closed : (n : ℕ) (run : Option ℕ) (at : ℕ) → ((s : ℕ) → run ≡ Some s → s < at) → at ≤ n → lie_within n (closed run at) ≡ true
within-closed n None at h k = refl
within-closed n (Some s) at h k = let below = h s refl in grind (arith, nat_tests)

pub tokens-within : (n : ℕ) (run : Option ℕ) (at : ℕ) (line : List ℕ) (found : List Token) → ((s : ℕ) → run ≡ Some s → s < at) → at + length line ≤ n
    → tokens_from run at line ≡ Ok found → lie_within n found ≡ true
unfolding tokens_from
tokens-within n run at [] found h k e = let c = within-closed n run at h (omega arith) in cc
tokens-within n run at (b ∷ bs) found h k e = go (is_graphic b) (is_blank b) (λ r m o i. tokens-within n r (at + 1) bs m o (omega arith) i) e
  where
    go : (g k : Bool)
        → ((r : Option ℕ) (m : List Token) → ((s : ℕ) → r ≡ Some s → s < at + 1) → tokens_from r (at + 1) bs ≡ Ok m → lie_within n m ≡ true)
        → (if g then tokens_from (Some (unwrap_or run at)) (at + 1) bs else (if k then closed run at andthen tokens_from None (at + 1) bs else Err (Byte (at + 1)))) ≡ Ok found → lie_within n found ≡ true
    go true k' rest i = rest _ found (λ s q. opened run h s (cc q)) i
      where
        opened : (o : Option ℕ) → ((s : ℕ) → o ≡ Some s → s < at) → (s : ℕ) → unwrap_or o at ≡ s → s < at + 1
        opened None f s q = omega arith
        opened (Some r) f s q = let below = f r refl in omega arith
    go false true rest i = let o = andthen_ok (closed run at) found _ i in
        rw o.2 (within-append n (closed run at) o.0 (within-closed n run at h (omega arith)) (rest _ o.0 (λ s q. cc) o.1))
    go false false rest i = cc
