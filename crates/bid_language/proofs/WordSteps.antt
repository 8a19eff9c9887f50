-- What the front of a line gives.
use Rattle.std.proofs.Common.{◌≡◌, ℕ, ◌+◌, List, [], ◌∷◌, length, Some, None, Ok, Err, refl}
use Rattle.std.proofs.lemmas.List.{nil_from_length}
use Rattle.std.proofs.lemmas.Str.{IsUtf8-from_ascii}
use Rattle.field_text.specs.declared.token.Token.{Token}
use Rattle.bid_language.specs.declared.fault.Word.{Word}
use Rattle.bid_language.specs.declared.fault.Word.TheVariants.{EndOfLine}
use Rattle.bid_language.specs.declared.fault.BidCode.TheVariants.{Expected}
use Rattle.bid_language.specs.Words.{Rest, rest_of, spot_of, next, optional, finished}

pub next-none : (word : Word) (line : List ℕ) (tokens : List Token) (rest : Rest) → rest_of line tokens ≡ rest → length tokens ≡ 0
    → next word rest ≡ Err (record { column = length line + 1; code = Expected word })
unfolding next
next-none word line tokens rest e h = rw (← e, nil_from_length tokens h) refl

pub next-some : (word : Word) (line : List ℕ) (tokens ts : List Token) (t : Token) (rest : Rest) → rest_of line tokens ≡ rest → tokens ≡ t ∷ ts
    → next word rest ≡ Ok (spot_of line t, rest_of line ts)
unfolding next
next-some word line tokens ts t rest e h = rw (← e, h) refl

pub optional-none : (line : List ℕ) (tokens : List Token) (rest : Rest) → rest_of line tokens ≡ rest → length tokens ≡ 0 → optional rest ≡ Ok (None, rest)
unfolding optional
optional-none line tokens rest e h = let f : rest_of line [] ≡ rest = rw (nil_from_length tokens h) at e in rw (← f) refl

pub optional-some : (line : List ℕ) (tokens ts : List Token) (t : Token) (rest : Rest) → rest_of line tokens ≡ rest → tokens ≡ t ∷ ts
    → optional rest ≡ Ok (Some (spot_of line t), rest_of line ts)
unfolding optional
optional-some line tokens ts t rest e h = rw (← e, h) refl

pub finished-none : (line : List ℕ) (tokens : List Token) (rest : Rest) → rest_of line tokens ≡ rest → length tokens ≡ 0 → finished rest ≡ Ok (tt, rest)
unfolding finished
finished-none line tokens rest e h = let f : rest_of line [] ≡ rest = rw (nil_from_length tokens h) at e in rw (← f) refl

pub finished-some : (line : List ℕ) (tokens ts : List Token) (t : Token) (rest : Rest) → rest_of line tokens ≡ rest → tokens ≡ t ∷ ts
    → finished rest ≡ Err (record { column = t.start + 1; code = Expected EndOfLine })
unfolding finished
finished-some line tokens ts t rest e h = rw (← e, h) refl

pub ruleset ascii_text = (IsUtf8-from_ascii)
