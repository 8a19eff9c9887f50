-- How TOML spells plain texts.
use Rattle.std.proofs.Common.{◌≡◌, ℕ, ◌+◌, List, [], ◌∷◌, ◌++◌, Bool, true, false, not, refl, ap, sym, ◌∙◌, arith, ℤ, codes, append_assoc}
use Rattle.std.specs.Prelude.{◌&&◌, ◌||◌, ◌==◌, if◌then◌else◌}
use Rattle.std.specs.List.{list_all, list_any}
use Rattle.std.specs.Fmt.{signed_decimal}
use Rattle.std.specs.Int.{w64}
use Rattle.std.specs.Prelude.{FitsSigned}
use Rattle.std.proofs.lemmas.Bool.{and_parts}
use Rattle.std.proofs.lemmas.Bool.Decides.{nat_tests}
use Rattle.toml_parser.specs.Lexical.{is_non_eol}
use Rattle.toml_writer.specs.Text.{string_text, encoding_of, escaped, needs_escape, quotes_after, is_control, has, Encoding, basic, encoded, key_text}
use Rattle.toml.specs.Data.{string, integer}
use Rattle.toml.specs.Tables.{key_value}
use Rattle.toml.specs.Text.{IsLineText}
use Rattle.duty_calendar.specs.Forms.{is_seat_byte}
use Rattle.rules_file.specs.Spelling.{text_line, number_line}

-- a byte that needs no escape
record IsPlainByte (b : ℕ) : Type 0 where
  control : is_control b ≡ false
  backslash : (b == 92) ≡ false
  quote : (b == 34) ≡ false
  feed : (b == 10) ≡ false
  same : (q : ℕ) → needs_escape false q b ≡ false
  after : (q : ℕ) → quotes_after false q b ≡ 0

not_and : (p q : Bool) → p ≡ true → (not p && q) ≡ false
not_and p q h = rw h refl

or_not : (p q r : Bool) → p ≡ false → q ≡ false → r ≡ true → ((p || q) || not r) ≡ false
or_not p q r a b c = rw (a, b, c) refl

third : (p q r x y : Bool) → p ≡ false → q ≡ false → r ≡ false → (if p then x else (if q then y else r)) ≡ false
third p q r x y a b c = rw (a, b, c) refl

zero_unless : (p q : Bool) (n : ℕ) → p ≡ false → (if p && q then n else 0) ≡ 0
zero_unless p q n h = rw h refl

plain : (b : ℕ) → is_seat_byte b ≡ true → IsPlainByte b
unfolding needs_escape quotes_after
plain b h =
    let quote : (b == 34) ≡ false = grind (arith, nat_tests) in
    let backslash : (b == 92) ≡ false = grind (arith, nat_tests) in
    let feed : (b == 10) ≡ false = grind (arith, nat_tests) in
    let tab : (b == 9) ≡ false = grind (arith, nat_tests) in
    let eol : is_non_eol b ≡ true = grind (arith, nat_tests) in
    record {
      control = not_and (is_non_eol b) (not (b == 10)) eol;
      backslash = backslash;
      quote = quote;
      feed = feed;
      same = λ q. third (b == 34) (b == 10) (((b == 92) || (b == 9)) || not (is_non_eol b)) _ _ quote feed (or_not (b == 92) (b == 9) (is_non_eol b) backslash tab eol);
      after = λ q. zero_unless (b == 34) _ (q + 1) quote;
    }

none_any : (p : ℕ → Bool) (text : List ℕ) → ((b : ℕ) → is_seat_byte b ≡ true → p b ≡ false) → list_all is_seat_byte text ≡ true → list_any p text ≡ false
none_any p [] never h = refl
none_any p (b ∷ bs) never h = let q = and_parts (is_seat_byte b) (list_all is_seat_byte bs) h in rw (never b q.0, none_any p bs never q.1) refl

escaped-plain : (text : List ℕ) → list_all is_seat_byte text ≡ true → escaped false 0 text ≡ text
unfolding escaped
escaped-plain [] h = refl
escaped-plain (b ∷ bs) h =
    let q = and_parts (is_seat_byte b) (list_all is_seat_byte bs) h in
    let p = plain b q.0 in
    rw (p.same 0, p.after 0, escaped-plain bs q.1) refl

basic_when : (p a q f : Bool) (x y : Encoding) → p ≡ false → a ≡ false → q ≡ false → f ≡ false → (if p then x else (if not ((a || q) || f) then basic else y)) ≡ basic
basic_when p a q f x y h k l m = rw (h, k, l, m) refl

encoding-plain : (text : List ℕ) → list_all is_seat_byte text ≡ true → encoding_of text ≡ basic
unfolding encoding_of
encoding-plain text h =
    let control = none_any is_control text (λ b k. (plain b k).control) h in
    let backslash = none_any (λ x. x == 92) text (λ b k. (plain b k).backslash) h in
    let quote = none_any (λ x. x == 34) text (λ b k. (plain b k).quote) h in
    let feed = none_any (λ x. x == 10) text (λ b k. (plain b k).feed) h in
    basic_when (list_any is_control text) (has 92 text) (has 34 text) (has 10 text) _ _ control backslash quote feed

-- letters and digits stand between quotes as they are
string_text-plain : (text : List ℕ) → list_all is_seat_byte text ≡ true → string_text text ≡ 34 ∷ text ++ 34 ∷ []
unfolding string_text
string_text-plain text h =
    ap (λ (e : Encoding). encoded e text) (encoding-plain text h) ∙ ap (λ (t : List ℕ). 34 ∷ t ++ 34 ∷ []) (escaped-plain text h)

-- a line of a text and of a number is a line of TOML
pub text_line-is : (started : Bool) (key text : List ℕ) → key_text key ≡ key → list_all is_seat_byte text ≡ true → IsLineText false started ([], key) (key_value (string text)) (text_line key text)
text_line-is started key text k h = (
  34 ∷ text ++ 34 ∷ [],
  ap (λ (t : List ℕ). key ++ (codes " = \"" ++ t)) (sym (append_assoc text (34 ∷ []) (10 ∷ []))) ∙ ap (λ (t : List ℕ). t ++ (codes " = " ++ ((34 ∷ text ++ 34 ∷ []) ++ 10 ∷ []))) (sym k),
  sym (string_text-plain text h),
)

pub number_line-is : (started : Bool) (key : List ℕ) (number : ℤ) → key_text key ≡ key → FitsSigned w64 number → IsLineText false started ([], key) (key_value (integer number)) (number_line key number)
number_line-is started key number k h =
    (signed_decimal number, ap (λ (t : List ℕ). t ++ (codes " = " ++ (signed_decimal number ++ 10 ∷ []))) (sym k), (refl, h))
