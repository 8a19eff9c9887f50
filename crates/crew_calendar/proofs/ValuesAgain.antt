-- Values that were written, read again.
use Rattle.std.proofs.Common.{◌≡◌, ℕ, ◌+◌, ◌/◌, ◌%◌, ◌<◌, ◌≤◌, Bool, true, false, List, [], ◌∷◌, ◌++◌, length, take, drop, Some, Ok, pos, refl, sym, ap, subst, ◌∙◌, arith, inl, inr}
use Rattle.std.specs.Prelude.{◌==◌, ◌&&◌, ◌||◌, unsigned_abs, nat_le}
use Rattle.std.specs.List.{list_all, flat_map}
use Rattle.std.specs.Str.{bytes_eq}
use Rattle.std.proofs.lemmas.Bool.{and_parts, or_parts, or_cases, cases_Bool}
use Rattle.std.proofs.lemmas.Bool.Decides.{nat_tests}
use Rattle.std.proofs.lemmas.List.Folds.{list_all-append}
use Rattle.std.proofs.lemmas.Slice.Eq.{bytes_eq-Decides}
use Rattle.jiff_core.proofs.SignedLemmas.{signed_arith}
use Rattle.field_text.specs.Fields.{is_day}
use Rattle.field_text.proofs.Days.{pos-abs, civil_at, day-from_civil}
use Rattle.crew_calendar.specs.declared.types.Moment.{Moment}
use Rattle.crew_calendar.specs.Folding.{is_inner}
use Rattle.crew_calendar.specs.Texts.{text_from, text_in, escaped, escaped_byte, is_text, is_text_byte, is_marked, is_printable, is_plain, marked}
use Rattle.crew_calendar.specs.Moments.{spelt, moment_text, is_moment, IsMoment}
use Rattle.crew_calendar.specs.Reading.{behind, text_value, moment_value}
use Rattle.crew_calendar.proofs.MomentSteps.{decided}

-- a byte that has a backslash before it, a line feed, and another byte
mark_again : (feeds : Bool) (b : ℕ) (rest bs : List ℕ) → is_marked b ≡ true
    → text_from feeds false rest ≡ Some bs → text_from feeds false (escaped_byte b ++ rest) ≡ Some (b ∷ bs)
unfolding text_from
mark_again feeds b rest bs m e = let k : marked feeds b ≡ Some b = rw m refl in rw (m, k, e) refl

feed_again : (feeds : Bool) (rest bs : List ℕ) → is_text_byte feeds 10 ≡ true
    → text_from feeds false rest ≡ Some bs → text_from feeds false (escaped_byte 10 ++ rest) ≡ Some (10 ∷ bs)
unfolding text_from
feed_again true rest bs h e = rw e refl
feed_again false rest bs h e = absurd cc

printable : (feeds : Bool) (b : ℕ) → is_text_byte feeds b ≡ true → (b == 10) ≡ false → is_printable b ≡ true
printable feeds b h n = go (is_printable b) feeds (b == 10) h n
  where
    go : (p f t : Bool) → (p || (f && t)) ≡ true → t ≡ false → p ≡ true
    go true f t h n = refl
    go false true t h n = absurd cc
    go false false t h n = absurd cc

plain_again : (feeds : Bool) (b : ℕ) (rest bs : List ℕ) → is_marked b ≡ false → (b == 10) ≡ false
    → is_printable b ≡ true → (b == 92) ≡ false
    → text_from feeds false rest ≡ Some bs → text_from feeds false (escaped_byte b ++ rest) ≡ Some (b ∷ bs)
unfolding text_from
plain_again feeds b rest bs m n p q e = let k : is_plain b ≡ true = rw (m, p) refl in rw (m, n, k, q, e) refl

pub byte_again : (feeds : Bool) (b : ℕ) (rest bs : List ℕ) → is_text_byte feeds b ≡ true
    → text_from feeds false rest ≡ Some bs → text_from feeds false (escaped_byte b ++ rest) ≡ Some (b ∷ bs)
byte_again feeds b rest bs h e =
    elim (cases_Bool (is_marked b)) [
      | inl m ↦ mark_again feeds b rest bs m e
      | inr m ↦ elim (cases_Bool (b == 10)) [
        | inl ten ↦
            let same : 10 ≡ b = grind (arith, nat_tests) in
            let there : is_text_byte feeds 10 ≡ true = subst (λ (c : ℕ). is_text_byte feeds c ≡ true) (sym same) h in
            subst (λ (c : ℕ). text_from feeds false (escaped_byte c ++ rest) ≡ Some (c ∷ bs)) same (feed_again feeds rest bs there e)
        | inr other ↦
            let parts = or_parts ((b == 92) || (b == 59)) (b == 44) m in
            plain_again feeds b rest bs m other (printable feeds b h other) (or_parts (b == 92) (b == 59) parts.0).0 e
      ]
    ]

-- no line ends within a value of a text
pub byte_inner : (feeds : Bool) (b : ℕ) → is_text_byte feeds b ≡ true → list_all is_inner (escaped_byte b) ≡ true
byte_inner feeds b h =
    elim (cases_Bool (is_marked b)) [
      | inl m ↦ rw m (inner_mark b m)
      | inr m ↦ elim (cases_Bool (b == 10)) [
        | inl ten ↦ rw (m, ten) refl
        | inr other ↦ rw (m, other) (inner_print b (printable feeds b h other))
      ]
    ]
  where
    inner_one : (c : ℕ) → (c == 13) ≡ false → (c == 10) ≡ false → list_all is_inner (c ∷ []) ≡ true
    inner_one c p q = rw (p, q) refl

    inner_print : (c : ℕ) → is_printable c ≡ true → list_all is_inner (c ∷ []) ≡ true
    inner_print c p = let low = (and_parts (nat_le 32 c) (nat_le c 126) p).0 in inner_one c (grind (arith, nat_tests, low)) (grind (arith, nat_tests, low))

    inner_is : (c n : ℕ) → (c == n) ≡ true → list_all is_inner (n ∷ []) ≡ true → list_all is_inner (c ∷ []) ≡ true
    inner_is c n p q = let same : n ≡ c = grind (arith, nat_tests) in subst (λ (x : ℕ). list_all is_inner (x ∷ []) ≡ true) same q

    inner_mark : (c : ℕ) → is_marked c ≡ true → list_all is_inner (92 ∷ (c ∷ [])) ≡ true
    inner_mark c p =
        elim (or_cases ((c == 92) || (c == 59)) (c == 44) p) [
          | inl two ↦ elim (or_cases (c == 92) (c == 59) two) [
            | inl one ↦ inner_is c 92 one refl
            | inr one ↦ inner_is c 59 one refl
          ]
          | inr one ↦ inner_is c 44 one refl
        ]

pub escaped_inner : (feeds : Bool) (t : List ℕ) → is_text feeds t ≡ true → list_all is_inner (escaped t) ≡ true
unfolding escaped
escaped_inner feeds [] h = refl
escaped_inner feeds (b ∷ bs) h =
    let p = and_parts (is_text_byte feeds b) (is_text feeds bs) h in
    list_all-append is_inner (escaped_byte b) (flat_map escaped_byte bs)
    ∙ rw (byte_inner feeds b p.0, escaped_inner feeds bs p.1) refl

-- a moment
same_bytes : (v : List ℕ) → bytes_eq v v ≡ true
same_bytes v = (bytes_eq-Decides v v).1 refl

spelt_again : (y m d h i : ℕ) → y ≤ 9999 → is_day y m d ≡ true → h < 24 → i < 60
    → is_moment (spelt y m d h i) ≡ true
unfolding spelt
spelt_again y m d h i a b e f =
    decided (spelt y m d h i) y m d h i (omega arith) (omega arith) (omega arith) (omega arith) (omega arith) a b e f
    ∙ same_bytes (spelt y m d h i)

pub moment_again : (m : Moment) → IsMoment m → is_moment (moment_text m) ≡ true
unfolding moment_text
moment_again m h =
    let y = unsigned_abs m.day.year in
    let year : m.day.year ≡ pos y = pos-abs m.day.year h.least in
    let most : y ≤ 9999 = omega (arith, signed_arith, year, h.most) in
    let civil = civil_at m.day.year y m.day.month m.day.day year (m.day.year_in, m.day.month_in, m.day.day_in) in
    spelt_again y m.day.month m.day.day (m.minute / 60) (m.minute % 60) most (day-from_civil y m.day.month m.day.day civil)
    (omega (arith, h.of_day)) (omega arith)

digit_inner : (x : ℕ) → is_inner (48 + x) ≡ true
digit_inner x =
    let a : (48 + x == 13) ≡ false = grind (arith, nat_tests) in
    let b : (48 + x == 10) ≡ false = grind (arith, nat_tests) in
    rw (a, b) refl

spelt_inner : (y m d h i : ℕ) → list_all is_inner (spelt y m d h i) ≡ true
unfolding spelt
spelt_inner y m d h i =
    rw (
      digit_inner (y / 100 / 10),
      digit_inner (y / 100 % 10),
      digit_inner (y % 100 / 10),
      digit_inner (y % 100 % 10),
      digit_inner (m / 10),
      digit_inner (m % 10),
      digit_inner (d / 10),
      digit_inner (d % 10),
      digit_inner (h / 10),
      digit_inner (h % 10),
      digit_inner (i / 10),
      digit_inner (i % 10),
    ) refl

pub text_inner : (m : Moment) → list_all is_inner (moment_text m) ≡ true
unfolding moment_text
text_inner m = spelt_inner (unsigned_abs m.day.year) m.day.month m.day.day (m.minute / 60) (m.minute % 60)

-- what stands behind a head
take_front : (xs ys : List ℕ) → take (length xs) (xs ++ ys) ≡ xs
take_front [] ys = refl
take_front (x ∷ xs) ys = ap (λ (l : List ℕ). x ∷ l) (take_front xs ys)

drop_front : (xs ys : List ℕ) → drop (length xs) (xs ++ ys) ≡ ys
drop_front [] ys = refl
drop_front (x ∷ xs) ys = drop_front xs ys

behind_again : (head v : List ℕ) → behind head (head ++ v) ≡ Some v
behind_again head v = rw (take_front head v, drop_front head v, same_bytes head) refl

pub text_value_again : (feeds : Bool) (head v t : List ℕ) → text_in feeds v ≡ Some t
    → text_value feeds head (head ++ v) ≡ Ok t
unfolding text_value
text_value_again feeds head v t h = rw (behind_again head v, h) refl

pub moment_value_again : (head v : List ℕ) → is_moment v ≡ true → moment_value head (head ++ v) ≡ Ok v
unfolding moment_value
moment_value_again head v h = rw (behind_again head v, h) refl
