-- Whether so many items can use so many lenses, digit by digit.
use Rattle.std.proofs.Common.{◌≡◌, ℕ, zero, suc, ◌+◌, ◌-◌, ◌*◌, ◌<◌, ◌≤◌, true, false, List, [], ◌∷◌, ◌++◌, take, length, get_or, replicate, refl, sym, ap, ◌∙◌, arith, inl, inr}
use Rattle.std.specs.Prelude.{min, nat_le}
use Rattle.std.specs.Char.{is_ascii_digit}
use Rattle.std.specs.Str.{all_ascii_digits}
use Rattle.std.proofs.lemmas.Bool.{cases_lt}
use Rattle.std.proofs.lemmas.Bool.Decides.{nat_tests}
use Rattle.cert_text.specs.Fields.{is_number, size}
use Rattle.cert_text.specs.Forms.{is_enough}
use Rattle.cert_text.proofs.Numerals.{read_on, both}
use Rattle.cert_text.proofs.Order.{digit_range}
use Rattle.cert_text.proofs.PlaceWords.{numeral}

-- digits behind so many zeros
abbrev pub padded : ℕ → List ℕ → List ℕ
padded zeros word = replicate zeros 48 ++ word

-- the digit in front, and behind the zeros
pub digit_front : (z : ℕ) (w : List ℕ) (i : ℕ) → i < z → get_or (padded z w) i 0 ≡ 48
digit_front zero w i lt = absurd (omega arith)
digit_front (suc z) w zero lt = refl
digit_front (suc z) w (suc i) lt = digit_front z w i (omega arith)

pub digit_behind : (z : ℕ) (w : List ℕ) (i : ℕ) → z ≤ i → get_or (padded z w) i 0 ≡ get_or w (i - z) 0
digit_behind zero w i le = let same : i ≡ i - 0 = omega arith in ap (λ (k : ℕ). get_or w k 0) same
digit_behind (suc z) w zero le = absurd (omega arith)
digit_behind (suc z) w (suc i) le = let same : i - z ≡ suc i - suc z = omega arith in digit_behind z w i (omega arith) ∙ ap (λ (k : ℕ). get_or w k 0) same

pub padded_length : (z : ℕ) (w : List ℕ) → length (padded z w) ≡ z + length w
padded_length zero w = omega arith
padded_length (suc z) w = let h = padded_length z w in omega (arith, h)

padded_digits : (z : ℕ) (w : List ℕ) → all_ascii_digits w ≡ true → all_ascii_digits (padded z w) ≡ true
padded_digits zero w h = h
padded_digits (suc z) w h = padded_digits z w h

padded_value : (z : ℕ) (w : List ℕ) → read_on 0 (padded z w) ≡ read_on 0 w
padded_value zero w = refl
padded_value (suc z) w = padded_value z w

digit_low : (ds : List ℕ) (i : ℕ) → all_ascii_digits ds ≡ true → get_or ds i 0 - 48 ≤ 9
digit_low [] zero h = omega arith
digit_low [] (suc i) h = omega arith
digit_low (c ∷ cs) zero h = let r = digit_range c (both (is_ascii_digit c) (all_ascii_digits cs) h).0 in omega (arith, r.1)
digit_low (c ∷ cs) (suc i) h = digit_low cs i (both (is_ascii_digit c) (all_ascii_digits cs) h).1

-- one digit more
read_take : (n : ℕ) (ds : List ℕ) (i : ℕ) → i < length ds → read_on n (take (suc i) ds) ≡ 10 * read_on n (take i ds) + (get_or ds i 0 - 48)
read_take n [] i lt = absurd (omega arith)
read_take n (c ∷ cs) zero lt = refl
read_take n (c ∷ cs) (suc i) lt = read_take (10 * n + (c - 48)) cs i (omega arith)

take_all : (ds : List ℕ) → take (length ds) ds ≡ ds
take_all [] = refl
take_all (d ∷ ds) = ap (λ (es : List ℕ). d ∷ es) (take_all ds)

-- how many lenses so many items can use more than there are, with 200 added and from 0 to 201
abbrev gap : ℕ → ℕ → ℕ
gap items lenses = min 201 (200 * items + 200 - lenses)

gap_more : (k l d e spare : ℕ) → d ≤ 9 → e ≤ 9 → spare ≡ gap k l → min (10 * spare + 200 * d - (1800 + e)) 201 ≡ gap (10 * k + d) (10 * l + e)
gap_more k l d e spare d_low e_low at = omega (arith, d_low, e_low, at)

-- what the digits up to a place leave
abbrev pub IsSpare : List ℕ → List ℕ → ℕ → ℕ → ℕ → Type 0
IsSpare items lenses count place spare =
    spare ≡ gap (read_on 0 (take place (padded (count - length items) items))) (read_on 0 (take place (padded (count - length lenses) lenses)))

pub spare_none : (items lenses : List ℕ) (count : ℕ) → IsSpare items lenses count 0 200
spare_none items lenses count = refl

pub spare_low : (items lenses : List ℕ) (count place spare : ℕ) → IsSpare items lenses count place spare → spare ≤ 201
spare_low items lenses count place spare at = omega (arith, at)

-- what is left, by the digits
pub spare_from : (spare left used taken d e : ℕ) → left ≡ 10 * spare + 200 * used - (1800 + taken) → used ≡ d → taken ≡ e → min left 201 ≡ min (10 * spare + 200 * d - (1800 + e)) 201
spare_from spare left used taken d e at f g = omega (arith, at, f, g)

pub spare_more : (items lenses : List ℕ) (count place spare next : ℕ) → is_number items ≡ true → is_number lenses ≡ true → length items ≤ count → length lenses ≤ count → place < count
    → next ≡ min (10 * spare + 200 * (get_or (padded (count - length items) items) place 0 - 48) - (1800 + (get_or (padded (count - length lenses) lenses) place 0 - 48))) 201
    → IsSpare items lenses count place spare → IsSpare items lenses count (place + 1) next
spare_more items lenses count place spare next p q items_low lenses_low lt e at =
    let x = padded (count - length items) items in
    let y = padded (count - length lenses) lenses in
    let x_long = padded_length (count - length items) items in
    let y_long = padded_length (count - length lenses) lenses in
    let a = read_take 0 x place (omega (arith, x_long, lt, items_low)) in
    let b = read_take 0 y place (omega (arith, y_long, lt, lenses_low)) in
    let one : place + 1 ≡ suc place = omega arith in
    let d = digit_low x place (padded_digits (count - length items) items (numeral items p).spelt.digits) in
    let f = digit_low y place (padded_digits (count - length lenses) lenses (numeral lenses q).spelt.digits) in
    e ∙ gap_more (read_on 0 (take place x)) (read_on 0 (take place y)) (get_or x place 0 - 48) (get_or y place 0 - 48) spare d f at
    ∙ ap (λ (n : ℕ). gap n (10 * read_on 0 (take place y) + (get_or y place 0 - 48))) (sym a ∙ ap (λ (k : ℕ). read_on 0 (take k x)) (sym one))
    ∙ ap (λ (n : ℕ). gap (read_on 0 (take (place + 1) x)) n) (sym b ∙ ap (λ (k : ℕ). read_on 0 (take k y)) (sym one))

enough_is : (k l : ℕ) → nat_le 200 (gap k l) ≡ nat_le l (0 + 200 * k)
enough_is k l = elim (cases_lt (200 * k) l) [
  | inl more ↦
      let low : gap k l < 200 = omega (arith, more) in
      let a : nat_le 200 (gap k l) ≡ false = no_le 200 (gap k l) low in
      let b : nat_le l (0 + 200 * k) ≡ false = no_le l (0 + 200 * k) (omega (arith, more)) in
      a ∙ sym b
  | inr fits ↦
      let high : 200 ≤ gap k l = omega (arith, fits) in
      let a : nat_le 200 (gap k l) ≡ true = yes_le 200 (gap k l) high in
      let b : nat_le l (0 + 200 * k) ≡ true = yes_le l (0 + 200 * k) (omega (arith, fits)) in
      a ∙ sym b
]
  where
    no_le : (a b : ℕ) → b < a → nat_le a b ≡ false
    no_le a b lt = grind (arith, nat_tests)

    yes_le : (a b : ℕ) → a ≤ b → nat_le a b ≡ true
    yes_le a b le = grind (arith, nat_tests)

whole_value : (w : List ℕ) (count : ℕ) → is_number w ≡ true → length w ≤ count → read_on 0 (take count (padded (count - length w) w)) ≡ size w
whole_value w count h low =
    let x = padded (count - length w) w in
    let long = padded_length (count - length w) w in
    let same : count ≡ length x = omega (arith, long, low) in
    ap (λ (k : ℕ). read_on 0 (take k x)) same ∙ ap (read_on 0) (take_all x) ∙ padded_value (count - length w) w ∙ (numeral w h).value

pub spare_last : (items lenses : List ℕ) (count spare : ℕ) → is_number items ≡ true → is_number lenses ≡ true → length items ≤ count → length lenses ≤ count
    → IsSpare items lenses count count spare → nat_le 200 spare ≡ is_enough (size lenses) 0 (size items)
spare_last items lenses count spare p q items_low lenses_low at =
    ap (nat_le 200) (at ∙ ap (λ (n : ℕ). gap n (read_on 0 (take count (padded (count - length lenses) lenses)))) (whole_value items count p items_low)
    ∙ ap (λ (n : ℕ). gap (size items) n) (whole_value lenses count q lenses_low))
    ∙ enough_is (size items) (size lenses)
