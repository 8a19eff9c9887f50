-- The words of a bid hold no blank, and begin no comment.
use Rattle.std.proofs.Common.{◌≡◌, ℕ, ◌+◌, ◌-◌, ◌/◌, ◌%◌, ◌<◌, ◌≤◌, ◌^◌, List, [], ◌∷◌, ◌++◌, length, Bool, true, false, refl, arith, length-append}
use Rattle.std.specs.Prelude.{◌&&◌, ◌==◌, nat_le, nat_lt, codes, decimal, unsigned_abs, if◌then◌else◌}
use Rattle.std.specs.List.{list_all}
use Rattle.std.specs.Str.Parse.{AllDigits}
use Rattle.std.proofs.lemmas.Bool.{and_parts, and_from}
use Rattle.std.proofs.lemmas.Bool.Decides.{nat_tests}
use Rattle.std.proofs.lemmas.Fmt.{decimal_is_IsNumeral}
use Rattle.duty_calendar.specs.declared.horizon.Horizon.{Horizon}
use Rattle.duty_calendar.specs.declared.member.Base.{Base}
use Rattle.duty_calendar.specs.declared.pairing.Pairing.{Pairing}
use Rattle.duty_calendar.specs.declared.weekday.Weekday.{Weekday}
use Rattle.duty_calendar.specs.declared.weekday.Weekday.TheVariants.{Mon, Tue, Wed, Thu, Fri, Sat, Sun}
use Rattle.duty_calendar.specs.Calendar.{month_days}
use Rattle.duty_calendar.specs.Forms.{is_name, is_name_byte, is_capital}
use Rattle.field_text.specs.Spelling.{two, four, number_text, minutes_text, clock_text, day_text}
use Rattle.field_text.proofs.Numbers.{digit_of}
use Rattle.roster_model.specs.declared.bid.Test.{Test}
use Rattle.roster_model.specs.declared.bid.Test.TheVariants.{Layover, Departs, Arrives, ReportBefore, ReportAfter, ReleaseBefore, ReleaseAfter, Days, OnWeekday, Is}
use Rattle.roster_model.specs.declared.bid.Atom.{Atom}
use Rattle.roster_model.specs.declared.bid.Wish.{Wish}
use Rattle.roster_model.specs.declared.bid.Wish.TheVariants.{Fly, Avoid, Prefer, Off, CreditBelow, CreditAbove, DaysOff}
use Rattle.roster_model.specs.declared.bid.Bid.{Bid}
use Rattle.roster_model.specs.Valid.{is_test, is_filter, is_wish, IsBid}
use Rattle.bid_language.specs.Spelling.{weekday_word, name_of, day_word}
use Rattle.duty_calendar.specs.Forms.{is_station_code}
use Rattle.bid_language.proofs.Spelt.{is_spelt_test, is_spelt_filter, is_spelt_wish}
use Rattle.bid_language.proofs.BidWords.{test_words, atom_words, more_words, filter_words, to_words, wish_word, wish_values, wish_words}
use Rattle.bid_language.proofs.DaysAgain.{month_parts}
use Rattle.bid_language.proofs.TextAgain.{is_plain, is_word}

plain-digit : (b : ℕ) → 48 ≤ b → b ≤ 57 → is_plain b ≡ true
plain-digit b h k = grind (arith, nat_tests)

plain-append : (xs ys : List ℕ) → list_all is_plain xs ≡ true → list_all is_plain ys ≡ true → list_all is_plain (xs ++ ys) ≡ true
plain-append [] ys g h = h
plain-append (x ∷ xs) ys g h = let p = and_parts (is_plain x) (list_all is_plain xs) g in and_from (is_plain x) (list_all is_plain (xs ++ ys)) p.0 (plain-append xs ys p.1 h)

plain-digits : (bs : List ℕ) → AllDigits 10 bs → list_all is_plain bs ≡ true
plain-digits [] h = refl
plain-digits (b ∷ bs) h = let d = digit_of b h.0 in and_from (is_plain b) (list_all is_plain bs) (plain-digit b d.0 d.1) (plain-digits bs h.1)

word-of_plain : (bs : List ℕ) → 0 < length bs → list_all is_plain bs ≡ true → is_word bs ≡ true
word-of_plain [] h p = absurd (omega arith)
word-of_plain (b ∷ bs) h p = p

plain-decimal : (n : ℕ) → n < 2 ^ 64 → list_all is_plain (decimal n) ≡ true
plain-decimal n h = let d = decimal_is_IsNumeral n h in plain-digits (decimal n) d.0.1

pub word-number : (n : ℕ) → n < 2 ^ 64 → is_word (number_text n) ≡ true
word-number n h = let d = decimal_is_IsNumeral n h in word-of_plain (decimal n) d.0.0 (plain-decimal n h)

plain-two : (n : ℕ) → n < 100 → list_all is_plain (two n) ≡ true
plain-two n h =
    let a : is_plain (48 + n / 10) ≡ true = plain-digit (48 + n / 10) (omega arith) (omega arith) in
    let b : is_plain (48 + n % 10) ≡ true = plain-digit (48 + n % 10) (omega arith) (omega arith) in
    and_from (is_plain (48 + n / 10)) (list_all is_plain ((48 + n % 10) ∷ [])) a (and_from (is_plain (48 + n % 10)) true b refl)

plain-four : (n : ℕ) → n < 10000 → list_all is_plain (four n) ≡ true
plain-four n h = plain-append (two (n / 100)) (two (n % 100)) (plain-two (n / 100) (omega arith)) (plain-two (n % 100) (omega arith))

word-clock : (c : ℕ) → c < 1440 → is_word (clock_text c) ≡ true
unfolding clock_text
word-clock c h = plain-append (two (c / 60)) (58 ∷ two (c % 60)) (plain-two (c / 60) (omega arith)) (plain-two (c % 60) (omega arith))

word-minutes : (m : ℕ) → m < 2 ^ 64 → is_word (minutes_text m) ≡ true
word-minutes m h =
    let hours : m / 60 < 2 ^ 64 = omega arith in
    let d = decimal_is_IsNumeral (m / 60) hours in
    let some : 0 < length (decimal (m / 60) ++ 58 ∷ two (m % 60)) = omega (arith, length-append (decimal (m / 60)) (58 ∷ two (m % 60))) in
    word-of_plain (minutes_text m) some (plain-append (decimal (m / 60)) (58 ∷ two (m % 60)) (plain-decimal (m / 60) hours) (plain-two (m % 60) (omega arith)))

word-day : (y m d : ℕ) → y < 10000 → m < 100 → d < 100 → is_word (day_text y m d) ≡ true
unfolding day_text
word-day y m d hy hm hd =
    plain-append (four y) (45 ∷ two m ++ 45 ∷ two d) (plain-four y hy) (plain-append (two m) (45 ∷ two d) (plain-two m hm) (plain-two d hd))

name-plain : (b : ℕ) → is_name_byte b ≡ true → is_plain b ≡ true
name-plain b h = grind (arith, nat_tests)

names-plain : (bs : List ℕ) → list_all is_name_byte bs ≡ true → list_all is_plain bs ≡ true
names-plain [] h = refl
names-plain (b ∷ bs) h = let p = and_parts (is_name_byte b) (list_all is_name_byte bs) h in and_from (is_plain b) (list_all is_plain bs) (name-plain b p.0) (names-plain bs p.1)

pub word-name : (w : List ℕ) → is_name w ≡ true → is_word w ≡ true
word-name w h =
    let p = and_parts (nat_le 1 (length w) && nat_le (length w) 16) (list_all is_name_byte w) h in
    let q = and_parts (nat_le 1 (length w)) (nat_le (length w) 16) p.0 in
    let some : 0 < length w = let a : nat_le 1 (length w) ≡ true = q.0 in grind (arith, nat_tests) in
    word-of_plain w some (names-plain w p.1)

capital-plain : (b : ℕ) → is_capital b ≡ true → is_plain b ≡ true
capital-plain b h = grind (arith, nat_tests)

capitals-plain : (bs : List ℕ) → list_all is_capital bs ≡ true → list_all is_plain bs ≡ true
capitals-plain [] h = refl
capitals-plain (b ∷ bs) h = let p = and_parts (is_capital b) (list_all is_capital bs) h in and_from (is_plain b) (list_all is_plain bs) (capital-plain b p.0) (capitals-plain bs p.1)

word-station : (w : List ℕ) → is_station_code w ≡ true → is_word w ≡ true
word-station w h =
    let p = and_parts (length w == 3) (list_all is_capital w) h in
    let some : 0 < length w = let a : (length w == 3) ≡ true = p.0 in grind (arith, nat_tests) in
    word-of_plain w some (capitals-plain w p.1)

-- words in front of words
word-more : (w : List ℕ) (ws : List (List ℕ)) → is_word w ≡ true → list_all is_word ws ≡ true → list_all is_word (w ∷ ws) ≡ true
word-more w ws g h = and_from (is_word w) (list_all is_word ws) g h

word-last : (w : List ℕ) → is_word w ≡ true → list_all is_word (w ∷ []) ≡ true
word-last w h = and_from (is_word w) true h refl

words-append : (vs ws : List (List ℕ)) → list_all is_word vs ≡ true → list_all is_word ws ≡ true → list_all is_word (vs ++ ws) ≡ true
words-append [] ws g h = h
words-append (v ∷ vs) ws g h = let p = and_parts (is_word v) (list_all is_word vs) g in and_from (is_word v) (list_all is_word (vs ++ ws)) p.0 (words-append vs ws p.1 h)

weekday-word : (w : Weekday) → is_word (weekday_word w) ≡ true
weekday-word Mon = refl
weekday-word Tue = refl
weekday-word Wed = refl
weekday-word Thu = refl
weekday-word Fri = refl
weekday-word Sat = refl
weekday-word Sun = refl

clock-small : (c : ℕ) → nat_lt c 1440 ≡ true → c < 1440
clock-small c h = grind (arith, nat_tests)

words-test : (ps : List Pairing) (t : Test) → is_test (length ps) t ≡ true → is_spelt_test ps t ≡ true → list_all is_word (test_words ps t) ≡ true
words-test ps (Layover s) form spelt = word-last s (word-station s spelt)
words-test ps (Departs s) form spelt = word-last s (word-station s spelt)
words-test ps (Arrives s) form spelt = word-last s (word-station s spelt)
words-test ps (ReportBefore c) form spelt = word-last (clock_text c) (word-clock c (clock-small c form))
words-test ps (ReportAfter c) form spelt = word-last (clock_text c) (word-clock c (clock-small c form))
words-test ps (ReleaseBefore c) form spelt = word-last (clock_text c) (word-clock c (clock-small c form))
words-test ps (ReleaseAfter c) form spelt = word-last (clock_text c) (word-clock c (clock-small c form))
words-test ps (Days n) form spelt =
    let p = and_parts (nat_le 1 n) (nat_le n 40) form in
    let most : n ≤ 40 = let a : nat_le n 40 ≡ true = p.1 in grind (arith, nat_tests) in
    word-last (number_text n) (word-number n (omega arith))
words-test ps (OnWeekday w) form spelt = word-last (weekday_word w) (weekday-word w)
words-test ps (Is p) form spelt = word-last (name_of ps p) (word-name (name_of ps p) spelt)

words-either : (ps : List Pairing) (b : Bool) (t : Test) → list_all is_word (test_words ps t) ≡ true → list_all is_word (if b then codes "not" ∷ test_words ps t else test_words ps t) ≡ true
words-either ps true t h = h
words-either ps false t h = h

words-more : (ps : List Pairing) (atoms : List Atom) → list_all (λ a. is_test (length ps) a.test) atoms ≡ true → is_spelt_filter ps atoms ≡ true → list_all is_word (more_words ps atoms) ≡ true
words-more ps [] form spelt = refl
words-more ps (a ∷ os) form spelt =
    let f = and_parts (is_test (length ps) a.test) (list_all (λ x. is_test (length ps) x.test) os) form in
    let g = and_parts (is_spelt_test ps a.test) (is_spelt_filter ps os) spelt in
    words-append (atom_words ps a) (more_words ps os) (words-either ps a.negated a.test (words-test ps a.test f.0 g.0)) (words-more ps os f.1 g.1)

words-filter : (ps : List Pairing) (f : List Atom) → is_filter (length ps) f ≡ true → is_spelt_filter ps f ≡ true → list_all is_word (filter_words ps f) ≡ true
words-filter ps [] form spelt = refl
words-filter ps (a ∷ os) form spelt =
    let p = and_parts (nat_le 1 (length (a ∷ os)) && nat_le (length (a ∷ os)) 8) (list_all (λ x. is_test (length ps) x.test) (a ∷ os)) form in
    let f = and_parts (is_test (length ps) a.test) (list_all (λ x. is_test (length ps) x.test) os) p.1 in
    let g = and_parts (is_spelt_test ps a.test) (is_spelt_filter ps os) spelt in
    words-append (atom_words ps a) (more_words ps os) (words-either ps a.negated a.test (words-test ps a.test f.0 g.0)) (words-more ps os f.1 g.1)

word-month : (h : Horizon) (d : ℕ) → 365 ≤ d → d < 365 + month_days h → is_word (day_word h d) ≡ true
word-month h d begins ends = let parts = month_parts h d begins ends in word-day (unsigned_abs h.year) h.month (d - 364) parts.0 parts.1 parts.2

words-to : (h : Horizon) (last : ℕ) (b : Bool) → is_word (day_word h last) ≡ true → list_all is_word (if b then [] else codes "to" ∷ day_word h last ∷ []) ≡ true
words-to h last true w = refl
words-to h last false w = word-last (day_word h last) w

words-values : (base : Base) (w : Wish) → is_wish base.rules.horizon (length base.pairings) w ≡ true → is_spelt_wish base w ≡ true → list_all is_word (wish_values base w) ≡ true
words-values base (Fly p) form spelt = word-last (name_of base.pairings p) (word-name (name_of base.pairings p) spelt)
words-values base (Avoid f) form spelt = words-filter base.pairings f form spelt
words-values base (Prefer n f) form spelt =
    let p = and_parts (nat_le 1 n && nat_le n 600) (is_filter (length base.pairings) f) form in
    let q = and_parts (nat_le 1 n) (nat_le n 600) p.0 in
    let few : n ≤ 600 = let a : nat_le n 600 ≡ true = q.1 in grind (arith, nat_tests) in
    word-more (number_text n) (filter_words base.pairings f) (word-number n (omega arith)) (words-filter base.pairings f p.1 spelt)
words-values base (Off first last) form spelt =
    let h = base.rules.horizon in
    let p = and_parts (nat_le 365 first && nat_le first last) (nat_lt last (365 + month_days h)) form in
    let q = and_parts (nat_le 365 first) (nat_le first last) p.0 in
    let begins : 365 ≤ first = let a : nat_le 365 first ≡ true = q.0 in grind (arith, nat_tests) in
    let order : first ≤ last = let a : nat_le first last ≡ true = q.1 in grind (arith, nat_tests) in
    let ends : last < 365 + month_days h = let a : nat_lt last (365 + month_days h) ≡ true = p.1 in grind (arith, nat_tests) in
    word-more (day_word h first) (to_words h first last) (word-month h first begins (omega arith)) (words-to h last (first == last) (word-month h last (omega arith) ends))
words-values base (CreditBelow m) form spelt =
    let few : m ≤ 59999 = let a : nat_le m 59999 ≡ true = form in grind (arith, nat_tests) in
    word-last (minutes_text m) (word-minutes m (omega arith))
words-values base (CreditAbove m) form spelt =
    let few : m ≤ 59999 = let a : nat_le m 59999 ≡ true = form in grind (arith, nat_tests) in
    word-last (minutes_text m) (word-minutes m (omega arith))
words-values base (DaysOff n) form spelt =
    let few : n ≤ 31 = let a : nat_le n 31 ≡ true = form in grind (arith, nat_tests) in
    word-last (number_text n) (word-number n (omega arith))

first-word : (w : Wish) → is_word (wish_word w) ≡ true
first-word (Fly p) = refl
first-word (Avoid f) = refl
first-word (Prefer n f) = refl
first-word (Off first last) = refl
first-word (CreditBelow m) = refl
first-word (CreditAbove m) = refl
first-word (DaysOff n) = refl

pub words-bid : (base : Base) (b : Bid) → IsBid base.rules.horizon (length base.pairings) b → is_spelt_wish base b.wish ≡ true → list_all is_word (number_text b.weight ∷ wish_words base b.wish) ≡ true
words-bid base b form spelt =
    word-more (number_text b.weight) (wish_words base b.wish) (word-number b.weight (omega (arith, form.few_weight)))
    (word-more (wish_word b.wish) (wish_values base b.wish) (first-word b.wish) (words-values base b.wish form.wish_form spelt))
