-- Events that ascend, parted at a minute.
use Rattle.std.proofs.Common.{◌≡◌, suc, ◌≤◌, Bool, true, false, not, List, [], ◌∷◌, ◌++◌, refl, ap, ◌∙◌, arith}
use Rattle.std.specs.Prelude.{All, filter, nat_le, nat_lt}
use Rattle.std.specs.List.Sorted.{IsNonDecreasingBy}
use Rattle.std.proofs.lemmas.Bool.Decides.{nat_tests}
use Rattle.std.proofs.lemmas.List.Elements.{All-head, All-tail}
use Rattle.duty_calendar.specs.declared.event.Event.{Event}

abbrev is_past : Event → Bool
is_past e = nat_lt e.report 525600

abbrev is_coming : Event → Bool
is_coming e = nat_le 525600 e.report

pub other_part : (e : Event) → is_coming e ≡ not (is_past e)
other_part e = by_test (is_past e) refl
  where
    by_test : (b : Bool) → is_past e ≡ b → is_coming e ≡ not b
    by_test true h = grind (arith, nat_tests, h)
    by_test false h = grind (arith, nat_tests, h)

no_past : (xs : List Event) → All (λ e. 525600 ≤ e.report) xs → filter is_past xs ≡ []
no_past [] late = refl
no_past (x ∷ xs) late =
    let at = All-head (λ (e : Event). 525600 ≤ e.report) x xs late in
    let test : is_past x ≡ false = grind (arith, nat_tests, at) in
    rw test (no_past xs (All-tail (λ (e : Event). 525600 ≤ e.report) x xs late))

all_coming : (xs : List Event) → All (λ e. 525600 ≤ e.report) xs → filter is_coming xs ≡ xs
all_coming [] late = refl
all_coming (x ∷ xs) late =
    let at = All-head (λ (e : Event). 525600 ≤ e.report) x xs late in
    let test : is_coming x ≡ true = grind (arith, nat_tests, at) in
    rw test (ap (λ (es : List Event). x ∷ es) (all_coming xs (All-tail (λ (e : Event). 525600 ≤ e.report) x xs late)))

-- the two parts, one after the other, are the events again
pub parts_join : (xs : List Event) → IsNonDecreasingBy (λ e. e.report) xs → filter is_past xs ++ filter is_coming xs ≡ xs
parts_join [] up = refl
parts_join (x ∷ xs) up = by_first (is_past x) refl (parts_join xs (λ i j d le inside. up (suc i) (suc j) d (omega arith) (omega arith)))
  where
    by_first : (b : Bool) → is_past x ≡ b → filter is_past xs ++ filter is_coming xs ≡ xs → filter is_past (x ∷ xs) ++ filter is_coming (x ∷ xs) ≡ x ∷ xs
    by_first true h rest =
        let late : is_coming x ≡ false = other_part x ∙ ap (λ (b : Bool). not b) h in
        rw (h, late) (ap (λ (es : List Event). x ∷ es) rest)
    by_first false h rest =
        let late : is_coming x ≡ true = other_part x ∙ ap (λ (b : Bool). not b) h in
        let from : 525600 ≤ x.report = grind (arith, nat_tests, h) in
        let all_late : All (λ e. 525600 ≤ e.report) xs = λ k d lt. (let le = up 0 (suc k) d (omega arith) (omega arith) in omega (arith, le, from)) in
        rw (h, late, no_past xs all_late) (ap (λ (es : List Event). x ∷ es) (all_coming xs all_late))
