-- The words of which bids are spelt.
use Rattle.std.proofs.Common.{◌≡◌, ℕ, ◌≤◌, List, [], ◌∷◌, ◌++◌, length, Bool, true, false, refl, ap, sym, ◌∙◌, arith, append_assoc}
use Rattle.std.specs.Prelude.{◌&&◌, ◌==◌, nat_le, codes, if◌then◌else◌}
use Rattle.std.proofs.lemmas.Bool.{and_parts}
use Rattle.std.proofs.lemmas.Bool.Decides.{nat_tests}
use Rattle.std.proofs.lemmas.List.{append-nil}
use Rattle.duty_calendar.specs.declared.horizon.Horizon.{Horizon}
use Rattle.duty_calendar.specs.declared.member.Base.{Base}
use Rattle.duty_calendar.specs.declared.pairing.Pairing.{Pairing}
use Rattle.field_text.specs.Spelling.{number_text, minutes_text, clock_text}
use Rattle.roster_model.specs.declared.bid.Test.{Test}
use Rattle.roster_model.specs.declared.bid.Test.TheVariants.{Layover, Departs, Arrives, ReportBefore, ReportAfter, ReleaseBefore, ReleaseAfter, Days, OnWeekday, Is}
use Rattle.roster_model.specs.declared.bid.Atom.{Atom}
use Rattle.roster_model.specs.declared.bid.Wish.{Wish}
use Rattle.roster_model.specs.declared.bid.Wish.TheVariants.{Fly, Avoid, Prefer, Off, CreditBelow, CreditAbove, DaysOff}
use Rattle.roster_model.specs.declared.bid.Bid.{Bid}
use Rattle.roster_model.specs.Valid.{is_filter, is_wish}
use Rattle.bid_language.specs.Spelling.{weekday_word, name_of, day_word, test_text, atom_text, more_text, filter_text, to_text, wish_text, bid_text}

-- words behind others, each after a space
abbrev pub spaced : List (List ℕ) → List ℕ
spaced [] = []
spaced (w ∷ ws) = 32 ∷ w ++ spaced ws

-- the first word of a test, and those behind it
abbrev pub test_word : Test → List ℕ
test_word (Layover s) = codes "layover"
test_word (Departs s) = codes "departs"
test_word (Arrives s) = codes "arrives"
test_word (ReportBefore c) = codes "report"
test_word (ReportAfter c) = codes "report"
test_word (ReleaseBefore c) = codes "release"
test_word (ReleaseAfter c) = codes "release"
test_word (Days n) = codes "days"
test_word (OnWeekday w) = codes "weekday"
test_word (Is p) = codes "pairing"

abbrev pub test_values : List Pairing → Test → List (List ℕ)
test_values pairings (Layover s) = s ∷ []
test_values pairings (Departs s) = s ∷ []
test_values pairings (Arrives s) = s ∷ []
test_values pairings (ReportBefore c) = codes "before" ∷ clock_text c ∷ []
test_values pairings (ReportAfter c) = codes "after" ∷ clock_text c ∷ []
test_values pairings (ReleaseBefore c) = codes "before" ∷ clock_text c ∷ []
test_values pairings (ReleaseAfter c) = codes "after" ∷ clock_text c ∷ []
test_values pairings (Days n) = number_text n ∷ []
test_values pairings (OnWeekday w) = weekday_word w ∷ []
test_values pairings (Is p) = name_of pairings p ∷ []

abbrev pub test_words : List Pairing → Test → List (List ℕ)
test_words pairings t = test_word t ∷ test_values pairings t

abbrev pub atom_words : List Pairing → Atom → List (List ℕ)
atom_words pairings a = if a.negated then codes "not" ∷ test_words pairings a.test else test_words pairings a.test

abbrev pub more_words : List Pairing → List Atom → List (List ℕ)
more_words pairings [] = []
more_words pairings (a ∷ others) = codes "and" ∷ atom_words pairings a ++ more_words pairings others

abbrev pub filter_words : List Pairing → List Atom → List (List ℕ)
filter_words pairings [] = []
filter_words pairings (a ∷ others) = atom_words pairings a ++ more_words pairings others

abbrev pub to_words : Horizon → ℕ → ℕ → List (List ℕ)
to_words h first last = if first == last then [] else codes "to" ∷ day_word h last ∷ []

abbrev pub wish_word : Wish → List ℕ
wish_word (Fly p) = codes "fly"
wish_word (Avoid f) = codes "avoid"
wish_word (Prefer n f) = codes "prefer"
wish_word (Off first last) = codes "off"
wish_word (CreditBelow m) = codes "credit"
wish_word (CreditAbove m) = codes "credit"
wish_word (DaysOff n) = codes "daysoff"

abbrev pub wish_values : Base → Wish → List (List ℕ)
wish_values base (Fly p) = name_of base.pairings p ∷ []
wish_values base (Avoid f) = filter_words base.pairings f
wish_values base (Prefer n f) = number_text n ∷ filter_words base.pairings f
wish_values base (Off first last) = day_word base.rules.horizon first ∷ to_words base.rules.horizon first last
wish_values base (CreditBelow m) = codes "below" ∷ minutes_text m ∷ []
wish_values base (CreditAbove m) = codes "above" ∷ minutes_text m ∷ []
wish_values base (DaysOff n) = number_text n ∷ []

abbrev pub wish_words : Base → Wish → List (List ℕ)
wish_words base w = wish_word w ∷ wish_values base w

-- the texts are these words
spaced-append : (vs ws : List (List ℕ)) → spaced (vs ++ ws) ≡ spaced vs ++ spaced ws
spaced-append [] ws = refl
spaced-append (v ∷ vs) ws = ap (λ (t : List ℕ). 32 ∷ v ++ t) (spaced-append vs ws) ∙ ap (λ (t : List ℕ). 32 ∷ t) (sym (append_assoc v (spaced vs) (spaced ws)))

-- a last word
last_word : (front w : List ℕ) → front ++ (w ++ []) ≡ front ++ w
last_word front w = ap (λ (t : List ℕ). front ++ t) (append-nil w)

test-spelt : (ps : List Pairing) (t : Test) → spaced (test_words ps t) ≡ 32 ∷ test_text ps t
test-spelt ps (Layover s) = last_word (codes " layover ") s
test-spelt ps (Departs s) = last_word (codes " departs ") s
test-spelt ps (Arrives s) = last_word (codes " arrives ") s
test-spelt ps (ReportBefore c) = last_word (codes " report before ") (clock_text c)
test-spelt ps (ReportAfter c) = last_word (codes " report after ") (clock_text c)
test-spelt ps (ReleaseBefore c) = last_word (codes " release before ") (clock_text c)
test-spelt ps (ReleaseAfter c) = last_word (codes " release after ") (clock_text c)
test-spelt ps (Days n) = last_word (codes " days ") (number_text n)
test-spelt ps (OnWeekday w) = last_word (codes " weekday ") (weekday_word w)
test-spelt ps (Is p) = last_word (codes " pairing ") (name_of ps p)

either-spelt : (ps : List Pairing) (b : Bool) (t : Test)
    → spaced (if b then codes "not" ∷ test_words ps t else test_words ps t) ≡ 32 ∷ (if b then codes "not " ++ test_text ps t else test_text ps t)
either-spelt ps true t = ap (λ (v : List ℕ). codes " not" ++ v) (test-spelt ps t)
either-spelt ps false t = test-spelt ps t

atom-spelt : (ps : List Pairing) (a : Atom) → spaced (atom_words ps a) ≡ 32 ∷ atom_text ps a
atom-spelt ps a = either-spelt ps a.negated a.test

more-spelt : (ps : List Pairing) (atoms : List Atom) → spaced (more_words ps atoms) ≡ more_text ps atoms
more-spelt ps [] = refl
more-spelt ps (a ∷ os) =
    ap (λ (t : List ℕ). codes " and" ++ t) (spaced-append (atom_words ps a) (more_words ps os))
    ∙ ap (λ (t : List ℕ). codes " and" ++ (t ++ spaced (more_words ps os))) (atom-spelt ps a)
    ∙ ap (λ (t : List ℕ). codes " and" ++ ((32 ∷ atom_text ps a) ++ t)) (more-spelt ps os)

filter-spelt : (ps : List Pairing) (f : List Atom) → 1 ≤ length f → spaced (filter_words ps f) ≡ 32 ∷ filter_text ps f
filter-spelt ps [] some = absurd (omega arith)
filter-spelt ps (a ∷ os) some =
    spaced-append (atom_words ps a) (more_words ps os)
    ∙ ap (λ (t : List ℕ). t ++ spaced (more_words ps os)) (atom-spelt ps a)
    ∙ ap (λ (t : List ℕ). (32 ∷ atom_text ps a) ++ t) (more-spelt ps os)

some_atoms : (n : ℕ) (f : List Atom) → is_filter n f ≡ true → 1 ≤ length f
some_atoms n f h =
    let p = and_parts (nat_le 1 (length f) && nat_le (length f) 8) _ h in
    let q = and_parts (nat_le 1 (length f)) (nat_le (length f) 8) p.0 in
    let a : nat_le 1 (length f) ≡ true = q.0 in
    grind (arith, nat_tests)

to-spelt : (h : Horizon) (last : ℕ) (b : Bool) → spaced (if b then [] else codes "to" ∷ day_word h last ∷ []) ≡ (if b then [] else codes " to " ++ day_word h last)
to-spelt h last true = refl
to-spelt h last false = last_word (codes " to ") (day_word h last)

wish-spelt : (base : Base) (w : Wish) → is_wish base.rules.horizon (length base.pairings) w ≡ true → spaced (wish_words base w) ≡ 32 ∷ wish_text base w
wish-spelt base (Fly p) form = last_word (codes " fly ") (name_of base.pairings p)
wish-spelt base (Avoid f) form = ap (λ (t : List ℕ). codes " avoid" ++ t) (filter-spelt base.pairings f (some_atoms (length base.pairings) f form))
wish-spelt base (Prefer n f) form =
    let p = and_parts (nat_le 1 n && nat_le n 600) (is_filter (length base.pairings) f) form in
    ap (λ (t : List ℕ). codes " prefer " ++ (number_text n ++ t)) (filter-spelt base.pairings f (some_atoms (length base.pairings) f p.1))
    ∙ ap (λ (t : List ℕ). 32 ∷ t) (sym (append_assoc (codes "prefer ") (number_text n) (32 ∷ filter_text base.pairings f)))
wish-spelt base (Off first last) form =
    ap (λ (t : List ℕ). codes " off " ++ (day_word base.rules.horizon first ++ t)) (to-spelt base.rules.horizon last (first == last))
    ∙ ap (λ (t : List ℕ). 32 ∷ t) (sym (append_assoc (codes "off ") (day_word base.rules.horizon first) (to_text base.rules.horizon first last)))
wish-spelt base (CreditBelow m) form = last_word (codes " credit below ") (minutes_text m)
wish-spelt base (CreditAbove m) form = last_word (codes " credit above ") (minutes_text m)
wish-spelt base (DaysOff n) form = last_word (codes " daysoff ") (number_text n)

pub bid-spelt : (base : Base) (b : Bid) → is_wish base.rules.horizon (length base.pairings) b.wish ≡ true → bid_text base b ≡ number_text b.weight ++ spaced (wish_words base b.wish)
unfolding bid_text
bid-spelt base b form = ap (λ (t : List ℕ). number_text b.weight ++ t) (sym (wish-spelt base b.wish form))
