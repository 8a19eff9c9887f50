-- Bids that compare equal are the same.
use Rattle.std.proofs.Common.{◌≡◌, ◌∙◌, ℕ, Bool, true, false, List, [], ◌∷◌, refl, sym, ap, arith, ◌&&◌}
use Rattle.std.specs.Prelude.{◌==◌}
use Rattle.std.proofs.lemmas.Bool.{and_parts, false≢true}
use Rattle.std.proofs.lemmas.Bool.Decides.{nat_tests}
use Rattle.std.specs.Cmp.Lexicographic.{pointwise}
use Rattle.duty_calendar.specs.declared.weekday.Weekday.{Weekday}
use Rattle.duty_calendar.specs.declared.weekday.Weekday.TheVariants.{Mon, Tue, Wed, Thu, Fri, Sat, Sun}
use Rattle.duty_calendar.specs.contracts.station.StationPartialEq.TheImpl as station
use Rattle.duty_calendar.specs.contracts.weekday.WeekdayPartialEq.TheImpl as weekday
use Rattle.roster_model.specs.contracts.bid.TestPartialEq.TheImpl as test
use Rattle.roster_model.specs.contracts.bid.AtomPartialEq.TheImpl as atom
use Rattle.roster_model.specs.contracts.bid.WishPartialEq.TheImpl as wish
use Rattle.roster_model.specs.contracts.bid.BidPartialEq.TheImpl as bid
use Rattle.roster_model.specs.declared.bid.Atom.{Atom}
use Rattle.roster_model.specs.declared.bid.Bid.{Bid}
use Rattle.roster_model.specs.declared.bid.Test.{Test}
use Rattle.roster_model.specs.declared.bid.Test.TheVariants.{Layover, Departs, Arrives, ReportBefore, ReportAfter, ReleaseBefore, ReleaseAfter, Days, OnWeekday, Is}
use Rattle.roster_model.specs.declared.bid.Wish.{Wish}
use Rattle.roster_model.specs.declared.bid.Wish.TheVariants.{Fly, Avoid, Prefer, Off, CreditBelow, CreditAbove, DaysOff}

-- what compares equal is the same, and each value compares equal to itself
pub record Decides {A : Type 0} (eq : A → A → Bool) : Type 0 where
  pub same : (x y : A) → eq x y ≡ true → x ≡ y
  pub itself : (x : A) → eq x x ≡ true

same_number : (a b : ℕ) → (a == b) ≡ true → a ≡ b
same_number a b h = grind (arith, nat_tests)

number_itself : (a : ℕ) → (a == a) ≡ true
number_itself a = grind (arith, nat_tests)

both_true : (a b : Bool) → a ≡ true → b ≡ true → (a && b) ≡ true
both_true a b h k = rw (h, k) refl

lists_decided : {A : Type 0} (eq : A → A → Bool) → Decides eq → Decides (pointwise eq)
lists_decided {A} eq each = record { same = same; itself = itself }
  where
    same : (xs ys : List A) → pointwise eq xs ys ≡ true → xs ≡ ys
    same [] [] h = refl
    same [] (y ∷ ys) h = absurd (false≢true h)
    same (x ∷ xs) [] h = absurd (false≢true h)
    same (x ∷ xs) (y ∷ ys) h =
        let p = and_parts (eq x y) (pointwise eq xs ys) h in
        ap (λ (z : A). z ∷ xs) (each.same x y p.0) ∙ ap (λ (zs : List A). y ∷ zs) (same xs ys p.1)

    itself : (xs : List A) → pointwise eq xs xs ≡ true
    itself [] = refl
    itself (x ∷ xs) = both_true (eq x x) (pointwise eq xs xs) (each.itself x) (itself xs)

stations_decided : Decides station.eq-value.it
stations_decided = lists_decided (λ (a b : ℕ). a == b) (record { same = same_number; itself = number_itself })

weekday_same : (a b : Weekday) → weekday.eq-value.it a b ≡ true → a ≡ b
weekday_same Mon Mon h = refl
weekday_same Tue Tue h = refl
weekday_same Wed Wed h = refl
weekday_same Thu Thu h = refl
weekday_same Fri Fri h = refl
weekday_same Sat Sat h = refl
weekday_same Sun Sun h = refl
weekday_same a b h = absurd (false≢true h)

weekday_itself : (a : Weekday) → weekday.eq-value.it a a ≡ true
weekday_itself Mon = refl
weekday_itself Tue = refl
weekday_itself Wed = refl
weekday_itself Thu = refl
weekday_itself Fri = refl
weekday_itself Sat = refl
weekday_itself Sun = refl

test_same : (a b : Test) → test.eq-value.it a b ≡ true → a ≡ b
test_same (Layover s) (Layover t) h = ap (λ (x : List ℕ). Layover x) (stations_decided.same s t h)
test_same (Departs s) (Departs t) h = ap (λ (x : List ℕ). Departs x) (stations_decided.same s t h)
test_same (Arrives s) (Arrives t) h = ap (λ (x : List ℕ). Arrives x) (stations_decided.same s t h)
test_same (ReportBefore c) (ReportBefore d) h = ap (λ (x : ℕ). ReportBefore x) (same_number c d h)
test_same (ReportAfter c) (ReportAfter d) h = ap (λ (x : ℕ). ReportAfter x) (same_number c d h)
test_same (ReleaseBefore c) (ReleaseBefore d) h = ap (λ (x : ℕ). ReleaseBefore x) (same_number c d h)
test_same (ReleaseAfter c) (ReleaseAfter d) h = ap (λ (x : ℕ). ReleaseAfter x) (same_number c d h)
test_same (Days n) (Days m) h = ap (λ (x : ℕ). Days x) (same_number n m h)
test_same (OnWeekday v) (OnWeekday w) h = ap (λ (x : Weekday). OnWeekday x) (weekday_same v w h)
test_same (Is q) (Is r) h = ap (λ (x : ℕ). Is x) (same_number q r h)
test_same a b h = absurd (false≢true h)

test_itself : (a : Test) → test.eq-value.it a a ≡ true
test_itself (Layover s) = stations_decided.itself s
test_itself (Departs s) = stations_decided.itself s
test_itself (Arrives s) = stations_decided.itself s
test_itself (ReportBefore c) = number_itself c
test_itself (ReportAfter c) = number_itself c
test_itself (ReleaseBefore c) = number_itself c
test_itself (ReleaseAfter c) = number_itself c
test_itself (Days n) = number_itself n
test_itself (OnWeekday w) = weekday_itself w
test_itself (Is q) = number_itself q

abbrev marked : Bool → Test → Atom
marked flag t = record { negated = flag; test = t }

atom_same : (a b : Bool) (s t : Test) → atom.eq-value.it (marked a s) (marked b t) ≡ true → marked a s ≡ marked b t
atom_same true true s t h = ap (marked true) (test_same s t h)
atom_same false false s t h = ap (marked false) (test_same s t h)
atom_same a b s t h = absurd (false≢true h)

atom_itself : (a : Bool) (s : Test) → atom.eq-value.it (marked a s) (marked a s) ≡ true
atom_itself true s = test_itself s
atom_itself false s = test_itself s

atoms_decided : Decides atom.eq-value.it
atoms_decided = record { same = λ x y h. atom_same x.negated y.negated x.test y.test h; itself = λ x. atom_itself x.negated x.test }

filters_decided : Decides (pointwise atom.eq-value.it)
filters_decided = lists_decided atom.eq-value.it atoms_decided

wish_same : (a b : Wish) → wish.eq-value.it a b ≡ true → a ≡ b
wish_same (Fly p) (Fly q) h = ap (λ (x : ℕ). Fly x) (same_number p q h)
wish_same (Avoid f) (Avoid g) h = ap (λ (x : List Atom). Avoid x) (filters_decided.same f g h)
wish_same (Prefer n f) (Prefer m g) h =
    let p = and_parts (n == m) (pointwise atom.eq-value.it f g) h in
    ap (λ (x : ℕ). Prefer x f) (same_number n m p.0) ∙ ap (λ (x : List Atom). Prefer m x) (filters_decided.same f g p.1)
wish_same (Off a b) (Off c d) h =
    let p = and_parts (a == c) (b == d) h in
    ap (λ (x : ℕ). Off x b) (same_number a c p.0) ∙ ap (λ (x : ℕ). Off c x) (same_number b d p.1)
wish_same (CreditBelow m) (CreditBelow n) h = ap (λ (x : ℕ). CreditBelow x) (same_number m n h)
wish_same (CreditAbove m) (CreditAbove n) h = ap (λ (x : ℕ). CreditAbove x) (same_number m n h)
wish_same (DaysOff m) (DaysOff n) h = ap (λ (x : ℕ). DaysOff x) (same_number m n h)
wish_same a b h = absurd (false≢true h)

wish_itself : (a : Wish) → wish.eq-value.it a a ≡ true
wish_itself (Fly p) = number_itself p
wish_itself (Avoid f) = filters_decided.itself f
wish_itself (Prefer n f) = both_true (n == n) (pointwise atom.eq-value.it f f) (number_itself n) (filters_decided.itself f)
wish_itself (Off a b) = both_true (a == a) (b == b) (number_itself a) (number_itself b)
wish_itself (CreditBelow m) = number_itself m
wish_itself (CreditAbove m) = number_itself m
wish_itself (DaysOff n) = number_itself n

abbrev weighed : ℕ → Wish → Bid
weighed weight asked = record { weight = weight; wish = asked }

bids_decided : Decides bid.eq-value.it
bids_decided = record {
  same = λ x y h.
      let p = and_parts (x.weight == y.weight) (wish.eq-value.it x.wish y.wish) h in
      ap (λ (w : ℕ). weighed w x.wish) (same_number x.weight y.weight p.0) ∙ ap (weighed y.weight) (wish_same x.wish y.wish p.1);
  itself = λ x. both_true (x.weight == x.weight) (wish.eq-value.it x.wish x.wish) (number_itself x.weight) (wish_itself x.wish);
}

pub same_bids : (xs ys : List Bid) (result : Bool) → result ≡ pointwise bid.eq-value.it xs ys → (result ≡ true → xs ≡ ys) × (xs ≡ ys → result ≡ true)
same_bids xs ys result is =
    let all = lists_decided bid.eq-value.it bids_decided in
    (λ h. all.same xs ys (sym is ∙ h), λ e. is ∙ ap (λ (zs : List Bid). pointwise bid.eq-value.it xs zs) (sym e) ∙ all.itself xs)
