-- Bids whose names and stations have their forms.
use Rattle.std.proofs.Common.{◌≡◌, ℕ, zero, suc, ◌<◌, List, [], ◌∷◌, length, Bool, true, ◌&&◌, nat_le, nat_lt, All, refl, arith}
use Rattle.std.specs.List.{list_all}
use Rattle.std.proofs.lemmas.Bool.{and_parts}
use Rattle.std.proofs.lemmas.Bool.Decides.{nat_tests}
use Rattle.std.proofs.lemmas.List.Elements.{All-head, All-tail}
use Rattle.duty_calendar.specs.declared.member.Base.{Base}
use Rattle.duty_calendar.specs.declared.member.Member.{Member}
use Rattle.duty_calendar.specs.declared.pairing.Pairing.{Pairing}
use Rattle.duty_calendar.specs.Forms.{is_name, is_station_code}
use Rattle.roster_model.specs.declared.bid.Test.{Test}
use Rattle.roster_model.specs.declared.bid.Test.TheVariants.{Layover, Departs, Arrives, ReportBefore, ReportAfter, ReleaseBefore, ReleaseAfter, Days, OnWeekday, Is}
use Rattle.roster_model.specs.declared.bid.Atom.{Atom}
use Rattle.roster_model.specs.declared.bid.Wish.{Wish}
use Rattle.roster_model.specs.declared.bid.Wish.TheVariants.{Fly, Avoid, Prefer, Off, CreditBelow, CreditAbove, DaysOff}
use Rattle.roster_model.specs.declared.bid.Bid.{Bid}
use Rattle.roster_model.specs.Valid.{is_test, is_filter, is_wish, IsBid, IsValid}
use Rattle.bid_language.specs.Spelling.{name_of}

-- whether the names and stations that a bid speaks of have their forms
abbrev pub is_spelt_test : List Pairing → Test → Bool
is_spelt_test pairings (Layover s) = is_station_code s
is_spelt_test pairings (Departs s) = is_station_code s
is_spelt_test pairings (Arrives s) = is_station_code s
is_spelt_test pairings (ReportBefore c) = true
is_spelt_test pairings (ReportAfter c) = true
is_spelt_test pairings (ReleaseBefore c) = true
is_spelt_test pairings (ReleaseAfter c) = true
is_spelt_test pairings (Days n) = true
is_spelt_test pairings (OnWeekday w) = true
is_spelt_test pairings (Is p) = is_name (name_of pairings p)

abbrev pub is_spelt_filter : List Pairing → List Atom → Bool
is_spelt_filter pairings atoms = list_all (λ a. is_spelt_test pairings a.test) atoms

abbrev pub is_spelt_wish : Base → Wish → Bool
is_spelt_wish base (Fly p) = is_name (name_of base.pairings p)
is_spelt_wish base (Avoid f) = is_spelt_filter base.pairings f
is_spelt_wish base (Prefer n f) = is_spelt_filter base.pairings f
is_spelt_wish base (Off first last) = true
is_spelt_wish base (CreditBelow m) = true
is_spelt_wish base (CreditAbove m) = true
is_spelt_wish base (DaysOff n) = true

-- the same of a member with these bids, and of all members
abbrev pub is_spelt_list : Base → Member → List Bid → Bool
is_spelt_list base m [] = true
is_spelt_list base m (b ∷ bs) = is_name m.name && list_all (λ x. is_spelt_wish base x.wish) (b ∷ bs)

abbrev pub are_spelt : Base → List Member → List (List Bid) → Bool
are_spelt base [] lists = true
are_spelt base (m ∷ ms) [] = true
are_spelt base (m ∷ ms) (bs ∷ lists) = is_spelt_list base m bs && are_spelt base ms lists

spelt-name : (ps : List Pairing) (q : ℕ) → All (λ p. is_name p.name ≡ true) ps → nat_lt q (length ps) ≡ true → is_name (name_of ps q) ≡ true
spelt-name [] q all h = let w : q < 0 = grind (arith, nat_tests) in absurd (omega arith)
spelt-name (p ∷ ps) zero all h = All-head (λ (x : Pairing). is_name x.name ≡ true) p ps all
spelt-name (p ∷ ps) (suc q) all h =
    let w : suc q < length (p ∷ ps) = grind (arith, nat_tests) in
    let v : q < length ps = omega arith in
    spelt-name ps q (All-tail (λ (x : Pairing). is_name x.name ≡ true) p ps all) (grind (arith, nat_tests))

module _ (ps : List Pairing) (named : All (λ p. is_name p.name ≡ true) ps) where
  spelt-test : (t : Test) → is_test (length ps) t ≡ true → is_spelt_test ps t ≡ true
  spelt-test (Layover s) h = h
  spelt-test (Departs s) h = h
  spelt-test (Arrives s) h = h
  spelt-test (ReportBefore c) h = refl
  spelt-test (ReportAfter c) h = refl
  spelt-test (ReleaseBefore c) h = refl
  spelt-test (ReleaseAfter c) h = refl
  spelt-test (Days n) h = refl
  spelt-test (OnWeekday w) h = refl
  spelt-test (Is q) h = spelt-name ps q named h

  spelt-atoms : (atoms : List Atom) → list_all (λ a. is_test (length ps) a.test) atoms ≡ true → is_spelt_filter ps atoms ≡ true
  spelt-atoms [] h = refl
  spelt-atoms (a ∷ more) h =
      let p = and_parts (is_test (length ps) a.test) (list_all (λ a. is_test (length ps) a.test) more) h in
      rw (spelt-test a.test p.0, spelt-atoms more p.1) refl

  spelt-filter : (f : List Atom) → is_filter (length ps) f ≡ true → is_spelt_filter ps f ≡ true
  spelt-filter f h =
      spelt-atoms f (and_parts (nat_le 1 (length f) && nat_le (length f) 8) (list_all (λ a. is_test (length ps) a.test) f) h).1

module _ (base : Base) (named : All (λ p. is_name p.name ≡ true) base.pairings) where
  pub spelt-wish : (w : Wish) → is_wish base.rules.horizon (length base.pairings) w ≡ true → is_spelt_wish base w ≡ true
  spelt-wish (Fly p) h = spelt-name base.pairings p named h
  spelt-wish (Avoid f) h = spelt-filter base.pairings named f h
  spelt-wish (Prefer n f) h =
      spelt-filter base.pairings named f (and_parts (nat_le 1 n && nat_le n 600) (is_filter (length base.pairings) f) h).1
  spelt-wish (Off first last) h = refl
  spelt-wish (CreditBelow m) h = refl
  spelt-wish (CreditAbove m) h = refl
  spelt-wish (DaysOff n) h = refl

  spelt-bids : (bids : List Bid) → All (IsBid base.rules.horizon (length base.pairings)) bids → list_all (λ b. is_spelt_wish base b.wish) bids ≡ true
  spelt-bids [] a = refl
  spelt-bids (b ∷ bs) a =
      let form : IsBid base.rules.horizon (length base.pairings) b = All-head (IsBid base.rules.horizon (length base.pairings)) b bs a in
      rw (spelt-wish b.wish form.wish_form, spelt-bids bs (All-tail (IsBid base.rules.horizon (length base.pairings)) b bs a)) refl

  spelt-lists : (ms : List Member) (lists : List (List Bid)) → All (λ m. is_name m.name ≡ true) ms → All (All (IsBid base.rules.horizon (length base.pairings))) lists → are_spelt base ms lists ≡ true
  spelt-lists [] lists a b = refl
  spelt-lists (m ∷ ms) [] a b = refl
  spelt-lists (m ∷ ms) (bs ∷ lists) a b =
      let first = spelt-bids bs (All-head (All (IsBid base.rules.horizon (length base.pairings))) bs lists b) in
      let name : is_name m.name ≡ true = All-head (λ (x : Member). is_name x.name ≡ true) m ms a in
      rw (one bs name first, spelt-lists ms lists (All-tail (λ (x : Member). is_name x.name ≡ true) m ms a) (All-tail (All (IsBid base.rules.horizon (length base.pairings))) bs lists b)) refl
    where
      one : (bs : List Bid) → is_name m.name ≡ true → list_all (λ b. is_spelt_wish base b.wish) bs ≡ true → is_spelt_list base m bs ≡ true
      one [] n f = refl
      one (b ∷ bs) n f = rw (n, f) refl

-- what a problem's bids say has its forms
pub pairings-spelt : (base : Base) (bids : List (List Bid)) → IsValid base bids → All (λ p. is_name p.name ≡ true) base.pairings
pairings-spelt base bids valid k d l = (valid.month.pairings_form.each k d l).named

pub problem-spelt : (base : Base) (bids : List (List Bid)) → IsValid base bids → are_spelt base base.members bids ≡ true
problem-spelt base bids valid =
    spelt-lists base (pairings-spelt base bids valid) base.members bids (λ k d l. (valid.month.members_form.each k d l).named) valid.each_bid
