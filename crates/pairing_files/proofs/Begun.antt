-- Pairings whose duties and legs are still being read: what they keep.
use Rattle.std.proofs.Common.{◌≡◌, ◌≢◌, ℕ, ◌+◌, ◌-◌, ◌<◌, ◌≤◌, List, [], ◌∷◌, ◌++◌, length, map, Bool, true, false, not, ◌&&◌, ◌||◌, ◌==◌, nat_lt, nat_le, nat_eq, if◌then◌else◌, Option, Some, None, slice_get, slice_set, All, AllPairs, refl, arith, sym, ap, subst, ◌∙◌, inl, inr, length-append}
use Rattle.std.specs.Cmp.Lexicographic.{pointwise}
use Rattle.std.specs.List.{list_any}
use Rattle.std.specs.Prelude.{IsTrue}
use Rattle.std.specs.Option.{ForSome, option_map_or}
use Rattle.std.proofs.Math.ListN.{length-set}
use Rattle.std.proofs.Math.Seq.{map-set_same}
use Rattle.std.proofs.lemmas.Bool.Decides.{nat_tests}
use Rattle.std.proofs.lemmas.List.Elements.{All-nil, All-push, All-set, All-map, All-weaker}
use Rattle.std.proofs.lemmas.Option.{get_or_from_slice_get, slice_get_within}
use Rattle.duty_calendar.specs.Calendar.{month_end, horizon_end}
use Rattle.duty_calendar.specs.Forms.{is_name, is_station_code}
use Rattle.duty_calendar.specs.declared.horizon.Horizon.{Horizon}
use Rattle.duty_calendar.specs.declared.pairing.Duty.{Duty}
use Rattle.duty_calendar.specs.declared.pairing.Leg.{Leg}
use Rattle.duty_calendar.specs.declared.pairing.Pairing.{Pairing}
use Rattle.field_text.specs.declared.file_fault.FileCode.TheVariants.{Duplicate, Order, OutsideMonth, InnerRest, Limit}
use Rattle.pairing_files.specs.declared.tables.Place.{Place}
use Rattle.pairing_files.specs.Drafts.{Draft, is_called, adding_duty, adding_leg, with_pairing, with_duty, with_leg}
use Rattle.pairing_files.specs.Faults.{last_of, pairing_fault, is_duty_in_order, is_in_month, month_fault, rest_fault, report_fault, too_many, first_fault, duty_fault, is_leg_within, is_before_last, leg_fault}
use Rattle.pairing_files.proofs.Inverse.{four-pass, two-pass, both-none, or-false, and-true, lt-false, lt-true, le-false, le-true}
use Rattle.pairing_files.proofs.ListFacts.{all-get, get-left, get-end, get-pushed, get-set, pairs-weaker, pairs-push, pairs-set, order-push, list_any-false}
use Rattle.pairing_files.proofs.NameFacts.{map-append_of}

pub record IsBegunDuty (d : Duty) : Type 0 where
  pub reported : d.report ≤ d.parked
  pub parked : d.parked ≤ d.release
  pub lasts : d.report < d.release
  pub few_legs : length d.legs ≤ 8
  pub legs : All (λ l. (d.report ≤ l.flown.out_at) × (l.flown.out_at < l.flown.in_at) × (l.flown.in_at ≤ d.parked)) d.legs
  pub in_order : AllPairs (λ k l. k.flown.in_at ≤ l.flown.out_at) d.legs
  pub stations : All (λ l. IsTrue (is_station_code l.from) × IsTrue (is_station_code l.to)) d.legs
  pub stays : ForSome d.layover (λ s. IsTrue (is_station_code s))

pub record IsBegun (h : Horizon) (p : Pairing) : Type 0 where
  pub named : IsTrue (is_name p.name)
  pub some_need : 1 ≤ p.need
  pub few_need : p.need ≤ 9
  pub few_credit : p.credit ≤ 12000
  pub few_duties : length p.duties ≤ 12
  pub each_duty : All IsBegunDuty p.duties
  pub in_order : AllPairs (λ d e. d.release + 600 ≤ e.report) p.duties
  pub coming : All (λ d. 525600 ≤ d.report) p.duties
  pub begins : ForSome (slice_get p.duties 0) (λ d. d.report < month_end h)
  pub ends : All (λ d. d.release ≤ horizon_end h) p.duties

abbrev pub place_at : ℕ → ℕ → Place
place_at i k = record { pairing = i; duty = k }

-- each duty stands at one of the places
abbrev pub Covers : List Place → List Pairing → Type 0
Covers places list =
    (i k : ℕ) (p : Pairing) (e : Duty) → slice_get list i ≡ Some p → slice_get p.duties k ≡ Some e → (j : ℕ) × (slice_get places j ≡ Some (place_at i k))

abbrev pub names_of : List Pairing → List (List ℕ)
names_of list = map (λ p. p.name) list

pub record IsBegunDraft (h : Horizon) (d : Draft) : Type 0 where
  pub few : length d.list ≤ 600
  pub each : All (IsBegun h) d.list
  pub names : AllPairs (λ a b. a ≢ b) (names_of d.list)
  pub covered : Covers d.places d.list

-- a pairing

pub same-self : (xs : List ℕ) → pointwise nat_eq xs xs ≡ true
same-self [] = refl
same-self (x ∷ xs) = let e : nat_eq x x ≡ true = grind (arith, nat_tests) in rw (e, same-self xs) refl

-- no pairing before has the name
pub other-names : (list : List Pairing) (name : List ℕ) → list_any (is_called name) list ≡ false → All (λ a. a ≢ name) (names_of list)
other-names list name none =
    All-map (λ (a : List ℕ). a ≢ name) (λ (p : Pairing). p.name) list
    (All-weaker (λ (p : Pairing). is_called name p ≡ false) (λ (p : Pairing). p.name ≢ name)
    (λ (p : Pairing). λ miss. λ same. let hit : pointwise nat_eq name p.name ≡ true = ap (λ (n : List ℕ). pointwise nat_eq name n) same ∙ same-self name in cc (sym hit ∙ miss))
    list (list_any-false (is_called name) list none))

pub begun-pairing : (h : Horizon) (p : Pairing) → IsTrue (is_name p.name) → p.duties ≡ [] → 1 ≤ p.need → p.need ≤ 9 → p.credit ≤ 12000 → IsBegun h p
begun-pairing h p named none some few credit = record {
  named = named;
  some_need = some;
  few_need = few;
  few_credit = credit;
  few_duties = omega (arith, ap length none);
  each_duty = subst (λ (ds : List Duty). All IsBegunDuty ds) (sym none) (All-nil IsBegunDuty);
  in_order = subst (λ (ds : List Duty). AllPairs (λ (d e : Duty). d.release + 600 ≤ e.report) ds) (sym none) (λ i j d lt within. absurd (omega arith));
  coming = subst (λ (ds : List Duty). All (λ (d : Duty). 525600 ≤ d.report) ds) (sym none) (All-nil (λ (d : Duty). 525600 ≤ d.report));
  begins = subst (λ (ds : List Duty). ForSome (slice_get ds 0) (λ (d : Duty). d.report < month_end h)) (sym none) (λ x e. absurd (cc e));
  ends = subst (λ (ds : List Duty). All (λ (d : Duty). d.release ≤ horizon_end h) ds) (sym none) (All-nil (λ (d : Duty). d.release ≤ horizon_end h));
}

no-duty : (p : Pairing) (k : ℕ) (e : Duty) → p.duties ≡ [] → slice_get p.duties k ≡ Some e → ⊥
no-duty p k e none at = let f : slice_get [] k ≡ Some e = ap (λ (ds : List Duty). slice_get ds k) (sym none) ∙ at in cc f

covers-pairing : (places : List Place) (list : List Pairing) (p : Pairing) → p.duties ≡ [] → Covers places list → Covers places (list ++ p ∷ [])
covers-pairing places list p none covers i k q e at there = elim (get-pushed list p i q at) [
  | inl old ↦ covers i k q e old there
  | inr new ↦ absurd (no-duty p k e none (ap (λ (x : Pairing). slice_get x.duties k) (sym new.1) ∙ there))
]

pub keeps-pairing : (h : Horizon) (before : Draft) (p : Pairing) → IsBegunDraft h before → IsTrue (is_name p.name) → p.duties ≡ [] → pairing_fault before.list p ≡ None → IsBegunDraft h (with_pairing before p)
keeps-pairing h before p good named none fits =
    let pass = four-pass (list_any (is_called p.name) before.list) (nat_le 600 (length before.list)) (nat_lt p.need 1 || nat_lt 9 p.need) (nat_lt 12000 p.credit) Duplicate (Limit 2) (Limit 5) (Limit 6) fits in
    let room : length before.list < 600 = le-false 600 (length before.list) pass.1 in
    let need = or-false (nat_lt p.need 1) (nat_lt 9 p.need) pass.2 in
    let some : 1 ≤ p.need = lt-false p.need 1 need.0 in
    let few : p.need ≤ 9 = lt-false 9 p.need need.1 in
    let credit : p.credit ≤ 12000 = lt-false 12000 p.credit pass.3 in
    record {
      few = omega (arith, length-append before.list (p ∷ []));
      each = All-push (IsBegun h) before.list p good.each (begun-pairing h p named none some few credit);
      names = subst (λ (ns : List (List ℕ)). AllPairs (λ (a b : List ℕ). a ≢ b) ns) (sym (map-append_of (λ (x : Pairing). x.name) before.list (p ∷ [])))
          (pairs-push (λ (a b : List ℕ). a ≢ b) (names_of before.list) p.name good.names (other-names before.list p.name pass.0));
      covered = covers-pairing before.places before.list p none good.covered;
    }

-- a duty

rest-passes : (e : Duty) (report : ℕ) → rest_fault e report ≡ None → e.release + 600 ≤ report
rest-passes e report fits = go (nat_lt report e.release) (nat_lt report (e.release + 600)) refl fits
  where
    go : (a b : Bool) → nat_lt report (e.release + 600) ≡ b → (if a then Some Order else (if b then Some InnerRest else None)) ≡ None → e.release + 600 ≤ report
    go true b f g = absurd (cc g)
    go false true f g = absurd (cc g)
    go false false f g = lt-false report (e.release + 600) f

pub after-last : (h : Horizon) (o : Option Duty) (l : Duty) (report : ℕ) → o ≡ Some l → report_fault h o report ≡ None → l.release + 600 ≤ report
after-last h None l report e fits = absurd (cc e)
after-last h (Some d) l report e fits = let same : d ≡ l = cc e in subst (λ (x : Duty). x.release + 600 ≤ report) same (rest-passes d report fits)

month-passes : (h : Horizon) (report : ℕ) → month_fault h report ≡ None → (525600 ≤ report) × (report < month_end h)
month-passes h report fits = go (is_in_month h report) refl fits
  where
    go : (b : Bool) → is_in_month h report ≡ b → (if b then None else Some OutsideMonth) ≡ None → (525600 ≤ report) × (report < month_end h)
    go true f g = let parts = and-true (nat_le 525600 report) (nat_lt report (month_end h)) f in (le-true 525600 report parts.0, lt-true report (month_end h) parts.1)
    go false f g = absurd (cc g)

pub first-in-month : (h : Horizon) (o : Option Duty) (report : ℕ) → o ≡ None → report_fault h o report ≡ None → (525600 ≤ report) × (report < month_end h)
first-in-month h None report e fits = month-passes h report fits
first-in-month h (Some d) report e fits = absurd (cc e)

some-fits : {A : Type 0} (most number : ℕ) (xs : List A) → too_many most number xs ≡ None → length xs < most
some-fits most number xs fits = go (nat_le most (length xs)) refl fits
  where
    go : (b : Bool) → nat_le most (length xs) ≡ b → (if b then Some (Limit number) else None) ≡ None → length xs < most
    go true f g = absurd (cc g)
    go false f g = le-false most (length xs) f

abbrev pub Stays : Duty → Type 0
Stays d = ForSome d.layover (λ s. IsTrue (is_station_code s))

abbrev pub Joins : Leg → Type 0
Joins l = IsTrue (is_station_code l.from) × IsTrue (is_station_code l.to)

pub begun-duty : (d : Duty) → Stays d → d.legs ≡ [] → is_duty_in_order d ≡ true → IsBegunDuty d
begun-duty d stays none order =
    let outer = and-true (nat_le d.report d.parked && nat_le d.parked d.release) (nat_lt d.report d.release) order in
    let inner = and-true (nat_le d.report d.parked) (nat_le d.parked d.release) outer.0 in
    record {
      reported = le-true d.report d.parked inner.0;
      parked = le-true d.parked d.release inner.1;
      lasts = lt-true d.report d.release outer.1;
      few_legs = omega (arith, ap length none);
      legs = subst (λ (ls : List Leg). All (λ (l : Leg). (d.report ≤ l.flown.out_at) × (l.flown.out_at < l.flown.in_at) × (l.flown.in_at ≤ d.parked)) ls) (sym none) (λ k x w. absurd (omega arith));
      in_order = subst (λ (ls : List Leg). AllPairs (λ (k l : Leg). k.flown.in_at ≤ l.flown.out_at) ls) (sym none) (λ i j x lt w. absurd (omega arith));
      stations = subst (λ (ls : List Leg). All Joins ls) (sym none) (All-nil Joins);
      stays = stays;
    }

lasting : (ds : List Duty) → All IsBegunDuty ds → All (λ d. d.report ≤ d.release) ds
lasting ds all = All-weaker IsBegunDuty (λ (d : Duty). d.report ≤ d.release) (λ (d : Duty). λ b. let x : d.report ≤ d.parked = b.reported in let y : d.parked ≤ d.release = b.parked in omega arith) ds all

-- a pairing's next duty comes in the month or later
later : (h : Horizon) (p : Pairing) (d : Duty) → IsBegun h p → report_fault h (last_of p.duties) d.report ≡ None → 525600 ≤ d.report
later h p d good fits = go (last_of p.duties) refl fits
  where
    go : (o : Option Duty) → last_of p.duties ≡ o → report_fault h o d.report ≡ None → 525600 ≤ d.report
    go None e f = (first-in-month h None d.report refl f).0
    go (Some l) e f =
        let rest : l.release + 600 ≤ d.report = after-last h (Some l) l d.report refl f in
        let came : 525600 ≤ l.report = all-get (λ (x : Duty). 525600 ≤ x.report) p.duties (length p.duties - 1) l good.coming e in
        let lasts : l.report ≤ l.release = all-get (λ (x : Duty). x.report ≤ x.release) p.duties (length p.duties - 1) l (lasting p.duties good.each_duty) e in
        omega arith

-- the first duty of a pairing that got one more
still-begins : (h : Horizon) (p : Pairing) (d : Duty) → IsBegun h p → report_fault h (last_of p.duties) d.report ≡ None → ForSome (slice_get (p.duties ++ d ∷ []) 0) (λ x. x.report < month_end h)
still-begins h p d good fits x at = elim (get-pushed p.duties d 0 x at) [
  | inl old ↦ good.begins x old
  | inr new ↦ subst (λ (y : Duty). y.report < month_end h) (sym new.1) (go (last_of p.duties) refl fits new.0)
]
  where
    go : (o : Option Duty) → last_of p.duties ≡ o → report_fault h o d.report ≡ None → 0 ≡ length p.duties → d.report < month_end h
    go None e f zero_many = (first-in-month h None d.report refl f).1
    go (Some l) e f zero_many = absurd (let w = slice_get_within p.duties (length p.duties - 1) l e in omega arith)

pub begun-more : (h : Horizon) (p : Pairing) (number : ℕ) (d : Duty) → IsBegun h p → Stays d → d.legs ≡ [] → d.release ≤ horizon_end h → duty_fault h p number d ≡ None → IsBegun h (adding_duty p d)
begun-more h p number d good stays none within fits =
    let pass = two-pass (number == length p.duties + 1) (is_duty_in_order d) Order Order (first_fault (report_fault h (last_of p.duties) d.report) (too_many 12 3 p.duties)) fits in
    let both = both-none (report_fault h (last_of p.duties) d.report) (too_many 12 3 p.duties) pass.2 in
    let room : length p.duties < 12 = some-fits 12 3 p.duties both.1 in
    record {
      named = good.named;
      some_need = good.some_need;
      few_need = good.few_need;
      few_credit = good.few_credit;
      few_duties = omega (arith, length-append p.duties (d ∷ []));
      each_duty = All-push IsBegunDuty p.duties d good.each_duty (begun-duty d stays none pass.1);
      in_order = order-push (λ (x : Duty). x.report) (λ (x : Duty). x.release) 600 p.duties d (lasting p.duties good.each_duty) good.in_order
          (λ (l : Duty). λ e. after-last h (last_of p.duties) l d.report e both.0);
      coming = All-push (λ (x : Duty). 525600 ≤ x.report) p.duties d good.coming (later h p d good both.0);
      begins = still-begins h p d good both.0;
      ends = All-push (λ (x : Duty). x.release ≤ horizon_end h) p.duties d good.ends within;
    }

-- a pairing that keeps its name leaves the names apart
names-stay : (list : List Pairing) (i : ℕ) (p q : Pairing) → slice_get list i ≡ Some p → q.name ≡ p.name → AllPairs (λ a b. a ≢ b) (names_of list) → AllPairs (λ a b. a ≢ b) (names_of (slice_set list i q))
names-stay list i p q at same apart =
    let still : names_of (slice_set list i q) ≡ names_of list = map-set_same (λ (x : Pairing). x.name) list i q p (same ∙ ap (λ (x : Pairing). x.name) (sym (get_or_from_slice_get list i p p at))) in
    subst (λ (ns : List (List ℕ)). AllPairs (λ (a b : List ℕ). a ≢ b) ns) (sym still) apart

covers-duty : (places : List Place) (list : List Pairing) (n : ℕ) (p : Pairing) (d : Duty) → slice_get list n ≡ Some p → Covers places list
    → Covers (places ++ place_at n (length p.duties) ∷ []) (slice_set list n (adding_duty p d))
covers-duty places list n p d at covers i k q e here there =
    let z : Place = place_at n (length p.duties) in
    elim (get-set list n i (adding_duty p d) q here) [
      | inl new ↦ elim (get-pushed p.duties d k e (ap (λ (x : Pairing). slice_get x.duties k) (sym new.1) ∙ there)) [
        | inl old ↦ let c = covers i k p e (ap (slice_get list) new.0 ∙ at) old in (c.0, get-left places (z ∷ []) c.0 (place_at i k) c.1)
        | inr last ↦
            let one : place_at n (length p.duties) ≡ place_at i (length p.duties) = ap (λ (m : ℕ). place_at m (length p.duties)) (sym new.0) in
            let two : place_at i (length p.duties) ≡ place_at i k = ap (λ (m : ℕ). place_at i m) (sym last.0) in
            (length places, get-end places z ∙ ap (λ (x : Place). Some x) (one ∙ two))
      ]
      | inr old ↦ let c = covers i k q e old there in (c.0, get-left places (z ∷ []) c.0 (place_at i k) c.1)
    ]

pub keeps-duty : (h : Horizon) (before : Draft) (i : ℕ) (p : Pairing) (number : ℕ) (d : Duty) → IsBegunDraft h before → slice_get before.list i ≡ Some p → Stays d → d.legs ≡ [] → d.release ≤ horizon_end h → duty_fault h p number d ≡ None
    → IsBegunDraft h (with_duty before i p d)
keeps-duty h before i p number d good at stays none within fits = record {
  few = omega (arith, length-set before.list i (adding_duty p d), good.few);
  each = All-set (IsBegun h) before.list i (adding_duty p d) (begun-more h p number d (all-get (IsBegun h) before.list i p good.each at) stays none within fits) good.each;
  names = names-stay before.list i p (adding_duty p d) at refl good.names;
  covered = covers-duty before.places before.list i p d at good.covered;
}

-- a leg

leg-passes : (d : Duty) (l : Leg) → leg_fault d l ≡ None → (is_leg_within d l ≡ true) × (is_before_last d.legs l ≡ false) × (length d.legs < 8)
leg-passes d l fits = go (is_leg_within d l) (is_before_last d.legs l) refl refl fits
  where
    go : (a b : Bool) → is_leg_within d l ≡ a → is_before_last d.legs l ≡ b → (if not a then Some Order else (if b then Some Order else too_many 8 4 d.legs)) ≡ None
        → (is_leg_within d l ≡ true) × (is_before_last d.legs l ≡ false) × (length d.legs < 8)
    go true false e f g = (e, f, some-fits 8 4 d.legs g)
    go true true e f g = absurd (cc g)
    go false b e f g = absurd (cc g)

not-before : (o : Option Leg) (k l : Leg) → o ≡ Some k → option_map_or (λ m. nat_lt l.flown.out_at m.flown.in_at) o false ≡ false → k.flown.in_at ≤ l.flown.out_at
not-before None k l e f = absurd (cc e)
not-before (Some m) k l e f = let same : m ≡ k = cc e in subst (λ (x : Leg). x.flown.in_at ≤ l.flown.out_at) same (lt-false l.flown.out_at m.flown.in_at f)

flying : (d : Duty) → IsBegunDuty d → All (λ l. l.flown.out_at ≤ l.flown.in_at) d.legs
flying d good = All-weaker (λ (l : Leg). (d.report ≤ l.flown.out_at) × (l.flown.out_at < l.flown.in_at) × (l.flown.in_at ≤ d.parked)) (λ (l : Leg). l.flown.out_at ≤ l.flown.in_at)
    (λ (l : Leg). λ b. let x : l.flown.out_at < l.flown.in_at = b.1 in omega arith) d.legs good.legs

pub begun-leg : (d : Duty) (l : Leg) → IsBegunDuty d → Joins l → leg_fault d l ≡ None → IsBegunDuty (adding_leg d l)
begun-leg d l good joins fits =
    let pass = leg-passes d l fits in
    let room : length d.legs < 8 = pass.2 in
    let outer = and-true (nat_le d.report l.flown.out_at && nat_lt l.flown.out_at l.flown.in_at) (nat_le l.flown.in_at d.parked) pass.0 in
    let inner = and-true (nat_le d.report l.flown.out_at) (nat_lt l.flown.out_at l.flown.in_at) outer.0 in
    record {
      reported = good.reported;
      parked = good.parked;
      lasts = good.lasts;
      few_legs = omega (arith, length-append d.legs (l ∷ []));
      legs = All-push (λ (m : Leg). (d.report ≤ m.flown.out_at) × (m.flown.out_at < m.flown.in_at) × (m.flown.in_at ≤ d.parked)) d.legs l good.legs
          (le-true d.report l.flown.out_at inner.0, lt-true l.flown.out_at l.flown.in_at inner.1, le-true l.flown.in_at d.parked outer.1);
      in_order = pairs-weaker (λ (k m : Leg). k.flown.in_at + 0 ≤ m.flown.out_at) (λ (k m : Leg). k.flown.in_at ≤ m.flown.out_at) (d.legs ++ l ∷ []) (λ (a b : Leg). λ e. omega arith)
          (order-push (λ (m : Leg). m.flown.out_at) (λ (m : Leg). m.flown.in_at) 0 d.legs l (flying d good)
          (pairs-weaker (λ (k m : Leg). k.flown.in_at ≤ m.flown.out_at) (λ (k m : Leg). k.flown.in_at + 0 ≤ m.flown.out_at) d.legs (λ (a b : Leg). λ e. omega arith) good.in_order)
          (λ (k : Leg). λ e. let f : k.flown.in_at ≤ l.flown.out_at = not-before (last_of d.legs) k l e pass.1 in omega arith));
      stations = All-push Joins d.legs l good.stations joins;
      stays = good.stays;
    }

abbrev changed : Pairing → ℕ → Duty → Pairing
changed p k d = record p { duties = slice_set p.duties k d }

-- a duty of the same times in the place of another
begun-changed : (h : Horizon) (p : Pairing) (k : ℕ) (d e : Duty) → IsBegun h p → slice_get p.duties k ≡ Some d → IsBegunDuty e → e.report ≡ d.report → e.release ≡ d.release → IsBegun h (changed p k e)
begun-changed h p k d e good at begun report release =
    let came : 525600 ≤ d.report = all-get (λ (x : Duty). 525600 ≤ x.report) p.duties k d good.coming at in
    let ended : d.release ≤ horizon_end h = all-get (λ (x : Duty). x.release ≤ horizon_end h) p.duties k d good.ends at in
    record {
      named = good.named;
      some_need = good.some_need;
      few_need = good.few_need;
      few_credit = good.few_credit;
      few_duties = omega (arith, length-set p.duties k e, good.few_duties);
      each_duty = All-set IsBegunDuty p.duties k e begun good.each_duty;
      in_order = pairs-set (λ (x y : Duty). x.release + 600 ≤ y.report) p.duties k d e at (λ (z : Duty). λ b. omega arith) (λ (z : Duty). λ b. omega arith) good.in_order;
      coming = All-set (λ (x : Duty). 525600 ≤ x.report) p.duties k e (omega arith) good.coming;
      begins = λ (x : Duty). λ there. elim (get-set p.duties k 0 e x there) [
        | inl new ↦
            let first : d.report < month_end h = good.begins d (ap (slice_get p.duties) new.0 ∙ at) in
            subst (λ (y : Duty). y.report < month_end h) (sym new.1) (subst (λ (n : ℕ). n < month_end h) (sym report) first)
        | inr old ↦ good.begins x old
      ];
      ends = All-set (λ (x : Duty). x.release ≤ horizon_end h) p.duties k e (subst (λ (n : ℕ). n ≤ horizon_end h) (sym release) ended) good.ends;
    }

covers-changed : (places : List Place) (list : List Pairing) (n : ℕ) (p : Pairing) (m : ℕ) (d f : Duty) → slice_get list n ≡ Some p → slice_get p.duties m ≡ Some d → Covers places list → Covers places (slice_set list n (changed p m f))
covers-changed places list n p m d f at held covers i k q e here there = elim (get-set list n i (changed p m f) q here) [
  | inl new ↦ elim (get-set p.duties m k f e (ap (λ (x : Pairing). slice_get x.duties k) (sym new.1) ∙ there)) [
    | inl both ↦ covers i k p d (ap (slice_get list) new.0 ∙ at) (ap (slice_get p.duties) both.0 ∙ held)
    | inr old ↦ covers i k p e (ap (slice_get list) new.0 ∙ at) old
  ]
  | inr old ↦ covers i k q e old there
]

pub keeps-leg : (h : Horizon) (before : Draft) (i : ℕ) (p : Pairing) (k : ℕ) (d : Duty) (l : Leg) → IsBegunDraft h before → slice_get before.list i ≡ Some p → slice_get p.duties k ≡ Some d → Joins l → leg_fault d l ≡ None
    → IsBegunDraft h (with_leg before i p k d l)
keeps-leg h before i p k d l good at held joins fits =
    let whole = all-get (IsBegun h) before.list i p good.each at in
    let duty = begun-leg d l (all-get IsBegunDuty p.duties k d whole.each_duty held) joins fits in
    record {
      few = omega (arith, length-set before.list i (changed p k (adding_leg d l)), good.few);
      each = All-set (IsBegun h) before.list i (changed p k (adding_leg d l)) (begun-changed h p k d (adding_leg d l) whole held duty refl refl) good.each;
      names = names-stay before.list i p (changed p k (adding_leg d l)) at refl good.names;
      covered = covers-changed before.places before.list i p k d (adding_leg d l) at held good.covered;
    }
