-- Rest and overlap by end points.
use Rattle.std.proofs.Common.{◌≡◌, ℕ, ◌+◌, ◌-◌, ◌<◌, ◌≤◌, max, Bool, true, false, ◌&&◌, ◌||◌, List, [], ◌∷◌, refl, sym, ◌∙◌, arith, inl, inr}
use Rattle.std.specs.Prelude.{nat_lt, nat_le}
use Rattle.std.specs.List.{list_any, AllByRecursion}
use Rattle.std.proofs.lemmas.Bool.{and_parts, and_from, false≢true, cases_Bool}
use Rattle.std.proofs.lemmas.Bool.Decides.{nat_tests}
use Rattle.std.proofs.lemmas.List.Elements.{recursion_from_All, All-from_recursion}
use Rattle.duty_calendar.specs.declared.event.Event.{Event}
use Rattle.duty_calendar.specs.declared.interval.Interval.{Interval}
use Rattle.duty_calendar.specs.Minutes.{is_in, is_between, is_duty, is_flight, is_duty_minute}
use Rattle.duty_calendar.specs.Limits.{AtReports, IsRested}
use Rattle.line_items.specs.Clear.{is_tiring, is_tired_by, is_crossing}

-- a test that fails everywhere
pub or_false : (a b : Bool) → a ≡ false → b ≡ false → (a || b) ≡ false
or_false true b p q = cc
or_false false b p q = q

pub or_false_first : (a b : Bool) → (a || b) ≡ false → a ≡ false
or_false_first true b p = p
or_false_first false b p = refl

pub or_false_second : (a b : Bool) → (a || b) ≡ false → b ≡ false
or_false_second true b p = cc
or_false_second false b p = p

pub none_by : {X : Type 0} (P : X → Type 0) (f : X → Bool) (xs : List X) → AllByRecursion P xs → ((x : X) → P x → f x ≡ false) → list_any f xs ≡ false
none_by P f [] all h = refl
none_by P f (x ∷ xs) all h = or_false (f x) (list_any f xs) (h x all.0) (none_by P f xs all.1 h)

pub none_parts : {X : Type 0} (f : X → Bool) (xs : List X) → list_any f xs ≡ false → AllByRecursion (λ x. f x ≡ false) xs
none_parts f [] h = tt
none_parts f (x ∷ xs) h = (or_false_first (f x) (list_any f xs) h, none_parts f xs (or_false_second (f x) (list_any f xs) h))

and_none : (a b : Bool) → (a ≡ true → b ≡ false) → (a && b) ≡ false
and_none true b h = h refl
and_none false b h = refl

and_none_parts : (a b : Bool) → (a && b) ≡ false → a ≡ true → b ≡ false
and_none_parts true b h e = h
and_none_parts false b h e = absurd (false≢true e)

-- an event whose report comes before its release
pub record Lasts (e : Event) : Type 0 where
  pub lasts : e.report < e.release

-- the rest before a report, by end points
pub untired : (events : List Event) (report : ℕ) → list_any (is_tiring report) events ≡ false → IsRested events report
untired [] report h m lt le = refl
untired (e ∷ es) report h m lt le =
    or_false (is_duty e.kind && is_between e.report e.release m) (is_duty_minute es m)
    (and_none (is_duty e.kind) (is_between e.report e.release m) (λ d.
    let t = and_none_parts (is_duty e.kind) (nat_lt e.report report && nat_lt report (e.release + 600)) (or_false_first (is_tiring report e) (list_any (is_tiring report) es) h) d in
    grind (arith, nat_tests)))
    (untired es report (or_false_second (is_tiring report e) (list_any (is_tiring report) es) h) m lt le)

pub tired_not : (events : List Event) (report : ℕ) → AllByRecursion Lasts events → IsRested events report → list_any (is_tiring report) events ≡ false
tired_not [] report all rested = refl
tired_not (e ∷ es) report all rested =
    or_false (is_tiring report e) (list_any (is_tiring report) es)
    (and_none (is_duty e.kind) (nat_lt e.report report && nat_lt report (e.release + 600)) (λ d.
    elim (cases_Bool (nat_lt e.report report && nat_lt report (e.release + 600))) [
      | inl tiring ↦
          let p = and_parts (nat_lt e.report report) (nat_lt report (e.release + 600)) tiring in
          let a : e.report < report = let t = p.0 in grind (arith, nat_tests) in
          let b : report < e.release + 600 = let t = p.1 in grind (arith, nat_tests) in
          let lasts = all.0.lasts in
          let m = max e.report (report - 600) in
          let free = or_false_first (is_duty e.kind && is_between e.report e.release m) (is_duty_minute es m) (rested m (omega arith) (omega arith)) in
          let outside = and_none_parts (is_duty e.kind) (is_between e.report e.release m) free d in
          let low : nat_le e.report m ≡ true = let x : e.report ≤ m = omega arith in le_true e.report m x in
          let high : nat_lt m e.release ≡ true = let x : m < e.release = omega arith in lt_true m e.release x in
          absurd (false≢true (sym outside ∙ and_from (nat_le e.report m) (nat_lt m e.release) low high))
      | inr none ↦ none
    ]))
    (tired_not es report all.1 (λ m lt le. or_false_second (is_duty e.kind && is_between e.report e.release m) (is_duty_minute es m) (rested m lt le)))
  where
    le_true : (a b : ℕ) → a ≤ b → nat_le a b ≡ true
    le_true a b h = grind (arith, nat_tests)

    lt_true : (a b : ℕ) → a < b → nat_lt a b ≡ true
    lt_true a b h = grind (arith, nat_tests)

-- all rests at once
pub all_rested : (flights events : List Event) → is_tired_by flights events ≡ false → AtReports (IsRested events) flights
all_rested flights events h = All-from_recursion (λ (e : Event). is_flight e.kind ≡ true → IsRested events e.report) flights (go flights h)
  where
    go : (flights : List Event) → is_tired_by flights events ≡ false → AllByRecursion (λ (e : Event). is_flight e.kind ≡ true → IsRested events e.report) flights
    go [] h = tt
    go (e ∷ es) h = (
      (λ f. untired events e.report (and_none_parts (is_flight e.kind) (list_any (is_tiring e.report) events) (or_false_first (is_flight e.kind && list_any (is_tiring e.report) events) (is_tired_by es events) h) f)),
      go es (or_false_second (is_flight e.kind && list_any (is_tiring e.report) events) (is_tired_by es events) h),
    )

pub none_tired : (flights events : List Event) → AllByRecursion Lasts events → AtReports (IsRested events) flights → is_tired_by flights events ≡ false
none_tired flights events lasts all = go flights (recursion_from_All (λ (e : Event). is_flight e.kind ≡ true → IsRested events e.report) flights all)
  where
    go : (flights : List Event) → AllByRecursion (λ (e : Event). is_flight e.kind ≡ true → IsRested events e.report) flights → is_tired_by flights events ≡ false
    go [] all = refl
    go (e ∷ es) all = or_false (is_flight e.kind && list_any (is_tiring e.report) events) (is_tired_by es events) (and_none (is_flight e.kind) (list_any (is_tiring e.report) events) (λ f. tired_not events e.report lasts (all.0 f))) (go es all.1)

-- intervals that are not empty share a minute exactly where they cross
pub record NotEmpty (a : Interval) : Type 0 where
  pub lasts : a.start < a.stop

abbrev pub Disjoint : Interval → Interval → Type 0
Disjoint a b = (m : ℕ) → is_in a m ≡ true → is_in b m ≡ false

pub crossing_not : (a b : Interval) → NotEmpty a → NotEmpty b → Disjoint a b → is_crossing a b ≡ false
crossing_not a b x y apart =
    elim (cases_Bool (is_crossing a b)) [
      | inl cross ↦
          let p = and_parts (nat_lt a.start b.stop) (nat_lt b.start a.stop) cross in
          let c : a.start < b.stop = let t = p.0 in grind (arith, nat_tests) in
          let d : b.start < a.stop = let t = p.1 in grind (arith, nat_tests) in
          let l = x.lasts in
          let k = y.lasts in
          absurd (clash a.start a.stop b.start b.stop c d l k (apart (max a.start b.start)))
      | inr none ↦ none
    ]
  where
    holds : (s t m : ℕ) → s ≤ m → m < t → is_between s t m ≡ true
    holds s t m a b = grind (arith, nat_tests)

    clash : (fs ft gs gt : ℕ) → fs < gt → gs < ft → fs < ft → gs < gt → (is_between fs ft (max fs gs) ≡ true → is_between gs gt (max fs gs) ≡ false) → ⊥
    clash fs ft gs gt c d l k h = false≢true (sym (h (holds fs ft (max fs gs) (omega arith) (omega arith))) ∙ holds gs gt (max fs gs) (omega arith) (omega arith))

pub disjoint_from : (a b : Interval) → is_crossing a b ≡ false → Disjoint a b
disjoint_from a b h m inside =
    elim (cases_Bool (is_in b m)) [
      | inl both ↦ absurd (go a.start a.stop b.start b.stop m h inside both)
      | inr none ↦ none
    ]
  where
    go : (fs ft gs gt m : ℕ) → (nat_lt fs gt && nat_lt gs ft) ≡ false → is_between fs ft m ≡ true → is_between gs gt m ≡ true → ⊥
    go fs ft gs gt m h x y =
        let p = and_parts (nat_le fs m) (nat_lt m ft) x in
        let q = and_parts (nat_le gs m) (nat_lt m gt) y in
        let a : fs ≤ m = let t = p.0 in grind (arith, nat_tests) in
        let b : m < ft = let t = p.1 in grind (arith, nat_tests) in
        let c : gs ≤ m = let t = q.0 in grind (arith, nat_tests) in
        let d : m < gt = let t = q.1 in grind (arith, nat_tests) in
        false≢true (sym h ∙ and_from (nat_lt fs gt) (nat_lt gs ft) (lt_true fs gt (omega arith)) (lt_true gs ft (omega arith)))
      where
        lt_true : (a b : ℕ) → a < b → nat_lt a b ≡ true
        lt_true a b h = grind (arith, nat_tests)
