-- Nights in a row are counted flight by flight, where flights follow one another.
use Rattle.std.proofs.Common.{◌≡◌, ℕ, ◌+◌, ◌-◌, ◌<◌, ◌≤◌, Bool, true, false, ◌&&◌, ◌||◌, List, [], ◌∷◌, ◌++◌, length, get_or, refl, ap, sym, ◌∙◌, subst, arith, inl, inr, ◌⊎◌, append_assoc, length-append}
use Rattle.std.specs.Prelude.{All, AllPairs, Contains, nat_lt}
use Rattle.std.specs.List.{AllByRecursion}
use Rattle.std.specs.List.Sorted.{IsNonDecreasingBy}
use Rattle.std.proofs.lemmas.Bool.{and_parts, cases_Bool, cases_lt, true≢false, ltb-true}
use Rattle.std.proofs.lemmas.Bool.Decides.{nat_tests}
use Rattle.std.proofs.lemmas.List.{get_or-append_right, get_or_default}
use Rattle.std.proofs.lemmas.List.Elements.{All-from_recursion}
use Rattle.duty_calendar.specs.declared.event.Event.{Event}
use Rattle.duty_calendar.specs.Minutes.{is_between, is_flight}
use Rattle.duty_calendar.specs.Events.{HasFlightsApart}
use Rattle.duty_calendar.specs.Nights.{infringes, IsNight, FollowsSoon, KeepsNights}
use Rattle.duty_calendar.proofs.Pairs.{count_from_pairs}
use Rattle.part117_limits.proofs.Breaks.{night_breaks}
use Rattle.part117_limits.proofs.NightRows.{IsCounted, RowEnds, flies_by_night, none_counted, row_with, flown, fourth_found, none_found, grows_by_one}
use Rattle.part117_limits.proofs.Overlaps.{between-parts}
use Rattle.part117_limits.proofs.Rests.{not_true}
use Rattle.line_items.specs.NightRows.{night_after, nights_after, released_after, stays_short}
use Rattle.line_items.proofs.LineParts.{PairsBy, pairs_from}

-- one ends before the other begins
abbrev pub Precedes : Event → Event → Type 0
Precedes d e = d.release ≤ e.report

-- flights that follow one another
pub record AreFlights (flights : List Event) : Type 0 where
  pub lasts : AllByRecursion (λ (e : Event). e.report < e.release) flights
  pub fly : AllByRecursion (λ (e : Event). is_flight e.kind ≡ true) flights
  pub order : PairsBy Precedes flights

-- whether none that begins in the month or later is a fourth night
abbrev pub keeps_short : ℕ → ℕ → List Event → Bool
keeps_short nights released [] = true
keeps_short nights released (e ∷ es) =
    (nat_lt (night_after nights released e) 4 || nat_lt e.report 525600) && keeps_short (night_after nights released e) e.release es

module _ (flights : List Event) (are : AreFlights flights) where
  lasting : All (λ e. e.report < e.release) flights
  lasting = All-from_recursion (λ (e : Event). e.report < e.release) flights are.lasts

  pairs : AllPairs Precedes flights
  pairs = pairs_from Precedes flights are.order

  sorted : IsNonDecreasingBy (λ e. e.report) flights
  sorted i j d le inside = elim (cases_lt i j) [
    | inl lt ↦
        let a = pairs i j d lt inside in
        let b = lasting i d (omega arith) in
        omega arith
    | inr ge ↦
        let same : i ≡ j = omega arith in
        let e : (get_or flights i d).report ≡ (get_or flights j d).report = ap (λ (n : ℕ). (get_or flights n d).report) same in
        omega arith
  ]

  apart : HasFlightsApart flights
  apart m =
      count_from_pairs (λ (e : Event). is_flight e.kind && is_between e.report e.release m) flights (λ i j d lt inside first.
      not_true (is_flight (get_or flights j d).kind && is_between (get_or flights j d).report (get_or flights j d).release m) (λ second.
      let x : Event = get_or flights i d in
      let y : Event = get_or flights j d in
      let a = between-parts x.report x.release m (and_parts (is_flight x.kind) (is_between x.report x.release m) first).1 in
      let b = between-parts y.report y.release m (and_parts (is_flight y.kind) (is_between y.report y.release m) second).1 in
      let o : x.release ≤ y.report = pairs i j d lt inside in
      omega (arith, o, a, b)))

  flies_at : All (λ e. is_flight e.kind ≡ true) flights
  flies_at = All-from_recursion (λ (e : Event). is_flight e.kind ≡ true) flights are.fly

  -- what is known behind the first flights
  record Stands (done rest : List Event) (nights released : ℕ) : Type 0 where
    whole : flights ≡ done ++ rest
    counted : IsCounted flights (length done) nights released

  inside_at : (done rest : List Event) (x : Event) → flights ≡ done ++ x ∷ rest → length done < length flights
  inside_at done rest x whole =
      let e : length flights ≡ length done + length (x ∷ rest) = ap (λ (es : List Event). length es) whole ∙ length-append done (x ∷ rest) in
      omega arith

  here_at : (done rest : List Event) (x : Event) → flights ≡ done ++ x ∷ rest → get_or flights (length done) x ≡ x
  here_at done rest x whole =
      ap (λ (es : List Event). get_or es (length done) x) whole
      ∙ get_or-append_right done (x ∷ rest) (length done) (length done) x refl (omega arith)
      ∙ ap (λ (n : ℕ). get_or (x ∷ rest) n x) (let none : length done - length done ≡ 0 = omega arith in none)

  row_at : (done rest : List Event) (x : Event) (nights released : ℕ) → Stands done (x ∷ rest) nights released
      → RowEnds flights (length done + 1) (length done) x (night_after nights released x) x.release
  row_at done rest x nights released s =
      let inside = inside_at done rest x s.whole in
      let here = here_at done rest x s.whole in
      let flies : is_flight x.kind ≡ true = subst (λ (e : Event). is_flight e.kind ≡ true) here (flies_at (length done) x inside) in
      row_with flights sorted lasting apart (length done) x inside here flies nights released (night_after nights released x) s.counted.row refl

  on : (done rest : List Event) (x : Event) (nights released : ℕ) → Stands done (x ∷ rest) nights released
      → (4 ≤ night_after nights released x → x.report < 525600)
      → Stands (done ++ x ∷ []) rest (night_after nights released x) x.release
  on done rest x nights released s soon = record {
    whole = s.whole ∙ sym (append_assoc done (x ∷ []) rest);
    counted =
        let inside = inside_at done rest x s.whole in
        let here = here_at done rest x s.whole in
        let few : night_after nights released x ≤ nights + 1 = grows_by_one (infringes x) (nat_lt x.report (released + 1800)) nights (night_after nights released x) refl in
        let more : length done + 1 ≡ length (done ++ x ∷ []) = sym (length-append done (x ∷ [])) in
        subst (λ (k : ℕ). IsCounted flights k (night_after nights released x) x.release) more
        (flown flights (length done) x nights released (night_after nights released x) inside (sym here) s.counted (row_at done rest x nights released s) few soon);
  }

  or_soon : (n r : ℕ) → (nat_lt n 4 || nat_lt r 525600) ≡ true → 4 ≤ n → r < 525600
  or_soon n r h many = elim (cases_Bool (nat_lt n 4)) [
    | inl few ↦ let lt : n < 4 = ltb-true n 4 few in absurd (omega arith)
    | inr not_few ↦ ltb-true r 525600 (or_second (nat_lt n 4) (nat_lt r 525600) not_few h)
  ]
    where
      or_second : (a b : Bool) → a ≡ false → (a || b) ≡ true → b ≡ true
      or_second true b e h = absurd (true≢false e)
      or_second false b e h = h

  neither : (n r : ℕ) → (nat_lt n 4 || nat_lt r 525600) ≡ false → (4 ≤ n) × (525600 ≤ r)
  neither n r h = (many n (first (nat_lt n 4) (nat_lt r 525600) h), late r (second (nat_lt n 4) (nat_lt r 525600) h))
    where
      first : (a b : Bool) → (a || b) ≡ false → a ≡ false
      first true b h = absurd (true≢false h)
      first false b h = refl

      second : (a b : Bool) → (a || b) ≡ false → b ≡ false
      second true b h = absurd (true≢false h)
      second false b h = h

      many : (n : ℕ) → nat_lt n 4 ≡ false → 4 ≤ n
      many n h = grind (arith, nat_tests)

      late : (n : ℕ) → nat_lt n 525600 ≡ false → 525600 ≤ n
      late n h = grind (arith, nat_tests)

  keeps_from : (done rest : List Event) (nights released : ℕ) → Stands done rest nights released
      → keeps_short nights released rest ≡ true → KeepsNights flights
  keeps_from done [] nights released s short =
      let e : length flights ≡ length done + length {A = Event} [] = ap (λ (es : List Event). length es) s.whole ∙ length-append done [] in
      none_found flights (length done) nights released (omega arith) s.counted
  keeps_from done (x ∷ rest) nights released s short =
      let parts = and_parts (nat_lt (night_after nights released x) 4 || nat_lt x.report 525600) (keeps_short (night_after nights released x) x.release rest) short in
      keeps_from (done ++ x ∷ []) rest (night_after nights released x) x.release
      (on done rest x nights released s (or_soon (night_after nights released x) x.report parts.0)) parts.1

  keeps_to : (done rest : List Event) (nights released : ℕ) → Stands done rest nights released
      → KeepsNights flights → keeps_short nights released rest ≡ true
  keeps_to done [] nights released s keeps = refl
  keeps_to done (x ∷ rest) nights released s keeps =
      go (nat_lt (night_after nights released x) 4 || nat_lt x.report 525600) refl
      (λ soon. keeps_to (done ++ x ∷ []) rest (night_after nights released x) x.release (on done rest x nights released s soon) keeps)
    where
      go : (b : Bool) → (nat_lt (night_after nights released x) 4 || nat_lt x.report 525600) ≡ b
          → ((4 ≤ night_after nights released x → x.report < 525600) → keeps_short (night_after nights released x) x.release rest ≡ true)
          → (b && keeps_short (night_after nights released x) x.release rest) ≡ true
      go true e more = more (or_soon (night_after nights released x) x.report e)
      go false e more =
          let both = neither (night_after nights released x) x.report e in
          let inside = inside_at done rest x s.whole in
          let here = here_at done rest x s.whole in
          absurd (night_breaks flights x.report
          (fourth_found flights (length done) x nights released (night_after nights released x) sorted inside (sym here) s.counted (row_at done rest x nights released s) both.0 both.1) keeps)

  source : Stands [] flights 0 0
  source = record { whole = refl; counted = none_counted flights }

  pub short_from : keeps_short 0 0 flights ≡ true → KeepsNights flights
  short_from = keeps_from [] flights 0 0 source

  pub short_to : KeepsNights flights → keeps_short 0 0 flights ≡ true
  short_to = keeps_to [] flights 0 0 source

-- flights before the month and flights of it
pub short_early : (es fs : List Event) (nights released : ℕ) → AllByRecursion (λ (e : Event). e.report < 525600) es
    → keeps_short nights released (es ++ fs) ≡ keeps_short (nights_after nights released es) (released_after released es) fs
short_early [] fs nights released early = refl
short_early (e ∷ es) fs nights released early =
    go (nat_lt (night_after nights released e) 4) (nat_lt e.report 525600) (keeps_short (night_after nights released e) e.release (es ++ fs)) (soon e.report early.0)
    ∙ short_early es fs (night_after nights released e) e.release early.1
  where
    soon : (r : ℕ) → r < 525600 → nat_lt r 525600 ≡ true
    soon r lt = grind (arith, nat_tests)

    go : (a b c : Bool) → b ≡ true → ((a || b) && c) ≡ c
    go true b c e = refl
    go false true c e = refl
    go false false c e = absurd (true≢false (sym e))

pub short_late : (fs : List Event) (nights released : ℕ) → AllByRecursion (λ (e : Event). 525600 ≤ e.report) fs
    → keeps_short nights released fs ≡ stays_short nights released fs
short_late [] nights released late = refl
short_late (e ∷ es) nights released late =
    go (nat_lt (night_after nights released e) 4) (nat_lt e.report 525600) (keeps_short (night_after nights released e) e.release es) (past e.report late.0)
    ∙ ap (λ (b : Bool). nat_lt (night_after nights released e) 4 && b) (short_late es (night_after nights released e) e.release late.1)
  where
    past : (r : ℕ) → 525600 ≤ r → nat_lt r 525600 ≡ false
    past r le = grind (arith, nat_tests)

    go : (a b c : Bool) → b ≡ false → ((a || b) && c) ≡ (a && c)
    go true b c e = refl
    go false true c e = absurd (true≢false e)
    go false false c e = refl

-- lists with the same flights
pub record HaveFlights (xs ys : List Event) : Type 0 where
  pub to : (e : Event) → is_flight e.kind ≡ true → Contains xs e → Contains ys e
  pub back : (e : Event) → is_flight e.kind ≡ true → Contains ys e → Contains xs e

pub same_nights : (xs ys : List Event) → HaveFlights xs ys → KeepsNights xs → KeepsNights ys
same_nights xs ys same keeps e late fourth = keeps e late (record {
  first = fourth.first;
  second = fourth.second;
  third = fourth.third;
  nights = (night fourth.first fourth.nights.0, night fourth.second fourth.nights.1, night fourth.third fourth.nights.2, night e fourth.nights.3);
  run = (follows fourth.first fourth.second fourth.run.0, follows fourth.second fourth.third fourth.run.1, follows fourth.third e fourth.run.2);
})
  where
    night : (x : Event) → IsNight ys x → IsNight xs x
    night x n = record { flown = same.back x (flies_by_night x n.low) n.flown; low = n.low }

    follows : (d x : Event) → FollowsSoon ys d x → FollowsSoon xs d x
    follows d x f = record {
      later = f.later;
      soon = f.soon;
      next = λ k g inside flies low high.
          let y : Event = get_or xs k g in
          let there = same.to y flies (k, inside, get_or_default xs k y g inside) in
          let found : is_flight (get_or ys there.0 y).kind ≡ true → d.report ≤ (get_or ys there.0 y).report → (get_or ys there.0 y).report ≤ x.report
          → (get_or ys there.0 y ≡ d) ⊎ (get_or ys there.0 y ≡ x) = f.next there.0 y there.1 in
          (subst (λ (z : Event). is_flight z.kind ≡ true → d.report ≤ z.report → z.report ≤ x.report → (z ≡ d) ⊎ (z ≡ x)) there.2 found) flies low high;
    }

pub other_way : (xs ys : List Event) → HaveFlights xs ys → HaveFlights ys xs
other_way xs ys same = record { to = same.back; back = same.to }
