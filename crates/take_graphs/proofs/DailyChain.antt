-- The busy days along what a chain takes are those along its stops.
use Rattle.std.proofs.Common.{◌≡◌, ℕ, ℤ, zero, suc, ◌+◌, ◌-◌, ◌*◌, ◌/◌, ◌<◌, ◌≤◌, Bool, true, false, not, cond, ◌&&◌, ◌||◌, ◌==◌, List, [], ◌∷◌, Option, Some, None, refl, ap, sym, ◌∙◌, arith, inl, inr, ◌⊎◌}
use Rattle.std.specs.Prelude.{slice_get, slice_index_or, map, nat_le, nat_lt, if◌then◌else◌}
use Rattle.std.specs.Option.{option_map_or}
use Rattle.std.proofs.lemmas.Bool.{cases_Bool, and_parts, false≢true}
use Rattle.std.proofs.lemmas.Bool.Decides.{nat_tests}
use Rattle.duty_calendar.specs.Calendar.{month_days}
use Rattle.duty_calendar.specs.declared.interval.Interval.{Interval}
use Rattle.duty_calendar.specs.Minutes.{count_between, is_touching}
use Rattle.duty_calendar.proofs.Counting.{count_between-agree, count_between-or, count_between-none, count_between-one}
use Rattle.label_setter.specs.declared.graph.Arc.{Arc}
use Rattle.label_lattice.specs.declared.dailies.Daily.{Daily}
use Rattle.label_lattice.specs.declared.dailies.DailyStep.{DailyStep}
use Rattle.label_lattice.specs.declared.values.Least.{Least}
use Rattle.label_lattice.specs.declared.values.LeastStep.{LeastStep}
use Rattle.label_lattice.specs.Least.{least_extend}
use Rattle.label_lattice.specs.Daily.{daily_extend, daily_total}
use Rattle.roster_model.specs.declared.problem.Problem.{Problem}
use Rattle.roster_model.specs.declared.proof.Lens.{Lens}
use Rattle.lens_classes.specs.declared.terms.Terms.{Terms}
use Rattle.roster_model.specs.Spans.{pairing_span, event_span}
use Rattle.line_items.specs.BusyDays.{is_fixed_busy, month_count}
use Rattle.line_items.specs.Items.{item_count, item_begins, item_rests, item_span}
use Rattle.take_graphs.specs.Takes.{passes_by, takes_by, AreTakeArcs}
use Rattle.line_items.proofs.Apart.{is_near}
use Rattle.line_items.proofs.ItemSteps.{added_days, day_step, day_of, is_open_day, is_busy_with, daily_step}
use Rattle.take_graphs.proofs.TakenPlaces.{taken_by, stops_by}
use Rattle.line_items.proofs.Walks.{and_then, run, along}
use Rattle.take_graphs.proofs.Alike.{AreAlike, Comes}
use Rattle.take_graphs.proofs.Alike.{run_alike}
use Rattle.line_lens.proofs.DayChain.{none_outside}
use Rattle.take_graphs.proofs.Dropping.{first_stop}
use Rattle.line_items.proofs.FreeMinutes.{at_none}
use Rattle.take_graphs.proofs.ItemWork.{work}
use Rattle.take_graphs.proofs.Taking.{IsPath, IsAt}
use Rattle.take_graphs.proofs.Taking.{at_source}
use Rattle.line_items.proofs.Visited.{IsPlaced}
use Rattle.line_items.proofs.Visits.{IsSorted}

-- one where the test holds
abbrev worth : Bool → ℕ
worth b = if b then 1 else 0

-- whether a number stands in a range
abbrev in_range : ℕ → ℕ → ℕ → Bool
in_range start n d = nat_le start d && nat_lt d (start + n)

-- a test that one number alone may pass
count_at : (test : ℕ → Bool) (d start n : ℕ) → ((x : ℕ) → test x ≡ true → x ≡ d) → count_between test start (start + n) ≡ (if in_range start n d && test d then 1 else 0)
count_at test d start zero only =
    let none : start + 0 ≡ start = omega arith in
    let out : in_range start 0 d ≡ false = grind (arith, nat_tests) in
    ap (λ (x : ℕ). count_between test start x) none ∙ count_between-none test start ∙ sym (ap (λ (b : Bool). if b && test d then 1 else 0) out)
count_at test d start (suc n) only =
    let more : start + suc n ≡ (start + n) + 1 = omega arith in
    let rest = count_at test d start n only in
    let one = count_between-one test start (start + n) (omega arith) in
    ap (λ (x : ℕ). count_between test start x) more ∙ one
    ∙ ap (λ (x : ℕ). x + cond (test (start + n)) 1 0) rest
    ∙ here (test (start + n)) refl (test d) refl
  where
    here : (b : Bool) → test (start + n) ≡ b → (c : Bool) → test d ≡ c
        → (if in_range start n d && c then 1 else 0) + cond b 1 0 ≡ (if in_range start (suc n) d && c then 1 else 0)
    here true e true f =
        let same : start + n ≡ d = only (start + n) e in
        let out : in_range start n d ≡ false = grind (arith, nat_tests) in
        let into : in_range start (suc n) d ≡ true = grind (arith, nat_tests) in
        ap (λ (b : Bool). (if b && true then 1 else 0) + 1) out ∙ sym (ap (λ (b : Bool). if b && true then 1 else 0) into)
    here true e false f = let same : start + n ≡ d = only (start + n) e in absurd (false≢true (sym f ∙ ap test (sym same) ∙ e))
    here false e true f = elim (cases_Bool (d == start + n)) [
      | inl at ↦ let same : d ≡ start + n = grind (arith, nat_tests) in absurd (false≢true (sym e ∙ ap test (sym same) ∙ f))
      | inr other ↦
          let alike : in_range start n d ≡ in_range start (suc n) d = last (cases_Bool (nat_lt d (start + n))) other in
          ap (λ (b : Bool). (if b && true then 1 else 0) + 0) alike ∙ plus_none (if in_range start (suc n) d && true then 1 else 0)
    ]
      where
        plus_none : (x : ℕ) → x + 0 ≡ x
        plus_none x = omega arith

        last : (nat_lt d (start + n) ≡ true) ⊎ (nat_lt d (start + n) ≡ false) → (d == start + n) ≡ false → in_range start n d ≡ in_range start (suc n) d
        last (inl t) o = grind (arith, nat_tests)
        last (inr f) o = grind (arith, nat_tests)
    here false e false f = both (in_range start n d) (in_range start (suc n) d)
      where
        both : (a b : Bool) → (if a && false then 1 else 0) + 0 ≡ (if b && false then 1 else 0)
        both true true = refl
        both true false = refl
        both false true = refl
        both false false = refl

-- numbers by their tests
days_less : (a b : ℕ) → (a == b) ≡ false → a ≤ b → a < b
days_less a b e le = grind (arith, nat_tests)

days_equal : (a b : ℕ) → (a == b) ≡ true → a ≡ b
days_equal a b h = grind (arith, nat_tests)

above_zero : (n : ℕ) → nat_lt 0 n ≡ true → 0 < n
above_zero n h = grind (arith, nat_tests)

is_zero : (n : ℕ) → nat_lt 0 n ≡ false → n ≡ 0
is_zero n h = grind (arith, nat_tests)

-- what two tests pass together, and what only one does
count_split : (f g : ℕ → Bool) (start n : ℕ) → count_between f start (start + n) ≡ count_between (λ x. f x && not (g x)) start (start + n) + count_between (λ x. f x && g x) start (start + n)
count_split f g start n =
    count_between-agree f (λ x. (f x && not (g x)) || (f x && g x)) start n (λ x a b. either (f x) (g x))
    ∙ count_between-or (λ x. f x && not (g x)) (λ x. f x && g x) start n (λ x t. apart (f x) (g x) t)
  where
    either : (a b : Bool) → a ≡ ((a && not b) || (a && b))
    either true true = refl
    either true false = refl
    either false b = refl

    apart : (a b : Bool) → (a && not b) ≡ true → (a && b) ≡ false
    apart true true t = absurd (false≢true t)
    apart true false t = refl
    apart false b t = refl

module _ (problem : Problem) (member : ℕ) (lens : Lens) (terms : Terms) (adds : ℕ → ℕ) (sink : ℕ)
    (sorted : IsSorted (item_count problem member lens) sink adds (item_begins problem member lens) (item_rests problem member lens))
    (placed : IsPlaced problem member lens adds sink) where
  abbrev begin_at : ℕ → ℕ
  begin_at k = item_begins problem member lens (adds k)

  abbrev span_at : ℕ → Interval
  span_at k = item_span problem member lens (adds k)

  abbrev day_at : ℕ → ℕ
  day_at k = day_of problem member lens (adds k)

  abbrev touch : ℕ → ℕ → Bool
  touch k day = is_touching (span_at k) day

  abbrev days : ℕ
  days = month_days problem.base.rules.horizon

  abbrev most : ℕ
  most = month_days problem.base.rules.horizon - terms.days_off

  abbrev busy_with : ℕ → ℕ → Bool
  busy_with t i = is_busy_with problem member lens (adds t) (adds i)

  abbrev added : ℕ → ℕ → ℕ
  added t i = added_days problem member (span_at t) (span_at i)

  -- what is known after the item of place t is taken, at place i
  pub record IsCounted (t i : ℕ) (d : Daily) (v : Least) : Type 0 where
    pub count : d.count ≡ v.value
    pub within : v.value ≤ most
    pub today : i < sink → d.today ≡ is_busy_with problem member lens (adds t) (adds i)

  touch_source : (day : ℕ) → touch 0 day ≡ false
  touch_source day = none_outside problem member lens day (adds 0) placed.source

  touch_sink : (day : ℕ) → touch sink day ≡ false
  touch_sink day = none_outside problem member lens day (adds sink) placed.last

  source_busy : (k : ℕ) → busy_with 0 k ≡ false
  source_busy k = ap (λ (b : Bool). b && is_open_day problem member (day_at k)) (touch_source (day_at k))

  none_counted : (f : ℕ → Bool) → ((x : ℕ) → f x ≡ false) → month_count problem f ≡ 0
  none_counted f none = count_at f 0 365 days (λ x t. absurd (false≢true (sym (none x) ∙ t))) ∙ ap (λ (b : Bool). worth (in_range 365 days 0 && b)) (none 0) ∙ shut (in_range 365 days 0)
    where
      shut : (b : Bool) → ◌≡◌ {A = ℕ} (if b && false then 1 else 0) 0
      shut true = refl
      shut false = refl

  -- what ends by a minute touches no later day than that of the minute
  touches_up_to : (s : Interval) (minute day : ℕ) → s.stop ≤ minute → is_touching s day ≡ true → day ≤ minute / 1440
  touches_up_to s minute day le t = go s.start s.stop le t
    where
      go : (a b : ℕ) → b ≤ minute → (nat_lt a (1440 * (day + 1)) && nat_lt (1440 * day) b) ≡ true → day ≤ minute / 1440
      go a b le t =
          let low : 1440 * day < b = let p = (and_parts (nat_lt a (1440 * (day + 1))) (nat_lt (1440 * day) b) t).1 in grind (arith, nat_tests) in
          omega arith

  touches_from : (s : Interval) (day : ℕ) → is_touching s day ≡ true → s.start / 1440 ≤ day
  touches_from s day t =
      let high : s.start < 1440 * (day + 1) = let p = (and_parts (nat_lt s.start (1440 * (day + 1))) (nat_lt (1440 * day) s.stop) t).0 in less s.start (1440 * (day + 1)) p in
      omega arith
    where
      less : (a b : ℕ) → nat_lt a b ≡ true → a < b
      less a b h = grind (arith, nat_tests)

  touches_first : (s : Interval) → s.start < s.stop → is_touching s (s.start / 1440) ≡ true
  touches_first s lasts = go s.start s.stop lasts
    where
      go : (a b : ℕ) → a < b → (nat_lt a (1440 * (a / 1440 + 1)) && nat_lt (1440 * (a / 1440)) b) ≡ true
      go a b lt =
          let first : a < 1440 * (a / 1440 + 1) = omega arith in
          let second : 1440 * (a / 1440) < b = omega arith in
          both a (1440 * (a / 1440 + 1)) (1440 * (a / 1440)) b first second
        where
          both : (a b c d : ℕ) → a < b → c < d → (nat_lt a b && nat_lt c d) ≡ true
          both a b c d p q = grind (arith, nat_tests)

  module _ (on : lens.days ≡ true) where
    abbrev due : ℕ → ℕ → ℕ → DailyStep
    due t i j = record { add = added 0 t; again = busy_with t t; keeps = day_at i == day_at j; sets = busy_with t j; cap = most }

    step_is : (t i j : ℕ) → daily_step problem member lens terms adds t i j ≡ due t i j
    step_is t i j = ap (λ (b : Bool). if b then due t i j else none) on
      where
        none : DailyStep
        none = record { add = 0; again = false; keeps = false; sets = false; cap = 0 }

    other_is : (t i : ℕ) → day_step problem member lens terms adds t i ≡ record { add = added t i; cap = most }
    other_is t i = ap (λ (b : Bool). if b then asked else none) on
      where
        asked : LeastStep
        asked = record { add = added t i; cap = most }

        none : LeastStep
        none = record { add = 0; cap = 0 }

    least_takes : (v add cap : ℕ) → v + add ≤ cap → least_extend (record { value = v }) (record { add = add; cap = cap }) ≡ Some (record { value = v + add })
    least_takes v add cap h = grind (arith, nat_tests)

    least_fails : (v add cap : ℕ) → cap < v + add → least_extend (record { value = v }) (record { add = add; cap = cap }) ≡ None
    least_fails v add cap h = grind (arith, nat_tests)

    daily_takes : (d : Daily) (step : DailyStep) (c : ℕ) (t : Bool) → daily_total d step ≡ c → c ≤ step.cap → (step.sets || (d.today && (step.keeps && not step.again))) ≡ t
        → daily_extend d step ≡ Some (record { count = c; today = t })
    daily_takes d step c t e le f =
        let fits : nat_le (daily_total d step) step.cap ≡ true = fitting (daily_total d step) step.cap (omega (arith, e, le)) in
        ap (λ (b : Bool). if b then Some (record { count = daily_total d step; today = step.sets || (d.today && (step.keeps && not step.again)) }) else None) fits
        ∙ ap (λ (n : ℕ). Some (record { count = n; today = step.sets || (d.today && (step.keeps && not step.again)) })) e
        ∙ ap (λ (b : Bool). Some (record { count = c; today = b })) f
      where
        fitting : (a b : ℕ) → a ≤ b → nat_le a b ≡ true
        fitting a b h = grind (arith, nat_tests)

    daily_fails : (d : Daily) (step : DailyStep) (c : ℕ) → daily_total d step ≡ c → step.cap < c → daily_extend d step ≡ None
    daily_fails d step c e lt =
        let fails : nat_le (daily_total d step) step.cap ≡ false = failing (daily_total d step) step.cap (omega (arith, e, lt)) in
        ap (λ (b : Bool). if b then Some (record { count = daily_total d step; today = step.sets || (d.today && (step.keeps && not step.again)) }) else None) fails
      where
        failing : (a b : ℕ) → b < a → nat_le a b ≡ false
        failing a b h = grind (arith, nat_tests)

    nothing_added : added 0 0 ≡ 0
    nothing_added = none_counted (λ day. touch 0 day && not (is_fixed_busy problem member day) && not (touch 0 day))
        (λ x. ap (λ (b : Bool). b && not (is_fixed_busy problem member x) && not b) (touch_source x))

    nothing_last : (t : ℕ) → added t sink ≡ 0
    nothing_last t = none_counted (λ day. touch sink day && not (is_fixed_busy problem member day) && not (touch t day))
        (λ x. ap (λ (b : Bool). b && not (is_fixed_busy problem member x) && not (touch t x)) (touch_sink x))

    follows : (may must : ℕ → Bool) (t k : ℕ) → k < sink → is_near (item_begins problem member lens) (item_rests problem member lens) adds sink t k ≡ true → item_rests problem member lens (adds t) ≤ begin_at k
    follows may must t k small h =
        let parts = and_parts (not (t == sink)) _ h in
        inner (k == sink) (let e : (k == sink) ≡ false = grind (arith, nat_tests) in e) parts.1
      where
        inner : (b : Bool) → b ≡ false → (b || nat_le (item_rests problem member lens (adds t)) (begin_at k)) ≡ true → item_rests problem member lens (adds t) ≤ begin_at k
        inner true e h = absurd (false≢true (sym e))
        inner false e h = grind (arith, nat_tests)

    -- the item of place t ends before that of place k begins
    ends_by : (may must : ℕ → Bool) (t k : ℕ) → t < sink → k < sink → is_near (item_begins problem member lens) (item_rests problem member lens) adds sink t k ≡ true → (span_at t).stop ≤ begin_at k
    ends_by may must zero k lt small h =
        let z : (span_at 0).stop ≡ 0 = ap (λ (s : Interval). s.stop) (at_none problem member lens pairing_span event_span (record { start = 0; stop = 0 }) (adds 0) placed.source) in
        omega (arith, z)
    ends_by may must (suc t) k lt small h =
        let f = follows may must (suc t) k small h in
        let w = (work problem member lens (adds (suc t)) (placed.inner (suc t) (omega arith) lt)).rests in
        omega (arith, f, w)

    passing : (may must : ℕ → Bool) (t i j : ℕ) (d : Daily) (v : Least)
        → IsAt may must (is_near (item_begins problem member lens) (item_rests problem member lens) adds sink) sink t i
        → i < j → j ≤ sink → IsCounted t i d v → Comes (λ s. IsCounted t j s v) (daily_extend d (daily_step problem member lens terms adds 0 i j))
    passing may must t i j d v at lt small rel =
        let none : busy_with 0 0 ≡ false = source_busy 0 in
        let total : daily_total d (due 0 i j) ≡ d.count = counted d.count (added 0 0) d.today (busy_with 0 0) nothing_added none in
        let within = rel.within in
        let count = rel.count in
        record {
          to = record { count = d.count; today = d.today && (day_at i == day_at j) };
          is = ap (daily_extend d) (step_is 0 i j) ∙ daily_takes d (due 0 i j) d.count (d.today && (day_at i == day_at j)) total (omega (arith, within, count)) (kept (busy_with 0 j) d.today (day_at i == day_at j) (busy_with 0 0) (source_busy j) none);
          related = record { count = rel.count; within = rel.within; today = λ inner. still_busy inner };
        }
      where
        counted : (c a : ℕ) (t g : Bool) → a ≡ 0 → g ≡ false → (c + a) - (if t && g then 1 else 0) ≡ c
        counted c a true g e f = ap (λ (b : Bool). (c + a) - (if true && b then 1 else 0)) f ∙ omega (arith, e)
        counted c a false g e f = omega (arith, e)

        kept : (s t k g : Bool) → s ≡ false → g ≡ false → (s || (t && (k && not g))) ≡ (t && k)
        kept s t true g e f = ap (λ (b : Bool). b || (t && not g)) e ∙ ap (λ (b : Bool). t && not b) f
        kept s t false g e f = ap (λ (b : Bool). b || (t && false)) e

        still_busy : j < sink → (d.today && (day_at i == day_at j)) ≡ busy_with t j
        still_busy inner = elim (cases_Bool (day_at i == day_at j)) [
          | inl same ↦
              let days_same : day_at i ≡ day_at j = days_equal (day_at i) (day_at j) same in
              ap (λ (b : Bool). d.today && b) same ∙ and_true d.today ∙ rel.today (omega (arith, lt, inner)) ∙ ap (λ (x : ℕ). is_touching (span_at t) x && is_open_day problem member x) days_same
          | inr other ↦
              ap (λ (b : Bool). d.today && b) other ∙ and_false d.today
              ∙ sym (gone (cases_Bool (nat_lt 0 i)) other inner)
        ]
          where
            and_true : (b : Bool) → (b && true) ≡ b
            and_true true = refl
            and_true false = refl

            and_false : (b : Bool) → (b && false) ≡ false
            and_false true = refl
            and_false false = refl

            gone : (nat_lt 0 i ≡ true) ⊎ (nat_lt 0 i ≡ false) → (day_at i == day_at j) ≡ false → j < sink → busy_with t j ≡ false
            gone (inl later) other inner =
                let positive : 0 < i = above_zero i later in
                let up = sorted.sorted i j positive lt inner in
                let before = at.lt positive in
                let by = ends_by may must t i (omega (arith, before, lt, inner)) (omega (arith, lt, inner)) (at.fits i (omega arith) positive (omega (arith, lt, small))) in
                let less : begin_at i / 1440 ≤ begin_at j / 1440 = omega (arith, up) in
                let differ : day_at i < day_at j = days_less (day_at i) (day_at j) other less in
                elim (cases_Bool (touch t (day_at j))) [
                  | inl t_touches ↦ let most_day = touches_up_to (span_at t) (begin_at i) (day_at j) by t_touches in absurd (omega (arith, most_day, differ))
                  | inr free ↦ ap (λ (b : Bool). b && is_open_day problem member (day_at j)) free
                ]
            gone (inr first) other inner =
                let le = at.le in
                let z : t ≡ 0 = let first_place = is_zero i first in omega (arith, le, first_place) in
                ap (λ (n : ℕ). busy_with n j) z ∙ source_busy j

    -- the days of an item, and those that the one before it has not
    days_split : (may must : ℕ → Bool) (t i : ℕ) → 0 < i → i < sink → t < i
        → is_near (item_begins problem member lens) (item_rests problem member lens) adds sink t i ≡ true
        → added 0 i ≡ added t i + (if busy_with t i then 1 else 0)
    days_split may must t i positive inner before near =
        let w = work problem member lens (adds i) (placed.inner i positive inner) in
        let begins = w.begins in
        let lasts = w.lasts in
        let by = ends_by may must t i (omega (arith, before, inner)) inner near in
        let same_day : (span_at i).start / 1440 ≡ day_at i = ap (λ (n : ℕ). n / 1440) (sym begins) in
        let touched : touch i (day_at i) ≡ true = ap (is_touching (span_at i)) (sym same_day) ∙ touches_first (span_at i) (omega (arith, begins, lasts)) in
        let all : added 0 i ≡ month_count problem (λ day. touch i day && not (is_fixed_busy problem member day)) =
        count_between-agree (λ day. touch i day && not (is_fixed_busy problem member day) && not (touch 0 day)) (λ day. touch i day && not (is_fixed_busy problem member day)) 365 days
        (λ x a b. drop (touch i x) (is_fixed_busy problem member x) (touch 0 x) (touch_source x)) in
        let parts = count_split (λ day. touch i day && not (is_fixed_busy problem member day)) (touch t) 365 days in
        let first : month_count problem (λ day. (touch i day && not (is_fixed_busy problem member day)) && not (touch t day)) ≡ added t i =
        count_between-agree (λ day. (touch i day && not (is_fixed_busy problem member day)) && not (touch t day)) (λ day. touch i day && not (is_fixed_busy problem member day) && not (touch t day)) 365 days
        (λ x a b. assoc (touch i x) (not (is_fixed_busy problem member x)) (not (touch t x))) in
        let second = count_at (λ day. (touch i day && not (is_fixed_busy problem member day)) && touch t day) (day_at i) 365 days
        (λ x h.
        let p = and_parts (touch i x && not (is_fixed_busy problem member x)) (touch t x) h in
        let q = and_parts (touch i x) (not (is_fixed_busy problem member x)) p.0 in
        let low = touches_from (span_at i) x q.0 in
        let high = touches_up_to (span_at t) (begin_at i) x by p.1 in
        omega (arith, low, high, same_day)) in
        let third : worth (in_range 365 days (day_at i) && ((touch i (day_at i) && not (is_fixed_busy problem member (day_at i))) && touch t (day_at i))) ≡ worth (busy_with t i) =
        ap worth (turned (nat_le 365 (day_at i)) (nat_lt (day_at i) (365 + days)) (touch i (day_at i)) (not (is_fixed_busy problem member (day_at i))) (touch t (day_at i)) touched) in
        omega (arith, all, parts, first, second, third)
      where
        drop : (a b c : Bool) → c ≡ false → (a && not b && not c) ≡ (a && not b)
        drop a b true e = absurd (false≢true (sym e))
        drop true true false e = refl
        drop true false false e = refl
        drop false b false e = refl

        assoc : (a b c : Bool) → ((a && b) && c) ≡ (a && b && c)
        assoc true b c = refl
        assoc false b c = refl

        turned : (a b c d e : Bool) → c ≡ true → ((a && b) && ((c && d) && e)) ≡ (e && (a && (b && d)))
        turned a b false d e h = absurd (false≢true h)
        turned true true true true true h = refl
        turned true true true true false h = refl
        turned true true true false true h = refl
        turned true true true false false h = refl
        turned true false true d true h = refl
        turned true false true d false h = refl
        turned false b true d true h = refl
        turned false b true d false h = refl

    taking : (may must : ℕ → Bool) (t i j : ℕ) (d : Daily) (v : Least) → 0 < i → i < sink → i < j → j ≤ sink
        → IsAt may must (is_near (item_begins problem member lens) (item_rests problem member lens) adds sink) sink t i
        → IsCounted t i d v → AreAlike (λ s p. IsCounted i j s p) (daily_extend d (daily_step problem member lens terms adds i i j)) (least_extend v (day_step problem member lens terms adds t i))
    taking may must t i j d v positive inner to_j small at rel =
        let before = at.lt positive in
        let split = days_split may must t i positive inner before (at.fits i (omega arith) positive (omega arith)) in
        let again : (busy_with t i ≡ true) → busy_with i i ≡ true = λ h. own (and_parts (touch t (day_at i)) (is_open_day problem member (day_at i)) h).1 in
        let total : daily_total d (due i i j) ≡ v.value + added t i =
        counted d.count v.value (added 0 i) (added t i) d.today (busy_with t i) (busy_with i i) rel.count (rel.today inner) split again in
        let next : (busy_with i j || (d.today && ((day_at i == day_at j) && not (busy_with i i)))) ≡ busy_with i j =
        forgot (busy_with i j) d.today (day_at i == day_at j) (busy_with t i) (busy_with i i) (rel.today inner) again in
        elim (cases_Bool (nat_le (v.value + added t i) most)) [
          | inl fits ↦
              let le : v.value + added t i ≤ most = fit (v.value + added t i) most fits in
              inr (record {
                first = record { count = v.value + added t i; today = busy_with i j };
                second = record { value = v.value + added t i };
                first_is = ap (daily_extend d) (step_is i i j) ∙ daily_takes d (due i i j) (v.value + added t i) (busy_with i j) total le next;
                second_is = ap (least_extend v) (other_is t i) ∙ least_takes v.value (added t i) most le;
                related = record { count = refl; within = le; today = λ last. refl };
              })
          | inr fails ↦
              let lt : most < v.value + added t i = unfit (v.value + added t i) most fails in
              inl (
                ap (daily_extend d) (step_is i i j) ∙ daily_fails d (due i i j) (v.value + added t i) total lt,
                ap (least_extend v) (other_is t i) ∙ least_fails v.value (added t i) most lt,
              )
        ]
      where
        own : is_open_day problem member (day_at i) ≡ true → busy_with i i ≡ true
        own open_day =
            let w = work problem member lens (adds i) (placed.inner i positive inner) in
            let begins = w.begins in
            let lasts = w.lasts in
            let same_day : (span_at i).start / 1440 ≡ day_at i = ap (λ (n : ℕ). n / 1440) (sym begins) in
            let touched : touch i (day_at i) ≡ true = ap (is_touching (span_at i)) (sym same_day) ∙ touches_first (span_at i) (omega (arith, begins, lasts)) in
            ap (λ (b : Bool). b && is_open_day problem member (day_at i)) touched ∙ open_day

        counted : (c v a b : ℕ) (t u g : Bool) → c ≡ v → t ≡ u → a ≡ b + (if u then 1 else 0) → (u ≡ true → g ≡ true) → (c + a) - (if t && g then 1 else 0) ≡ v + b
        counted c v a b true true true e f s h = omega (arith, e, s)
        counted c v a b true true false e f s h = absurd (false≢true (h refl))
        counted c v a b false false g e f s h = omega (arith, e, s)
        counted c v a b true false g e f s h = absurd (false≢true (sym f))
        counted c v a b false true g e f s h = absurd (false≢true f)

        forgot : (s t k u g : Bool) → t ≡ u → (u ≡ true → g ≡ true) → (s || (t && (k && not g))) ≡ s
        forgot true t k u g e h = refl
        forgot false false k u g e h = refl
        forgot false true k false g e h = absurd (false≢true (sym e))
        forgot false true k true true e h = shut k
          where
            shut : (k : Bool) → (k && false) ≡ false
            shut true = refl
            shut false = refl
        forgot false true k true false e h = absurd (false≢true (h refl))

        fit : (a b : ℕ) → nat_le a b ≡ true → a ≤ b
        fit a b h = grind (arith, nat_tests)

        unfit : (a b : ℕ) → nat_le a b ≡ false → b < a
        unfit a b h = grind (arith, nat_tests)

    ending : (t : ℕ) (d : Daily) (v : Least) → IsCounted t sink d v → Comes (λ p. Unit {0}) (least_extend v (day_step problem member lens terms adds t sink))
    ending t d v rel =
        let none = nothing_last t in
        let within = rel.within in
        record { to = record { value = v.value + added t sink }; is = ap (least_extend v) (other_is t sink) ∙ least_takes v.value (added t sink) most (omega (arith, none, within)); related = tt }

    -- a start above the cap fails at once on both sides
    pub too_many : (d : Daily) (v : Least) (i j t l : ℕ) → d.today ≡ false → d.count ≡ v.value → most < v.value
        → (daily_extend d (daily_step problem member lens terms adds t i j) ≡ None) × (least_extend v (day_step problem member lens terms adds 0 l) ≡ None)
    too_many d v i j t l today count over = (
      ap (daily_extend d) (step_is t i j) ∙ daily_fails d (due t i j) (daily_total d (due t i j)) refl (large d.count (added 0 t) d.today (busy_with t t) today refl),
      ap (least_extend v) (other_is 0 l) ∙ least_fails v.value (added 0 l) most (omega (arith, over)),
    )
      where
        large : (c a : ℕ) (u g : Bool) → u ≡ false → c ≡ d.count → most < (c + a) - (if u && g then 1 else 0)
        large c a true g e f = absurd (false≢true (sym e))
        large c a false g e f = omega (arith, over, count, f)

    pub days_alike : {S : Type 0} (may must : ℕ → Bool) (gain : ℕ → ℤ) (step : ℕ → ℕ → ℕ → S) (arcs : List (Arc S)) (taken : List ℕ)
        → AreTakeArcs (passes_by may must) (takes_by may must (is_near (item_begins problem member lens) (item_rests problem member lens) adds sink)) gain step arcs taken
        → 0 < sink
        → ((i j k : ℕ) → 0 < j → j ≤ k → k ≤ sink → is_near (item_begins problem member lens) (item_rests problem member lens) adds sink i j ≡ true → is_near (item_begins problem member lens) (item_rests problem member lens) adds sink i k ≡ true)
        → ((k : ℕ) → 0 < k → k ≤ sink → is_near (item_begins problem member lens) (item_rests problem member lens) adds sink 0 k ≡ true)
        → must 0 ≡ false
        → (count : ℕ) (chain : List ℕ) → IsPath arcs 0 chain sink
        → AreAlike (λ s p. Unit {0})
        (run daily_extend (record { count = count; today = false }) (map (λ number. daily_step problem member lens terms adds (slice_index_or taken number 0) (option_map_or (λ (arc : Arc S). arc.from) (slice_get arcs number) 0) (option_map_or (λ (arc : Arc S). arc.to) (slice_get arcs number) 0)) chain))
        (run least_extend (record { value = count }) (along (day_step problem member lens terms adds) 0 (stops_by sink (taken_by taken chain))))
    days_alike {S} may must gain step arcs taken are some nears starts free_source count chain path = elim (cases_Bool (nat_le count most)) [
      | inl fits ↦
          run_alike may must (is_near (item_begins problem member lens) (item_rests problem member lens) adds sink) sink gain step arcs taken are some nears starts free_source
          (daily_step problem member lens terms adds) daily_extend least_extend (day_step problem member lens terms adds) IsCounted
          (λ t i j r q at at_to lt small rel. passing may must t i j r q at lt small rel)
          (λ t i j r q positive inner to_j small at on_at rel. taking may must t i j r q positive inner to_j small at rel)
          (λ t r q lt rel. ending t r q rel)
          0 0 chain (record { count = count; today = false }) (record { value = count })
          (at_source may must (is_near (item_begins problem member lens) (item_rests problem member lens) adds sink) sink gain step arcs taken are some nears starts free_source)
          path (record { count = refl; within = le_from count most fits; today = λ inner. sym (source_busy 0) })
      | inr over ↦ refused chain path (lt_from count most over)
    ]
      where
        le_from : (a b : ℕ) → nat_le a b ≡ true → a ≤ b
        le_from a b h = grind (arith, nat_tests)

        lt_from : (a b : ℕ) → nat_le a b ≡ false → b < a
        lt_from a b h = grind (arith, nat_tests)

        first_refused : (o : Option Daily) (f : Daily → Option Daily) → o ≡ None → and_then o f ≡ None
        first_refused o f e = ap (λ x. and_then x f) e

        other_refused : (o : Option Least) (f : Least → Option Least) → o ≡ None → and_then o f ≡ None
        other_refused o f e = ap (λ x. and_then x f) e

        refused : (chain : List ℕ) → IsPath arcs 0 chain sink → most < count
            → AreAlike (λ s p. Unit {0})
            (run daily_extend (record { count = count; today = false }) (map (λ number. daily_step problem member lens terms adds (slice_index_or taken number 0) (option_map_or (λ (arc : Arc S). arc.from) (slice_get arcs number) 0) (option_map_or (λ (arc : Arc S). arc.to) (slice_get arcs number) 0)) chain))
            (run least_extend (record { value = count }) (along (day_step problem member lens terms adds) 0 (stops_by sink (taken_by taken chain))))
        refused [] path over = absurd (omega arith)
        refused (number ∷ chain) path over =
            let js = stops_by sink (taken_by taken (number ∷ chain)) in
            let first = first_stop sink (taken_by taken (number ∷ chain)) in
            let no = too_many (record { count = count; today = false }) (record { value = count })
            (option_map_or (λ (arc : Arc S). arc.from) (slice_get arcs number) 0) (option_map_or (λ (arc : Arc S). arc.to) (slice_get arcs number) 0) (slice_index_or taken number 0) first.first refl refl over in
            inl (
              first_refused (daily_extend (record { count = count; today = false }) (daily_step problem member lens terms adds (slice_index_or taken number 0) (option_map_or (λ (arc : Arc S). arc.from) (slice_get arcs number) 0) (option_map_or (λ (arc : Arc S). arc.to) (slice_get arcs number) 0)))
                  (λ q. run daily_extend q (map (λ number. daily_step problem member lens terms adds (slice_index_or taken number 0) (option_map_or (λ (arc : Arc S). arc.from) (slice_get arcs number) 0) (option_map_or (λ (arc : Arc S). arc.to) (slice_get arcs number) 0)) chain)) no.0,
              ap (λ (ks : List ℕ). run least_extend (record { value = count }) (along (day_step problem member lens terms adds) 0 ks)) first.is
                  ∙ other_refused (least_extend (record { value = count }) (day_step problem member lens terms adds 0 first.first)) (λ q. run least_extend q (along (day_step problem member lens terms adds) first.first first.rest)) no.1,
            )
