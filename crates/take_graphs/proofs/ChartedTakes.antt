-- What a chart says of passing and taking is what the items of its places say.
use Rattle.std.proofs.Common.{◌≡◌, ℕ, ℤ, ◌+◌, ◌-◌, ◌/◌, ◌<◌, ◌≤◌, Bool, true, false, not, ◌&&◌, ◌==◌, List, [], Option, Some, None, length, refl, ap, sym, ◌∙◌, subst, arith, inl, inr}
use Rattle.std.specs.Prelude.{slice_get, slice_index_or, nat_lt, nat_le, if◌then◌else◌}
use Rattle.std.specs.Int.{bit_at, bit_not, w32}
use Rattle.std.specs.Int.RustNames.{bit_and, count_ones}
use Rattle.std.specs.Option.{option_map_or}
use Rattle.std.proofs.Math.Path.{fun_ext}
use Rattle.std.proofs.lemmas.Bool.{cases_Bool}
use Rattle.std.proofs.lemmas.Bool.Decides.{nat_tests}
use Rattle.duty_calendar.specs.Calendar.{month_days}
use Rattle.jiff_core.proofs.CalendarLemmas.{days_in_month_bounds}
use Rattle.duty_calendar.specs.declared.event.Event.{Event}
use Rattle.duty_calendar.specs.declared.pairing.Pairing.{Pairing}
use Rattle.duty_calendar.specs.Minutes.{is_touching}
use Rattle.label_lattice.specs.declared.counters.UsageStep.{UsageStep}
use Rattle.label_lattice.specs.declared.dailies.DailyStep.{DailyStep}
use Rattle.label_lattice.specs.declared.masks.MaskStep.{MaskStep}
use Rattle.label_lattice.specs.declared.night_rows.NightStep.{NightStep}
use Rattle.label_lattice.specs.declared.pauses.PauseStep.{PauseStep}
use Rattle.label_lattice.specs.declared.spans.SpanStep.{SpanStep}
use Rattle.label_lattice.specs.declared.values.LeastStep.{LeastStep}
use Rattle.label_setter.specs.declared.graph.Arc.{Arc}
use Rattle.roster_model.specs.declared.problem.Problem.{Problem}
use Rattle.roster_model.specs.declared.node.Decision.{Decision}
use Rattle.roster_model.specs.declared.proof.Lens.{Lens}
use Rattle.lens_classes.specs.declared.terms.Terms.{Terms}
use Rattle.roster_model.specs.Spans.{first_report, pairing_span, event_span}
use Rattle.roster_model.specs.Weights.{weight_at}
use Rattle.line_lens.specs.declared.chart.Chart.{Chart}
use Rattle.line_lens.specs.declared.chart.Place.{Place}
use Rattle.line_items.specs.BusyDays.{is_fixed_busy}
use Rattle.line_lens.specs.Charts.{of_place, no_bids, chart_may, chart_must, chart_near, chart_gain, IsChart, IsItemOrder}
use Rattle.take_graphs.specs.TakeCharts.{chart_pause, chart_day, chart_open, chart_busy_with, chart_daily, chart_take, chart_nights}
use Rattle.line_items.specs.DayMasks.{IsDayMask}
use Rattle.line_items.specs.FreeBlocks.{item_least, base_block, own_block}
use Rattle.line_items.specs.Items.{visited_flights, item_count, item_begins, item_rests, item_span, may_visit_item, must_visit_item, is_base_open}
use Rattle.line_items.specs.NightRows.{night_marks, no_marks}
use Rattle.line_items.specs.declared.marks.NightMarks.{NightMarks}
use Rattle.take_graphs.specs.Takes.{passes_by, takes_by, AreTakeArcs}
use Rattle.take_graphs.specs.TakeLabels.{TakeStepOf}
use Rattle.line_items.proofs.Apart.{may_visit, is_near}
use Rattle.line_items.proofs.ItemSteps.{added_days, pause_step, day_of, is_open_day, is_busy_with, daily_step, nights_step}
use Rattle.take_graphs.proofs.TakeSteps.{take_step}
use Rattle.line_items.specs.WindowMinutes.{spread}
use Rattle.line_lens.proofs.Charted.{adds, clears, sets, items_long, may_same, must_same, near_same, gain_same, begins_same, of_some, days_same, PlacedAt, placed_at}
use Rattle.line_lens.proofs.GraphOfLines.{may_within}
use Rattle.take_graphs.proofs.Ways.{taken_before}

-- an item begins where its span does
begins_span : (problem : Problem) (member : ℕ) (lens : Lens) (item : ℕ) → item_begins problem member lens item ≡ (item_span problem member lens item).start
begins_span problem member lens item = go (nat_lt item (length problem.base.pairings)) (slice_get problem.base.pairings item) (slice_get (visited_flights problem member lens) (item - length problem.base.pairings))
  where
    go : (b : Bool) (o : Option Pairing) (p : Option Event)
        → (if b then option_map_or (λ (x : Pairing). first_report x.duties) o 0 else option_map_or (λ (e : Event). e.report) p 0)
        ≡ (if b then option_map_or pairing_span o (record { start = 0; stop = 0 }) else option_map_or event_span p (record { start = 0; stop = 0 })).start
    go true (Some x) p = refl
    go true None p = refl
    go false o (Some e) = refl
    go false o None = refl

-- an open day by its bit
open_same : (month day fixed : ℕ) (busy : ℕ → Bool) → month ≤ 31 → IsDayMask month busy fixed
    → (nat_le 365 day && (nat_lt day (365 + month) && not (nat_lt (day - 365) 32 && bit_at fixed (day - 365) == 1))) ≡ (nat_le 365 day && (nat_lt day (365 + month) && not (busy day)))
open_same month day fixed busy few is = elim (cases_Bool (nat_le 365 day)) [
  | inl late ↦ elim (cases_Bool (nat_lt day (365 + month))) [
    | inl early ↦
        let place : 365 + (day - 365) ≡ day = let le : 365 ≤ day = grind (arith, nat_tests) in omega arith in
        let lt : day - 365 < month = within day month late early in
        let bit = is.bits (day - 365) lt ∙ ap (λ (d : ℕ). if busy d then 1 else 0) place in
        let small : nat_lt (day - 365) 32 ≡ true = below (day - 365) month lt few in
        ap (λ (b : Bool). nat_le 365 day && (nat_lt day (365 + month) && not (b && bit_at fixed (day - 365) == 1))) small
        ∙ ap (λ (n : ℕ). nat_le 365 day && (nat_lt day (365 + month) && not (n == 1))) bit ∙ ap (λ (b : Bool). nat_le 365 day && (nat_lt day (365 + month) && not b)) (one (busy day))
    | inr past ↦ shut_second (nat_le 365 day) (nat_lt day (365 + month)) _ _ past
  ]
  | inr before ↦ shut_first (nat_le 365 day) _ _ before
]
  where
    within : (d m : ℕ) → nat_le 365 d ≡ true → nat_lt d (365 + m) ≡ true → d - 365 < m
    within d m p q =
        let a : 365 ≤ d = grind (arith, nat_tests) in
        let b : d < 365 + m = grind (arith, nat_tests) in
        omega arith

    below : (d m : ℕ) → d < m → m ≤ 31 → nat_lt d 32 ≡ true
    below d m p q = grind (arith, nat_tests)

    one : (b : Bool) → ((if b then 1 else 0) == 1) ≡ b
    one true = refl
    one false = refl

    shut_first : (a b c : Bool) → a ≡ false → (a && b) ≡ (a && c)
    shut_first a b c e = ap (λ (x : Bool). x && b) e ∙ sym (ap (λ (x : Bool). x && c) e)

    shut_second : (a b c d : Bool) → b ≡ false → (a && (b && c)) ≡ (a && (b && d))
    shut_second a b c d e = ap (λ (x : Bool). a && (x && c)) e ∙ sym (ap (λ (x : Bool). a && (x && d)) e)

module _ {N : ℕ} (problem : Problem) (member : ℕ) (node : List Decision) (lens : Lens) (terms : Terms) (weights : List ℤ)
    (long : length weights ≡ length problem.base.pairings) (items : List ℕ) (order : IsItemOrder problem member lens items)
    (chart : Chart N) (is : IsChart problem member node lens terms weights items chart) where
  abbrev at : ℕ → ℕ
  at = adds problem member node lens terms weights long items order chart is

  abbrev pub item_may : ℕ → Bool
  item_may = may_visit (is_base_open problem member lens terms) (may_visit_item problem member node lens) (λ j. slice_index_or items j (item_count problem member lens)) (item_count problem member lens + 1)

  abbrev pub item_must : ℕ → Bool
  item_must j = must_visit_item problem member node lens (slice_index_or items j (item_count problem member lens))

  abbrev pub item_near : ℕ → ℕ → Bool
  item_near = is_near (item_begins problem member lens) (item_rests problem member lens) (λ j. slice_index_or items j (item_count problem member lens)) (item_count problem member lens + 1)

  abbrev clear : ℕ → ℕ
  clear = clears problem member node lens terms weights long items order chart is

  abbrev set : ℕ → ℕ
  set = sets problem member node lens terms weights long items order chart is

  busy_same : lens.days ≡ true → (t j : ℕ) → t < item_count problem member lens + 2 → j < item_count problem member lens + 2
      → chart_busy_with chart t j ≡ is_busy_with problem member lens (at t) (at j)
  busy_same on t j first second =
      let a = placed_at problem member node lens terms weights long items order chart is t first in
      let starts = begins_same problem member node lens terms weights long items order chart is t ∙ begins_span problem member lens (at t) in
      let stops = of_some problem member node lens terms weights long items order chart is (λ p. p.ends) 0 t a.place a.here ∙ a.is_of.ends in
      let day : chart_day chart j ≡ day_of problem member lens (at j) = ap (λ (n : ℕ). n / 1440) (begins_same problem member node lens terms weights long items order chart is j) in
      let opens : chart_open chart (chart_day chart j) ≡ is_open_day problem member (chart_day chart j) =
      ap (λ (m : ℕ). nat_le 365 (chart_day chart j) && (nat_lt (chart_day chart j) (365 + m) && not (nat_lt (chart_day chart j - 365) 32 && bit_at chart.fixed (chart_day chart j - 365) == 1))) is.days_of_month
      ∙ open_same (month_days problem.base.rules.horizon) (chart_day chart j) chart.fixed (is_fixed_busy problem member) (days_in_month_bounds problem.base.rules.horizon.year problem.base.rules.horizon.month).0 (is.busy_days on) in
      whole (of_place (λ p. p.begins) 0 chart t) (item_span problem member lens (at t)).start (of_place (λ p. p.ends) 0 chart t) (item_span problem member lens (at t)).stop
      (chart_day chart j) (day_of problem member lens (at j)) (chart_open chart (chart_day chart j)) starts stops day (opens ∙ ap (is_open_day problem member) day)
    where
      whole : (a b c d x y : ℕ) (o : Bool) → a ≡ b → c ≡ d → x ≡ y → o ≡ is_open_day problem member y
          → (is_touching (record { start = a; stop = c }) x && o) ≡ (is_touching (record { start = b; stop = d }) y && is_open_day problem member y)
      whole a b c d x y o p q r s = rw (p, q, r, s) refl

  pause_same : (t i j : ℕ) → t < item_count problem member lens + 2 → j < item_count problem member lens + 2
      → chart_pause chart t j ≡ pause_step problem member lens at t i j
  pause_same t i j first second = go lens.free30 refl
    where
      a : PlacedAt problem member node lens terms weights long items order chart is t
      a = placed_at problem member node lens terms weights long items order chart is t first

      b : PlacedAt problem member node lens terms weights long items order chart is j
      b = placed_at problem member node lens terms weights long items order chart is j second

      step : PauseStep
      step = record { least = of_place (λ p. p.least) 0 chart t; renew = of_place (λ p. p.own) 0 chart t; busy = of_place (λ p. p.ends) 0 chart t; free = of_place (λ p. p.free) 0 chart j }

      due : PauseStep
      due = record { least = item_least problem member lens (at t); renew = own_block problem member lens (at t); busy = (item_span problem member lens (at t)).stop; free = base_block problem member lens (at j) }

      none : PauseStep
      none = record { least = 0; renew = 0; busy = 0; free = 0 }

      build : (l m r s x y f g : ℕ) → l ≡ m → r ≡ s → x ≡ y → f ≡ g
          → ◌≡◌ {A = PauseStep} (record { least = l; renew = r; busy = x; free = f }) (record { least = m; renew = s; busy = y; free = g })
      build l m r s x y f g p q u v = rw (p, q, u, v) refl

      go : (c : Bool) → lens.free30 ≡ c → chart_pause chart t j ≡ pause_step problem member lens at t i j
      go true on =
          ap (λ (x : Bool). if x then step else none) (is.looks_at_free ∙ on)
          ∙ build _ _ _ _ _ _ _ _
          (of_some problem member node lens terms weights long items order chart is (λ p. p.least) 0 t a.place a.here ∙ a.is_of.least on)
          (of_some problem member node lens terms weights long items order chart is (λ p. p.own) 0 t a.place a.here ∙ a.is_of.own on)
          (of_some problem member node lens terms weights long items order chart is (λ p. p.ends) 0 t a.place a.here ∙ a.is_of.ends)
          (of_some problem member node lens terms weights long items order chart is (λ p. p.free) 0 j b.place b.here ∙ b.is_of.free on)
          ∙ sym (ap (λ (x : Bool). if x then due else none) on)
      go false off = ap (λ (x : Bool). if x then step else none) (is.looks_at_free ∙ off) ∙ sym (ap (λ (x : Bool). if x then due else none) off)

  daily_same : (t i j : ℕ) → t < item_count problem member lens + 2 → j < item_count problem member lens + 2
      → chart_daily chart t i j ≡ daily_step problem member lens terms at t i j
  daily_same t i j first second = go lens.days refl
    where
      add : ℕ
      add = count_ones (bit_and (bit_and (of_place (λ p. p.touched) 0 chart t) (bit_not w32 chart.fixed)) (bit_not w32 (of_place (λ p. p.touched) 0 chart 0)))

      step : DailyStep
      step = record { add = add; again = chart_busy_with chart t t; keeps = chart_day chart i == chart_day chart j; sets = chart_busy_with chart t j; cap = chart.most_busy }

      due : DailyStep
      due = record {
        add = added_days problem member (item_span problem member lens (at 0)) (item_span problem member lens (at t));
        again = is_busy_with problem member lens (at t) (at t);
        keeps = day_of problem member lens (at i) == day_of problem member lens (at j);
        sets = is_busy_with problem member lens (at t) (at j);
        cap = month_days problem.base.rules.horizon - terms.days_off;
      }

      none : DailyStep
      none = record { add = 0; again = false; keeps = false; sets = false; cap = 0 }

      build : (a b x y : ℕ) (c d e f g h : Bool) → a ≡ b → c ≡ d → e ≡ f → g ≡ h → x ≡ y
          → ◌≡◌ {A = DailyStep} (record { add = a; again = c; keeps = e; sets = g; cap = x }) (record { add = b; again = d; keeps = f; sets = h; cap = y })
      build a b x y c d e f g h p q r s u = rw (p, q, r, s, u) refl

      counted : lens.days ≡ true → add ≡ added_days problem member (item_span problem member lens (at 0)) (item_span problem member lens (at t))
      counted on =
          let same = days_same problem member node lens terms weights long items order chart is 0 t (placed_at problem member node lens terms weights long items order chart is 0 (omega arith)) (placed_at problem member node lens terms weights long items order chart is t first) in
          ap (λ (s : LeastStep). s.add)
          (sym (ap (λ (x : Bool). if x then least else still) (is.looks_at_days ∙ on)) ∙ same ∙ ap (λ (x : Bool). if x then asked else still) on)
        where
          least : LeastStep
          least = record { add = count_ones (bit_and (bit_and (of_place (λ p. p.touched) 0 chart t) (bit_not w32 chart.fixed)) (bit_not w32 (of_place (λ p. p.touched) 0 chart 0))); cap = chart.most_busy }

          asked : LeastStep
          asked = record { add = added_days problem member (item_span problem member lens (at 0)) (item_span problem member lens (at t)); cap = month_days problem.base.rules.horizon - terms.days_off }

          still : LeastStep
          still = record { add = 0; cap = 0 }

      day_same : (k : ℕ) → chart_day chart k ≡ day_of problem member lens (at k)
      day_same k = ap (λ (n : ℕ). n / 1440) (begins_same problem member node lens terms weights long items order chart is k)

      equal_days : (a b c d : ℕ) → a ≡ b → c ≡ d → (a == c) ≡ (b == d)
      equal_days a b c d p q = rw (p, q) refl

      go : (c : Bool) → lens.days ≡ c → chart_daily chart t i j ≡ daily_step problem member lens terms at t i j
      go true on =
          ap (λ (x : Bool). if x then step else none) (is.looks_at_days ∙ on)
          ∙ build _ _ _ _ _ _ _ _ _ _ (counted on) (busy_same on t t first first) (equal_days _ _ _ _ (day_same i) (day_same j)) (busy_same on t j first second) (is.most_days on)
          ∙ sym (ap (λ (x : Bool). if x then due else none) on)
      go false off = ap (λ (x : Bool). if x then step else none) (is.looks_at_days ∙ off) ∙ sym (ap (λ (x : Bool). if x then due else none) off)

  nights_same : (t i j : ℕ) → t < item_count problem member lens + 2 → j < item_count problem member lens + 2
      → chart_nights chart t j ≡ nights_step problem member lens at t i j
  nights_same t i j first second = go lens.free30 refl
    where
      a : PlacedAt problem member node lens terms weights long items order chart is t
      a = placed_at problem member node lens terms weights long items order chart is t first

      step : NightMarks → ℕ → ℕ → NightStep
      step marks ends begins = record { lead = marks.lead; reset = marks.reset; until = ends; free = begins - 1800; cap = 3 }

      none : NightStep
      none = record { lead = 0; reset = None; until = 0; free = 0; cap = 0 }

      same : (k l : NightMarks) (u v x y : ℕ) → k ≡ l → u ≡ v → x ≡ y → step k u x ≡ step l v y
      same k l u v x y p q r = rw (p, q, r) refl

      go : (c : Bool) → lens.free30 ≡ c → chart_nights chart t j ≡ nights_step problem member lens at t i j
      go true on =
          ap (λ (x : Bool). if x then step (of_place (λ p. p.nights) no_marks chart t) (of_place (λ p. p.ends) 0 chart t) (of_place (λ p. p.begins) 0 chart j) else none) (is.looks_at_free ∙ on)
          ∙ same _ _ _ _ _ _
          (of_some problem member node lens terms weights long items order chart is (λ p. p.nights) no_marks t a.place a.here ∙ a.is_of.nights on)
          (of_some problem member node lens terms weights long items order chart is (λ p. p.ends) 0 t a.place a.here ∙ a.is_of.ends)
          (begins_same problem member node lens terms weights long items order chart is j)
          ∙ sym (ap (λ (x : Bool). if x then step (night_marks problem member lens (at t)) (item_span problem member lens (at t)).stop (item_begins problem member lens (at j)) else none) on)
      go false off =
          ap (λ (x : Bool). if x then step (of_place (λ p. p.nights) no_marks chart t) (of_place (λ p. p.ends) 0 chart t) (of_place (λ p. p.begins) 0 chart j) else none) (is.looks_at_free ∙ off)
          ∙ sym (ap (λ (x : Bool). if x then step (night_marks problem member lens (at t)) (item_span problem member lens (at t)).stop (item_begins problem member lens (at j)) else none) off)

  take_same : (t i j : ℕ) → t < item_count problem member lens + 2 → j < item_count problem member lens + 2
      → chart_take chart t i j ≡ take_step {N = N} problem member lens terms at clear set t i j
  take_same t i j first second =
      let a = placed_at problem member node lens terms weights long items order chart is t first in
      whole _ _ _ _ _ _ _ _ _ _ _ _
      (credit _ _ _ _ _ _ (of_some problem member node lens terms weights long items order chart is (λ p. p.down) 0 t a.place a.here ∙ a.is_of.down)
      (of_some problem member node lens terms weights long items order chart is (λ p. p.up) 0 t a.place a.here ∙ a.is_of.up) is.most_credit)
      (of_some problem member node lens terms weights long items order chart is (λ p. p.bids) no_bids t a.place a.here
      ∙ bids a.place _ _ (sym (of_some problem member node lens terms weights long items order chart is (λ p. p.bids.clear) 0 t a.place a.here)) (sym (of_some problem member node lens terms weights long items order chart is (λ p. p.bids.set) 0 t a.place a.here)))
      (pause_same t i j first second)
      (daily_same t i j first second)
      (nights_same t i j first second)
      (usage _ _ _ _ (of_some problem member node lens terms weights long items order chart is (λ p. p.amounts) (spread N (λ w. 0) []) t a.place a.here ∙ a.is_of.amounts) is.limits)
    where
      whole : (a b : SpanStep) (c d : MaskStep) (e f : PauseStep) (g h : DailyStep) (m n : NightStep) (k l : UsageStep N) → a ≡ b → c ≡ d → e ≡ f → g ≡ h → m ≡ n → k ≡ l
          → ◌≡◌ {A = TakeStepOf N} (a, (c, (e, (g, (m, k))))) (b, (d, (f, (h, (n, l)))))
      whole a b c d e f g h m n k l p q r s u t = rw (p, q, r, s, u, t) refl

      credit : (a b c d e f : ℕ) → a ≡ b → c ≡ d → e ≡ f → ◌≡◌ {A = SpanStep} (record { down = a; up = c; cap = e }) (record { down = b; up = d; cap = f })
      credit a b c d e f p q r = rw (p, q, r) refl

      bids : (place : Place N) (a b : ℕ) → place.bids.clear ≡ a → place.bids.set ≡ b → place.bids ≡ record { clear = a; set = b }
      bids place a b p q = rw (← p, ← q) refl

      usage : (a b c d : List ℕ) → a ≡ b → c ≡ d → ◌≡◌ {A = UsageStep N} (record { amounts = a; caps = c }) (record { amounts = b; caps = d })
      usage a b c d p q = rw (p, q) refl

  pub takes_same : (arcs : List (Arc (TakeStepOf N))) (taken : List ℕ)
      → AreTakeArcs (passes_by (chart_may chart) (chart_must chart)) (takes_by (chart_may chart) (chart_must chart) (chart_near chart)) (λ t. chart_gain chart 0 t) (chart_take chart) arcs taken
      → AreTakeArcs (passes_by item_may item_must) (takes_by item_may item_must item_near) (λ t. weight_at weights (slice_index_or items t (item_count problem member lens)))
      (take_step {N = N} problem member lens terms (λ j. slice_index_or items j (item_count problem member lens)) (clears problem member node lens terms weights long items order chart is) (sets problem member node lens terms weights long items order chart is)) arcs taken
  takes_same arcs taken are =
      moved (chart_may chart) item_may (chart_must chart) item_must (chart_near chart) item_near
      (fun_ext (may_same problem member node lens terms weights long items order chart is))
      (fun_ext (must_same problem member node lens terms weights long items order chart is))
      (fun_ext (λ i. fun_ext (near_same problem member node lens terms weights long items order chart is i)))
      (record {
        long = are.long;
        kinds = are.kinds;
        gains = λ number arc here. are.gains number arc here ∙ gain_same problem member node lens terms weights long items order chart is 0 (slice_index_or taken number 0);
        steps = λ number arc here.
            let b = taken_before (chart_may chart) (chart_must chart) (chart_near chart) arc.from arc.to (slice_index_or taken number 0) (are.kinds number arc here) in
            let lt = b.0 in
            let l = is.are.long in
            let c = items_long problem member node lens terms weights long items order chart is in
            let within = may_within chart (omega arith) arc.to b.1 in
            are.steps number arc here ∙ take_same (slice_index_or taken number 0) arc.from arc.to (omega arith) (omega arith);
        passed = are.passed;
        took = are.took;
      })
    where
      moved : {gain : ℕ → ℤ} {step : ℕ → ℕ → ℕ → TakeStepOf N} (a b c d : ℕ → Bool) (e f : ℕ → ℕ → Bool) → a ≡ b → c ≡ d → e ≡ f
          → AreTakeArcs (passes_by a c) (takes_by a c e) gain step arcs taken → AreTakeArcs (passes_by b d) (takes_by b d f) gain step arcs taken
      moved {gain} {step} a b c d e f p q r h =
          subst (λ (x : ℕ → Bool). AreTakeArcs (passes_by x d) (takes_by x d f) gain step arcs taken) p
          (subst (λ (y : ℕ → Bool). AreTakeArcs (passes_by a y) (takes_by a y f) gain step arcs taken) q
          (subst (λ (z : ℕ → ℕ → Bool). AreTakeArcs (passes_by a c) (takes_by a c z) gain step arcs taken) r h))
