-- A label completes what a chain takes exactly where the label of a line graph completes its stops.
use Rattle.std.proofs.Common.{◌≡◌, ℕ, ℤ, ◌^◌, ◌<◌, ◌≤◌, Bool, true, false, List, ◌∷◌, Option, Some, None, length, refl, ap, sym, ◌∙◌, subst, inl, inr}
use Rattle.std.specs.Prelude.{sum_by, slice_get, slice_index_or, map}
use Rattle.std.specs.Option.{option_map_or}
use Rattle.std.proofs.lemmas.Nat.Bits.{same_from_bits_below}
use Rattle.std.proofs.lemmas.Option.{slice_get_past}
use Rattle.duty_calendar.specs.declared.event.Event.{Event}
use Rattle.duty_calendar.specs.declared.pairing.Pairing.{Pairing}
use Rattle.label_lattice.specs.declared.counters.Usage.{Usage}
use Rattle.label_lattice.specs.declared.counters.UsageStep.{UsageStep}
use Rattle.label_lattice.specs.declared.dailies.Daily.{Daily}
use Rattle.label_lattice.specs.declared.dailies.DailyStep.{DailyStep}
use Rattle.label_lattice.specs.declared.masks.Mask.{Mask}
use Rattle.label_lattice.specs.declared.masks.MaskEnd.{MaskEnd}
use Rattle.label_lattice.specs.declared.masks.MaskStep.{MaskStep}
use Rattle.label_lattice.specs.declared.night_rows.Nights.{Nights}
use Rattle.label_lattice.specs.declared.night_rows.NightStep.{NightStep}
use Rattle.label_lattice.specs.declared.pairs.Pair.{Pair}
use Rattle.label_lattice.specs.declared.pauses.Pause.{Pause}
use Rattle.label_lattice.specs.declared.pauses.PauseStep.{PauseStep}
use Rattle.label_lattice.specs.declared.runs.Run.{Run}
use Rattle.label_lattice.specs.declared.spans.SpanStep.{SpanStep}
use Rattle.label_lattice.specs.declared.values.Latest.{Latest}
use Rattle.label_lattice.specs.declared.values.Least.{Least}
use Rattle.label_lattice.specs.Daily.{daily_extend}
use Rattle.label_lattice.specs.Latest.{latest_extend}
use Rattle.label_lattice.specs.Least.{least_extend}
use Rattle.label_lattice.specs.Mask.{mask_extend, mask_done}
use Rattle.label_lattice.specs.NightRow.{nights_extend}
use Rattle.label_lattice.specs.Pair.{pair_extend, pair_done}
use Rattle.label_lattice.specs.Pause.{pause_extend}
use Rattle.label_lattice.specs.Run.{run_extend}
use Rattle.label_lattice.specs.Span.{span_extend, span_done}
use Rattle.label_lattice.specs.Usage.{usage_extend}
use Rattle.label_setter.specs.declared.graph.Arc.{Arc}
use Rattle.roster_model.specs.declared.problem.Problem.{Problem}
use Rattle.roster_model.specs.declared.proof.Lens.{Lens}
use Rattle.lens_classes.specs.declared.terms.Terms.{Terms}
use Rattle.roster_model.specs.Lenses.{floor_to, ceil_to}
use Rattle.roster_model.specs.Timelines.{fixed_of}
use Rattle.line_items.specs.declared.masks.Mark.{Mark}
use Rattle.line_items.specs.declared.masks.Mark.TheVariants.{Clear, Set}
use Rattle.line_items.specs.BusyDays.{fixed_busy_days}
use Rattle.line_items.specs.Clear.{base_of, duties_of}
use Rattle.line_items.specs.Items.{item_count, item_begins, item_rests, item_events}
use Rattle.line_lens.specs.LineLabels.{LabelOf, EndOf, label_extend, label_done, label_start, label_end}
use Rattle.line_items.specs.Masks.{IsMask}
use Rattle.line_items.specs.NightRows.{night_start, night_end, past_row, past_until}
use Rattle.take_graphs.specs.Takes.{passes_by, takes_by, AreTakeArcs}
use Rattle.take_graphs.specs.TakeLabels.{TakeOf, TakeStepOf, take_extend, take_done, take_start}
use Rattle.line_items.proofs.Apart.{is_near}
use Rattle.line_items.proofs.ItemSteps.{day_step, credit_at, free_step, pause_step, daily_step, night_step, nights_step}
use Rattle.line_lens.proofs.LabelSteps.{label_step}
use Rattle.take_graphs.proofs.TakeSteps.{take_step}
use Rattle.take_graphs.proofs.TakenPlaces.{taken_by, stops_by}
use Rattle.line_items.proofs.Walks.{run, along}
use Rattle.line_items.specs.WindowMinutes.{spread, window_minutes, kind_limit}
use Rattle.take_graphs.proofs.Alike.{AreAlike}
use Rattle.take_graphs.proofs.Calm.{IsCalmSpan, IsCalmUsage, span_calms, mask_calms, usage_calms}
use Rattle.take_graphs.proofs.ChainPairs.{map_map, still_chain}
use Rattle.take_graphs.proofs.ChainPairs.{list_completes, list_first, list_second}
use Rattle.line_items.proofs.Completing.{Completes, still}
use Rattle.take_graphs.proofs.DailyChain.{days_alike}
use Rattle.take_graphs.proofs.Dropping.{Calms, along_map}
use Rattle.take_graphs.proofs.Dropping.{to_stops, from_stops}
use Rattle.line_lens.proofs.MaskBits.{AreMarked, nothing_cleared, nothing_set}
use Rattle.line_items.proofs.FreeMinutes.{picked}
use Rattle.take_graphs.proofs.NightTakes.{nights_alike}
use Rattle.take_graphs.proofs.PauseChain.{pauses_alike}
use Rattle.take_graphs.proofs.Taking.{IsPath}
use Rattle.line_lens.proofs.Together.{whole_from, parts_from}
use Rattle.line_items.proofs.Visited.{IsPlaced}
use Rattle.line_items.proofs.Visits.{IsSorted}
use Rattle.line_items.proofs.WindowChain.{by_pairing}

-- a mask is known by its bits
same_mask : (problem : Problem) (member : ℕ) (lens : Lens) (mark : Mark) (a b : ℕ) → IsMask problem member lens mark a → IsMask problem member lens mark b → a ≡ b
same_mask problem member lens mark a b p q = same_from_bits_below 64 a b p.within q.within (λ i lt. p.bits i lt ∙ sym (q.bits i lt))

module _ (problem : Problem) (member : ℕ) (lens : Lens) (adds clear set : ℕ → ℕ) (bits : ℕ) (marked : AreMarked problem member lens adds clear set bits) where
  no_credit : (round : ℕ → ℕ) (t : ℕ) → length problem.base.pairings ≤ adds t → credit_at problem round adds t ≡ 0
  no_credit round t le = ap (λ (o : Option Pairing). option_map_or (λ (p : Pairing). round p.credit) o 0) (slice_get_past problem.base.pairings (adds t) le)

  no_minutes : (t : ℕ) → length problem.base.pairings ≤ adds t → (w : _) → window_minutes (item_events problem member lens (adds t)) w ≡ 0
  no_minutes t le w =
      by_pairing problem member lens w (adds t)
      ∙ ap (λ (o : Option Pairing). option_map_or (λ (x : Pairing). window_minutes (duties_of x) w) o 0) (slice_get_past problem.base.pairings (adds t) le)

  none_cleared : (t : ℕ) → length problem.base.pairings ≤ adds t → clear t ≡ 0
  none_cleared t le = same_mask problem member lens (Clear (adds t)) (clear t) 0 (marked.clears t) (nothing_cleared problem member lens (adds t) le)

  none_set : (t : ℕ) → length problem.base.pairings ≤ adds t → set t ≡ 0
  none_set t le = same_mask problem member lens (Set (adds t)) (set t) 0 (marked.sets t) (nothing_set problem member lens (adds t) le)

-- what is alike completes alike, where nothing is asked at the end
alike_first : {R Q : Type 0} (o : Option R) (p : Option Q) → AreAlike (λ s p. Unit {0}) o p → (r : R) → o ≡ Some r → (q : Q) × (p ≡ Some q)
alike_first o p (inl none) r e = absurd (clash (sym none.0 ∙ e))
  where
    clash : {X : Type 0} {x : X} → ◌≡◌ {A = Option X} None (Some x) → ⊥
    clash h = cc
alike_first o p (inr both) r e = (both.second, both.second_is)

alike_second : {R Q : Type 0} (o : Option R) (p : Option Q) → AreAlike (λ s p. Unit {0}) o p → (q : Q) → p ≡ Some q → (r : R) × (o ≡ Some r)
alike_second o p (inl none) q e = absurd (clash (sym none.1 ∙ e))
  where
    clash : {X : Type 0} {x : X} → ◌≡◌ {A = Option X} None (Some x) → ⊥
    clash h = cc
alike_second o p (inr both) q e = (both.first, both.first_is)

abbrev any_done : {R : Type 0} → R → Unit {0} → Bool
any_done r e = true

module _ (N : ℕ) (problem : Problem) (member : ℕ) (lens : Lens) (terms : Terms) (adds clear set : ℕ → ℕ) (sink bits : ℕ) (asks : MaskEnd)
    (source : length problem.base.pairings ≤ adds 0) (last : length problem.base.pairings ≤ adds sink)
    (marked : AreMarked problem member lens adds clear set bits)
    (small : sum_by (λ (e : Event). e.credit) (fixed_of problem member) ≤ 2 ^ 31)
    (sorted : IsSorted (item_count problem member lens) sink adds (item_begins problem member lens) (item_rests problem member lens))
    (placed : IsPlaced problem member lens adds sink)
    {S : Type 0} (may must : ℕ → Bool) (gain : ℕ → ℤ) (step : ℕ → ℕ → ℕ → S) (arcs : List (Arc S)) (taken : List ℕ)
    (are : AreTakeArcs (passes_by may must) (takes_by may must (is_near (item_begins problem member lens) (item_rests problem member lens) adds sink)) gain step arcs taken)
    (some : 0 < sink)
    (nears : (i j k : ℕ) → 0 < j → j ≤ k → k ≤ sink → is_near (item_begins problem member lens) (item_rests problem member lens) adds sink i j ≡ true → is_near (item_begins problem member lens) (item_rests problem member lens) adds sink i k ≡ true)
    (starts : (k : ℕ) → 0 < k → k ≤ sink → is_near (item_begins problem member lens) (item_rests problem member lens) adds sink 0 k ≡ true)
    (free_source : must 0 ≡ false) where
  abbrev T : ℕ → ℕ
  T number = slice_index_or taken number 0

  abbrev from_at : ℕ → ℕ
  from_at number = option_map_or (λ (arc : Arc S). arc.from) (slice_get arcs number) 0

  abbrev to_at : ℕ → ℕ
  to_at number = option_map_or (λ (arc : Arc S). arc.to) (slice_get arcs number) 0

  -- the step of an arc by its number
  abbrev f : ℕ → TakeStepOf N
  f number = take_step {N = N} problem member lens terms adds clear set (T number) (from_at number) (to_at number)

  abbrev credit_step : ℕ → SpanStep
  credit_step t = record { down = credit_at problem (floor_to lens.grain) adds t; up = credit_at problem (ceil_to lens.grain) adds t; cap = terms.high }

  abbrev bids_step : ℕ → MaskStep
  bids_step t = record { clear = clear t; set = set t }

  abbrev windows_step : ℕ → UsageStep N
  windows_step t = record { amounts = spread N (window_minutes (item_events problem member lens (adds t))) lens.windows; caps = spread N (λ w. kind_limit w.kind) lens.windows }

  abbrev start : TakeOf N
  start = take_start {N = N} problem member lens bits

  abbrev first : LabelOf N
  first = label_start {N = N} problem member lens bits

  abbrev end : EndOf
  end = label_end terms asks

  credit_calms : Calms span_extend start.first credit_step sink (IsCalmSpan terms.high)
  credit_calms =
      span_calms (credit_at problem (floor_to lens.grain) adds) (credit_at problem (ceil_to lens.grain) adds) terms.high sink start.first small
      (no_credit problem member lens adds clear set bits marked (floor_to lens.grain) 0 source) (no_credit problem member lens adds clear set bits marked (ceil_to lens.grain) 0 source)
      (no_credit problem member lens adds clear set bits marked (floor_to lens.grain) sink last) (no_credit problem member lens adds clear set bits marked (ceil_to lens.grain) sink last)

  bids_calms : Calms mask_extend start.second.first bids_step sink (λ r. r.bits < 2 ^ 64)
  bids_calms =
      mask_calms 64 clear set sink start.second.first refl marked.starts.within (λ t. (marked.sets t).within)
      (none_cleared problem member lens adds clear set bits marked 0 source) (none_set problem member lens adds clear set bits marked 0 source)
      (none_cleared problem member lens adds clear set bits marked sink last) (none_set problem member lens adds clear set bits marked sink last)

  windows_calms : Calms (usage_extend {N = N}) start.second.second.second.second.second windows_step sink (IsCalmUsage N lens.windows (λ w. kind_limit w.kind))
  windows_calms =
      usage_calms N lens.windows (λ t. window_minutes (item_events problem member lens (adds t))) (λ w. kind_limit w.kind) (window_minutes (base_of problem member)) sink
      (no_minutes problem member lens adds clear set bits marked 0 source) (no_minutes problem member lens adds clear set bits marked sink last)

  -- what each part does along a chain
  pub record ChainParts (chain : List ℕ) : Type 0 where
    pub credit : Completes span_extend span_done start.first end.0 (map (λ n. (f n).0) chain)
    pub bids : Completes mask_extend mask_done start.second.first end.1.0 (map (λ n. (f n).1.0) chain)
    pub free : Completes pause_extend (any_done {R = Pause}) start.second.second.first end.1.1.0 (map (λ n. (f n).1.1.0) chain)
    pub days : Completes daily_extend (any_done {R = Daily}) start.second.second.second.first end.1.1.1.0 (map (λ n. (f n).1.1.1.0) chain)
    pub nights : Completes nights_extend (any_done {R = Nights}) start.second.second.second.second.first end.1.1.1.1.0 (map (λ n. (f n).1.1.1.1.0) chain)
    pub windows : Completes (usage_extend {N = N}) (any_done {R = Usage N}) start.second.second.second.second.second end.1.1.1.1.1 (map (λ n. (f n).1.1.1.1.1) chain)

  abbrev extend_5 : Pair Nights (Usage N) → NightStep × UsageStep N → Option (Pair Nights (Usage N))
  extend_5 = pair_extend nights_extend (usage_extend {N = N})

  abbrev done_5 : Pair Nights (Usage N) → Unit {0} × Unit {0} → Bool
  done_5 = pair_done (any_done {R = Nights}) (any_done {R = Usage N})

  abbrev extend_4 : Pair Daily (Pair Nights (Usage N)) → DailyStep × (NightStep × UsageStep N) → Option (Pair Daily (Pair Nights (Usage N)))
  extend_4 = pair_extend daily_extend extend_5

  abbrev done_4 : Pair Daily (Pair Nights (Usage N)) → Unit {0} × (Unit {0} × Unit {0}) → Bool
  done_4 = pair_done (any_done {R = Daily}) done_5

  abbrev extend_3 : Pair Pause (Pair Daily (Pair Nights (Usage N))) → PauseStep × (DailyStep × (NightStep × UsageStep N)) → Option (Pair Pause (Pair Daily (Pair Nights (Usage N))))
  extend_3 = pair_extend pause_extend extend_4

  abbrev done_3 : Pair Pause (Pair Daily (Pair Nights (Usage N))) → Unit {0} × (Unit {0} × (Unit {0} × Unit {0})) → Bool
  done_3 = pair_done (any_done {R = Pause}) done_4

  abbrev extend_2 : Pair Mask (Pair Pause (Pair Daily (Pair Nights (Usage N)))) → MaskStep × (PauseStep × (DailyStep × (NightStep × UsageStep N))) → Option (Pair Mask (Pair Pause (Pair Daily (Pair Nights (Usage N)))))
  extend_2 = pair_extend mask_extend extend_3

  abbrev done_2 : Pair Mask (Pair Pause (Pair Daily (Pair Nights (Usage N)))) → MaskEnd × (Unit {0} × (Unit {0} × (Unit {0} × Unit {0}))) → Bool
  done_2 = pair_done mask_done done_3

  abbrev pub ChainWhole : List ℕ → Type 0
  ChainWhole chain = Completes (take_extend {N = N}) (take_done {N = N}) start end (map f chain)

  chain_from : (chain : List ℕ) → ChainParts chain → ChainWhole chain
  chain_from chain p =
      list_completes span_extend span_done extend_2 done_2 start.first start.second end f chain p.credit
      (list_completes mask_extend mask_done extend_3 done_3 start.second.first start.second.second end.1 (λ n. (f n).1) chain p.bids
      (list_completes pause_extend (any_done {R = Pause}) extend_4 done_4 start.second.second.first start.second.second.second end.1.1 (λ n. (f n).1.1) chain p.free
      (list_completes daily_extend (any_done {R = Daily}) extend_5 done_5 start.second.second.second.first start.second.second.second.second end.1.1.1 (λ n. (f n).1.1.1) chain p.days
      (list_completes nights_extend (any_done {R = Nights}) (usage_extend {N = N}) (any_done {R = Usage N}) start.second.second.second.second.first start.second.second.second.second.second end.1.1.1.1 (λ n. (f n).1.1.1.1) chain p.nights p.windows))))

  chain_parts : (chain : List ℕ) → ChainWhole chain → ChainParts chain
  chain_parts chain c =
      let second = list_second span_extend span_done extend_2 done_2 start.first start.second end f chain c in
      let third = list_second mask_extend mask_done extend_3 done_3 start.second.first start.second.second end.1 (λ n. (f n).1) chain second in
      let fourth = list_second pause_extend (any_done {R = Pause}) extend_4 done_4 start.second.second.first start.second.second.second end.1.1 (λ n. (f n).1.1) chain third in
      let fifth = list_second daily_extend (any_done {R = Daily}) extend_5 done_5 start.second.second.second.first start.second.second.second.second end.1.1.1 (λ n. (f n).1.1.1) chain fourth in
      record {
        credit = list_first span_extend span_done extend_2 done_2 start.first start.second end f chain c;
        bids = list_first mask_extend mask_done extend_3 done_3 start.second.first start.second.second end.1 (λ n. (f n).1) chain second;
        free = list_first pause_extend (any_done {R = Pause}) extend_4 done_4 start.second.second.first start.second.second.second end.1.1 (λ n. (f n).1.1) chain third;
        days = list_first daily_extend (any_done {R = Daily}) extend_5 done_5 start.second.second.second.first start.second.second.second.second end.1.1.1 (λ n. (f n).1.1.1) chain fourth;
        nights = list_first nights_extend (any_done {R = Nights}) (usage_extend {N = N}) (any_done {R = Usage N}) start.second.second.second.second.first start.second.second.second.second.second end.1.1.1.1 (λ n. (f n).1.1.1.1) chain fifth;
        windows = list_second nights_extend (any_done {R = Nights}) (usage_extend {N = N}) (any_done {R = Usage N}) start.second.second.second.second.first start.second.second.second.second.second end.1.1.1.1 (λ n. (f n).1.1.1.1) chain fifth;
      }

  -- a part whose steps depend on what is taken alone
  calm_to : {R U E : Type 0} (extend : R → U → Option R) (done : R → E → Bool) (r : R) (e : E) (g : ℕ → U) (calm : R → Type 0) → Calms extend r g sink calm
      → (number : ℕ) (chain : List ℕ) → Completes extend done r e (map (λ n. g (T n)) (number ∷ chain)) → Completes extend done r e (along (λ x y. g y) 0 (stops_by sink (taken_by taken (number ∷ chain))))
  calm_to extend done r e g calm calms number chain c =
      subst (Completes extend done r e) (sym (along_map g 0 (stops_by sink (taken_by taken (number ∷ chain)))))
      (to_stops extend done r e g sink calm calms (T number) (taken_by taken chain)
      (subst (Completes extend done r e) (sym (map_map g T (number ∷ chain))) c))

  calm_back : {R U E : Type 0} (extend : R → U → Option R) (done : R → E → Bool) (r : R) (e : E) (g : ℕ → U) (calm : R → Type 0) → Calms extend r g sink calm
      → (chain : List ℕ) → Completes extend done r e (along (λ x y. g y) 0 (stops_by sink (taken_by taken chain))) → Completes extend done r e (map (λ n. g (T n)) chain)
  calm_back extend done r e g calm calms chain c =
      subst (Completes extend done r e) (map_map g T chain)
      (from_stops extend done r e g sink calm calms (taken_by taken chain)
      (subst (Completes extend done r e) (along_map g 0 (stops_by sink (taken_by taken chain))) c))

  abbrev FreeParts : List ℕ → Type 0
  FreeParts chain = Completes pause_extend (any_done {R = Pause}) (record { latest = 0; busy = 0 }) tt (map (λ n. pause_step problem member lens adds (T n) (from_at n) (to_at n)) chain)

  abbrev FreeStops : List ℕ → Type 0
  FreeStops js = Completes latest_extend (any_done {R = Latest}) (record { value = 0 }) tt (along (free_step problem member lens adds) 0 js)

  free_to : (chain : List ℕ) → IsPath arcs 0 chain sink → FreeParts chain → FreeStops (stops_by sink (taken_by taken chain))
  free_to chain path c = go lens.free30 refl
    where
      go : (b : Bool) → lens.free30 ≡ b → FreeStops (stops_by sink (taken_by taken chain))
      go true on =
          let alike = pauses_alike problem member lens adds sink sorted placed on may must gain step arcs taken are some nears starts free_source chain path in
          let found = alike_first (run pause_extend (record { latest = 0; busy = 0 }) (map (λ n. pause_step problem member lens adds (T n) (from_at n) (to_at n)) chain))
          (run latest_extend (record { value = 0 }) (along (free_step problem member lens adds) 0 (stops_by sink (taken_by taken chain)))) alike c.last c.runs in
          record { last = found.0; runs = found.1; is_done = refl }
      go false off = rw off (still latest_extend (any_done {R = Latest}) (record { value = 0 }) tt (λ i j. record { renew = None; least = 0 }) 0 (stops_by sink (taken_by taken chain)) (λ x y. refl) refl)

  free_back : (chain : List ℕ) → IsPath arcs 0 chain sink → FreeStops (stops_by sink (taken_by taken chain)) → FreeParts chain
  free_back chain path c = go lens.free30 refl
    where
      go : (b : Bool) → lens.free30 ≡ b → FreeParts chain
      go true on =
          let alike = pauses_alike problem member lens adds sink sorted placed on may must gain step arcs taken are some nears starts free_source chain path in
          let found = alike_second (run pause_extend (record { latest = 0; busy = 0 }) (map (λ n. pause_step problem member lens adds (T n) (from_at n) (to_at n)) chain))
          (run latest_extend (record { value = 0 }) (along (free_step problem member lens adds) 0 (stops_by sink (taken_by taken chain)))) alike c.last c.runs in
          record { last = found.0; runs = found.1; is_done = refl }
      go false off = rw off (still_chain pause_extend (any_done {R = Pause}) (record { latest = 0; busy = 0 }) tt (λ n. record { least = 0; renew = 0; busy = 0; free = 0 }) chain (λ n. refl) refl)

  abbrev DayParts : List ℕ → Type 0
  DayParts chain = Completes daily_extend (any_done {R = Daily}) (record { count = fixed_busy_days problem member lens; today = false }) tt (map (λ n. daily_step problem member lens terms adds (T n) (from_at n) (to_at n)) chain)

  abbrev DayStops : List ℕ → Type 0
  DayStops js = Completes least_extend (any_done {R = Least}) (record { value = fixed_busy_days problem member lens }) tt (along (day_step problem member lens terms adds) 0 js)

  days_to : (chain : List ℕ) → IsPath arcs 0 chain sink → DayParts chain → DayStops (stops_by sink (taken_by taken chain))
  days_to chain path c = go lens.days refl
    where
      go : (b : Bool) → lens.days ≡ b → DayStops (stops_by sink (taken_by taken chain))
      go true on =
          let alike = days_alike problem member lens terms adds sink sorted placed on may must gain step arcs taken are some nears starts free_source (fixed_busy_days problem member lens) chain path in
          let found = alike_first (run daily_extend (record { count = fixed_busy_days problem member lens; today = false }) (map (λ n. daily_step problem member lens terms adds (T n) (from_at n) (to_at n)) chain))
          (run least_extend (record { value = fixed_busy_days problem member lens }) (along (day_step problem member lens terms adds) 0 (stops_by sink (taken_by taken chain)))) alike c.last c.runs in
          record { last = found.0; runs = found.1; is_done = refl }
      go false off = rw off (still least_extend (any_done {R = Least}) (record { value = 0 }) tt (λ i j. record { add = 0; cap = 0 }) 0 (stops_by sink (taken_by taken chain)) (λ x y. refl) refl)

  days_back : (chain : List ℕ) → IsPath arcs 0 chain sink → DayStops (stops_by sink (taken_by taken chain)) → DayParts chain
  days_back chain path c = go lens.days refl
    where
      go : (b : Bool) → lens.days ≡ b → DayParts chain
      go true on =
          let alike = days_alike problem member lens terms adds sink sorted placed on may must gain step arcs taken are some nears starts free_source (fixed_busy_days problem member lens) chain path in
          let found = alike_second (run daily_extend (record { count = fixed_busy_days problem member lens; today = false }) (map (λ n. daily_step problem member lens terms adds (T n) (from_at n) (to_at n)) chain))
          (run least_extend (record { value = fixed_busy_days problem member lens }) (along (day_step problem member lens terms adds) 0 (stops_by sink (taken_by taken chain)))) alike c.last c.runs in
          record { last = found.0; runs = found.1; is_done = refl }
      go false off = rw off (still_chain daily_extend (any_done {R = Daily}) (record { count = 0; today = false }) tt (λ n. record { add = 0; again = false; keeps = false; sets = false; cap = 0 }) chain (λ n. refl) refl)

  abbrev NightParts : List ℕ → Type 0
  NightParts chain =
      Completes nights_extend (any_done {R = Nights}) (record { count = night_start problem member lens; until = night_end problem member lens }) tt
      (map (λ n. nights_step problem member lens adds (T n) (from_at n) (to_at n)) chain)

  abbrev NightStops : List ℕ → Type 0
  NightStops js = Completes run_extend (any_done {R = Run}) (record { value = night_start problem member lens }) tt (along (night_step problem member lens adds) 0 js)

  abbrev nights_of : List ℕ → List NightStep
  nights_of chain = map (λ n. nights_step problem member lens adds (T n) (from_at n) (to_at n)) chain

  abbrev night_run : List ℕ → Type 0
  night_run chain =
      AreAlike (λ s p. Unit {0})
      (run nights_extend (record { count = night_start problem member lens; until = night_end problem member lens }) (nights_of chain))
      (run run_extend (record { value = night_start problem member lens }) (along (night_step problem member lens adds) 0 (stops_by sink (taken_by taken chain))))

  nights_both : (chain : List ℕ) → IsPath arcs 0 chain sink → lens.free30 ≡ true → night_run chain
  nights_both chain path on =
      subst (λ (n : ℕ). AreAlike (λ s p. Unit {0})
      (run nights_extend (record { count = n; until = night_end problem member lens }) (nights_of chain))
      (run run_extend (record { value = n }) (along (night_step problem member lens adds) 0 (stops_by sink (taken_by taken chain)))))
      (sym (picked lens.free30 (past_row problem member) 0 on))
      (subst (λ (u : ℕ). AreAlike (λ s p. Unit {0})
      (run nights_extend (record { count = past_row problem member; until = u }) (nights_of chain))
      (run run_extend (record { value = past_row problem member }) (along (night_step problem member lens adds) 0 (stops_by sink (taken_by taken chain)))))
      (sym (picked lens.free30 (past_until problem member) 0 on))
      (nights_alike problem member lens adds sink sorted placed on may must gain step arcs taken are some nears starts free_source chain path))

  nights_to : (chain : List ℕ) → IsPath arcs 0 chain sink → NightParts chain → NightStops (stops_by sink (taken_by taken chain))
  nights_to chain path c = go lens.free30 refl
    where
      go : (b : Bool) → lens.free30 ≡ b → NightStops (stops_by sink (taken_by taken chain))
      go true on =
          let found = alike_first (run nights_extend (record { count = night_start problem member lens; until = night_end problem member lens }) (nights_of chain))
          (run run_extend (record { value = night_start problem member lens }) (along (night_step problem member lens adds) 0 (stops_by sink (taken_by taken chain)))) (nights_both chain path on) c.last c.runs in
          record { last = found.0; runs = found.1; is_done = refl }
      go false off = rw off (still run_extend (any_done {R = Run}) (record { value = 0 }) tt (λ i j. record { lead = 0; reset = None; cap = 0 }) 0 (stops_by sink (taken_by taken chain)) (λ x y. refl) refl)

  nights_back : (chain : List ℕ) → IsPath arcs 0 chain sink → NightStops (stops_by sink (taken_by taken chain)) → NightParts chain
  nights_back chain path c = go lens.free30 refl
    where
      go : (b : Bool) → lens.free30 ≡ b → NightParts chain
      go true on =
          let found = alike_second (run nights_extend (record { count = night_start problem member lens; until = night_end problem member lens }) (nights_of chain))
          (run run_extend (record { value = night_start problem member lens }) (along (night_step problem member lens adds) 0 (stops_by sink (taken_by taken chain)))) (nights_both chain path on) c.last c.runs in
          record { last = found.0; runs = found.1; is_done = refl }
      go false off = rw off (still_chain nights_extend (any_done {R = Nights}) (record { count = 0; until = 0 }) tt (λ n. record { lead = 0; reset = None; until = 0; free = 0; cap = 0 }) chain (λ n. refl) refl)

  -- a label completes a chain exactly where that of a line graph completes its stops
  pub stops_whole : (number : ℕ) (chain : List ℕ) → IsPath arcs 0 (number ∷ chain) sink → ChainWhole (number ∷ chain)
      → Completes (label_extend {N = N}) (label_done {N = N}) (label_start {N = N} problem member lens bits) (label_end terms asks)
      (along (label_step {N = N} problem member lens terms adds clear set) 0 (stops_by sink (taken_by taken (number ∷ chain))))
  stops_whole number chain path whole =
      let p = chain_parts (number ∷ chain) whole in
      let js = stops_by sink (taken_by taken (number ∷ chain)) in
      whole_from first end (label_step {N = N} problem member lens terms adds clear set) js (record {
        credit = calm_to span_extend span_done start.first end.0 credit_step (IsCalmSpan terms.high) credit_calms number chain p.credit;
        bids = calm_to mask_extend mask_done start.second.first end.1.0 bids_step (λ r. r.bits < 2 ^ 64) bids_calms number chain p.bids;
        free = free_to (number ∷ chain) path p.free;
        days = days_to (number ∷ chain) path p.days;
        nights = nights_to (number ∷ chain) path p.nights;
        windows = calm_to (usage_extend {N = N}) (any_done {R = Usage N}) start.second.second.second.second.second end.1.1.1.1.1 windows_step (IsCalmUsage N lens.windows (λ w. kind_limit w.kind)) windows_calms number chain p.windows;
      })

  pub chain_whole : (chain : List ℕ) → IsPath arcs 0 chain sink
      → Completes (label_extend {N = N}) (label_done {N = N}) (label_start {N = N} problem member lens bits) (label_end terms asks)
      (along (label_step {N = N} problem member lens terms adds clear set) 0 (stops_by sink (taken_by taken chain)))
      → ChainWhole chain
  chain_whole chain path whole =
      let js = stops_by sink (taken_by taken chain) in
      let p = parts_from first end (label_step {N = N} problem member lens terms adds clear set) js whole in
      chain_from chain (record {
        credit = calm_back span_extend span_done start.first end.0 credit_step (IsCalmSpan terms.high) credit_calms chain p.credit;
        bids = calm_back mask_extend mask_done start.second.first end.1.0 bids_step (λ r. r.bits < 2 ^ 64) bids_calms chain p.bids;
        free = free_back chain path p.free;
        days = days_back chain path p.days;
        nights = nights_back chain path p.nights;
        windows = calm_back (usage_extend {N = N}) (any_done {R = Usage N}) start.second.second.second.second.second end.1.1.1.1.1 windows_step (IsCalmUsage N lens.windows (λ w. kind_limit w.kind)) windows_calms chain p.windows;
      })
