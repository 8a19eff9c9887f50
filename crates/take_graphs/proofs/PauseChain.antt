-- The last free block along what a chain takes is that along its stops.
use Rattle.std.proofs.Common.{◌≡◌, ℕ, ℤ, zero, suc, ◌+◌, ◌-◌, max, ◌<◌, ◌≤◌, Bool, true, false, not, ◌||◌, ◌==◌, List, [], ◌∷◌, ◌++◌, Option, Some, None, refl, ap, sym, ◌∙◌, subst, arith, inl, inr, ◌⊎◌}
use Rattle.std.specs.Prelude.{slice_get, slice_index_or, map, nat_le, unwrap_or, if◌then◌else◌}
use Rattle.std.specs.Option.{option_map_or}
use Rattle.std.proofs.lemmas.Bool.{cases_Bool, and_parts, false≢true}
use Rattle.std.proofs.lemmas.Bool.Decides.{nat_tests}
use Rattle.duty_calendar.specs.declared.event.Event.{Event}
use Rattle.duty_calendar.specs.declared.interval.Interval.{Interval}
use Rattle.duty_calendar.specs.Minutes.{is_duty_minute}
use Rattle.label_setter.specs.declared.graph.Arc.{Arc}
use Rattle.label_lattice.specs.declared.pauses.Pause.{Pause}
use Rattle.label_lattice.specs.declared.pauses.PauseStep.{PauseStep}
use Rattle.label_lattice.specs.declared.values.Latest.{Latest}
use Rattle.label_lattice.specs.declared.values.LatestStep.{LatestStep}
use Rattle.label_lattice.specs.Latest.{latest_extend}
use Rattle.label_lattice.specs.Pause.{pause_extend, pause_settled}
use Rattle.roster_model.specs.declared.problem.Problem.{Problem}
use Rattle.roster_model.specs.declared.proof.Lens.{Lens}
use Rattle.roster_model.specs.Spans.{first_report, pairing_span, event_span}
use Rattle.line_items.specs.Clear.{base_of, duties_of}
use Rattle.line_items.specs.FreeBlocks.{last_block, item_least, least_start, base_block, own_block}
use Rattle.line_items.specs.Items.{item_count, item_begins, item_rests, item_span, item_events}
use Rattle.take_graphs.specs.Takes.{passes_by, takes_by, AreTakeArcs}
use Rattle.line_items.proofs.Apart.{is_near}
use Rattle.line_items.proofs.ItemSteps.{free_step, pause_step}
use Rattle.take_graphs.proofs.TakenPlaces.{taken_by, stops_by}
use Rattle.line_items.proofs.Walks.{run, along}
use Rattle.take_graphs.proofs.Alike.{AreAlike, Comes}
use Rattle.take_graphs.proofs.Alike.{run_alike}
use Rattle.line_items.proofs.Blocks.{Lies, last_block_is, last_block_most}
use Rattle.line_items.proofs.FreeMinutes.{minutes_split}
use Rattle.line_items.proofs.FreeMinutes.{at_none}
use Rattle.take_graphs.proofs.ItemWork.{work}
use Rattle.take_graphs.proofs.Taking.{IsPath, IsAt}
use Rattle.take_graphs.proofs.Taking.{at_source}
use Rattle.line_items.proofs.Visited.{IsPlaced}
use Rattle.line_items.proofs.Visits.{IsSorted}

-- the start of the last free block between two times, or 0
abbrev pub latest_of : List Event → ℕ → ℕ → ℕ
latest_of events low high = unwrap_or (last_block events low high) 0

latest_most : (events : List Event) (low high t : ℕ) → Lies events low high t → t ≤ latest_of events low high
latest_most events low high t lies =
    let k = last_block_most events low high t lies in
    let is : latest_of events low high ≡ k.0 = ap (λ (o : Option ℕ). unwrap_or o 0) k.1 in
    omega (arith, is, k.2)

latest_is : (events : List Event) (low high : ℕ) → (latest_of events low high ≡ 0) ⊎ Lies events low high (latest_of events low high)
latest_is events low high = go (last_block events low high) refl
  where
    go : (o : Option ℕ) → last_block events low high ≡ o → (unwrap_or o 0 ≡ 0) ⊎ Lies events low high (unwrap_or o 0)
    go None e = inl refl
    go (Some t) e = inr (last_block_is events low high t e)

-- the block, where the work is over by then
abbrev pub if_over : ℕ → ℕ → ℕ
if_over busy free = if nat_le busy free then free else 0

over_true : (busy free : ℕ) → busy ≤ free → if_over busy free ≡ free
over_true busy free le = let t : nat_le busy free ≡ true = grind (arith, nat_tests) in ap (λ (b : Bool). if b then free else 0) t

over_false : (busy free : ℕ) → free < busy → if_over busy free ≡ 0
over_false busy free lt = let t : nat_le busy free ≡ false = grind (arith, nat_tests) in ap (λ (b : Bool). if b then free else 0) t

-- the last block after work begins is within the work, or one that is free in any case and begins after it
renewed : (base own : List Event) (b e k : ℕ) → b < e → e ≤ k → (is_duty_minute (base ++ own) (e - 1) ≡ false → ⊥) → ((m : ℕ) → e ≤ m → is_duty_minute own m ≡ false)
    → latest_of (base ++ own) b k ≡ max (latest_of (base ++ own) b e) (if_over e (latest_of base 0 k))
renewed base own b e k lasts after busy quiet =
    let first = most_of (latest_is (base ++ own) b k) in
    let second = own_of (latest_is (base ++ own) b e) in
    let third = base_of_it (latest_is base 0 k) in
    omega (arith, first, second, third)
  where
    all : List Event
    all = base ++ own

    most_of : (latest_of (base ++ own) b k ≡ 0) ⊎ Lies (base ++ own) b k (latest_of (base ++ own) b k) → latest_of (base ++ own) b k ≤ max (latest_of (base ++ own) b e) (if_over e (latest_of base 0 k))
    most_of (inl none) = omega (arith, none)
    most_of (inr lies) = elim (cases_Bool (nat_le e (latest_of (base ++ own) b k))) [
      | inl late ↦
          let le : e ≤ latest_of (base ++ own) b k = grind (arith, nat_tests) in
          let there : Lies base 0 k (latest_of (base ++ own) b k) = record { after = omega arith; before = lies.before; free = λ m low high. (minutes_split m).first base own (lies.free m low high) } in
          let most = latest_most base 0 k (latest_of (base ++ own) b k) there in
          let over = over_true e (latest_of base 0 k) (omega (arith, le, most)) in
          omega (arith, most, over)
      | inr early ↦
          let lt : latest_of (base ++ own) b k < e = grind (arith, nat_tests) in
          let ends : latest_of (base ++ own) b k + 1800 ≤ e = within (cases_Bool (nat_le (latest_of (base ++ own) b k + 1800) e)) lt in
          let most = latest_most (base ++ own) b e (latest_of (base ++ own) b k) (record { after = lies.after; before = ends; free = lies.free }) in
          omega (arith, most)
    ]
      where
        within : (nat_le (latest_of (base ++ own) b k + 1800) e ≡ true) ⊎ (nat_le (latest_of (base ++ own) b k + 1800) e ≡ false) → latest_of (base ++ own) b k < e → latest_of (base ++ own) b k + 1800 ≤ e
        within (inl t) lt = grind (arith, nat_tests)
        within (inr f) lt =
            let past : e < latest_of (base ++ own) b k + 1800 = grind (arith, nat_tests) in
            absurd (busy (lies.free (e - 1) (omega (arith, lt)) (omega (arith, past))))

    own_of : (latest_of (base ++ own) b e ≡ 0) ⊎ Lies (base ++ own) b e (latest_of (base ++ own) b e) → latest_of (base ++ own) b e ≤ latest_of (base ++ own) b k
    own_of (inl none) = omega (arith, none)
    own_of (inr lies) = latest_most (base ++ own) b k (latest_of (base ++ own) b e) (record { after = lies.after; before = let h = lies.before in omega (arith, h, after); free = lies.free })

    base_of_it : (latest_of base 0 k ≡ 0) ⊎ Lies base 0 k (latest_of base 0 k) → if_over e (latest_of base 0 k) ≤ latest_of (base ++ own) b k
    base_of_it at = elim (cases_Bool (nat_le e (latest_of base 0 k))) [
      | inl late ↦
          let le : e ≤ latest_of base 0 k = grind (arith, nat_tests) in
          let over = over_true e (latest_of base 0 k) le in
          let most = found at le in
          omega (arith, over, most)
      | inr early ↦ let over = over_false e (latest_of base 0 k) (grind (arith, nat_tests)) in omega (arith, over)
    ]
      where
        found : (latest_of base 0 k ≡ 0) ⊎ Lies base 0 k (latest_of base 0 k) → e ≤ latest_of base 0 k → latest_of base 0 k ≤ latest_of (base ++ own) b k
        found (inl none) le = omega (arith, none)
        found (inr lies) le = latest_most (base ++ own) b k (latest_of base 0 k) (record {
          after = omega (arith, le, lasts);
          before = lies.before;
          free = λ m low high. (minutes_split m).join base own (lies.free m low high) (quiet m (omega (arith, low, le)));
        })

-- blocks that are free in any case come later with time
base_later : (base : List Event) (low high : ℕ) → low ≤ high → latest_of base 0 low ≤ latest_of base 0 high
base_later base low high le = go (latest_is base 0 low)
  where
    go : (latest_of base 0 low ≡ 0) ⊎ Lies base 0 low (latest_of base 0 low) → latest_of base 0 low ≤ latest_of base 0 high
    go (inl none) = omega (arith, none)
    go (inr lies) = latest_most base 0 high (latest_of base 0 low) (record { after = lies.after; before = let h = lies.before in omega (arith, h, le); free = lies.free })

settled_over : (l b f : ℕ) → b ≤ f → pause_settled l b f ≡ record { latest = max l f; busy = 0 }
settled_over l b f le =
    let t : nat_le b f ≡ true = grind (arith, nat_tests) in
    ap (λ (x : Bool). if x then record { latest = max l f; busy = 0 } else record { latest = l; busy = b }) t

settled_not : (l b f : ℕ) → f < b → pause_settled l b f ≡ record { latest = l; busy = b }
settled_not l b f lt =
    let t : nat_le b f ≡ false = grind (arith, nat_tests) in
    ap (λ (x : Bool). if x then record { latest = max l f; busy = 0 } else record { latest = l; busy = b }) t

module _ (problem : Problem) (member : ℕ) (lens : Lens) (adds : ℕ → ℕ) (sink : ℕ)
    (sorted : IsSorted (item_count problem member lens) sink adds (item_begins problem member lens) (item_rests problem member lens))
    (placed : IsPlaced problem member lens adds sink) where
  abbrev begin_at : ℕ → ℕ
  begin_at k = item_begins problem member lens (adds k)

  abbrev end_at : ℕ → ℕ
  end_at k = (item_span problem member lens (adds k)).stop

  abbrev free_at : ℕ → ℕ
  free_at k = base_block problem member lens (adds k)

  abbrev renew : ℕ → ℕ → ℕ
  renew t k = latest_of (base_of problem member ++ item_events problem member lens (adds t)) (begin_at t) (begin_at k)

  -- what is known after the item of place t is taken, at place i
  pub record IsPaused (t i : ℕ) (p : Pause) (v : Latest) : Type 0 where
    pub ends : p.busy ≤ (item_span problem member lens (adds t)).stop
    pub now : 0 < i → i < sink → p.latest ≡ max v.value (renew t i)
    pub later : (k : ℕ) → i < k → k < sink → max p.latest (if_over p.busy (free_at k)) ≡ max v.value (renew t k)

  free_up : (j k : ℕ) → 0 < j → j < k → k < sink → free_at j ≤ free_at k
  free_up j k positive lt small = base_later (base_of problem member) (begin_at j) (begin_at k) (sorted.sorted j k positive lt small)

  -- before the block at the place where an arc ends is taken
  settles : (t j l b v : ℕ) → 0 < j → b ≤ end_at t → ((k : ℕ) → j ≤ k → k < sink → max l (if_over b (free_at k)) ≡ max v (renew t k))
      → IsPaused t j (pause_settled l b (free_at j)) (record { value = v })
  settles t j l b v positive ends each = elim (cases_Bool (nat_le b (free_at j))) [
    | inl over ↦
        let le : b ≤ free_at j = grind (arith, nat_tests) in
        subst (λ (p : Pause). IsPaused t j p (record { value = v })) (sym (settled_over l b (free_at j) le)) (record {
          ends = omega arith;
          now = λ pos small. let e = each j (omega arith) small in let o = over_true b (free_at j) le in omega (arith, e, o);
          later = λ k lt small.
              let e = each k (omega (arith, lt)) small in
              let up = free_up j k positive lt small in
              let o = over_true b (free_at k) (omega (arith, le, up)) in
              let n = over_true 0 (free_at k) (omega arith) in
              omega (arith, e, o, n, up);
        })
    | inr not_over ↦
        let lt : free_at j < b = grind (arith, nat_tests) in
        subst (λ (p : Pause). IsPaused t j p (record { value = v })) (sym (settled_not l b (free_at j) lt)) (record {
          ends = ends;
          now = λ pos small. let e = each j (omega arith) small in let o = over_false b (free_at j) lt in omega (arith, e, o);
          later = λ k after small. each k (omega (arith, after)) small;
        })
  ]

  source_span : (item_span problem member lens (adds 0)).stop ≡ 0
  source_span = ap (λ (s : Interval). s.stop) (at_none problem member lens pairing_span event_span (record { start = 0; stop = 0 }) (adds 0) placed.source)

  begins_none : (k : ℕ) → adds k ≡ item_count problem member lens → begin_at k ≡ 0
  begins_none k e = at_none problem member lens (λ p. first_report p.duties) (λ e. e.report) 0 (adds k) e

  source_own : item_events problem member lens (adds 0) ≡ []
  source_own = at_none problem member lens duties_of (λ e. []) [] (adds 0) placed.source

  least_none : (k : ℕ) → adds k ≡ item_count problem member lens → item_least problem member lens (adds k) ≡ 0
  least_none k e = at_none problem member lens (λ p. least_start (duties_of p) (first_report p.duties) (duties_of p)) (λ e. e.report - 10080) 0 (adds k) e

  block_none : own_block problem member lens (adds 0) ≡ 0
  block_none = go (latest_is (base_of problem member ++ item_events problem member lens (adds 0)) (begin_at 0) (end_at 0))
    where
      go : (own_block problem member lens (adds 0) ≡ 0) ⊎ Lies (base_of problem member ++ item_events problem member lens (adds 0)) (begin_at 0) (end_at 0) (own_block problem member lens (adds 0)) → own_block problem member lens (adds 0) ≡ 0
      go (inl e) = e
      go (inr lies) = absurd (let h = lies.before in let z = source_span in omega (arith, h, z))

  module _ (on : lens.free30 ≡ true) where
    abbrev due : ℕ → ℕ → PauseStep
    due t j = record { least = item_least problem member lens (adds t); renew = own_block problem member lens (adds t); busy = end_at t; free = free_at j }

    step_is : (t i j : ℕ) → pause_step problem member lens adds t i j ≡ due t j
    step_is t i j = ap (λ (b : Bool). if b then due t j else none) on
      where
        none : PauseStep
        none = record { least = 0; renew = 0; busy = 0; free = 0 }

    other_is : (t i : ℕ) → free_step problem member lens adds t i ≡ record { renew = last_block (base_of problem member ++ item_events problem member lens (adds t)) (begin_at t) (begin_at i); least = item_least problem member lens (adds i) }
    other_is t i = ap (λ (b : Bool). if b then asked else none) on
      where
        asked : LatestStep
        asked = record { renew = last_block (base_of problem member ++ item_events problem member lens (adds t)) (begin_at t) (begin_at i); least = item_least problem member lens (adds i) }

        none : LatestStep
        none = record { renew = None; least = 0 }

    passed : (p : Pause) (least renews busy free : ℕ) → least ≡ 0 → renews ≡ 0 → busy ≡ 0
        → pause_extend p (record { least = least; renew = renews; busy = busy; free = free }) ≡ Some (pause_settled p.latest p.busy free)
    passed p least renews busy free a b c =
        let t : nat_le least p.latest ≡ true = grind (arith, nat_tests) in
        ap (λ (x : Bool). if x then Some (pause_settled (max p.latest renews) (max p.busy busy) free) else None) t
        ∙ ap (λ (l : ℕ). Some (pause_settled l (max p.busy busy) free)) (let e : max p.latest renews ≡ p.latest = omega arith in e)
        ∙ ap (λ (y : ℕ). Some (pause_settled p.latest y free)) (let e : max p.busy busy ≡ p.busy = omega arith in e)

    passing : (may must : ℕ → Bool) (t i j : ℕ) (p : Pause) (v : Latest) → i < j → j ≤ sink → IsPaused t i p v
        → Comes (λ s. IsPaused t j s v) (pause_extend p (pause_step problem member lens adds 0 i j))
    passing may must t i j p v lt small rel = record {
      to = pause_settled p.latest p.busy (free_at j);
      is = ap (pause_extend p) (step_is 0 i j) ∙ passed p (item_least problem member lens (adds 0)) (own_block problem member lens (adds 0)) (end_at 0) (free_at j) (least_none 0 placed.source) block_none source_span;
      related = settles t j p.latest p.busy v.value (omega arith) rel.ends (λ k le inner. rel.later k (omega (arith, lt, le)) inner);
    }

    follows : (may : ℕ → Bool) (must : ℕ → Bool) (t k : ℕ) → k < sink → is_near (item_begins problem member lens) (item_rests problem member lens) adds sink t k ≡ true → item_rests problem member lens (adds t) ≤ begin_at k
    follows may must t k small h =
        let parts = and_parts (not (t == sink)) _ h in
        inner (k == sink) (let e : (k == sink) ≡ false = grind (arith, nat_tests) in e) parts.1
      where
        inner : (b : Bool) → b ≡ false → (b || nat_le (item_rests problem member lens (adds t)) (begin_at k)) ≡ true → item_rests problem member lens (adds t) ≤ begin_at k
        inner true e h = absurd (false≢true (sym e))
        inner false e h = grind (arith, nat_tests)

    ends_rests : (t : ℕ) → t < sink → end_at t ≤ item_rests problem member lens (adds t)
    ends_rests zero lt = let z = source_span in omega (arith, z)
    ends_rests (suc t) lt = (work problem member lens (adds (suc t)) (placed.inner (suc t) (omega arith) lt)).rests

    latest_takes : (q : Latest) (r : Option ℕ) (least : ℕ) → least ≤ max q.value (unwrap_or r 0) → latest_extend q (record { renew = r; least = least }) ≡ Some (record { value = max q.value (unwrap_or r 0) })
    latest_takes q r least le =
        let t : nat_le least (max q.value (unwrap_or r 0)) ≡ true = grind (arith, nat_tests) in
        ap (λ (b : Bool). if b then Some (record { value = max q.value (unwrap_or r 0) }) else None) t

    latest_fails : (q : Latest) (r : Option ℕ) (least : ℕ) → max q.value (unwrap_or r 0) < least → latest_extend q (record { renew = r; least = least }) ≡ None
    latest_fails q r least lt =
        let t : nat_le least (max q.value (unwrap_or r 0)) ≡ false = grind (arith, nat_tests) in
        ap (λ (b : Bool). if b then Some (record { value = max q.value (unwrap_or r 0) }) else None) t

    taking : (may must : ℕ → Bool) (t i j : ℕ) (p : Pause) (q : Latest) → 0 < i → i < sink → i < j → j ≤ sink
        → IsAt may must (is_near (item_begins problem member lens) (item_rests problem member lens) adds sink) sink t i
        → IsAt may must (is_near (item_begins problem member lens) (item_rests problem member lens) adds sink) sink i j → IsPaused t i p q
        → AreAlike (λ s v. IsPaused i j s v) (pause_extend p (pause_step problem member lens adds i i j)) (latest_extend q (free_step problem member lens adds t i))
    taking may must t i j p q positive inner to_j small at on_at rel =
        let now = rel.now positive inner in
        let least = item_least problem member lens (adds i) in
        let w = work problem member lens (adds i) (placed.inner i positive inner) in
        let before = at.lt positive in
        let follow = follows may must t i inner (at.fits i (omega arith) positive (omega arith)) in
        let over = ends_rests t (omega arith) in
        let lasts = w.lasts in
        let ends = rel.ends in
        let busy : max p.busy (end_at i) ≡ end_at i = omega (arith, follow, over, lasts, ends) in
        elim (cases_Bool (nat_le least p.latest)) [
          | inl fits ↦
              let le : least ≤ p.latest = grind (arith, nat_tests) in
              inr (record {
                first = pause_settled (max p.latest (own_block problem member lens (adds i))) (max p.busy (end_at i)) (free_at j);
                second = record { value = max q.value (renew t i) };
                first_is = ap (pause_extend p) (step_is i i j) ∙ ap (λ (x : Bool). if x then Some (pause_settled (max p.latest (own_block problem member lens (adds i))) (max p.busy (end_at i)) (free_at j)) else None) fits;
                second_is = ap (latest_extend q) (other_is t i) ∙ latest_takes q (last_block (base_of problem member ++ item_events problem member lens (adds t)) (begin_at t) (begin_at i)) least (omega (arith, le, now));
                related = settles i j (max p.latest (own_block problem member lens (adds i))) (max p.busy (end_at i)) (max q.value (renew t i)) (omega arith) (omega (arith, busy)) (λ k from last.
                    let far = follows may must i k last (on_at.fits k from (omega (arith, from)) (omega (arith, last))) in
                    let rests = w.rests in
                    let r = renewed (base_of problem member) (item_events problem member lens (adds i)) (begin_at i) (end_at i) (begin_at k) lasts (omega (arith, far, rests)) w.busy w.quiet in
                    let o : if_over (max p.busy (end_at i)) (free_at k) ≡ if_over (end_at i) (free_at k) = ap (λ (n : ℕ). if_over n (free_at k)) busy in
                    omega (arith, r, o, now));
              })
          | inr fails ↦
              let lt : p.latest < least = grind (arith, nat_tests) in
              inl (
                ap (pause_extend p) (step_is i i j) ∙ ap (λ (x : Bool). if x then Some (pause_settled (max p.latest (own_block problem member lens (adds i))) (max p.busy (end_at i)) (free_at j)) else None) fails,
                ap (latest_extend q) (other_is t i) ∙ latest_fails q (last_block (base_of problem member ++ item_events problem member lens (adds t)) (begin_at t) (begin_at i)) least (omega (arith, lt, now)),
              )
        ]

    ending : (t : ℕ) (q : Latest) → Comes (λ p. Unit {0}) (latest_extend q (free_step problem member lens adds t sink))
    ending t q =
        let none = least_none sink placed.last in
        record {
          to = record { value = max q.value (unwrap_or (last_block (base_of problem member ++ item_events problem member lens (adds t)) (begin_at t) (begin_at sink)) 0) };
          is = ap (latest_extend q) (other_is t sink) ∙ latest_takes q (last_block (base_of problem member ++ item_events problem member lens (adds t)) (begin_at t) (begin_at sink)) (item_least problem member lens (adds sink)) (omega (arith, none));
          related = tt;
        }

    beginning : IsPaused 0 0 (record { latest = 0; busy = 0 }) (record { value = 0 })
    beginning = record {
      ends = omega arith;
      now = λ pos small. absurd (omega arith);
      later = λ k lt small.
          let none : base_of problem member ++ item_events problem member lens (adds 0) ≡ base_of problem member = ap (λ (es : List Event). base_of problem member ++ es) source_own ∙ append_none (base_of problem member) in
          let same : renew 0 k ≡ free_at k = ap (λ (es : List Event). latest_of es (begin_at 0) (begin_at k)) none ∙ ap (λ (n : ℕ). latest_of (base_of problem member) n (begin_at k)) (begins_none 0 placed.source) in
          let o = over_true 0 (free_at k) (omega arith) in
          omega (arith, same, o);
    }
      where
        append_none : (es : List Event) → es ++ [] ≡ es
        append_none [] = refl
        append_none (e ∷ es) = ap (λ (xs : List Event). e ∷ xs) (append_none es)

    pub pauses_alike : {S : Type 0} (may must : ℕ → Bool) (gain : ℕ → ℤ) (step : ℕ → ℕ → ℕ → S) (arcs : List (Arc S)) (taken : List ℕ)
        → AreTakeArcs (passes_by may must) (takes_by may must (is_near (item_begins problem member lens) (item_rests problem member lens) adds sink)) gain step arcs taken
        → 0 < sink
        → ((i j k : ℕ) → 0 < j → j ≤ k → k ≤ sink → is_near (item_begins problem member lens) (item_rests problem member lens) adds sink i j ≡ true → is_near (item_begins problem member lens) (item_rests problem member lens) adds sink i k ≡ true)
        → ((k : ℕ) → 0 < k → k ≤ sink → is_near (item_begins problem member lens) (item_rests problem member lens) adds sink 0 k ≡ true)
        → must 0 ≡ false
        → (chain : List ℕ) → IsPath arcs 0 chain sink
        → AreAlike (λ s p. Unit {0})
        (run pause_extend (record { latest = 0; busy = 0 }) (map (λ number. pause_step problem member lens adds (slice_index_or taken number 0) (option_map_or (λ (arc : Arc S). arc.from) (slice_get arcs number) 0) (option_map_or (λ (arc : Arc S). arc.to) (slice_get arcs number) 0)) chain))
        (run latest_extend (record { value = 0 }) (along (free_step problem member lens adds) 0 (stops_by sink (taken_by taken chain))))
    pauses_alike may must gain step arcs taken are some nears starts free_source chain path =
        run_alike may must (is_near (item_begins problem member lens) (item_rests problem member lens) adds sink) sink gain step arcs taken are some nears starts free_source
        (pause_step problem member lens adds) pause_extend latest_extend (free_step problem member lens adds) IsPaused
        (λ t i j r q at at_to lt small rel. passing may must t i j r q lt small rel)
        (λ t i j r q positive inner to_j small at on_at rel. taking may must t i j r q positive inner to_j small at on_at rel)
        (λ t r q lt rel. ending t q)
        0 0 chain (record { latest = 0; busy = 0 }) (record { value = 0 })
        (at_source may must (is_near (item_begins problem member lens) (item_rests problem member lens) adds sink) sink gain step arcs taken are some nears starts free_source)
        path beginning
