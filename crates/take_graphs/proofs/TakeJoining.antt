-- Arcs that pass and take, one by one.
use Rattle.std.proofs.Common.{◌≡◌, ℕ, ℤ, zero, suc, ◌+◌, ◌-◌, ◌<◌, ◌≤◌, Bool, true, false, not, ◌&&◌, ◌||◌, ◌==◌, List, [], ◌∷◌, ◌++◌, Some, length, refl, ap, sym, ◌∙◌, subst, arith, inl, inr, ◌⊎◌}
use Rattle.std.specs.Prelude.{slice_get, slice_index_or, nat_lt}
use Rattle.std.proofs.lemmas.Bool.{and_parts, and_from, false≢true, cases_Bool}
use Rattle.std.proofs.lemmas.Bool.Decides.{nat_tests}
use Rattle.std.proofs.lemmas.Option.{slice_get_within}
use Rattle.label_setter.specs.declared.graph.Arc.{Arc}
use Rattle.take_graphs.specs.Takes.{leads_by, passes_by, takes_by, IsWay, HasArc, AreTakeArcs, AreTakeArcsSo}
use Rattle.line_lens.proofs.Joining.{get_before, get_last}
use Rattle.take_graphs.proofs.Taking.{leads_parts, leads_from}

or_first : (a b : Bool) → (a || b) ≡ false → a ≡ false
or_first true b p = p
or_first false b p = refl

or_second : (a b : Bool) → (a || b) ≡ false → b ≡ false
or_second true b p = absurd (false≢true (sym p))
or_second false b p = p

pub or_none : (a b : Bool) → a ≡ false → b ≡ false → (a || b) ≡ false
or_none true b p q = absurd (false≢true (sym p))
or_none false b p q = q

is_false : (b : Bool) → (b ≡ true → ⊥) → b ≡ false
is_false true h = absurd (h refl)
is_false false h = refl

-- the first place that passes
pub leads_here : (test must : ℕ → Bool) (i j : ℕ) → i < j → test j ≡ true → ((k : ℕ) → i < k → k < j → (test k || must k) ≡ false) → leads_by test must i j ≡ true
leads_here test must i j lt holds none = leads_from test must i j (record {
  later = lt;
  holds = holds;
  none_must = λ k a b. or_second (test k) (must k) (none k a b);
  none_before = λ k a b. or_first (test k) (must k) (none k a b);
})

-- a place that must be taken ends the search
pub leads_cut : (test must : ℕ → Bool) (i m : ℕ) → i < m → must m ≡ true → test m ≡ false → ((k : ℕ) → i < k → k < m → (test k || must k) ≡ false)
    → (j : ℕ) → leads_by test must i j ≡ false
leads_cut test must i m lt forced shut none j = is_false (leads_by test must i j) (λ h.
    let to = leads_parts test must i j h in
    elim (cases_Bool (nat_lt j m)) [
      | inl before ↦ false≢true (sym (or_first (test j) (must j) (none j to.later (grind (arith, nat_tests)))) ∙ to.holds)
      | inr not_before ↦ elim (cases_Bool (nat_lt m j)) [
        | inl after ↦ false≢true (sym (to.none_must m lt (grind (arith, nat_tests))) ∙ forced)
        | inr here ↦ let same : j ≡ m = grind (arith, nat_tests) in false≢true (sym shut ∙ ap test (sym same) ∙ to.holds)
      ]
    ])

-- no place passes
pub leads_none : (test must : ℕ → Bool) (i places : ℕ) → ((k : ℕ) → i < k → k < places → (test k || must k) ≡ false) → (j : ℕ) → j < places → leads_by test must i j ≡ false
leads_none test must i places none j lt = is_false (leads_by test must i j) (λ h.
    let to = leads_parts test must i j h in
    false≢true (sym (or_first (test j) (must j) (none j to.later lt)) ∙ to.holds))

leads_once : (test must : ℕ → Bool) (i j k : ℕ) → leads_by test must i j ≡ true → leads_by test must i k ≡ true → j ≡ k
leads_once test must i j k a b =
    let p = leads_parts test must i j a in
    let q = leads_parts test must i k b in
    elim (cases_Bool (nat_lt j k)) [
      | inl less ↦ absurd (false≢true (sym (q.none_before j p.later (grind (arith, nat_tests))) ∙ p.holds))
      | inr not_less ↦ elim (cases_Bool (nat_lt k j)) [
        | inl more ↦ absurd (false≢true (sym (p.none_before k q.later (grind (arith, nat_tests))) ∙ q.holds))
        | inr not_more ↦ grind (arith, nat_tests)
      ]
    ]

get_or_before : (xs : List ℕ) (y n : ℕ) → n < length xs → slice_index_or (xs ++ y ∷ []) n 0 ≡ slice_index_or xs n 0
get_or_before [] y n lt = absurd (omega arith)
get_or_before (x ∷ xs) y zero lt = refl
get_or_before (x ∷ xs) y (suc n) lt = get_or_before xs y n (omega arith)

get_or_last : (xs : List ℕ) (y : ℕ) → slice_index_or (xs ++ y ∷ []) (length xs) 0 ≡ y
get_or_last [] y = refl
get_or_last (x ∷ xs) y = get_or_last xs y

length_more : {X : Type 0} (xs : List X) (y : X) → length (xs ++ y ∷ []) ≡ length xs + 1
length_more [] y = refl
length_more (x ∷ xs) y = let rest = length_more xs y in omega arith

-- where a pushed arc stands
pushed_at : {S : Type 0} (arcs : List (Arc S)) (arc other : Arc S) (n : ℕ) → slice_get (arcs ++ arc ∷ []) n ≡ Some other
    → ((slice_get arcs n ≡ Some other) × (n < length arcs)) ⊎ ((arc ≡ other) × (n ≡ length arcs))
pushed_at [] arc other zero e = inr (cc, refl)
pushed_at [] arc other (suc n) e = cc
pushed_at (a ∷ arcs) arc other zero e = inl (e, omega arith)
pushed_at (a ∷ arcs) arc other (suc n) e = elim (pushed_at arcs arc other n e) [
  | inl old ↦ inl (old.0, let lt = old.1 in omega arith)
  | inr new ↦ inr (new.0, let at = new.1 in omega arith)
]

module _ {S : Type 0} (may must : ℕ → Bool) (near : ℕ → ℕ → Bool) (gain : ℕ → ℤ) (step : ℕ → ℕ → ℕ → S) where
  abbrev passes : ℕ → ℕ → Bool
  passes = passes_by may must

  abbrev takes : ℕ → ℕ → Bool
  takes = takes_by may must near

  abbrev pub So : (ℕ → Type 0) → (ℕ → Type 0) → List (Arc S) → List ℕ → Type 0
  So far_passed far_taken arcs taken = AreTakeArcsSo passes takes gain step far_passed far_taken arcs taken

  pub begins : (arcs : List (Arc S)) (taken : List ℕ) → arcs ≡ [] → taken ≡ [] → So (λ i. i < 0) (λ i. i < 0) arcs taken
  begins [] [] e f = record {
    long = refl;
    kinds = λ n arc is. cc;
    gains = λ n arc is. cc;
    steps = λ n arc is. cc;
    passed = λ i j t lt. absurd (omega arith);
    took = λ i j t lt. absurd (omega arith);
  }
  begins (a ∷ arcs) taken e f = cc
  begins [] (t ∷ taken) e f = cc

  -- an arc more
  adds : (far_passed far_taken : ℕ → Type 0) (arcs : List (Arc S)) (taken : List ℕ) (arc : Arc S) (t : ℕ)
      → IsWay passes takes arc.from arc.to t → arc.gain ≡ gain t → arc.step ≡ step t arc.from arc.to
      → So far_passed far_taken arcs taken → So far_passed far_taken (arcs ++ arc ∷ []) (taken ++ t ∷ [])
  adds far_passed far_taken arcs taken arc t way g s so = record {
    long = length_more taken t ∙ ap (λ (n : ℕ). n + 1) so.long ∙ sym (length_more arcs arc);
    kinds = λ n other is. elim (pushed_at arcs arc other n is) [
      | inl old ↦ subst (IsWay passes takes other.from other.to) (sym (before n old.1)) (so.kinds n other old.0)
      | inr new ↦ subst (λ (x : Arc S). IsWay passes takes x.from x.to (slice_index_or (taken ++ t ∷ []) n 0)) new.0 (subst (IsWay passes takes arc.from arc.to) (sym (last n new.1)) way)
    ];
    gains = λ n other is. elim (pushed_at arcs arc other n is) [
      | inl old ↦ so.gains n other old.0 ∙ ap gain (sym (before n old.1))
      | inr new ↦ ap (λ (x : Arc S). x.gain) (sym new.0) ∙ g ∙ ap gain (sym (last n new.1))
    ];
    steps = λ n other is. elim (pushed_at arcs arc other n is) [
      | inl old ↦ so.steps n other old.0 ∙ ap (λ (u : ℕ). step u other.from other.to) (sym (before n old.1))
      | inr new ↦ subst (λ (x : Arc S). x.step ≡ step (slice_index_or (taken ++ t ∷ []) n 0) x.from x.to) new.0 (s ∙ ap (λ (u : ℕ). step u arc.from arc.to) (sym (last n new.1)))
    ];
    passed = λ i j p far. older i j 0 (so.passed i j p far);
    took = λ i j p far. older i j i (so.took i j p far);
  }
    where
      before : (n : ℕ) → n < length arcs → slice_index_or (taken ++ t ∷ []) n 0 ≡ slice_index_or taken n 0
      before n lt = get_or_before taken t n (let l = so.long in omega arith)

      last : (n : ℕ) → n ≡ length arcs → slice_index_or (taken ++ t ∷ []) n 0 ≡ t
      last n e = ap (λ (k : ℕ). slice_index_or (taken ++ t ∷ []) k 0) (e ∙ sym so.long) ∙ get_or_last taken t

      older : (i j u : ℕ) → HasArc arcs taken i j u → HasArc (arcs ++ arc ∷ []) (taken ++ t ∷ []) i j u
      older i j u has = record {
        number = has.number;
        arc = has.arc;
        is = get_before arcs arc has.arc has.number has.is;
        from = has.from;
        to = has.to;
        takes = before has.number (slice_get_within arcs has.number has.arc has.is) ∙ has.takes;
      }

  newest : (arcs : List (Arc S)) (taken : List ℕ) (arc : Arc S) (t i j : ℕ) → length taken ≡ length arcs → arc.from ≡ i → arc.to ≡ j → HasArc (arcs ++ arc ∷ []) (taken ++ t ∷ []) i j t
  newest arcs taken arc t i j long from to = record {
    number = length arcs;
    arc = arc;
    is = get_last arcs arc;
    from = from;
    to = to;
    takes = ap (λ (k : ℕ). slice_index_or (taken ++ t ∷ []) k 0) (sym long) ∙ get_or_last taken t;
  }

  next_passed : (from : ℕ) (far_taken : ℕ → Type 0) (arcs : List (Arc S)) (taken : List ℕ) → So (λ i. i < from) far_taken arcs taken
      → ((j : ℕ) → passes_by may must from j ≡ true → HasArc arcs taken from j 0) → So (λ i. i < from + 1) far_taken arcs taken
  next_passed from far_taken arcs taken so has = record {
    long = so.long;
    kinds = so.kinds;
    gains = so.gains;
    steps = so.steps;
    passed = λ i j p far. elim (cases_Bool (nat_lt i from)) [
      | inl before ↦ so.passed i j p (grind (arith, nat_tests))
      | inr here ↦
          let same : from ≡ i = grind (arith, nat_tests) in
          subst (λ (n : ℕ). HasArc arcs taken n j 0) same (has j (ap (λ (n : ℕ). passes_by may must n j) same ∙ p))
    ];
    took = so.took;
  }

  next_taken : (from : ℕ) (far_passed : ℕ → Type 0) (arcs : List (Arc S)) (taken : List ℕ) → So far_passed (λ i. i < from) arcs taken
      → ((j : ℕ) → takes_by may must near from j ≡ true → HasArc arcs taken from j from) → So far_passed (λ i. i < from + 1) arcs taken
  next_taken from far_passed arcs taken so has = record {
    long = so.long;
    kinds = so.kinds;
    gains = so.gains;
    steps = so.steps;
    passed = so.passed;
    took = λ i j p far. elim (cases_Bool (nat_lt i from)) [
      | inl before ↦ so.took i j p (grind (arith, nat_tests))
      | inr here ↦
          let same : from ≡ i = grind (arith, nat_tests) in
          subst (λ (n : ℕ). HasArc arcs taken n j n) same (has j (ap (λ (n : ℕ). takes_by may must near n j) same ∙ p))
    ];
  }

  not_false : (b : Bool) → b ≡ false → not b ≡ true
  not_false true e = absurd (false≢true (sym e))
  not_false false e = refl

  -- the place must be taken, or no other can be passed to
  pub passes_forced : (from : ℕ) (arcs : List (Arc S)) (taken : List ℕ) → must from ≡ true
      → So (λ i. i < from) (λ i. i < from) arcs taken → So (λ i. i < from + 1) (λ i. i < from) arcs taken
  passes_forced from arcs taken forced so = next_passed from (λ i. i < from) arcs taken so (λ j p.
      let parts = and_parts (not (must from)) (leads_by may must from j) p in
      absurd (shut (must from) forced parts.0))
    where
      shut : (b : Bool) → b ≡ true → not b ≡ true → ⊥
      shut true e h = false≢true h
      shut false e h = false≢true e

  pub passes_none : (from places : ℕ) (arcs : List (Arc S)) (taken : List ℕ) → ((j : ℕ) → may j ≡ true → j < places)
      → ((j : ℕ) → j < places → leads_by may must from j ≡ false)
      → So (λ i. i < from) (λ i. i < from) arcs taken → So (λ i. i < from + 1) (λ i. i < from) arcs taken
  passes_none from places arcs taken within none so = next_passed from (λ i. i < from) arcs taken so (λ j p.
      let parts = and_parts (not (must from)) (leads_by may must from j) p in
      let to = leads_parts may must from j parts.1 in
      absurd (false≢true (sym (none j (within j to.holds)) ∙ parts.1)))

  -- it is passed over
  pub passes_on : (from to : ℕ) (arcs : List (Arc S)) (taken : List ℕ) (arc : Arc S) → must from ≡ false → leads_by may must from to ≡ true
      → arc.from ≡ from → arc.to ≡ to → arc.gain ≡ gain 0 → arc.step ≡ step 0 arc.from arc.to
      → So (λ i. i < from) (λ i. i < from) arcs taken → So (λ i. i < from + 1) (λ i. i < from) (arcs ++ arc ∷ []) (taken ++ 0 ∷ [])
  passes_on from to arcs taken arc free leads f t g s so =
      let passed : passes_by may must from to ≡ true = and_from (not (must from)) (leads_by may must from to) (not_false (must from) free) leads in
      let way : passes_by may must arc.from arc.to ≡ true = ap (λ (n : ℕ). passes_by may must n arc.to) f ∙ ap (passes_by may must from) t ∙ passed in
      next_passed from (λ i. i < from) (arcs ++ arc ∷ []) (taken ++ 0 ∷ [])
      (adds (λ i. i < from) (λ i. i < from) arcs taken arc 0 (inl (refl, way)) g s so)
      (λ j p.
      let parts = and_parts (not (must from)) (leads_by may must from j) p in
      newest arcs taken arc 0 from j so.long f (t ∙ leads_once may must from to j leads parts.1))

  -- its item is not taken
  pub takes_shut : (from : ℕ) (arcs : List (Arc S)) (taken : List ℕ) → may from ≡ false
      → So (λ i. i < from + 1) (λ i. i < from) arcs taken → So (λ i. i < from + 1) (λ i. i < from + 1) arcs taken
  takes_shut from arcs taken shut so = next_taken from (λ i. i < from + 1) arcs taken so (λ j p.
      let parts = and_parts (not (from == 0)) _ p in
      absurd (false≢true (sym shut ∙ (and_parts (may from) (leads_by (λ k. may k && near from k) must from j) parts.1).0)))

  pub takes_none : (from places : ℕ) (arcs : List (Arc S)) (taken : List ℕ) → ((j : ℕ) → may j ≡ true → j < places)
      → ((j : ℕ) → j < places → leads_by (λ k. may k && near from k) must from j ≡ false)
      → So (λ i. i < from + 1) (λ i. i < from) arcs taken → So (λ i. i < from + 1) (λ i. i < from + 1) arcs taken
  takes_none from places arcs taken within none so = next_taken from (λ i. i < from + 1) arcs taken so (λ j p.
      let parts = and_parts (not (from == 0)) _ p in
      let leads = (and_parts (may from) (leads_by (λ k. may k && near from k) must from j) parts.1).1 in
      let to = leads_parts (λ k. may k && near from k) must from j leads in
      absurd (false≢true (sym (none j (within j (and_parts (may j) (near from j) to.holds).0)) ∙ leads)))

  -- it is taken
  pub takes_on : (from to : ℕ) (arcs : List (Arc S)) (taken : List ℕ) (arc : Arc S) → 0 < from → may from ≡ true → leads_by (λ k. may k && near from k) must from to ≡ true
      → arc.from ≡ from → arc.to ≡ to → arc.gain ≡ gain from → arc.step ≡ step from arc.from arc.to
      → So (λ i. i < from + 1) (λ i. i < from) arcs taken → So (λ i. i < from + 1) (λ i. i < from + 1) (arcs ++ arc ∷ []) (taken ++ from ∷ [])
  takes_on from to arcs taken arc positive open_place leads f t g s so =
      let other : (from == 0) ≡ false = grind (arith, nat_tests) in
      let took : takes_by may must near from to ≡ true =
      and_from (not (from == 0)) _ (not_false (from == 0) other) (and_from (may from) (leads_by (λ k. may k && near from k) must from to) open_place leads) in
      let way : takes_by may must near arc.from arc.to ≡ true = ap (λ (n : ℕ). takes_by may must near n arc.to) f ∙ ap (takes_by may must near from) t ∙ took in
      next_taken from (λ i. i < from + 1) (arcs ++ arc ∷ []) (taken ++ from ∷ [])
      (adds (λ i. i < from + 1) (λ i. i < from) arcs taken arc from (inr (sym f, way)) g s so)
      (λ j p.
      let parts = and_parts (not (from == 0)) _ p in
      let leads_j = (and_parts (may from) (leads_by (λ k. may k && near from k) must from j) parts.1).1 in
      newest arcs taken arc from from j so.long f (t ∙ leads_once (λ k. may k && near from k) must from to j leads leads_j))

  -- the source is taken by no arc
  pub source_taken : (far_passed : ℕ → Type 0) (arcs : List (Arc S)) (taken : List ℕ) → So far_passed (λ i. i < 0) arcs taken → So far_passed (λ i. i < 1) arcs taken
  source_taken far_passed arcs taken so = next_taken 0 far_passed arcs taken so (λ j p. absurd (false≢true p))

  pub all_joined : (places n : ℕ) (arcs : List (Arc S)) (taken : List ℕ) → ((j : ℕ) → may j ≡ true → j < places) → places - 1 ≤ n
      → So (λ i. i < n) (λ i. i < n) arcs taken → AreTakeArcs passes takes gain step arcs taken
  all_joined places n arcs taken within le so = record {
    long = so.long;
    kinds = so.kinds;
    gains = so.gains;
    steps = so.steps;
    passed = λ i j p far.
        let parts = and_parts (not (must i)) (leads_by may must i j) p in
        let to = leads_parts may must i j parts.1 in
        let lt = to.later in
        let inside = within j to.holds in
        so.passed i j p (omega arith);
    took = λ i j p far.
        let parts = and_parts (not (i == 0)) _ p in
        let leads = (and_parts (may i) (leads_by (λ k. may k && near i k) must i j) parts.1).1 in
        let to = leads_parts (λ k. may k && near i k) must i j leads in
        let lt = to.later in
        let inside = within j (and_parts (may j) (near i j) to.holds).0 in
        so.took i j p (omega arith);
  }
