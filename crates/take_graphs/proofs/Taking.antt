-- Chains that pass over places or take them are walks through the places that they take.
use Rattle.std.proofs.Common.{◌≡◌, ℕ, ℤ, pos, ◌+ℤ◌, zero, suc, ◌+◌, ◌-◌, ◌<◌, ◌≤◌, Bool, true, false, not, ◌&&◌, ◌||◌, List, [], ◌∷◌, Option, Some, None, refl, ap, sym, ◌∙◌, subst, arith, inl, inr, ◌⊎◌, ◌==◌}
use Rattle.std.specs.Prelude.{nat_lt, slice_get, slice_index_or, map}
use Rattle.std.specs.List.{list_any, range_with_len}
use Rattle.std.specs.Option.{option_map_or}
use Rattle.std.proofs.lemmas.Int.{ints}
use Rattle.std.proofs.lemmas.Bool.{and_parts, and_from, false≢true, cases_Bool}
use Rattle.std.proofs.lemmas.Bool.Decides.{nat_tests}
use Rattle.label_setter.specs.declared.graph.Arc.{Arc}
use Rattle.label_setter.specs.Chains.{Reached, Leads}
use Rattle.roster_model.specs.Weights.{total}
use Rattle.line_items.specs.Joins.{joins_by}
use Rattle.line_items.proofs.Walks.{and_then, run, walks, end_of}
use Rattle.take_graphs.proofs.TakenPlaces.{steps_by, taken_by, stops_by}
use Rattle.take_graphs.specs.Takes.{leads_by, passes_by, takes_by, IsWay, HasArc, AreTakeArcs}
use Rattle.line_items.proofs.Walking.{none_in_range, range_has_none, Joined, joined_parts, joined_from}

-- a chain of arcs from one place to another
abbrev pub IsPath : {S : Type 0} → List (Arc S) → ℕ → List ℕ → ℕ → Type 0
IsPath arcs i [] j = i ≡ j
IsPath {S} arcs i (number ∷ chain) j = (arc : Arc S) × (slice_get arcs number ≡ Some arc) × (arc.from ≡ i) × IsPath arcs arc.to chain j

not_true : (b : Bool) → not b ≡ true → b ≡ false
not_true true h = sym h
not_true false h = refl

or_second : (a b : Bool) → (a || b) ≡ false → b ≡ false
or_second true b p = cc
or_second false b p = p

or_first : (a b : Bool) → (a || b) ≡ false → a ≡ false
or_first true b p = p
or_first false b p = refl

or_none : (a b : Bool) → a ≡ false → b ≡ false → (a || b) ≡ false
or_none true b p q = absurd (false≢true (sym p))
or_none false b p q = q

pub record LeadsTo (test must : ℕ → Bool) (i j : ℕ) : Type 0 where
  pub later : i < j
  pub holds : test j ≡ true
  pub none_must : (k : ℕ) → i < k → k < j → must k ≡ false
  pub none_before : (k : ℕ) → i < k → k < j → test k ≡ false

pub leads_parts : (test must : ℕ → Bool) (i j : ℕ) → leads_by test must i j ≡ true → LeadsTo test must i j
leads_parts test must i j h =
    let p = and_parts (nat_lt i j) _ h in
    let q = and_parts (test j) _ p.1 in
    let later : i < j = let t = p.0 in grind (arith, nat_tests) in
    let none = none_in_range (λ k. test k || must k) (i + 1) (j - (i + 1)) (not_true (list_any (λ k. test k || must k) (range_with_len (i + 1) (j - (i + 1)))) q.1) in
    record {
      later = later;
      holds = q.0;
      none_must = λ k a b. or_second (test k) (must k) (none k (omega arith) (omega arith));
      none_before = λ k a b. or_first (test k) (must k) (none k (omega arith) (omega arith));
    }

pub leads_from : (test must : ℕ → Bool) (i j : ℕ) → LeadsTo test must i j → leads_by test must i j ≡ true
leads_from test must i j h =
    let t : nat_lt i j ≡ true = let l = h.later in grind (arith, nat_tests) in
    let none = range_has_none (λ k. test k || must k) (i + 1) (j - (i + 1)) (λ k a b.
    let lt : k < j = let l = h.later in omega arith in
    or_none (test k) (must k) (h.none_before k (omega arith) lt) (h.none_must k (omega arith) lt)) in
    and_from (nat_lt i j) _ t (and_from (test j) _ h.holds (ap not none))

-- the first place that passes a test
record First (test : ℕ → Bool) (i j : ℕ) : Type 0 where
  at : ℕ
  after : i < at
  by : at ≤ j
  holds : test at ≡ true
  none : (k : ℕ) → i < k → k < at → test k ≡ false

first_of : (test : ℕ → Bool) (n i j : ℕ) → i < j → j ≤ i + n → test j ≡ true → First test i j
first_of test zero i j lt le holds = absurd (omega arith)
first_of test (suc n) i j lt le holds = elim (cases_Bool (test (i + 1))) [
  | inl here ↦ record { at = i + 1; after = omega arith; by = omega arith; holds = here; none = λ k a b. absurd (omega arith) }
  | inr not_here ↦
      let other : i + 1 < j = differ (cases_Bool (nat_lt (i + 1) j)) not_here in
      let rest = first_of test n (i + 1) j other (omega arith) holds in
      record {
        at = rest.at;
        after = let a = rest.after in omega arith;
        by = rest.by;
        holds = rest.holds;
        none = λ k a b. elim (cases_Bool (nat_lt (i + 1) k)) [
          | inl later ↦ rest.none k (grind (arith, nat_tests)) b
          | inr now ↦ let same : i + 1 ≡ k = grind (arith, nat_tests) in ap test (sym same) ∙ not_here
        ];
      }
]
  where
    differ : (nat_lt (i + 1) j ≡ true) ⊎ (nat_lt (i + 1) j ≡ false) → test (i + 1) ≡ false → i + 1 < j
    differ (inl t) none = grind (arith, nat_tests)
    differ (inr f) none =
        let same : j ≡ i + 1 = grind (arith, nat_tests) in
        absurd (false≢true (sym none ∙ ap test (sym same) ∙ holds))

pub stops_pass : (sink t : ℕ) (ts : List ℕ) → t ≡ 0 → stops_by sink (t ∷ ts) ≡ stops_by sink ts
stops_pass sink zero ts e = refl
stops_pass sink (suc t) ts e = absurd (omega arith)

pub stops_take : (sink t : ℕ) (ts : List ℕ) → 0 < t → stops_by sink (t ∷ ts) ≡ t ∷ stops_by sink ts
stops_take sink zero ts lt = absurd (omega arith)
stops_take sink (suc t) ts lt = refl

-- what a chain has come to at place i, where it last took that of place t
pub record IsAt (may must : ℕ → Bool) (near : ℕ → ℕ → Bool) (sink t i : ℕ) : Type 0 where
  pub le : t ≤ i
  pub lt : 0 < i → t < i
  pub here : 0 < i → may i ≡ true
  pub free : (k : ℕ) → t < k → k < i → must k ≡ false
  pub fits : (k : ℕ) → i ≤ k → 0 < k → k ≤ sink → near t k ≡ true

module _ {S : Type 0} (may must : ℕ → Bool) (near : ℕ → ℕ → Bool) (sink : ℕ) (gain : ℕ → ℤ) (step : ℕ → ℕ → ℕ → S) (arcs : List (Arc S)) (taken : List ℕ)
    (are : AreTakeArcs (passes_by may must) (takes_by may must near) gain step arcs taken)
    (some : 0 < sink)
    (nears : (i j k : ℕ) → 0 < j → j ≤ k → k ≤ sink → near i j ≡ true → near i k ≡ true)
    (starts : (k : ℕ) → 0 < k → k ≤ sink → near 0 k ≡ true)
    (free_source : must 0 ≡ false) where
  abbrev pub WalksTo : ℕ → List ℕ → Type 0
  WalksTo t js = (walks (joins_by may must near) t js ≡ true) × (end_of t js ≡ sink)

  last_stop : (t i : ℕ) → IsAt may must near sink t i → i ≡ sink → WalksTo t (sink ∷ [])
  last_stop t i at e =
      let joined : Joined may must near t sink = record {
        later = let l = at.lt (omega arith) in omega arith;
        allowed = ap may (sym e) ∙ at.here (omega arith);
        fits = at.fits sink (omega arith) some (omega arith);
        none_between = λ k a b. at.free k a (omega arith);
      } in
      (and_from (joins_by may must near t sink) true (joined_from may must near t sink joined) refl, refl)

  pub at_passed : (t i j : ℕ) → IsAt may must near sink t i → passes_by may must i j ≡ true → IsAt may must near sink t j
  at_passed t i j at p =
      let parts = and_parts (not (must i)) (leads_by may must i j) p in
      let to = leads_parts may must i j parts.1 in
      let later = to.later in
      let le = at.le in
      record {
        le = omega arith;
        lt = λ pos. omega arith;
        here = λ pos. to.holds;
        free = λ k a b. elim (cases_Bool (nat_lt k i)) [
          | inl before ↦ at.free k a (grind (arith, nat_tests))
          | inr not_before ↦ elim (cases_Bool (nat_lt i k)) [
            | inl after ↦ to.none_must k (grind (arith, nat_tests)) b
            | inr now ↦ let same : i ≡ k = grind (arith, nat_tests) in ap must (sym same) ∙ not_true (must i) parts.0
          ]
        ];
        fits = λ k a b c. at.fits k (omega arith) b c;
      }

  -- taking goes on from the place that is taken
  pub record Taken (t i j : ℕ) : Type 0 where
    pub above : 0 < i
    pub joined : joins_by may must near t i ≡ true
    pub at : IsAt may must near sink i j

  pub at_taken : (t i j : ℕ) → i ≤ sink → IsAt may must near sink t i → takes_by may must near i j ≡ true → Taken t i j
  at_taken t i j small at p =
      let parts = and_parts (not (i == 0)) _ p in
      let rest = and_parts (may i) (leads_by (λ k. may k && near i k) must i j) parts.1 in
      let to = leads_parts (λ k. may k && near i k) must i j rest.1 in
      let later = to.later in
      let both = and_parts (may j) (near i j) to.holds in
      let other = not_true (i == 0) parts.0 in
      let pos : 0 < i = grind (arith, nat_tests) in
      record {
        above = pos;
        joined = joined_from may must near t i (record {
          later = at.lt pos;
          allowed = at.here pos;
          fits = at.fits i (omega arith) pos small;
          none_between = at.free;
        });
        at = record {
          le = omega arith;
          lt = λ positive. later;
          here = λ positive. both.0;
          free = to.none_must;
          fits = λ k a b c. nears i j k (omega arith) a c both.1;
        };
      }

  -- a path goes up
  pub path_up : (i : ℕ) (chain : List ℕ) (j : ℕ) → IsPath arcs i chain j → i ≤ j
  path_up i [] j e = omega arith
  path_up i (number ∷ chain) j path =
      let rest = path_up path.0.to chain j path.3 in
      let from = path.2 in
      let up = forward path.0.from path.0.to (slice_index_or taken number 0) (are.kinds number path.0 path.1) in
      omega arith
    where
      forward : (i j t : ℕ) → IsWay (passes_by may must) (takes_by may must near) i j t → i < j
      forward i j t (inl p) = (leads_parts may must i j (and_parts (not (must i)) (leads_by may must i j) p.1).1).later
      forward i j t (inr p) =
          let parts = and_parts (not (i == 0)) _ p.1 in
          (leads_parts (λ k. may k && near i k) must i j (and_parts (may i) (leads_by (λ k. may k && near i k) must i j) parts.1).1).later

  -- the walk of a path to the sink
  walk_on : (t i : ℕ) (chain : List ℕ) → IsAt may must near sink t i → IsPath arcs i chain sink → WalksTo t (stops_by sink (taken_by taken chain))
  walk_on t i [] at e = last_stop t i at e
  walk_on t i (number ∷ chain) at path =
      let up = path_up path.0.to chain sink path.3 in
      go path.0.from path.0.to (slice_index_or taken number 0) path.2 (path_up i (number ∷ chain) sink path) (are.kinds number path.0 path.1) (λ s a. walk_on s path.0.to chain a path.3)
    where
      go : (from to x : ℕ) → from ≡ i → i ≤ sink → IsWay (passes_by may must) (takes_by may must near) from to x
          → ((s : ℕ) → IsAt may must near sink s to → WalksTo s (stops_by sink (taken_by taken chain)))
          → WalksTo t (stops_by sink (x ∷ taken_by taken chain))
      go from to x e small (inl p) rest =
          let passes : passes_by may must i to ≡ true = ap (λ (n : ℕ). passes_by may must n to) (sym e) ∙ p.1 in
          subst (WalksTo t) (sym (stops_pass sink x (taken_by taken chain) p.0)) (rest t (at_passed t i to at passes))
      go from to x e small (inr p) rest =
          let takes : takes_by may must near i to ≡ true = ap (λ (n : ℕ). takes_by may must near n to) (sym e) ∙ p.1 in
          let on = at_taken t i to small at takes in
          let same : x ≡ i = p.0 ∙ e in
          let pos : 0 < x = let q = on.above in omega arith in
          let more = rest i on.at in
          subst (WalksTo t) (sym (stops_take sink x (taken_by taken chain) pos))
          (subst (λ (n : ℕ). WalksTo t (n ∷ stops_by sink (taken_by taken chain))) (sym same)
          (and_from (joins_by may must near t i) (walks (joins_by may must near) i (stops_by sink (taken_by taken chain))) on.joined more.0, more.1))

  -- the places that a chain to the sink takes are a walk to the sink
  pub at_source : IsAt may must near sink 0 0
  at_source = record {
    le = omega arith;
    lt = λ pos. absurd (omega arith);
    here = λ pos. absurd (omega arith);
    free = λ k a b. absurd (omega arith);
    fits = λ k a b c. starts k b c;
  }

  pub path_walks : (chain : List ℕ) → IsPath arcs 0 chain sink → WalksTo 0 (stops_by sink (taken_by taken chain))
  path_walks chain path = walk_on 0 0 chain at_source path

  -- a chain from the place to the sink that takes these
  pub record HasWay (i : ℕ) (js : List ℕ) : Type 0 where
    pub chain : List ℕ
    pub path : IsPath arcs i chain sink
    pub stops : stops_by sink (taken_by taken chain) ≡ js

  by_arc : (i j t : ℕ) (js ks : List ℕ) → HasArc arcs taken i j t → HasWay j js → ((ts : List ℕ) → stops_by sink ts ≡ js → stops_by sink (t ∷ ts) ≡ ks) → HasWay i ks
  by_arc i j t js ks has way adds = record {
    chain = has.number ∷ way.chain;
    path = (has.arc, has.is, has.from, subst (λ (n : ℕ). IsPath arcs n way.chain sink) (sym has.to) way.path);
    stops = ap (λ (x : ℕ). stops_by sink (x ∷ taken_by taken way.chain)) has.takes ∙ adds (taken_by taken way.chain) way.stops;
  }

  -- places that need not be taken are passed over
  pass_on : (n i j : ℕ) (js : List ℕ) → i ≤ j → j ≤ i + n → may j ≡ true → ((k : ℕ) → i ≤ k → k < j → must k ≡ false) → HasWay j js → HasWay i js
  pass_on zero i j js le near_by may_j none way = let same : j ≡ i = omega arith in subst (λ (x : ℕ). HasWay x js) same way
  pass_on (suc n) i j js le near_by may_j none way = elim (cases_Bool (nat_lt i j)) [
    | inl less ↦
        let lt : i < j = grind (arith, nat_tests) in
        let first = first_of may (suc n) i j lt near_by may_j in
        let after = first.after in
        let by = first.by in
        let leads : leads_by may must i first.at ≡ true =
        leads_from may must i first.at (record { later = after; holds = first.holds; none_must = λ k a b. none k (omega arith) (omega arith); none_before = first.none }) in
        let passes : passes_by may must i first.at ≡ true = and_from (not (must i)) (leads_by may must i first.at) (ap not (none i (omega arith) lt)) leads in
        let rest = pass_on n first.at j js by (omega arith) may_j (λ k a b. none k (omega arith) b) way in
        by_arc i first.at 0 js js (are.passed i first.at passes tt) rest (λ ts e. e)
    | inr more ↦ let same : j ≡ i = grind (arith, nat_tests) in subst (λ (x : ℕ). HasWay x js) same way
  ]

  -- the way of a walk that goes on from place j
  way_on : (j : ℕ) (js : List ℕ) → 0 < j → may j ≡ true → walks (joins_by may must near) j js ≡ true → end_of j js ≡ sink → HasWay j (j ∷ js)
  way_on j [] above may_j w e = record { chain = []; path = e; stops = ap (λ (x : ℕ). x ∷ []) (sym e) }
  way_on j (l ∷ ls) above may_j w e =
      let parts = and_parts (joins_by may must near j l) (walks (joins_by may must near) l ls) w in
      let joined = joined_parts may must near j l parts.0 in
      let lt = joined.later in
      let way = way_on l ls (omega arith) joined.allowed parts.1 e in
      let first = first_of (λ k. may k && near j k) l j l lt (omega arith) (and_from (may l) (near j l) joined.allowed joined.fits) in
      let after = first.after in
      let by = first.by in
      let leads : leads_by (λ k. may k && near j k) must j first.at ≡ true =
      leads_from (λ k. may k && near j k) must j first.at
      (record { later = after; holds = first.holds; none_must = λ k a b. joined.none_between k a (omega arith); none_before = first.none }) in
      let other : (j == 0) ≡ false = grind (arith, nat_tests) in
      let takes : takes_by may must near j first.at ≡ true =
      and_from (not (j == 0)) _ (ap not other) (and_from (may j) (leads_by (λ k. may k && near j k) must j first.at) may_j leads) in
      let rest = pass_on l first.at l (l ∷ ls) by (omega arith) joined.allowed (λ k a b. joined.none_between k (omega arith) b) way in
      by_arc j first.at j (l ∷ ls) (j ∷ l ∷ ls) (are.took j first.at takes tt) rest (λ ts s. stops_take sink j ts above ∙ ap (λ (xs : List ℕ). j ∷ xs) s)

  -- each walk to the sink is that of a chain
  pub walk_path : (js : List ℕ) → WalksTo 0 js → HasWay 0 js
  walk_path [] w = absurd (let e = w.1 in omega arith)
  walk_path (j ∷ js) w =
      let parts = and_parts (joins_by may must near 0 j) (walks (joins_by may must near) j js) w.0 in
      let joined = joined_parts may must near 0 j parts.0 in
      let lt = joined.later in
      let way = way_on j js lt joined.allowed parts.1 w.1 in
      pass_on j 0 j (j ∷ js) (omega arith) (omega arith) joined.allowed (λ k a b. free k (cases_Bool (nat_lt 0 k)) (joined.none_between k) b) way
    where
      free : (k : ℕ) → (nat_lt 0 k ≡ true) ⊎ (nat_lt 0 k ≡ false) → (0 < k → k < j → must k ≡ false) → k < j → must k ≡ false
      free k (inl above) between b = between (grind (arith, nat_tests)) b
      free k (inr none) between b = let same : k ≡ 0 = grind (arith, nat_tests) in ap must same ∙ free_source

add_zero : (a : ℤ) → a ≡ a +ℤ pos 0
add_zero a = omega (arith, ints)

add_more : (a b c x y t : ℤ) → c ≡ a +ℤ x → x ≡ y → b ≡ c +ℤ t → b ≡ a +ℤ (y +ℤ t)
add_more a b c x y t p q r = omega (arith, ints)

back : (b a : ℤ) → b ≡ a +ℤ pos 0 → a ≡ b
back b a h = omega (arith, ints)

split : (b a x y t : ℤ) → y ≡ x → b ≡ a +ℤ (x +ℤ t) → b ≡ (a +ℤ y) +ℤ t
split b a x y t e h = omega (arith, ints)

same_reached : {R : Type 0} (p q : ℕ) (g h : ℤ) (r s : R) → p ≡ q → g ≡ h → r ≡ s → ◌≡◌ {A = Reached R} (record { place = p; gain = g; resource = r }) (record { place = q; gain = h; resource = s })
same_reached p q g h r s e f k = rw (e, f, k) refl

-- what a chain from a to b says of what it takes
pub record IsLed {R S : Type 0} (extend : R → S → Option R) (gain : ℕ → ℤ) (step : ℕ → ℕ → ℕ → S) (arcs : List (Arc S)) (taken : List ℕ) (a : Reached R) (chain : List ℕ) (b : Reached R) : Type 0 where
  pub path : IsPath arcs a.place chain b.place
  pub gains : b.gain ≡ a.gain +ℤ total (map gain (taken_by taken chain))
  pub runs : run extend a.resource (steps_by step arcs taken chain) ≡ Some b.resource

-- the step of an arc by its number
abbrev step_at : {S : Type 0} → (ℕ → ℕ → ℕ → S) → List (Arc S) → List ℕ → ℕ → S
step_at {S} step arcs taken number =
    step (slice_index_or taken number 0) (option_map_or (λ (arc : Arc S). arc.from) (slice_get arcs number) 0) (option_map_or (λ (arc : Arc S). arc.to) (slice_get arcs number) 0)

step_of : {S : Type 0} {passes takes : ℕ → ℕ → Bool} {gain : ℕ → ℤ} {step : ℕ → ℕ → ℕ → S} {arcs : List (Arc S)} {taken : List ℕ}
    → AreTakeArcs passes takes gain step arcs taken → (number : ℕ) (arc : Arc S) → slice_get arcs number ≡ Some arc → step_at step arcs taken number ≡ arc.step
step_of {S} {step = step} {taken = taken} are number arc is =
    ap (λ (o : Option (Arc S)). step (slice_index_or taken number 0) (option_map_or (λ (x : Arc S). x.from) o 0) (option_map_or (λ (x : Arc S). x.to) o 0)) is
    ∙ sym (are.steps number arc is)

module _ {R S : Type 0} {extend : R → S → Option R} {passes takes : ℕ → ℕ → Bool} {gain : ℕ → ℤ} {step : ℕ → ℕ → ℕ → S} {arcs : List (Arc S)} {taken : List ℕ}
    (are : AreTakeArcs passes takes gain step arcs taken) where
  pub led : (a : Reached R) (chain : List ℕ) (b : Reached R) → Leads extend arcs a chain b → IsLed extend gain step arcs taken a chain b
  led a [] b same = record { path = ap (λ (r : Reached R). r.place) same; gains = ap (λ (r : Reached R). r.gain) (sym same) ∙ add_zero a.gain; runs = ap (λ (r : Reached R). Some r.resource) same }
  led a (number ∷ chain) b leads =
      let c = leads.0 in
      let takes = leads.1 in
      let rest = led c chain b leads.2 in
      let arc = takes.arc in
      let t = slice_index_or taken number 0 in
      let extends : extend a.resource (step_at step arcs taken number) ≡ Some c.resource = rw (step_of are number arc takes.is) takes.extends in
      record {
        path = (arc, takes.is, takes.from, subst (λ (n : ℕ). IsPath arcs n chain b.place) (sym takes.to) rest.path);
        gains = add_more a.gain b.gain c.gain arc.gain (gain t) (total (map gain (taken_by taken chain))) takes.gain (are.gains number arc takes.is) rest.gains;
        runs = ap (λ o. and_then o (λ q. run extend q (steps_by step arcs taken chain))) extends ∙ rest.runs;
      }

  goes_on : (a : Reached R) (number : ℕ) (chain : List ℕ) (b : Reached R) (arc : Arc S)
      → slice_get arcs number ≡ Some arc → arc.from ≡ a.place
      → IsLed extend gain step arcs taken a (number ∷ chain) b
      → ((c : Reached R) → IsLed extend gain step arcs taken c chain b → Leads extend arcs c chain b)
      → IsPath arcs arc.to chain b.place
      → (o : Option R) → extend a.resource (step_at step arcs taken number) ≡ o → Leads extend arcs a (number ∷ chain) b
  goes_on a number chain b arc is from l rest path None e =
      let none : and_then None (λ q. run extend q (steps_by step arcs taken chain)) ≡ Some b.resource =
      sym (ap (λ o. and_then o (λ q. run extend q (steps_by step arcs taken chain))) e) ∙ l.runs in
      cc
  goes_on a number chain b arc is from l rest path (Some r) e =
      let c : Reached R = record { place = arc.to; gain = a.gain +ℤ arc.gain; resource = r } in
      let on : run extend r (steps_by step arcs taken chain) ≡ Some b.resource =
      sym (ap (λ o. and_then o (λ q. run extend q (steps_by step arcs taken chain))) e) ∙ l.runs in (
        c,
        record { arc = arc; is = is; from = from; to = refl; gain = refl; extends = rw (← step_of are number arc is) e },
        rest c (record {
          path = path;
          gains = split b.gain a.gain (gain (slice_index_or taken number 0)) arc.gain (total (map gain (taken_by taken chain))) (are.gains number arc is) l.gains;
          runs = on;
        }),
      )

  pub led_from : (a : Reached R) (chain : List ℕ) (b : Reached R) → IsLed extend gain step arcs taken a chain b → Leads extend arcs a chain b
  led_from a [] b l = same_reached a.place b.place a.gain b.gain a.resource b.resource l.path (back b.gain a.gain l.gains) (let h : Some a.resource ≡ Some b.resource = l.runs in cc)
  led_from a (number ∷ chain) b l =
      let path = l.path in
      goes_on a number chain b path.0 path.1 path.2 l (λ c v. led_from c chain b v) path.3 (extend a.resource (step_at step arcs taken number)) refl
