-- The labels of a graph that passes and takes are few, where the lens looks at hours and eight bids.
use Rattle.std.proofs.Common.{◌≡◌, ℕ, ℤ, zero, suc, ◌+◌, ◌-◌, ◌*◌, ◌/◌, ◌^◌, min, ◌<◌, ◌≤◌, Bool, true, false, List, [], ◌∷◌, Option, Some, None, length, refl, ap, sym, ◌∙◌, subst, arith, inl, inr, ◌⊎◌}
use Rattle.std.specs.Prelude.{sum_by, nat_lt, nat_le, slice_get, slice_index_or, bit_and, bit_or}
use Rattle.std.proofs.lemmas.Bool.{cases_Bool}
use Rattle.std.proofs.lemmas.Bool.Decides.{nat_tests}
use Rattle.std.proofs.lemmas.Option.{slice_get_past}
use Rattle.duty_calendar.specs.declared.event.Event.{Event}
use Rattle.label_setter.specs.declared.graph.Arc.{Arc}
use Rattle.label_setter.specs.Chains.{Reached, FewApart, Leads, source}
use Rattle.roster_model.specs.declared.problem.Problem.{Problem}
use Rattle.roster_model.specs.declared.proof.Lens.{Lens}
use Rattle.lens_classes.specs.declared.terms.Terms.{Terms}
use Rattle.roster_model.specs.declared.proof.Window.{Window}
use Rattle.roster_model.specs.Lenses.{floor_to, ceil_to}
use Rattle.roster_model.specs.Legality.{high_of}
use Rattle.roster_model.specs.Timelines.{fixed_of}
use Rattle.take_graphs.specs.TakeLabels.{TakeOf, TakeStepOf, take_below, take_extend, take_start}
use Rattle.line_lens.specs.LineGraphs.{IsHourLens}
use Rattle.line_items.specs.Clear.{base_of}
use Rattle.line_items.specs.Items.{item_count, item_events}
use Rattle.take_graphs.specs.Takes.{passes_by, takes_by, AreTakeArcs}
use Rattle.take_graphs.proofs.TakeSteps.{take_step}
use Rattle.line_items.proofs.ItemSteps.{credit_at}
use Rattle.take_graphs.proofs.TakenPlaces.{steps_by}
use Rattle.line_items.proofs.Walks.{and_then, run}
use Rattle.line_items.specs.WindowMinutes.{base_usage, spread, window_minutes, kind_limit}
use Rattle.take_graphs.proofs.Ways.{taken_before, way_up}
use Rattle.take_graphs.proofs.Taking.{IsPath}
use Rattle.take_graphs.proofs.Taking.{led}
use Rattle.line_items.proofs.Visited.{IsPlaced}
use Rattle.std.specs.Option.{option_map_or}
use Rattle.std.proofs.Math.Nat.{mul-le-mul_left}
use Rattle.std.proofs.lemmas.Nat.{and_le_l, or_of_8}
use Rattle.duty_calendar.specs.declared.pairing.Pairing.{Pairing}
use Rattle.label_lattice.specs.CounterLaws.{counters_reflexive}
use Rattle.label_lattice.specs.MaskLaws.{bits_reflexive}
use Rattle.label_lattice.specs.Span.{span_extend}
use Rattle.label_lattice.specs.Usage.{usage_extend, counters_sum, counters_below}
use Rattle.line_lens.proofs.FewLabels.{few_by_code}

-- what rounding to hours makes of a pairing's credit, or of none
record IsRounded (o : Option Pairing) : Type 0 where
  hours : ℕ
  more : ℕ
  down : option_map_or (λ p. floor_to 60 p.credit) o 0 ≡ 60 * hours
  up : option_map_or (λ p. ceil_to 60 p.credit) o 0 ≡ 60 * (hours + more)
  at_most : more ≤ 1
  none : o ≡ None → more ≡ 0

rounded : (o : Option Pairing) → IsRounded o
rounded None = record { hours = 0; more = 0; down = refl; up = refl; at_most = omega arith; none = λ e. refl }
rounded (Some p) = record {
  hours = p.credit / 60;
  more = (p.credit + 59) / 60 - p.credit / 60;
  down = omega arith;
  up = omega arith;
  at_most = omega arith;
  none = λ e. cc;
}

step_fits : (down up cap d u : ℕ) → down + d ≤ cap → span_extend (record { down = down; up = up }) (record { down = d; up = u; cap = cap }) ≡ Some (record { down = down + d; up = min (up + u) (2 ^ 31) })
step_fits down up cap d u h = grind (arith, nat_tests)

step_fails : (down up cap d u : ℕ) → cap < down + d → span_extend (record { down = down; up = up }) (record { down = d; up = u; cap = cap }) ≡ None
step_fails down up cap d u h = grind (arith, nat_tests)

-- counters of no window stay as they are
still_sum : (n : ℕ) (f g : Window → ℕ) → counters_sum (spread n f []) (spread n g []) ≡ spread n f []
still_sum zero f g = refl
still_sum (suc n) f g = ap (◌∷◌ 0) (still_sum n f g)

still_below : (n : ℕ) (f g : Window → ℕ) → counters_below (spread n f []) (spread n g []) ≡ true
still_below zero f g = refl
still_below (suc n) f g = still_below n f g

-- a label that has changed in credit and bits alone
abbrev few_label : {N : ℕ} → List ℕ → ℕ → ℕ → ℕ → TakeOf N
few_label counters down up bits = record {
  first = record { down = down; up = up };
  second = record {
    first = record { bits = bits };
    second = record { first = record { latest = 0; busy = 0 }; second = record { first = record { count = 0; today = false }; second = record { first = record { count = 0; until = 0 }; second = record { counters = counters } } } };
  };
}

abbrev few_step : {N : ℕ} → List ℕ → List ℕ → ℕ → ℕ → ℕ → ℕ → ℕ → TakeStepOf N
few_step amounts caps down up cap clear set = (
  record { down = down; up = up; cap = cap },
  (
    record { clear = clear; set = set },
    (record { least = 0; renew = 0; busy = 0; free = 0 }, (record { add = 0; again = false; keeps = false; sets = false; cap = 0 }, (record { lead = 0; reset = None; until = 0; free = 0; cap = 0 }, record { amounts = amounts; caps = caps }))),
  ),
)

usage_stays : {N : ℕ} (counters amounts caps : List ℕ) → counters_sum counters amounts ≡ counters → counters_below counters caps ≡ true
    → usage_extend {N = N} (record { counters = counters }) (record { amounts = amounts; caps = caps }) ≡ Some (record { counters = counters })
usage_stays counters amounts caps same fits = rw (same, fits) refl

takes_step : {N : ℕ} (counters amounts caps : List ℕ) (d u bits cd cu cap clear set : ℕ)
    → counters_sum counters amounts ≡ counters → counters_below counters caps ≡ true → d + cd ≤ cap
    → take_extend {N = N} (few_label counters d u bits) (few_step amounts caps cd cu cap clear set)
    ≡ Some (few_label counters (d + cd) (min (u + cu) (2 ^ 31)) (bit_or (bit_and bits (2 ^ 64 - 1 - clear)) set))
takes_step {N} counters amounts caps d u bits cd cu cap clear set same fits le =
    rw (step_fits d u cap cd cu le, usage_stays {N = N} counters amounts caps same fits) refl

no_step : {N : ℕ} (counters amounts caps : List ℕ) (d u bits cd cu cap clear set : ℕ) → cap < d + cd
    → take_extend {N = N} (few_label counters d u bits) (few_step amounts caps cd cu cap clear set) ≡ None
no_step {N} counters amounts caps d u bits cd cu cap clear set lt = rw (step_fails d u cap cd cu lt) refl

same_label : {N : ℕ} (counters : List ℕ) (bits d e u v : ℕ) → d ≡ e → u ≡ v
    → ◌≡◌ {A = Option (TakeOf N)} (Some (few_label counters d u bits)) (Some (few_label counters e v bits))
same_label counters bits d e u v p q = rw (p, q) refl

-- so many hours rounded down, so many more rounded up, and eight bits
pub record IsFewLabel {N : ℕ} (counters : List ℕ) (fixed sink high : ℕ) (b : TakeOf N) : Type 0 where
  pub hours : ℕ
  pub more : ℕ
  pub bits : ℕ
  pub is : b ≡ few_label counters (fixed + 60 * hours) (fixed + 60 * (hours + more)) bits
  pub more_few : more < sink
  pub hours_few : 60 * hours ≤ high
  pub bits_few : bits < 256

start_of : {R : Type 0} (a b : R) → Some a ≡ Some b → b ≡ a
start_of a b e = cc

small_bits : (bits keep set : ℕ) → bits < 256 → set < 256 → bit_or (bit_and bits keep) set < 256
small_bits bits keep set a b = let le = and_le_l bits keep in or_of_8 (bit_and bits keep) set (omega arith) b

next_down : (fixed hours q d : ℕ) → d ≡ 60 * q → (fixed + 60 * hours) + d ≡ fixed + 60 * (hours + q)
next_down fixed hours q d e = omega arith

next_up : (fixed high sink hours more q m d u : ℕ) → high ≤ 12000 → sink ≤ 601 → d ≡ 60 * q → u ≡ 60 * (q + m)
    → (fixed + 60 * hours) + d ≤ high → more + m < sink
    → min ((fixed + 60 * (hours + more)) + u) (2 ^ 31) ≡ fixed + 60 * ((hours + q) + (more + m))
next_up fixed high sink hours more q m d u a b e f le lt = omega arith

next_hours : (fixed high hours q d : ℕ) → d ≡ 60 * q → (fixed + 60 * hours) + d ≤ high → 60 * (hours + q) ≤ high
next_hours fixed high hours q d e le = omega arith

abbrev hour_lens : ℕ → Lens
hour_lens tracked = record { grain = 60; tracked = tracked; free30 = false; days = false; whole = false; windows = [] }

-- what one step leaves, and the rest of the walk
step_on : {R S : Type 0} (extend : R → S → Option R) (r q : R) (step : S) (steps : List S) (b : R)
    → extend r step ≡ Some q → run extend r (step ∷ steps) ≡ Some b → run extend q steps ≡ Some b
step_on extend r q step steps b on e = sym (ap (λ o. and_then o (λ q. run extend q steps)) on) ∙ e

step_off : {R S : Type 0} {Q : Type 0} (extend : R → S → Option R) (r : R) (step : S) (steps : List S) (b : R)
    → extend r step ≡ None → run extend r (step ∷ steps) ≡ Some b → Q
step_off {R} extend r step steps b off e =
    let none : ◌≡◌ {A = Option R} None (Some b) = sym (ap (λ o. and_then o (λ q. run extend q steps)) off) ∙ e in cc

-- so many hours more have come up by a place that adding was passed by: less than places
more_at : (i j k e sink : ℕ) → i < j → j ≤ sink → k ≤ i → (0 < i → k < i) → e ≤ 1 → (i ≡ 0 → e ≡ 0) → (k + e ≤ j) × (k + e < j)
more_at i j k e sink lt le ki pos one none = elim (cases_Bool (nat_lt 0 i)) [
  | inl later ↦ let l = pos (grind (arith, nat_tests)) in (omega arith, omega arith)
  | inr first ↦ let z = none (grind (arith, nat_tests)) in (omega arith, omega arith)
]

module _ {N : ℕ} (problem : Problem) (member tracked : ℕ) (terms : Terms) (adds clear set : ℕ → ℕ) (sink : ℕ) (may must : ℕ → Bool) (near : ℕ → ℕ → Bool) (gain : ℕ → ℤ) (arcs : List (Arc (TakeStepOf N))) (taken : List ℕ)
    (fixed : ℕ) (base : Window → ℕ)
    (inside : (j : ℕ) → may j ≡ true → j ≤ sink)
    (few_places : sink ≤ 601) (source_adds : length problem.base.pairings ≤ adds 0)
    (set_small : (j : ℕ) → set j < 256) (fixed_small : fixed ≤ 720000) (high_small : terms.high ≤ 12000)
    (are : AreTakeArcs (passes_by may must) (takes_by may must near) gain (take_step {N = N} problem member (hour_lens tracked) terms adds clear set) arcs taken) where
  abbrev steps : ℕ → ℕ → ℕ → TakeStepOf N
  steps = take_step {N = N} problem member (hour_lens tracked) terms adds clear set

  abbrev label_at : ℕ → ℕ → ℕ → TakeOf N
  label_at = few_label (spread N base [])

  -- along a chain the label stays one of these
  few_path : (i hours more bits : ℕ) (chain : List ℕ) (place : ℕ) (b : TakeOf N) → IsPath arcs i chain place → i ≤ sink
      → more ≤ i → (0 < i → more < i) → 60 * hours ≤ terms.high → bits < 256
      → run take_extend (label_at (fixed + 60 * hours) (fixed + 60 * (hours + more)) bits) (steps_by steps arcs taken chain) ≡ Some b
      → 0 < sink
      → IsFewLabel (spread N base []) fixed sink (terms.high) b
  few_path i hours more bits [] place b path small_i mi ms hh small e has = record {
    hours = hours;
    more = more;
    bits = bits;
    is = start_of (label_at (fixed + 60 * hours) (fixed + 60 * (hours + more)) bits) b e;
    more_few = below (cases_Bool (nat_lt 0 i));
    hours_few = hh;
    bits_few = small;
  }
    where
      below : (nat_lt 0 i ≡ true) ⊎ (nat_lt 0 i ≡ false) → more < sink
      below (inl later) = let l = ms (grind (arith, nat_tests)) in omega arith
      below (inr first) = let z : i ≡ 0 = grind (arith, nat_tests) in omega arith
  few_path i hours more bits (number ∷ chain) place b path small_i mi ms hh small e has =
      let arc = path.0 in
      let at : arc.from ≡ i = path.2 in
      let t = slice_index_or taken number 0 in
      let way = are.kinds number arc path.1 in
      let up = way_up may must near arc.from arc.to t way in
      let lt : i < arc.to = let l = up.0 in omega arith in
      let le : arc.to ≤ sink = inside arc.to (taken_before may must near arc.from arc.to t way).1 in
      let r = rounded (slice_get problem.base.pairings (adds t)) in
      let none : i ≡ 0 → r.more ≡ 0 = λ first. let z : t ≡ 0 = let q = up.1 in omega arith in
      r.none (slice_get_past problem.base.pairings (adds t) (subst (λ (k : ℕ). length problem.base.pairings ≤ adds k) (sym z) source_adds)) in
      let room = more_at i arc.to more r.more sink lt le mi ms r.at_most none in
      go t (option_map_or (λ (arc : Arc (TakeStepOf N)). arc.from) (slice_get arcs number) 0) (option_map_or (λ (arc : Arc (TakeStepOf N)). arc.to) (slice_get arcs number) 0) r room le (λ h m bs x y z u v. few_path arc.to h m bs chain place b path.3 le x y z u v has) e
    where
      go : (t v w : ℕ) (r : IsRounded (slice_get problem.base.pairings (adds t))) {j : ℕ} → (more + r.more ≤ j) × (more + r.more < j) → j ≤ sink
          → ((h m bs : ℕ) → m ≤ j → (0 < j → m < j) → 60 * h ≤ terms.high → bs < 256
          → run take_extend (label_at (fixed + 60 * h) (fixed + 60 * (h + m)) bs) (steps_by steps arcs taken chain) ≡ Some b
          → IsFewLabel (spread N base []) fixed sink (terms.high) b)
          → run take_extend (label_at (fixed + 60 * hours) (fixed + 60 * (hours + more)) bits) (steps t v w ∷ steps_by steps arcs taken chain) ≡ Some b
          → IsFewLabel (spread N base []) fixed sink (terms.high) b
      go t v w r room j_small rest e =
          let d = credit_at problem (floor_to 60) adds t in
          let u = credit_at problem (ceil_to 60) adds t in
          let high = terms.high in
          let amounts = spread N (window_minutes (item_events problem member (hour_lens tracked) (adds t))) [] in
          let caps = spread N (λ w. kind_limit w.kind) [] in
          elim (cases_Bool (nat_le ((fixed + 60 * hours) + d) high)) [
            | inl fits ↦
                let le : (fixed + 60 * hours) + d ≤ high = grind (arith, nat_tests) in
                let bs = bit_or (bit_and bits (2 ^ 64 - 1 - clear t)) (set t) in
                let on =
                takes_step {N = N} (spread N base []) amounts caps (fixed + 60 * hours) (fixed + 60 * (hours + more)) bits d u high (clear t) (set t)
                (still_sum N base (window_minutes (item_events problem member (hour_lens tracked) (adds t)))) (still_below N base (λ w. kind_limit w.kind)) le
                ∙ same_label {N = N} (spread N base []) bs ((fixed + 60 * hours) + d) (fixed + 60 * (hours + r.hours))
                (min ((fixed + 60 * (hours + more)) + u) (2 ^ 31)) (fixed + 60 * ((hours + r.hours) + (more + r.more)))
                (next_down fixed hours r.hours d r.down)
                (next_up fixed high sink hours more r.hours r.more d u high_small few_places r.down r.up le (let l = room.1 in omega arith)) in
                rest (hours + r.hours) (more + r.more) bs room.0 (λ positive. room.1) (next_hours fixed high hours r.hours d r.down le)
                (small_bits bits (2 ^ 64 - 1 - clear t) (set t) small (set_small t))
                (step_on (take_extend {N = N}) (label_at (fixed + 60 * hours) (fixed + 60 * (hours + more)) bits)
                (label_at (fixed + 60 * (hours + r.hours)) (fixed + 60 * ((hours + r.hours) + (more + r.more))) bs)
                (steps t v w) (steps_by steps arcs taken chain) b on e)
            | inr over ↦
                let lt : high < (fixed + 60 * hours) + d = grind (arith, nat_tests) in
                step_off (take_extend {N = N}) (label_at (fixed + 60 * hours) (fixed + 60 * (hours + more)) bits) (steps t v w) (steps_by steps arcs taken chain) b
                (no_step {N = N} (spread N base []) amounts caps (fixed + 60 * hours) (fixed + 60 * (hours + more)) bits d u high (clear t) (set t) lt) e
          ]

-- a number for each of these labels
abbrev code_of : {N : ℕ} → ℕ → ℕ → Reached (TakeOf N) → ℕ
code_of fixed sink a =
    a.resource.second.first.bits
    + 256 * ((a.resource.first.up - a.resource.first.down) / 60 + sink * ((a.resource.first.down - fixed) / 60))

more_of : (fixed hours more : ℕ) → ((fixed + 60 * (hours + more)) - (fixed + 60 * hours)) / 60 ≡ more
more_of fixed hours more = omega arith

hours_of : (fixed hours : ℕ) → ((fixed + 60 * hours) - fixed) / 60 ≡ hours
hours_of fixed hours = omega arith

code_is : {N : ℕ} (counters : List ℕ) (fixed sink high : ℕ) (a : Reached (TakeOf N)) (f : IsFewLabel counters fixed sink high a.resource)
    → code_of fixed sink a ≡ f.bits + 256 * (f.more + sink * f.hours)
code_is counters fixed sink high a f = rw (f.is, more_of fixed f.hours f.more, hours_of fixed f.hours) refl

code_small : (bits more hours sink high : ℕ) → bits < 256 → more < sink → hours ≤ high → bits + 256 * (more + sink * hours) < 256 * sink * (high + 1)
code_small bits more hours sink high a b c = omega (arith, mul-le-mul_left sink c)

-- numbers with the same code are the same
same_hours : (sink m h n g : ℕ) → m < sink → n < sink → m + sink * h ≡ n + sink * g → (h < g) → ⊥
same_hours sink m h n g a b e lt = let le : h + 1 ≤ g = omega arith in omega (arith, mul-le-mul_left sink le)

record AreSame (a b m n h g : ℕ) : Type 0 where
  bits : a ≡ b
  more : m ≡ n
  hours : h ≡ g

same_parts : (sink a b m n h g : ℕ) → a < 256 → b < 256 → m < sink → n < sink → a + 256 * (m + sink * h) ≡ b + 256 * (n + sink * g) → AreSame a b m n h g
same_parts sink a b m n h g sa sb sm sn e =
    let rest : m + sink * h ≡ n + sink * g = omega arith in
    let not_less = same_hours sink m h n g sm sn rest in
    let not_more = same_hours sink n g m h sn sm (sym rest) in
    let same : h ≡ g = elim (cases_Bool (nat_lt h g)) [
      | inl l ↦ absurd (not_less (grind (arith, nat_tests)))
      | inr nl ↦ elim (cases_Bool (nat_lt g h)) [
        | inl l ↦ absurd (not_more (grind (arith, nat_tests)))
        | inr ng ↦ grind (arith, nat_tests)
      ]
    ] in
    record { bits = omega arith; more = (let t : sink * h ≡ sink * g = ap (λ x. sink * x) same in omega arith); hours = same }

below_itself : (N : ℕ) (counters : List ℕ) (d u bits : ℕ) → take_below {N = N} (few_label counters d u bits) (few_label counters d u bits) ≡ true
below_itself N counters d u bits = rw (leq d, leq u, bits_reflexive bits, counters_reflexive counters) refl
  where
    leq : (n : ℕ) → nat_le n n ≡ true
    leq n = grind (arith, nat_tests)

below_same : {N : ℕ} (counters : List ℕ) (fixed sink high : ℕ) (a b : TakeOf N) (f : IsFewLabel counters fixed sink high a) (g : IsFewLabel counters fixed sink high b)
    → AreSame f.bits g.bits f.more g.more f.hours g.hours → take_below a b ≡ true
below_same {N} counters fixed sink high a b f g same =
    let both : label_at f.hours f.more f.bits ≡ label_at g.hours g.more g.bits = rw (same.bits, same.more, same.hours) refl in
    subst (λ (x : TakeOf N). take_below x b ≡ true) (sym (f.is ∙ both))
    (subst (λ (y : TakeOf N). take_below (label_at g.hours g.more g.bits) y ≡ true) (sym g.is)
    (below_itself N counters (fixed + 60 * g.hours) (fixed + 60 * (g.hours + g.more)) g.bits))
  where
    label_at : ℕ → ℕ → ℕ → TakeOf N
    label_at hours more bits = few_label counters (fixed + 60 * hours) (fixed + 60 * (hours + more)) bits

-- labels with as many hours, tellings apart and bits are below one another, and there are so many of these
few_by_hours : {N : ℕ} {S : Type 0} (extend : TakeOf N → S → Option (TakeOf N)) (start : TakeOf N) (arcs : List (Arc S)) (counters : List ℕ) (fixed sink high : ℕ)
    → ((a : Reached (TakeOf N)) (chain : List ℕ) → Leads extend arcs (source start) chain a → IsFewLabel counters fixed sink high a.resource)
    → FewApart take_below extend start arcs (256 * sink * (high / 60 + 1))
few_by_hours {N} extend start arcs counters fixed sink high few =
    few_by_code take_below extend start arcs (256 * sink * (high / 60 + 1)) (code_of fixed sink)
    (λ place a r. small a (few a r.chain r.leads))
    (λ place a b r s same. alike a b (few a r.chain r.leads) (few b s.chain s.leads) same)
  where
    small : (a : Reached (TakeOf N)) → IsFewLabel counters fixed sink high a.resource → code_of fixed sink a < 256 * sink * (high / 60 + 1)
    small a f =
        let lt : f.bits + 256 * (f.more + sink * f.hours) < 256 * sink * (high / 60 + 1) =
        code_small f.bits f.more f.hours sink (high / 60) f.bits_few f.more_few (let h = f.hours_few in omega arith) in
        subst (λ (n : ℕ). n < 256 * sink * (high / 60 + 1)) (sym (code_is counters fixed sink high a f)) lt

    alike : (a b : Reached (TakeOf N)) → IsFewLabel counters fixed sink high a.resource → IsFewLabel counters fixed sink high b.resource
        → code_of fixed sink a ≡ code_of fixed sink b → take_below a.resource b.resource ≡ true
    alike a b f g same =
        below_same {N = N} counters fixed sink high a.resource b.resource f g
        (same_parts sink f.bits g.bits f.more g.more f.hours g.hours f.bits_few g.bits_few f.more_few g.more_few
        (sym (code_is counters fixed sink high a f) ∙ same ∙ code_is counters fixed sink high b g))

same_lens : (lens : Lens) → lens.grain ≡ 60 → lens.free30 ≡ false → lens.days ≡ false → lens.whole ≡ false → lens.windows ≡ [] → hour_lens lens.tracked ≡ lens
same_lens lens g f d p w = go lens.grain lens.tracked lens.free30 lens.days lens.whole lens.windows g f d p w
  where
    go : (grain tracked : ℕ) (free days whole : Bool) (windows : List Window) → grain ≡ 60 → free ≡ false → days ≡ false → whole ≡ false → windows ≡ []
        → ◌≡◌ {A = Lens} (hour_lens tracked) (record { grain = grain; tracked = tracked; free30 = free; days = days; whole = whole; windows = windows })
    go grain tracked free days whole windows g f d p w = rw (g, f, d, p, w) refl

-- a greater bound bounds too
wider_bound : {R S : Type 0} (below : R → R → Bool) (extend : R → S → Option R) (start : R) (arcs : List (Arc S)) (n most : ℕ) → n ≤ most → FewApart below extend start arcs n → FewApart below extend start arcs most
wider_bound below extend start arcs n most le few place labels reached apart = let short = few place labels reached apart in omega (arith, le, short)

higher : (sink low high : ℕ) → low ≤ high → 256 * sink * (low / 60 + 1) ≤ 256 * sink * (high / 60 + 1)
higher sink low high le = mul-le-mul_left (256 * sink) (let h : low / 60 + 1 ≤ high / 60 + 1 = omega arith in h)

pub few_hour : {N : ℕ} (problem : Problem) (member : ℕ) (lens : Lens) (terms : Terms) (adds clear set : ℕ → ℕ) (sink : ℕ) (may must : ℕ → Bool) (near : ℕ → ℕ → Bool) (gain : ℕ → ℤ) (bits : ℕ) (arcs : List (Arc (TakeStepOf N))) (taken : List ℕ)
    → IsHourLens lens → IsPlaced problem member lens adds sink
    → ((j : ℕ) → may j ≡ true → j ≤ sink)
    → ((j : ℕ) → set j < 256) → bits < 256
    → sum_by (λ (e : Event). e.credit) (fixed_of problem member) ≤ 60 * 12000 → terms.high ≤ high_of problem member → high_of problem member ≤ 12000 → length problem.base.pairings ≤ 600
    → AreTakeArcs (passes_by may must) (takes_by may must near) gain (take_step {N = N} problem member lens terms adds clear set) arcs taken
    → FewApart take_below take_extend (take_start problem member lens bits) arcs (256 * (length problem.base.pairings + 1) * (high_of problem member / 60 + 1))
few_hour {N} problem member lens terms adds clear set sink may must near gain bits arcs taken hour placed inside set_small small fixed_small fits high_small few are =
    let is = same_lens lens hour.grain hour.free30 hour.days hour.whole hour.windows in
    let count : item_count problem member lens ≡ length problem.base.pairings = rw hour.free30 (omega arith) in
    let size : sink ≡ length problem.base.pairings + 1 = placed.size ∙ ap (λ n. n + 1) count in
    let first : adds 0 ≡ length problem.base.pairings = placed.source ∙ count in
    let are_hours : AreTakeArcs (passes_by may must) (takes_by may must near) gain (take_step {N = N} problem member (hour_lens lens.tracked) terms adds clear set) arcs taken =
    subst (λ (l : Lens). AreTakeArcs (passes_by may must) (takes_by may must near) gain (take_step {N = N} problem member l terms adds clear set) arcs taken) (sym is) are in
    let fixed = sum_by (λ (e : Event). e.credit) (fixed_of problem member) in
    let start = take_start {N = N} problem member (hour_lens lens.tracked) bits in
    let bound : FewApart take_below take_extend (take_start problem member (hour_lens lens.tracked) bits) arcs (256 * sink * (high_of problem member / 60 + 1)) =
    wider_bound take_below take_extend start arcs (256 * sink * (terms.high / 60 + 1)) (256 * sink * (high_of problem member / 60 + 1)) (higher sink terms.high (high_of problem member) fits)
    (few_by_hours take_extend start arcs (base_usage N problem member (hour_lens lens.tracked)) fixed sink terms.high
    (λ a chain leads.
    let l = led are_hours (source start) chain a leads in
    few_path {N = N} problem member lens.tracked terms adds clear set sink may must near gain arcs taken fixed (window_minutes (base_of problem member)) inside (omega arith) (omega arith)
    set_small fixed_small (omega arith) are_hours 0 0 0 bits chain a.place a.resource l.path (omega arith) (omega arith) (λ positive. absurd (omega arith)) (omega arith) small
    (subst (λ (x : ℕ). run take_extend (few_label (base_usage N problem member (hour_lens lens.tracked)) x x bits)
    (steps_by (take_step {N = N} problem member (hour_lens lens.tracked) terms adds clear set) arcs taken chain) ≡ Some a.resource)
    (no_more fixed) l.runs) (omega arith))) in
    subst (λ (n : ℕ). FewApart take_below take_extend (take_start problem member lens bits) arcs (256 * n * (high_of problem member / 60 + 1))) size
    (subst (λ (l : Lens). FewApart take_below take_extend (take_start problem member l bits) arcs (256 * sink * (high_of problem member / 60 + 1))) is bound)
  where
    no_more : (n : ℕ) → n ≡ n + 0
    no_more n = omega arith
