-- Arrays and lists filled place by place, and arcs that fit their places.
use Rattle.std.proofs.Common.{◌≡◌, ◌≢◌, ◌==◌, ◌^◌, subst, set, replicate, ℕ, zero, suc, ◌+◌, ◌<◌, ◌≤◌, Bool, true, false, cond, List, [], ◌∷◌, ◌++◌, length, map, drop, get_or, refl, ap, sym, ◌∙◌, arith, inl, inr, ◌⊎◌}
use Rattle.std.specs.Prelude.{All, nat_lt}
use Rattle.std.proofs.lemmas.Bool.{cases_Bool, cases_lt, false≢true}
use Rattle.std.proofs.lemmas.Bool.Decides.{nat_tests}
use Rattle.std.proofs.lemmas.List.{length-set}
use Rattle.std.proofs.lemmas.List.Elements.{All-cons, All-head, All-nil, All-tail}
use Rattle.duty_calendar.specs.Minutes.{count_between}
use Rattle.duty_calendar.proofs.Counting.{count_between-append, count_between-none, count_between-one}
use Rattle.label_setter.specs.declared.graph.Arc.{Arc}
use Rattle.label_setter.specs.Graphs.{FitsPlaces, IsGraph}
use Rattle.lens_classes.specs.declared.terms.Terms.{Terms}
use Rattle.lens_classes.specs.TermLines.{is_counted}
use Rattle.lens_classes.proofs.Bits.{not_in}
use Rattle.count_graphs.specs.Counts.{AreSlots}
use Rattle.count_graphs.specs.CountGraphs.{counted_arc, counted_arcs}
use Rattle.graph_climbs.specs.Parts.{PartsStepOf}
use Rattle.count_graphs.specs.CountLabels.{CountStepOf}

pub map_from_each : (f : ℕ → ℕ) (out slots : List ℕ) → length out ≡ length slots → ((k : ℕ) → k < length slots → get_or out k 0 ≡ f (get_or slots k 0)) → out ≡ map f slots
map_from_each f [] [] long each = refl
map_from_each f [] (s ∷ slots) long each = absurd (omega (arith, long))
map_from_each f (x ∷ out) [] long each = absurd (omega (arith, long))
map_from_each f (x ∷ out) (s ∷ slots) long each =
    let here : x ≡ f s = each 0 (omega arith) in
    let rest = map_from_each f out slots (omega (arith, long)) (λ k lt. each (suc k) (omega arith)) in
    rw (here, rest) refl

drop_at : {X : Type 0} (xs : List X) (k n : ℕ) (d : X) → n ≡ k + 1 → k < length xs → drop k xs ≡ get_or xs k d ∷ drop n xs
drop_at [] k n d e lt = absurd (omega arith)
drop_at (x ∷ xs) k zero d e lt = absurd (omega (arith, e))
drop_at (x ∷ xs) zero (suc n) d e lt = let none : n ≡ 0 = omega (arith, e) in ap (λ (m : ℕ). x ∷ drop m xs) (sym none)
drop_at (x ∷ xs) (suc k) (suc n) d e lt = drop_at xs k n d (omega (arith, e)) (omega arith)

-- an arc more
pub counted_next : {S : Type 0} (amounts : ℕ → List ℕ) (adds : List ℕ) (arcs : List (Arc (PartsStepOf S))) (k n p : ℕ) (arc : Arc (PartsStepOf S))
    (out whole : List (Arc (CountStepOf S))) (next : Arc (CountStepOf S)) → n ≡ k + 1 → length adds ≡ length arcs → k < length arcs
    → p ≡ get_or adds k p → arc ≡ get_or arcs k arc → next ≡ counted_arc (amounts p) arc
    → out ++ counted_arcs amounts (drop k adds) (drop k arcs) ≡ whole
    → (out ++ next ∷ []) ++ counted_arcs amounts (drop n adds) (drop n arcs) ≡ whole
counted_next {S} amounts adds arcs k n p arc out whole next e long lt p_is arc_is next_is so =
    regroup out next (counted_arcs amounts (drop n adds) (drop n arcs))
    ∙ ap (λ (rest : List (Arc (CountStepOf S))). out ++ rest) (sym here) ∙ so
  where
    regroup : {X : Type 0} (xs : List X) (y : X) (ys : List X) → (xs ++ y ∷ []) ++ ys ≡ xs ++ y ∷ ys
    regroup [] y ys = refl
    regroup (x ∷ xs) y ys = ap (λ zs. x ∷ zs) (regroup xs y ys)

    both : (ps bs : List ℕ) (cs ds : List (Arc (PartsStepOf S))) → ps ≡ p ∷ bs → cs ≡ arc ∷ ds → counted_arcs amounts ps cs ≡ next ∷ counted_arcs amounts bs ds
    both ps bs cs ds f g = rw (f, g, next_is) refl

    here : counted_arcs amounts (drop k adds) (drop k arcs) ≡ next ∷ counted_arcs amounts (drop n adds) (drop n arcs)
    here =
        both (drop k adds) (drop n adds) (drop k arcs) (drop n arcs)
        (drop_at adds k n p e (omega (arith, long, lt)) ∙ ap (λ (x : ℕ). x ∷ drop n adds) (sym p_is))
        (drop_at arcs k n arc e lt ∙ ap (λ (x : Arc (PartsStepOf S)). x ∷ drop n arcs) (sym arc_is))

-- all of them
pub counted_all : {S : Type 0} (amounts : ℕ → List ℕ) (adds : List ℕ) (arcs : List (Arc (PartsStepOf S))) (k : ℕ) (out : List (Arc (CountStepOf S)))
    → length arcs ≤ k → out ++ counted_arcs amounts (drop k adds) (drop k arcs) ≡ counted_arcs amounts adds arcs → out ≡ counted_arcs amounts adds arcs
counted_all {S} amounts adds arcs k out le so =
    sym (no_more {X = Arc (CountStepOf S)} out (counted_arcs amounts (drop k adds) (drop k arcs)) (ap (λ (xs : List (Arc (PartsStepOf S))). counted_arcs amounts (drop k adds) xs) (past {X = Arc (PartsStepOf S)} arcs k le) ∙ none (drop k adds))) ∙ so
  where
    no_more : {X : Type 0} (xs ys : List X) → ys ≡ [] → xs ++ ys ≡ xs
    no_more [] ys e = e
    no_more (x ∷ xs) ys e = ap (λ zs. x ∷ zs) (no_more xs ys e)

    past : {X : Type 0} (xs : List X) (k : ℕ) → length xs ≤ k → drop k xs ≡ []
    past [] zero h = refl
    past [] (suc k) h = refl
    past (x ∷ xs) zero h = absurd (omega arith)
    past (x ∷ xs) (suc k) h = past xs k (omega arith)

    none : (ps : List ℕ) → counted_arcs {S = S} amounts ps [] ≡ []
    none [] = refl
    none (a ∷ ps) = refl

-- they fit as the arcs did
counted_fit : {S : Type 0} (amounts : ℕ → List ℕ) (places : ℕ) (adds : List ℕ) (arcs : List (Arc (PartsStepOf S)))
    → All (FitsPlaces places) arcs → All (FitsPlaces places) (counted_arcs amounts adds arcs)
counted_fit amounts places [] arcs fit = All-nil (FitsPlaces places)
counted_fit amounts places (p ∷ adds) [] fit = All-nil (FitsPlaces places)
counted_fit amounts places (p ∷ adds) (a ∷ arcs) fit =
    let here = All-head (FitsPlaces places) a arcs fit in
    All-cons (FitsPlaces places) (counted_arc (amounts p) a) (counted_arcs amounts adds arcs)
    (record { forward = here.forward; within = here.within; gain_low = here.gain_low; gain_high = here.gain_high })
    (counted_fit amounts places adds arcs (All-tail (FitsPlaces places) a arcs fit))

counted_few : {S : Type 0} (amounts : ℕ → List ℕ) (adds : List ℕ) (arcs : List (Arc (PartsStepOf S))) → length (counted_arcs amounts adds arcs) ≤ length arcs
counted_few amounts [] arcs = omega arith
counted_few amounts (p ∷ adds) [] = omega arith
counted_few amounts (p ∷ adds) (a ∷ arcs) = let rest = counted_few amounts adds arcs in omega (arith, rest)

pub counted_graph : {S : Type 0} (amounts : ℕ → List ℕ) (places : ℕ) (adds : List ℕ) (arcs : List (Arc (PartsStepOf S))) (list : List (Arc (CountStepOf S)))
    → list ≡ counted_arcs amounts adds arcs → IsGraph places arcs → IsGraph places list
counted_graph {S} amounts places adds arcs list same graph = subst (λ (l : List (Arc (CountStepOf S))). IsGraph places l) (sym same) (record {
  two = graph.two;
  most = graph.most;
  arcs_fit = counted_fit amounts places adds arcs graph.arcs_fit;
  few = let less = counted_few amounts adds arcs in let few = graph.few in omega (arith, less, few);
})

pub graph_fits : {S : Type 0} (amounts : ℕ → List ℕ) (at places : ℕ) (adds : List ℕ) (given arcs : List (Arc (PartsStepOf S))) (list : List (Arc (CountStepOf S)))
    → list ≡ counted_arcs amounts adds given → given ≡ arcs → at ≡ places → IsGraph places arcs → IsGraph at list
graph_fits {S} amounts at places adds given arcs list same is here graph =
    subst (λ (n : ℕ). IsGraph n list) (sym here)
    (counted_graph amounts places adds arcs list (same ∙ ap (λ (xs : List (Arc (PartsStepOf S))). counted_arcs amounts adds xs) is) graph)

here_read : (xs : List ℕ) (i x : ℕ) → i < length xs → get_or (set xs i x) i 64 ≡ x
here_read [] i x lt = absurd (omega arith)
here_read (y ∷ xs) zero x lt = refl
here_read (y ∷ xs) (suc i) x lt = here_read xs i x (omega arith)

other_read : (xs : List ℕ) (i k x : ℕ) → (i ≡ k → ⊥) → get_or (set xs i x) k 64 ≡ get_or xs k 64
other_read [] i k x off = refl
other_read (y ∷ xs) zero zero x off = absurd (off refl)
other_read (y ∷ xs) zero (suc k) x off = refl
other_read (y ∷ xs) (suc i) zero x off = refl
other_read (y ∷ xs) (suc i) (suc k) x off = other_read xs i k x (λ e. off (ap suc e))

-- slots that were filled so far
pub record AreFilled (counted : ℕ → Bool) (bid next : ℕ) (slots : List ℕ) : Type 0 where
  pub long : length slots ≡ 8
  pub count : next ≡ count_between counted 0 bid
  pub all : (b : ℕ) → b < bid → counted b ≡ true → (k : ℕ) × (k < next) × (k < 8) × (get_or slots k 64 ≡ b)
  pub only : (k : ℕ) → k < 8 → (64 ≤ get_or slots k 64) ⊎ (counted (get_or slots k 64) ≡ true)

pub none_filled : (counted : ℕ → Bool) → AreFilled counted 0 0 (64 ∷ 64 ∷ 64 ∷ 64 ∷ 64 ∷ 64 ∷ 64 ∷ 64 ∷ [])
none_filled counted = record {
  long = refl;
  count = sym (count_between-none counted 0);
  all = λ b lt h. absurd (omega arith);
  only = λ k lt. inl (let e = unused 8 k in omega (arith, e));
}
  where
    unused : (n k : ℕ) → ◌≡◌ {A = ℕ} (get_or (replicate n 64) k 64) 64
    unused zero k = refl
    unused (suc n) zero = refl
    unused (suc n) (suc k) = unused n k

-- all bids
pub filled_slots : (terms : Terms) (bid next : ℕ) (slots : List ℕ) → terms.counted < 2 ^ 64 → 64 ≤ bid → AreFilled (is_counted terms) bid next slots → AreSlots terms slots
filled_slots terms bid next slots small done f = record {
  all = λ b h. elim (cases_lt b 64) [
    | inl low ↦ let at = f.all b (omega (arith, low, done)) h in let long = f.long in let less = at.2 in (at.0, omega (arith, long, less), at.3)
    | inr high ↦ absurd (false≢true (sym (not_in terms.counted b small high) ∙ h))
  ];
  only = λ k lt. f.only k (let long = f.long in omega (arith, long, lt));
}

pub next_within : (counted : ℕ → Bool) (bid next : ℕ) → bid < 64 → counted bid ≡ true → next ≡ count_between counted 0 bid → count_between counted 0 64 ≤ 8 → next < 8
next_within counted bid next lt here count few =
    let one = count_between-one counted 0 bid (omega arith) in
    let split = count_between-append counted 0 (bid + 1) 64 (omega arith) (omega (arith, lt)) in
    let add : ◌≡◌ {A = ℕ} (cond (counted bid) 1 0) 1 = ap (λ (b : Bool). cond b 1 0) here in
    omega (arith, one, split, add, count, few)

pub filled_skip : (counted : ℕ → Bool) (bid n next more : ℕ) (slots after : List ℕ) → n ≡ bid + 1 → more ≡ next → counted bid ≡ false → after ≡ slots
    → AreFilled counted bid next slots → AreFilled counted n more after
filled_skip counted bid n next more slots after e m here same_slots f = subst (λ (xs : List ℕ). AreFilled counted n more xs) (sym same_slots) (record {
  long = f.long;
  count =
      let one = count_between-one counted 0 bid (omega arith) in
      let add : ◌≡◌ {A = ℕ} (cond (counted bid) 1 0) 0 = ap (λ (b : Bool). cond b 1 0) here in
      let same = f.count in
      let to : count_between counted 0 n ≡ count_between counted 0 (bid + 1) = ap (count_between counted 0) e in
      omega (arith, one, add, same, to, m);
  all = λ b lt h. elim (cases_Bool (nat_lt b bid)) [
    | inl low ↦ let at = f.all b (grind (arith, nat_tests)) h in let less = at.1 in (at.0, omega (arith, less, m), at.2, at.3)
    | inr high ↦ let same : b ≡ bid = grind (arith, nat_tests) in absurd (false≢true (sym here ∙ ap counted (sym same) ∙ h))
  ];
  only = f.only;
})

pub filled_take : (counted : ℕ → Bool) (bid n next more : ℕ) (slots after : List ℕ) → n ≡ bid + 1 → more ≡ next + 1 → counted bid ≡ true → next < 8
    → after ≡ set slots next bid → AreFilled counted bid next slots → AreFilled counted n more after
filled_take counted bid n next more slots after e m here lt set_is f =
    subst (λ (xs : List ℕ). AreFilled counted n more xs) (sym set_is) (record {
      long = length-set slots next bid ∙ f.long;
      count =
          let one = count_between-one counted 0 bid (omega arith) in
          let add : ◌≡◌ {A = ℕ} (cond (counted bid) 1 0) 1 = ap (λ (b : Bool). cond b 1 0) here in
          let same = f.count in
          let to : count_between counted 0 n ≡ count_between counted 0 (bid + 1) = ap (count_between counted 0) e in
          omega (arith, one, add, same, to, m);
      all = λ b less h. elim (cases_Bool (nat_lt b bid)) [
        | inl low ↦
            let old = f.all b (grind (arith, nat_tests)) h in
            let k_lt = old.1 in
            (old.0, omega (arith, k_lt, m), old.2, other_read slots next old.0 bid (λ same. omega (arith, k_lt, same)) ∙ old.3)
        | inr high ↦
            let same : b ≡ bid = grind (arith, nat_tests) in
            let long = f.long in
            (next, omega (arith, m), lt, here_read slots next bid (omega (arith, long, lt)) ∙ sym same)
      ];
      only = λ k k_lt. elim (cases_Bool (k == next)) [
        | inl at ↦
            let same : k ≡ next = grind (arith, nat_tests) in
            let long = f.long in
            let is : get_or (set slots next bid) k 64 ≡ bid = ap (λ (j : ℕ). get_or (set slots next bid) j 64) same ∙ here_read slots next bid (omega (arith, long, lt)) in
            inr (ap counted is ∙ here)
        | inr off ↦
            let other : k ≢ next = grind (arith, nat_tests) in
            let is = other_read slots next k bid (λ same. other (sym same)) in
            elim (f.only k k_lt) [
              | inl past ↦ inl (subst (λ (x : ℕ). 64 ≤ x) (sym is) past)
              | inr h ↦ inr (ap counted is ∙ h)
            ]
      ];
    })
