-- A resource runs along what a chain takes as along the stops, where passing over changes nothing.
use Rattle.std.proofs.Common.{◌≡◌, ℕ, zero, suc, Bool, List, [], ◌∷◌, Option, Some, None, refl, ap, sym, ◌∙◌, subst}
use Rattle.std.specs.Prelude.{map}
use Rattle.line_items.proofs.Walks.{and_then, run, along}
use Rattle.take_graphs.proofs.TakenPlaces.{stops_by}
use Rattle.line_items.proofs.Completing.{Completes}

-- steps that depend on the second place alone
pub along_map : {S : Type 0} (step : ℕ → S) (i : ℕ) (js : List ℕ) → along (λ x y. step y) i js ≡ map step js
along_map step i [] = refl
along_map step i (j ∷ js) = ap (◌∷◌ (step j)) (along_map step j js)

-- a run that comes somewhere takes its first step
pub record StepsOff {R S : Type 0} (extend : R → S → Option R) (r : R) (step : S) : Type 0 where
  pub to : R
  pub on : extend r step ≡ Some to

pub steps_off : {R S : Type 0} (extend : R → S → Option R) (r : R) (step : S) (steps : List S) (b : R) → run extend r (step ∷ steps) ≡ Some b → StepsOff extend r step
steps_off {R} extend r step steps b e = go (extend r step) refl
  where
    go : (o : Option R) → extend r step ≡ o → StepsOff extend r step
    go None none =
        let bad : ◌≡◌ {A = Option R} None (Some b) = sym (ap (λ o. and_then o (λ q. run extend q steps)) none) ∙ e in
        cc
    go (Some q) some = record { to = q; on = some }

-- the first of the stops
pub record HasFirst (sink : ℕ) (ts : List ℕ) : Type 0 where
  pub first : ℕ
  pub rest : List ℕ
  pub is : stops_by sink ts ≡ first ∷ rest

pub first_stop : (sink : ℕ) (ts : List ℕ) → HasFirst sink ts
first_stop sink [] = record { first = sink; rest = []; is = refl }
first_stop sink (zero ∷ ts) = let h = first_stop sink ts in record { first = h.first; rest = h.rest; is = h.is }
first_stop sink (suc t ∷ ts) = record { first = suc t; rest = stops_by sink ts; is = refl }

-- what is known of a resource between two steps, where passing over and the sink leave it as it is
pub record Calms {R S : Type 0} (extend : R → S → Option R) (start : R) (step : ℕ → S) (sink : ℕ) (calm : R → Type 0) : Type 0 where
  pub stays : (r : R) → calm r → extend r (step 0) ≡ Some r
  pub ends : (r : R) → calm r → extend r (step sink) ≡ Some r
  pub keeps : (r q : R) (t : ℕ) → calm r → extend r (step t) ≡ Some q → calm q
  pub begins : (q : R) (t : ℕ) → extend start (step t) ≡ Some q → calm start

module _ {R S E : Type 0} (extend : R → S → Option R) (done : R → E → Bool) (start : R) (end : E) (step : ℕ → S) (sink : ℕ) (calm : R → Type 0)
    (calms : Calms extend start step sink calm) where
  pub same_run : (r : R) → calm r → (ts : List ℕ) → run extend r (map step ts) ≡ run extend r (map step (stops_by sink ts))
  same_run r c [] = sym (ap (λ o. and_then o (λ q. run extend q [])) (calms.ends r c))
  same_run r c (zero ∷ ts) = ap (λ o. and_then o (λ q. run extend q (map step ts))) (calms.stays r c) ∙ same_run r c ts
  same_run r c (suc t ∷ ts) = go (extend r (step (suc t))) refl (λ q d. same_run q d ts)
    where
      go : (o : Option R) → extend r (step (suc t)) ≡ o → ((q : R) → calm q → run extend q (map step ts) ≡ run extend q (map step (stops_by sink ts)))
          → and_then o (λ q. run extend q (map step ts)) ≡ and_then o (λ q. run extend q (map step (stops_by sink ts)))
      go None e rest = refl
      go (Some q) e rest = rest q (calms.keeps r q (suc t) c e)

  -- along what a chain of one arc at least takes, and along its stops
  pub to_stops : (t : ℕ) (ts : List ℕ) → Completes extend done start end (map step (t ∷ ts)) → Completes extend done start end (map step (stops_by sink (t ∷ ts)))
  to_stops t ts c =
      let on = steps_off extend start (step t) (map step ts) c.last c.runs in
      let calm_start = calms.begins on.to t on.on in
      record { last = c.last; runs = sym (same_run start calm_start (t ∷ ts)) ∙ c.runs; is_done = c.is_done }

  pub from_stops : (ts : List ℕ) → Completes extend done start end (map step (stops_by sink ts)) → Completes extend done start end (map step ts)
  from_stops ts c =
      let first = first_stop sink ts in
      let runs : run extend start (step first.first ∷ map step first.rest) ≡ Some c.last = ap (λ (js : List ℕ). run extend start (map step js)) (sym first.is) ∙ c.runs in
      let on = steps_off extend start (step first.first) (map step first.rest) c.last runs in
      let calm_start = calms.begins on.to first.first on.on in
      record { last = c.last; runs = same_run start calm_start ts ∙ c.runs; is_done = c.is_done }

  -- the same along places
  pub to_stops_along : (t : ℕ) (ts : List ℕ) → Completes extend done start end (along (λ x y. step y) 0 (t ∷ ts)) → Completes extend done start end (along (λ x y. step y) 0 (stops_by sink (t ∷ ts)))
  to_stops_along t ts c =
      subst (Completes extend done start end) (sym (along_map step 0 (stops_by sink (t ∷ ts))))
      (to_stops t ts (subst (Completes extend done start end) (along_map step 0 (t ∷ ts)) c))

  pub from_stops_along : (ts : List ℕ) → Completes extend done start end (along (λ x y. step y) 0 (stops_by sink ts)) → Completes extend done start end (along (λ x y. step y) 0 ts)
  from_stops_along ts c =
      subst (Completes extend done start end) (sym (along_map step 0 ts))
      (from_stops ts (subst (Completes extend done start end) (along_map step 0 (stops_by sink ts)) c))
