-- A resource runs along what a chain takes exactly where another runs along its stops, where both step alike.
use Rattle.std.proofs.Common.{◌≡◌, ℕ, ℤ, ◌<◌, ◌≤◌, Bool, true, false, not, ◌&&◌, ◌==◌, List, [], ◌∷◌, Option, Some, None, refl, ap, sym, ◌∙◌, subst, arith, inl, inr, ◌⊎◌}
use Rattle.std.specs.Prelude.{slice_get, slice_index_or, map}
use Rattle.std.specs.Option.{option_map_or}
use Rattle.label_setter.specs.declared.graph.Arc.{Arc}
use Rattle.line_items.proofs.Walks.{and_then, run, along}
use Rattle.take_graphs.proofs.TakenPlaces.{taken_by, stops_by}
use Rattle.take_graphs.specs.Takes.{leads_by, passes_by, takes_by, IsWay, AreTakeArcs}
use Rattle.std.proofs.lemmas.Bool.{and_parts}
use Rattle.take_graphs.proofs.Taking.{IsPath, IsAt, leads_parts, stops_pass, stops_take}
use Rattle.take_graphs.proofs.Taking.{at_passed, at_taken, path_up}

-- both fail, or both come to what is related
pub record BothCome {R Q : Type 0} (P : R → Q → Type 0) (o : Option R) (p : Option Q) : Type 0 where
  pub first : R
  pub second : Q
  pub first_is : o ≡ Some first
  pub second_is : p ≡ Some second
  pub related : P first second

abbrev pub AreAlike : {R Q : Type 0} → (R → Q → Type 0) → Option R → Option Q → Type 0
AreAlike P o p = ((o ≡ None) × (p ≡ None)) ⊎ BothCome P o p

-- the resource takes a step to what is related
pub record Comes {R : Type 0} (P : R → Type 0) (o : Option R) : Type 0 where
  pub to : R
  pub is : o ≡ Some to
  pub related : P to

module _ {S T R Q : Type 0} (may must : ℕ → Bool) (near : ℕ → ℕ → Bool) (sink : ℕ) (gain : ℕ → ℤ) (step : ℕ → ℕ → ℕ → S) (arcs : List (Arc S)) (taken : List ℕ)
    (are : AreTakeArcs (passes_by may must) (takes_by may must near) gain step arcs taken)
    (some : 0 < sink)
    (nears : (i j k : ℕ) → 0 < j → j ≤ k → k ≤ sink → near i j ≡ true → near i k ≡ true)
    (starts : (k : ℕ) → 0 < k → k ≤ sink → near 0 k ≡ true)
    (free_source : must 0 ≡ false)
    {U : Type 0} (part : ℕ → ℕ → ℕ → U)
    (extend : R → U → Option R) (other : Q → T → Option Q) (other_step : ℕ → ℕ → T)
    (Related : ℕ → ℕ → R → Q → Type 0)
    (passing : (t i j : ℕ) (r : R) (q : Q) → IsAt may must near sink t i → IsAt may must near sink t j → i < j → j ≤ sink → Related t i r q → Comes (λ s. Related t j s q) (extend r (part 0 i j)))
    (taking : (t i j : ℕ) (r : R) (q : Q) → 0 < i → i < sink → i < j → j ≤ sink → IsAt may must near sink t i → IsAt may must near sink i j → Related t i r q
    → AreAlike (λ s p. Related i j s p) (extend r (part i i j)) (other q (other_step t i)))
    (ending : (t : ℕ) (r : R) (q : Q) → t < sink → Related t sink r q → Comes (λ p. Unit {0}) (other q (other_step t sink))) where
  abbrev parts : List ℕ → List U
  parts chain =
      map (λ number. part (slice_index_or taken number 0) (option_map_or (λ (arc : Arc S). arc.from) (slice_get arcs number) 0) (option_map_or (λ (arc : Arc S). arc.to) (slice_get arcs number) 0)) chain

  abbrev pub RunAlike : ℕ → R → Q → List ℕ → Type 0
  RunAlike t r q chain =
      AreAlike (λ s p. Unit {0})
      (run extend r (map (λ number. part (slice_index_or taken number 0) (option_map_or (λ (arc : Arc S). arc.from) (slice_get arcs number) 0) (option_map_or (λ (arc : Arc S). arc.to) (slice_get arcs number) 0)) chain))
      (run other q (along other_step t (stops_by sink (taken_by taken chain))))

  forward : (i j t : ℕ) → IsWay (passes_by may must) (takes_by may must near) i j t → i < j
  forward i j t (inl p) = (leads_parts may must i j (and_parts (not (must i)) (leads_by may must i j) p.1).1).later
  forward i j t (inr p) =
      let ps = and_parts (not (i == 0)) _ p.1 in
      (leads_parts (λ k. may k && near i k) must i j (and_parts (may i) (leads_by (λ k. may k && near i k) must i j) ps.1).1).later

  pub run_alike : (t i : ℕ) (chain : List ℕ) (r : R) (q : Q) → IsAt may must near sink t i → IsPath arcs i chain sink → Related t i r q → RunAlike t r q chain
  run_alike t i [] r q at e rel =
      let positive : 0 < i = omega arith in
      let lt = at.lt positive in
      let last = ending t r q (omega arith) (subst (λ (n : ℕ). Related t n r q) e rel) in
      inr (record { first = r; second = last.to; first_is = refl; second_is = ap (λ o. and_then o (λ p. Some p)) last.is; related = tt })
  run_alike t i (number ∷ chain) r q at path rel =
      let up = path_up may must near sink gain step arcs taken are some nears starts free_source path.0.to chain sink path.3 in
      let way = are.kinds number path.0 path.1 in
      let on = forward path.0.from path.0.to (slice_index_or taken number 0) way in
      go path.0.from path.0.to (slice_index_or taken number 0)
      (option_map_or (λ (arc : Arc S). arc.from) (slice_get arcs number) 0) (option_map_or (λ (arc : Arc S). arc.to) (slice_get arcs number) 0)
      (ap (λ (o : Option (Arc S)). option_map_or (λ (arc : Arc S). arc.from) o 0) path.1) (ap (λ (o : Option (Arc S)). option_map_or (λ (arc : Arc S). arc.to) o 0) path.1)
      path.2 on up way (λ s p z a related. run_alike s path.0.to chain z p a path.3 related)
    where
      none_first : (o : Option R) (p : Option Q) (f : R → Option R) (g : Q → Option Q) → o ≡ None → p ≡ None → AreAlike (λ s p. Unit {0}) (and_then o f) (and_then p g)
      none_first o p f g a b = inl (ap (λ x. and_then x f) a, ap (λ x. and_then x g) b)

      go : (from to x f g : ℕ) → f ≡ from → g ≡ to → from ≡ i → from < to → to ≤ sink → IsWay (passes_by may must) (takes_by may must near) from to x
          → ((s : ℕ) (p : Q) (z : R) → IsAt may must near sink s to → Related s to z p → RunAlike s z p chain)
          → AreAlike (λ s p. Unit {0}) (and_then (extend r (part x f g)) (λ z. run extend z (parts chain))) (run other q (along other_step t (stops_by sink (x ∷ taken_by taken chain))))
      go from to x f g fe ge e lt small (inl p) rest =
          let passes : passes_by may must i to ≡ true = ap (λ (n : ℕ). passes_by may must n to) (sym e) ∙ p.1 in
          let at_to = at_passed may must near sink gain step arcs taken are some nears starts free_source t i to at passes in
          let come = passing t i to r q at at_to (omega arith) small rel in
          let step_is : extend r (part x f g) ≡ Some come.to = whole x 0 f i g to p.0 (fe ∙ e) ge ∙ come.is in
          let more = rest t q come.to at_to come.related in
          moved (extend r (part x f g)) come.to (λ z. run extend z (parts chain)) (run other q (along other_step t (stops_by sink (taken_by taken chain))))
          (run other q (along other_step t (stops_by sink (x ∷ taken_by taken chain)))) step_is
          (ap (λ (js : List ℕ). run other q (along other_step t js)) (sym (stops_pass sink x (taken_by taken chain) p.0))) more
        where
          whole : (a b c d v w : ℕ) → a ≡ b → c ≡ d → v ≡ w → extend r (part a c v) ≡ extend r (part b d w)
          whole a b c d v w p q s = rw (p, q, s) refl

          moved : (o : Option R) (z : R) (h : R → Option R) (m n : Option Q) → o ≡ Some z → m ≡ n → AreAlike (λ s p. Unit {0}) (h z) m → AreAlike (λ s p. Unit {0}) (and_then o h) n
          moved o z h m n is same both =
              subst (λ (y : Option Q). AreAlike (λ s p. Unit {0}) (and_then o h) y) same (subst (λ (y : Option R). AreAlike (λ s p. Unit {0}) y m) (sym (ap (λ y. and_then y h) is)) both)
      go from to x f g fe ge e lt small (inr p) rest =
          let takes : takes_by may must near i to ≡ true = ap (λ (n : ℕ). takes_by may must near n to) (sym e) ∙ p.1 in
          let on = at_taken may must near sink gain step arcs taken are some nears starts free_source t i to (omega arith) at takes in
          let same : x ≡ i = p.0 ∙ e in
          let positive : 0 < x = let a = on.above in omega arith in
          let step_is : extend r (part x f g) ≡ extend r (part i i to) = whole x i f i g to same (fe ∙ e) ge in
          let stops_is : run other q (along other_step t (stops_by sink (x ∷ taken_by taken chain))) ≡ and_then (other q (other_step t i)) (λ p. run other p (along other_step i (stops_by sink (taken_by taken chain)))) =
          ap (λ (js : List ℕ). run other q (along other_step t js)) (stops_take sink x (taken_by taken chain) positive ∙ ap (λ (n : ℕ). n ∷ stops_by sink (taken_by taken chain)) same) in
          subst (λ (y : Option Q). AreAlike (λ s p. Unit {0}) (and_then (extend r (part x f g)) (λ z. run extend z (parts chain))) y) (sym stops_is)
          (subst (λ (y : Option R). AreAlike (λ s p. Unit {0}) (and_then y (λ z. run extend z (parts chain))) (and_then (other q (other_step t i)) (λ p. run other p (along other_step i (stops_by sink (taken_by taken chain)))))) (sym step_is)
          (both (extend r (part i i to)) (other q (other_step t i)) (taking t i to r q on.above (omega arith) (omega arith) small at on.at rel) (λ z p related. rest i p z on.at related)))
        where
          whole : (a b c d v w : ℕ) → a ≡ b → c ≡ d → v ≡ w → extend r (part a c v) ≡ extend r (part b d w)
          whole a b c d v w p q s = rw (p, q, s) refl

          both : (o : Option R) (m : Option Q) → AreAlike (λ s p. Related i to s p) o m
              → ((z : R) (p : Q) → Related i to z p → RunAlike i z p chain)
              → AreAlike (λ s p. Unit {0}) (and_then o (λ z. run extend z (parts chain))) (and_then m (λ p. run other p (along other_step i (stops_by sink (taken_by taken chain)))))
          both o m (inl none) rest = none_first o m (λ z. run extend z (parts chain)) (λ p. run other p (along other_step i (stops_by sink (taken_by taken chain)))) none.0 none.1
          both o m (inr come) rest =
              subst (λ (y : Option Q). AreAlike (λ s p. Unit {0}) (and_then o (λ z. run extend z (parts chain))) y) (sym (ap (λ y. and_then y (λ p. run other p (along other_step i (stops_by sink (taken_by taken chain))))) come.second_is))
              (subst (λ (y : Option R). AreAlike (λ s p. Unit {0}) y (run other come.second (along other_step i (stops_by sink (taken_by taken chain))))) (sym (ap (λ y. and_then y (λ z. run extend z (parts chain))) come.first_is))
              (rest come.first come.second come.related))
