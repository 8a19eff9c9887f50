-- A pair completes a walk exactly where both parts do.
use Rattle.std.proofs.Common.{◌≡◌, ℕ, Bool, true, List, [], ◌∷◌, Option, Some, None, refl, ap, sym, ◌∙◌}
use Rattle.std.specs.Prelude.{map}
use Rattle.std.proofs.lemmas.Bool.{and_parts, and_from}
use Rattle.label_lattice.specs.declared.pairs.Pair.{Pair}
use Rattle.label_lattice.specs.Pair.{both_of, pair_extend, pair_done}
use Rattle.line_items.proofs.Walks.{run, along, and_then}
use Rattle.line_items.proofs.RunPairs.{run_pair, map-along}

-- the resource runs along all steps, and is done then
pub record Completes {R S E : Type 0} (extend : R → S → Option R) (done : R → E → Bool) (start : R) (end : E) (steps : List S) : Type 0 where
  pub last : R
  pub runs : run extend start steps ≡ Some last
  pub is_done : done last end ≡ true

both_first : {A B : Type 0} (o : Option A) (p : Option B) (c : Pair A B) → both_of o p ≡ Some c → o ≡ Some c.first
both_first (Some a) (Some b) c e = cc
both_first None p c e = cc
both_first (Some a) None c e = cc

both_second : {A B : Type 0} (o : Option A) (p : Option B) (c : Pair A B) → both_of o p ≡ Some c → p ≡ Some c.second
both_second (Some a) (Some b) c e = cc
both_second None p c e = cc
both_second (Some a) None c e = cc

module _ {A B S T E F : Type 0} (extend_a : A → S → Option A) (done_a : A → E → Bool) (extend_b : B → T → Option B) (done_b : B → F → Bool)
    (a : A) (b : B) (end : E × F) (step : ℕ → ℕ → S × T) (i : ℕ) (js : List ℕ) where
  abbrev pub First : Type 0
  First = Completes extend_a done_a a end.0 (along (λ x y. (step x y).0) i js)

  abbrev pub Second : Type 0
  Second = Completes extend_b done_b b end.1 (along (λ x y. (step x y).1) i js)

  abbrev pub Both : Type 0
  Both = Completes (pair_extend extend_a extend_b) (pair_done done_a done_b) (record { first = a; second = b }) end (along step i js)

  same : run (pair_extend extend_a extend_b) (record { first = a; second = b }) (along step i js)
      ≡ both_of (run extend_a a (along (λ x y. (step x y).0) i js)) (run extend_b b (along (λ x y. (step x y).1) i js))
  same = run_pair extend_a extend_b (record { first = a; second = b }) (along step i js)
      ∙ ap (λ ss. both_of (run extend_a a ss) (run extend_b b (map (λ (s : S × T). s.1) (along step i js)))) (map-along (λ (s : S × T). s.0) step i js)
      ∙ ap (λ ts. both_of (run extend_a a (along (λ x y. (step x y).0) i js)) (run extend_b b ts)) (map-along (λ (s : S × T). s.1) step i js)

  pub pair_completes : First → Second → Both
  pair_completes p q = record {
    last = record { first = p.last; second = q.last };
    runs = same ∙ (rw (p.runs, q.runs) refl);
    is_done = and_from (done_a p.last end.0) (done_b q.last end.1) p.is_done q.is_done;
  }

  pub completes_first : Both → First
  completes_first c = record {
    last = c.last.first;
    runs = both_first (run extend_a a (along (λ x y. (step x y).0) i js)) (run extend_b b (along (λ x y. (step x y).1) i js)) c.last (sym same ∙ c.runs);
    is_done = (and_parts (done_a c.last.first end.0) (done_b c.last.second end.1) c.is_done).0;
  }

  pub completes_second : Both → Second
  completes_second c = record {
    last = c.last.second;
    runs = both_second (run extend_a a (along (λ x y. (step x y).0) i js)) (run extend_b b (along (λ x y. (step x y).1) i js)) c.last (sym same ∙ c.runs);
    is_done = (and_parts (done_a c.last.first end.0) (done_b c.last.second end.1) c.is_done).1;
  }

-- a resource that no step changes
pub still : {R S E : Type 0} (extend : R → S → Option R) (done : R → E → Bool) (start : R) (end : E) (step : ℕ → ℕ → S) (i : ℕ) (js : List ℕ)
    → ((x y : ℕ) → extend start (step x y) ≡ Some start) → done start end ≡ true → Completes extend done start end (along step i js)
still {R} extend done start end step i js keeps fine = record { last = start; runs = go i js; is_done = fine }
  where
    go : (i : ℕ) (js : List ℕ) → run extend start (along step i js) ≡ Some start
    go i [] = refl
    go i (j ∷ js) = ap (λ o. and_then o (λ q. run extend q (along step j js))) (keeps i j) ∙ go j js
