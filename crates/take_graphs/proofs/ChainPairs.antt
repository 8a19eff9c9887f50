-- A pair completes the steps of a list exactly where both parts do.
use Rattle.std.proofs.Common.{◌≡◌, ℕ, Bool, true, List, [], ◌∷◌, Option, Some, None, refl, ap, sym, ◌∙◌}
use Rattle.std.specs.Prelude.{map}
use Rattle.std.proofs.lemmas.Bool.{and_parts, and_from}
use Rattle.label_lattice.specs.declared.pairs.Pair.{Pair}
use Rattle.label_lattice.specs.Pair.{both_of, pair_extend, pair_done}
use Rattle.line_items.proofs.Walks.{run, and_then}
use Rattle.line_items.proofs.Completing.{Completes}
use Rattle.line_items.proofs.RunPairs.{run_pair}

pub map_map : {X Y Z : Type 0} (g : Y → Z) (f : X → Y) (xs : List X) → map g (map f xs) ≡ map (λ x. g (f x)) xs
map_map g f [] = refl
map_map g f (x ∷ xs) = ap (◌∷◌ (g (f x))) (map_map g f xs)

both_first : {A B : Type 0} (o : Option A) (p : Option B) (c : Pair A B) → both_of o p ≡ Some c → o ≡ Some c.first
both_first (Some a) (Some b) c e = cc
both_first None p c e = cc
both_first (Some a) None c e = cc

both_second : {A B : Type 0} (o : Option A) (p : Option B) (c : Pair A B) → both_of o p ≡ Some c → p ≡ Some c.second
both_second (Some a) (Some b) c e = cc
both_second None p c e = cc
both_second (Some a) None c e = cc

module _ {A B S T E F : Type 0} (extend_a : A → S → Option A) (done_a : A → E → Bool) (extend_b : B → T → Option B) (done_b : B → F → Bool)
    (a : A) (b : B) (end : E × F) (step : ℕ → S × T) (chain : List ℕ) where
  abbrev pub ChainFirst : Type 0
  ChainFirst = Completes extend_a done_a a end.0 (map (λ n. (step n).0) chain)

  abbrev pub ChainSecond : Type 0
  ChainSecond = Completes extend_b done_b b end.1 (map (λ n. (step n).1) chain)

  abbrev pub ChainBoth : Type 0
  ChainBoth = Completes (pair_extend extend_a extend_b) (pair_done done_a done_b) (record { first = a; second = b }) end (map step chain)

  same : run (pair_extend extend_a extend_b) (record { first = a; second = b }) (map step chain)
      ≡ both_of (run extend_a a (map (λ n. (step n).0) chain)) (run extend_b b (map (λ n. (step n).1) chain))
  same = run_pair extend_a extend_b (record { first = a; second = b }) (map step chain)
      ∙ ap (λ ss. both_of (run extend_a a ss) (run extend_b b (map (λ (s : S × T). s.1) (map step chain)))) (map_map (λ (s : S × T). s.0) step chain)
      ∙ ap (λ ts. both_of (run extend_a a (map (λ n. (step n).0) chain)) (run extend_b b ts)) (map_map (λ (s : S × T). s.1) step chain)

  pub list_completes : ChainFirst → ChainSecond → ChainBoth
  list_completes p q = record {
    last = record { first = p.last; second = q.last };
    runs = same ∙ (rw (p.runs, q.runs) refl);
    is_done = and_from (done_a p.last end.0) (done_b q.last end.1) p.is_done q.is_done;
  }

  pub list_first : ChainBoth → ChainFirst
  list_first c = record {
    last = c.last.first;
    runs = both_first (run extend_a a (map (λ n. (step n).0) chain)) (run extend_b b (map (λ n. (step n).1) chain)) c.last (sym same ∙ c.runs);
    is_done = (and_parts (done_a c.last.first end.0) (done_b c.last.second end.1) c.is_done).0;
  }

  pub list_second : ChainBoth → ChainSecond
  list_second c = record {
    last = c.last.second;
    runs = both_second (run extend_a a (map (λ n. (step n).0) chain)) (run extend_b b (map (λ n. (step n).1) chain)) c.last (sym same ∙ c.runs);
    is_done = (and_parts (done_a c.last.first end.0) (done_b c.last.second end.1) c.is_done).1;
  }

-- steps that leave the resource as it is
pub still_chain : {R S E : Type 0} (extend : R → S → Option R) (done : R → E → Bool) (start : R) (end : E) (step : ℕ → S) (chain : List ℕ)
    → ((n : ℕ) → extend start (step n) ≡ Some start) → done start end ≡ true → Completes extend done start end (map step chain)
still_chain {R} extend done start end step chain keeps fine = record { last = start; runs = go chain; is_done = fine }
  where
    go : (chain : List ℕ) → run extend start (map step chain) ≡ Some start
    go [] = refl
    go (n ∷ ns) = ap (λ o. and_then o (λ q. run extend q (map step ns))) (keeps n) ∙ go ns
