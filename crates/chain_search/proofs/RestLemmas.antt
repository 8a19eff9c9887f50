-- The least of two bounds is a bound, and a bound along each arc is one.
use Rattle.std.proofs.Common.{◌≡◌, ℕ, ℤ, ◌+ℤ◌, ◌-◌, ◌≤ℤ◌, pos, List, [], ◌∷◌, Bool, Option, sym, ap, arith}
use Rattle.std.specs.Int.{int_min}
use Rattle.std.proofs.lemmas.Int.{ints}
use Rattle.label_setter.specs.Chains.{GraphOf, Leads, Reached}
use Rattle.label_setter.specs.Rests.{IsRest}
use Rattle.chain_search.specs.Bounds.{IsBound}
use Rattle.chain_search.specs.LeastRests.{least_of}
use Rattle.chain_search.proofs.Walking.{le_through}

least_above : (gain x a b : ℤ) → gain ≤ℤ (x +ℤ a) → gain ≤ℤ (x +ℤ b) → gain ≤ℤ (x +ℤ int_min a b)
least_above gain x a b p q = grind (arith, ints)

with_rest : (a r : ℤ) → pos 0 ≤ℤ r → a ≤ℤ (a +ℤ r)
with_rest a r h = omega (arith, ints)

le_same : (a b : ℤ) → a ≡ b → a ≤ℤ b
le_same a b e = omega (arith, ints)

module _ {R S E : Type 0} (extend : R → S → Option R) (done : R → E → Bool) (graph : GraphOf R S E) where
  pub least_is_bound : (first second : ℕ → R → ℤ) → IsBound extend done graph first → IsBound extend done graph second → IsBound extend done graph (least_of first second)
  least_is_bound first second p q label chain gain last leads is_done =
      least_above gain label.gain (first label.place label.resource) (second label.place label.resource) (p label chain gain last leads is_done) (q label chain gain last leads is_done)

  rest_along : (rest : ℕ → R → ℤ) → IsRest extend done graph rest → (a b : Reached R) (chain : List ℕ) → Leads extend graph.arcs a chain b → (b.gain +ℤ rest b.place b.resource) ≤ℤ (a.gain +ℤ rest a.place a.resource)
  rest_along rest rests a b [] leads = le_same (b.gain +ℤ rest b.place b.resource) (a.gain +ℤ rest a.place a.resource) (ap (λ (r : Reached R). r.gain +ℤ rest r.place r.resource) (sym leads))
  rest_along rest rests a b (number ∷ chain) leads = le_through _ (leads.0.gain +ℤ rest leads.0.place leads.0.resource) _ (rest_along rest rests leads.0 b chain leads.2) (rests.along a leads.0 number leads.1)

  pub rest_is_bound : (rest : ℕ → R → ℤ) → IsRest extend done graph rest → IsBound extend done graph rest
  rest_is_bound rest rests label chain gain last leads is_done =
      le_through gain (gain +ℤ rest (graph.places - 1) last) _ (with_rest gain (rest (graph.places - 1) last) (rests.ends last is_done))
      (rest_along rest rests label (record { place = graph.places - 1; gain = gain; resource = last }) chain leads)
