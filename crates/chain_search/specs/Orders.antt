-- Orders of the resources at places.
use Rattle.std.specs.Prelude.{◌≡◌, ◌-◌, ℕ, Bool, true, Option, Some, slice_get}
use Rattle.label_lattice.specs.Laws.{ExtendsBelow}
use Rattle.label_setter.specs.declared.graph.Arc.{Arc}
use Rattle.label_setter.specs.Chains.{GraphOf}

-- where the first spares the second at the place that an arc leaves, it extends wherever that one does, to a resource
-- that spares the other again where the arc leads; and at the last place it is done wherever that one is
pub record IsOrder {R S E : Type 0} (extend : R → S → Option R) (done : R → E → Bool) (graph : GraphOf R S E)
    (spares : ℕ → R → R → Bool) : Type 0 where
  pub along :
      (number : ℕ) (arc : Arc S) (a b c : R) → slice_get graph.arcs number ≡ Some arc
      → spares arc.from a b ≡ true → extend b arc.step ≡ Some c → ExtendsBelow (spares arc.to) extend a arc.step c
  pub final :
      (a b : R) → spares (graph.places - 1) a b ≡ true → done b graph.end ≡ true → done a graph.end ≡ true
