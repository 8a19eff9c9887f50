-- What a climb over chains of more and more gain comes to.
use Rattle.std.specs.Prelude.{◌≡◌, ◌≢◌, ◌≤ℤ◌, ℕ, ℤ, List, Option, Some, None, Bool, IfSome}
use Rattle.std.specs.Int.Signed.{◌<ℤ◌}
use Rattle.label_setter.specs.Chains.{GraphOf, IsFeasible}
use Rattle.label_setter.specs.declared.traces.Traced.{Traced}
use Rattle.chain_search.specs.declared.search.Climb.{Climb}
use Rattle.chain_search.specs.declared.search.Ended.TheVariants.{Enough, Top}

-- no feasible chain gains more
abbrev pub NoneAbove : {R S E : Type 0} → (R → S → Option R) → (R → E → Bool) → GraphOf R S E → ℤ → Type 0
NoneAbove extend done graph over = (chain : List ℕ) (gain : ℤ) → IsFeasible extend done graph chain gain → gain ≤ℤ over

-- the bound that the chain, where there is one, raised
abbrev pub raised_to : Option Traced → ℤ → ℤ
raised_to (Some traced) over = traced.gain
raised_to None over = over

-- the chain is feasible and gains more than the bound
pub record IsAbove {R S E : Type 0} (extend : R → S → Option R) (done : R → E → Bool) (graph : GraphOf R S E)
    (over : ℤ) (traced : Traced) : Type 0 where
  pub feasible : IsFeasible extend done graph traced.arcs traced.gain
  pub above : over <ℤ traced.gain

-- the chain, where there is one, is above the bound; there is one where the climb found enough; and at the
-- top none is above it
pub record Climbs {R S E : Type 0} (extend : R → S → Option R) (done : R → E → Bool) (graph : GraphOf R S E)
    (over : ℤ) (climb : Climb) : Type 0 where
  pub found : IfSome climb.best (IsAbove extend done graph over)
  pub enough : climb.ended ≡ Enough → climb.best ≢ None
  pub top : climb.ended ≡ Top → NoneAbove extend done graph (raised_to climb.best over)
