-- The best chain of a climb, and the bound that it raised.
use Rattle.std.proofs.Common.{◌≡◌, ℕ, ℤ, ◌≤ℤ◌, Bool, List, Option, Some, None, sym, subst, arith}
use Rattle.std.specs.Prelude.{IfSome}
use Rattle.std.specs.Int.Signed.{◌<ℤ◌}
use Rattle.std.proofs.lemmas.Int.{ints}
use Rattle.label_setter.specs.Chains.{GraphOf, IsFeasible}
use Rattle.label_setter.specs.declared.traces.Traced.{Traced}
use Rattle.chain_search.specs.declared.search.Ended.TheVariants.{Enough, Top}
use Rattle.chain_search.specs.Climbs.{Climbs, IsAbove, NoneAbove, raised_to}

pub higher : (low over gain : ℤ) → low ≤ℤ over → over <ℤ gain → low <ℤ gain
higher low over gain p q = omega (arith, ints, p, q)

no_less : (low over : ℤ) → over ≡ low → low ≤ℤ over
no_less low over e = omega (arith, ints)

less_through : (low over at : ℤ) → low <ℤ at → over ≡ at → low ≤ℤ over
less_through low over at p e = omega (arith, ints, p)

module _ {R S E : Type 0} (extend : R → S → Option R) (done : R → E → Bool) (graph : GraphOf R S E) where
  pub raised_above : (low over : ℤ) (best : Option Traced) → IfSome best (IsAbove extend done graph low) → over ≡ raised_to best low → low ≤ℤ over
  raised_above low over None old at = no_less low over at
  raised_above low over (Some traced) old at = less_through low over traced.gain old.above at

  -- the next chain is above the first bound too
  pub came_above : (low over : ℤ) (best : Option Traced) (traced : Traced) (arcs : List ℕ) (gain : ℤ) → IfSome best (IsAbove extend done graph low) → over ≡ raised_to best low
      → IsFeasible extend done graph arcs gain → over <ℤ gain → traced.arcs ≡ arcs → traced.gain ≡ gain → IsAbove extend done graph low traced
  came_above low over best traced arcs gain old at feasible above arcs_are gain_is = record {
    feasible = subst (λ (xs : List ℕ). IsFeasible extend done graph xs traced.gain) (sym arcs_are) (subst (λ (x : ℤ). IsFeasible extend done graph arcs x) (sym gain_is) feasible);
    above = subst (λ (x : ℤ). low <ℤ x) (sym gain_is) (higher low over gain (raised_above low over best old at) above);
  }

  pub climbs_enough : (low : ℤ) (traced : Traced) → IsAbove extend done graph low traced → Climbs extend done graph low (record { best = Some traced; ended = Enough })
  climbs_enough low traced above = record { found = above; enough = λ e none. cc; top = λ e. cc }

  pub climbs_top : (low over : ℤ) (best : Option Traced) → IfSome best (IsAbove extend done graph low) → over ≡ raised_to best low → NoneAbove extend done graph over → Climbs extend done graph low (record { best = best; ended = Top })
  climbs_top low over best old at none = record { found = old; enough = λ e. cc; top = λ e. subst (NoneAbove extend done graph) at none }
