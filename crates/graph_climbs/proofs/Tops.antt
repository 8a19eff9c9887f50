-- What climbs come to, one after the other; and the top of one from the lowest bound.
use Rattle.std.proofs.Common.{◌≡◌, ◌≢◌, ◌+◌, ◌≤◌, subst, sym, ℕ, ℤ, Bool, List, Option, Some, None, Ok, Err, arith}
use Rattle.std.specs.Prelude.{IfNone, IfOk, IfSome, Result}
use Rattle.std.specs.Int.Signed.{◌<ℤ◌}
use Rattle.std.proofs.lemmas.Int.{ints}
use Rattle.label_setter.specs.Chains.{GraphOf, IsFeasible}
use Rattle.label_setter.specs.declared.traces.Traced.{Traced}
use Rattle.chain_search.specs.declared.search.Climb.{Climb}
use Rattle.chain_search.specs.declared.search.Ended.TheVariants.{Enough, Limit}
use Rattle.chain_search.specs.Climbs.{Climbs, IsAbove, NoneAbove, raised_to}
use Rattle.chain_search.proofs.Climbing.{higher, raised_above}
use Rattle.graph_climbs.specs.Climbs.{IsClimb, later, merged}
use Rattle.graph_climbs.specs.declared.stages.Target.{Target}

pub is_some : {X : Type 0} (x : X) → ◌≡◌ {A = Option X} (Some x) None → ⊥
is_some x e = cc

module _ {R S E : Type 0} (extend : R → S → Option R) (done : R → E → Bool) (graph : GraphOf R S E) where
  pub top_greatest : (low : ℤ) (best : Option Traced) → NoneAbove extend done graph (raised_to best low)
      → IfSome best (λ traced. NoneAbove extend done graph traced.gain)
  top_greatest low None top = cc
  top_greatest low (Some traced) top = top

  pub top_none : (low : ℤ) (best : Option Traced) → NoneAbove extend done graph (raised_to best low)
      → ((chain : List ℕ) (gain : ℤ) → IsFeasible extend done graph chain gain → low <ℤ gain)
      → IfNone best ((chain : List ℕ) (gain : ℤ) → IsFeasible extend done graph chain gain → ⊥)
  top_none low None top heavy = λ chain gain is. let above = heavy chain gain is in let below = top chain gain is in omega (arith, ints, above, below)
  top_none low (Some traced) top heavy = cc

  pub found_attained : (low : ℤ) (best : Option Traced) → IfSome best (IsAbove extend done graph low) → IfSome best (λ traced. IsFeasible extend done graph traced.arcs traced.gain)
  found_attained low None found = cc
  found_attained low (Some traced) found = found.feasible

  found_on : (low over : ℤ) (best found : Option Traced) → IfSome best (IsAbove extend done graph low) → over ≡ raised_to best low → IfSome found (IsAbove extend done graph over)
      → IfSome (later best found) (IsAbove extend done graph low)
  found_on low over best None old at new = old
  found_on low over best (Some traced) old at new = record { feasible = new.feasible; above = higher low over traced.gain (raised_above extend done graph low over best old at) new.above }

  enough_on : (best found : Option Traced) → found ≢ None → later best found ≢ None
  enough_on best None some = λ e. some cc
  enough_on best (Some traced) some = λ e. is_some traced e

  top_on : (low over : ℤ) (best found : Option Traced) → over ≡ raised_to best low → NoneAbove extend done graph (raised_to found over) → NoneAbove extend done graph (raised_to (later best found) low)
  top_on low over best None at none = subst (λ (z : ℤ). NoneAbove extend done graph z) at none
  top_on low over best (Some traced) at none = none

  -- a climb from the best chain on is one from the bound on
  pub climbs_on : (low over : ℤ) (best : Option Traced) (climb result : Climb) → IfSome best (IsAbove extend done graph low) → over ≡ raised_to best low
      → Climbs extend done graph over climb → result ≡ merged best climb → Climbs extend done graph low result
  climbs_on low over best climb result old at new is =
      subst (Climbs extend done graph low) (sym is) (record {
        found = found_on low over best climb.best old at new.found;
        enough = λ e. enough_on best climb.best (new.enough e);
        top = λ e. top_on low over best climb.best at (new.top e);
      })

  -- the same of what climbs come to, with the steps of both
  pub climb_on : (target aim : Target) (best : Option Traced) (before between after : ℕ) (climb result : Climb) → IfSome best (IsAbove extend done graph target.over)
      → aim.over ≡ raised_to best target.over → aim.chains ≡ target.chains → before ≤ between → (climb.ended ≡ Limit → between + aim.limit ≡ before + target.limit)
      → IsClimb extend done graph aim between after climb → result ≡ merged best climb → IsClimb extend done graph target before after result
  climb_on target aim best before between after climb result old at chains le spent new is =
      subst (IsClimb extend done graph target before after) (sym is) (record {
        climbs = record {
          found = found_on target.over aim.over best climb.best old at new.climbs.found;
          enough = λ e. enough_on best climb.best (new.climbs.enough e);
          top = λ e. top_on target.over aim.over best climb.best at (new.climbs.top e);
        };
        enough = λ e. let more = new.enough e in omega (arith, more, chains, le);
        limit = λ e. let all = new.limit e in let here = spent e in omega (arith, all, here);
        onward = let more = new.onward in omega (arith, more, le);
      })

  -- what a climb was told to come to
  pub climb_told : {F : Type 0} (target : Target) (over : ℤ) (before after : ℕ) (r : Result Climb F) → over ≡ target.over → IfOk r (Climbs extend done graph over)
      → IfOk r (λ climb. climb.ended ≡ Enough → before + target.chains ≤ after) → IfOk r (λ climb. climb.ended ≡ Limit → after ≡ before + target.limit)
      → IfOk r (λ climb. before ≤ after) → IfOk r (IsClimb extend done graph target before after)
  climb_told target over before after (Ok climb) same climbs enough limit onward = record {
    climbs = subst (λ (z : ℤ). Climbs extend done graph z climb) same climbs;
    enough = enough;
    limit = limit;
    onward = onward;
  }
  climb_told target over before after (Err fault) same climbs enough limit onward = tt
