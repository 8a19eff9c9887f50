-- Climbs one after the other, and what each of them comes to.
use Rattle.std.specs.Prelude.{◌≡◌, ℕ, ◌+◌, ◌≤◌, Bool, Option, Some, None}
use Rattle.label_setter.specs.Chains.{GraphOf}
use Rattle.label_setter.specs.declared.traces.Traced.{Traced}
use Rattle.chain_search.specs.declared.search.Climb.{Climb}
use Rattle.chain_search.specs.declared.search.Ended.TheVariants.{Enough, Limit}
use Rattle.chain_search.specs.Climbs.{Climbs}
use Rattle.graph_climbs.specs.declared.stages.Target.{Target}

-- the chain that was found last
abbrev pub later : Option Traced → Option Traced → Option Traced
later best (Some traced) = Some traced
later best None = best

-- a climb that began at the gain of the best chain before it
abbrev pub merged : Option Traced → Climb → Climb
merged best climb = record { best = later best climb.best; ended = climb.ended }

-- what a climb that looks for chains comes to, with so many steps before and after it
pub record IsClimb {R S E : Type 0} (extend : R → S → Option R) (done : R → E → Bool) (graph : GraphOf R S E) (target : Target) (before after : ℕ) (climb : Climb) : Type 0 where
  pub climbs : Climbs extend done graph target.over climb
  pub enough : climb.ended ≡ Enough → before + target.chains ≤ after
  pub limit : climb.ended ≡ Limit → after ≡ before + target.limit
  pub onward : before ≤ after
