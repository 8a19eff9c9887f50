use Rattle.std.proofs.Common.{◌≡◌, ◌+◌, ◌<◌, ◌≤◌, length, vec_len}
use Rattle.std.specs.Prelude.{IfSome}
use Rattle.chain_search.specs.Bounds.{IsBound}
use Rattle.chain_search.specs.Climbs.{IsAbove, raised_to}
use Rattle.chain_search.specs.Searches.{Hunts}
use Rattle.chain_search.proofs.search.climb_above.Given as goal

abbrev pub invariant-loop-next : goal.invariant-loop-next
invariant-loop-next g l = record {
  rest : IsBound g.R.Resource.extend g.R.Resource.done l.graph (g.B.Rest.rest l.above.rest);
  hunts : Hunts g.R.Resource.extend g.R.Resource.done l.graph l.above.over l.walk.path.items l.walk.marks l.walk.waiting.items;
  found : IfSome l.best (IsAbove g.R.Resource.extend g.R.Resource.done l.graph l.fn.above.over);
  raised : l.above.over ≡ raised_to l.best l.fn.above.over;
  wanted : 0 < l.wanted;
  most : l.wanted ≤ l.chains;
  few : l.walk.left + length l.walk.waiting.items + l.chains ≤ l.limit + l.wanted;
  steps : l.steps + l.walk.left ≡ l.fn.steps + l.limit;
}

abbrev pub decreases-loop-next : goal.decreases-loop-next
decreases-loop-next g l = l.walk.left + vec_len l.walk.waiting
