use Rattle.std.proofs.Common.{◌≡◌, ◌+◌, ◌≤◌}
use Rattle.std.specs.Prelude.{IfSome}
use Rattle.graph_climbs.specs.Parts.{parts_done, parts_extend}
use Rattle.chain_search.specs.Climbs.{IsAbove}
use Rattle.graph_climbs.proofs.stages.climb_from.Given as goal

abbrev pub invariant-loop-bits : goal.invariant-loop-bits
invariant-loop-bits g l = record {
  found : IfSome l.best (IsAbove (parts_extend g.B.Resource.extend) (parts_done g.B.Resource.done) l.graph l.target.over);
  spent : l.steps + l.left ≡ l.initial.steps + l.target.limit;
  within : l.left ≤ l.target.limit;
}
