use Rattle.std.proofs.Common.{FitsSigned, w64, rules}
use Rattle.std.proofs.lemmas.Int.{to_z-of_z}
use Rattle.graph_climbs.proofs.Tops.{climb_told}
use Rattle.graph_climbs.proofs.stages.climb_by_views.Goals as goal

pub returns-clause-climb : goal.returns-clause-climb
returns-clause-climb g c =
    let range : FitsSigned w64 c.args.target.now.over = search rules in
    climb_told g.R.Resource.extend g.R.Resource.done c.args.graph.now c.args.target.now _ c.args.steps.now c.climb_above-2.new.steps c.climb_above-2.result (to_z-of_z w64 c.args.target.now.over range)
    c.climb_above-2.ensures.climbs c.climb_above-2.ensures.enough c.climb_above-2.ensures.limit c.climb_above-2.ensures.onward
