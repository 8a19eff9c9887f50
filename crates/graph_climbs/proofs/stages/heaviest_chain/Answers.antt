use Rattle.std.proofs.Common.{◌≡◌, neg_ℤ, pos, ◌^◌, rules}
use Rattle.graph_climbs.specs.Parts.{parts_done, parts_extend}
use Rattle.chain_search.specs.declared.search.Ended.TheVariants.{Top}
use Rattle.graph_climbs.proofs.Tops.{top_greatest, top_none}
use Rattle.graph_climbs.proofs.stages.heaviest_chain.Goals as goal

pub returns-then-eq-clause-greatest : goal.returns-then-eq-clause-greatest
returns-then-eq-clause-greatest g c =
    let ended : c.in_ok-climb.climb.ended ≡ Top = search rules in
    top_greatest (parts_extend g.B.Resource.extend) (parts_done g.B.Resource.done) c.args.graph.now (neg_ℤ (pos (2 ^ 59))) c.in_ok-climb.climb.best (c.in_ok-climb.ensures.climbs.top ended)

pub returns-then-eq-clause-none : goal.returns-then-eq-clause-none
returns-then-eq-clause-none g c =
    let ended : c.in_ok-climb.climb.ended ≡ Top = search rules in
    top_none (parts_extend g.B.Resource.extend) (parts_done g.B.Resource.done) c.args.graph.now (neg_ℤ (pos (2 ^ 59))) c.in_ok-climb.climb.best (c.in_ok-climb.ensures.climbs.top ended) c.requires.heavy
