use Rattle.std.proofs.Common.{◌≡◌, ℤ, FitsSigned, to_z, of_z, w64, rules, sym, ◌∙◌, ap, subst, arith}
use Rattle.std.proofs.lemmas.Int.{to_z-of_z}
use Rattle.graph_climbs.specs.Parts.{parts_done, parts_extend}
use Rattle.chain_search.specs.declared.search.Climb.{Climb}
use Rattle.chain_search.specs.declared.search.Ended.TheVariants.{Limit}
use Rattle.chain_search.specs.Climbs.{Climbs, raised_to}
use Rattle.graph_climbs.proofs.Tops.{climbs_on}
use Rattle.graph_climbs.proofs.stages.climb_by_stages.Goals as goal

pub returns-then-ne-clause-climbs : goal.returns-then-ne-clause-climbs
returns-then-ne-clause-climbs g c =
    let range : FitsSigned w64 c.args.over = search rules in
    subst (λ (z : ℤ). Climbs (parts_extend g.B.Resource.extend) (parts_done g.B.Resource.done) c.args.graph.now z c.in_ok-climb.climb) (to_z-of_z w64 c.args.over range) c.in_ok-climb.ensures.climb.climbs

pub returns-clause-climbs : goal.returns-clause-climbs
returns-clause-climbs g c =
    let low : FitsSigned w64 c.args.over = search rules in
    let same : to_z w64 (of_z w64 c.args.over) ≡ c.args.over = to_z-of_z w64 c.args.over low in
    let first = subst (λ (z : ℤ). Climbs (parts_extend g.B.Resource.extend) (parts_done g.B.Resource.done) c.args.graph.now z c.in_ok-climb.climb) same c.in_ok-climb.ensures.climb.climbs in
    climbs_on
    (parts_extend g.B.Resource.extend)
    (parts_done g.B.Resource.done)
    c.args.graph.now
    c.args.over
    c.raised-aim.result.over
    c.in_ok-climb.climb.best
    c.in_ok-climb-2.climb
    c.merged.result
    first.found
    (c.raised-aim.ensures.over ∙ ap (raised_to c.in_ok-climb.climb.best) same)
    c.in_ok-climb-2.ensures.climb.climbs
    c.merged.ensures.merged

pub returns-clause-limit : goal.returns-clause-limit
returns-clause-limit g c =
    λ ended.
    let first : c.in_ok-climb.climb.ended ≡ Limit = search rules in
    let before = c.in_ok-climb.ensures.climb.limit first in
    let here : c.in_ok-climb-2.climb.ended ≡ Limit = sym (ap (λ (x : Climb). x.ended) c.merged.ensures.merged) ∙ ended in
    let spent = c.in_ok-climb-2.ensures.climb.limit here in
    let left = c.raised-aim.ensures.limit in
    let share = c.min-share.ensures in
    omega (arith, before, spent, left, share)
