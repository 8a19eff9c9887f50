use Rattle.std.proofs.Common.{◌≡◌, ◌≢◌, rules, sym, ◌∙◌, ap, arith, inl, inr}
use Rattle.graph_climbs.specs.Parts.{parts_done, parts_extend}
use Rattle.chain_search.specs.declared.search.Climb.{Climb}
use Rattle.chain_search.specs.declared.search.Ended.TheVariants.{Limit}
use Rattle.graph_climbs.proofs.Tops.{climb_on, climbs_on}
use Rattle.graph_climbs.proofs.stages.climb_from.Goals as goal

pub returns-then-ne-clause-climb : goal.returns-then-ne-clause-climb
returns-then-ne-clause-climb g c =
    let spent = c.loop-bits.invariant.spent in
    let within = c.loop-bits.invariant.within in
    let limit = c.raised-aim.ensures.limit in
    climb_on (parts_extend g.B.Resource.extend) (parts_done g.B.Resource.done) c.args.graph.now c.args.target.now c.raised-aim.result c.loop-bits.best
    c.args.steps.now c.loop-bits.steps c.climb_by_tables.new.steps c.in_ok-climb.climb c.merged-climb.result
    c.loop-bits.invariant.found c.raised-aim.ensures.over c.raised-aim.ensures.chains (omega (arith, spent, within))
    (λ ended. elim c.then-ne.either [
      | inl ne ↦
          let here : c.merged-climb.result.ended ≡ Limit = ap (λ (x : Climb). x.ended) c.merged-climb.ensures.merged ∙ ended in
          let other : c.merged-climb.result.ended ≢ Limit = search rules in
          absurd (other here)
      | inr last ↦ let none = last.1 in let share = c.min-share.ensures in omega (arith, spent, within, limit, share, none)
    ])
    c.in_ok-climb.ensures.climb c.merged-climb.ensures.merged

pub loop-bits-preserved : goal.loop-bits-preserved
loop-bits-preserved g c =
    let climbs = climbs_on
    (parts_extend g.B.Resource.extend)
    (parts_done g.B.Resource.done)
    c.args.graph.now
    c.args.target.now.over
    c.raised-aim.result.over
    c.loop-bits.best
    c.in_ok-climb.climb
    c.merged-climb.result
    c.loop-bits.invariant.found
    c.raised-aim.ensures.over
    c.in_ok-climb.ensures.climb.climbs
    c.merged-climb.ensures.merged in
    record {
      found = climbs.found;
      spent =
          let ended : c.merged-climb.result.ended ≡ Limit = search rules in
          let here : c.in_ok-climb.climb.ended ≡ Limit = sym (ap (λ (x : Climb). x.ended) c.merged-climb.ensures.merged) ∙ ended in
          let spent = c.in_ok-climb.ensures.climb.limit here in
          let before = c.loop-bits.invariant.spent in
          let limit = c.raised-aim.ensures.limit in
          let share = c.min-share.ensures in
          omega (arith, spent, before, limit, share);
      within = let before = c.loop-bits.invariant.within in omega (arith, before);
    }

pub returns-clause-climb : goal.returns-clause-climb
returns-clause-climb g c =
    let spent = c.loop-bits.invariant.spent in
    let within = c.loop-bits.invariant.within in
    let limit = c.raised-aim-2.ensures.limit in
    climb_on (parts_extend g.B.Resource.extend) (parts_done g.B.Resource.done) c.args.graph.now c.args.target.now c.raised-aim-2.result c.loop-bits.best
    c.args.steps.now c.loop-bits.steps c.climb_by_tables-2.new.steps c.in_ok-climb-2.climb c.merged.result
    c.loop-bits.invariant.found c.raised-aim-2.ensures.over c.raised-aim-2.ensures.chains (omega (arith, spent, within))
    (λ ended. omega (arith, spent, limit))
    c.in_ok-climb-2.ensures.climb c.merged.ensures.merged
