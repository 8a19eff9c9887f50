use Rattle.std.proofs.Common.{◌≡◌, ℤ, Option, FitsSigned, to_z, of_z, w64, rules, sym, subst}
use Rattle.std.specs.Int.Signed.{◌<ℤ◌}
use Rattle.std.proofs.lemmas.Int.{to_z-of_z}
use Rattle.label_setter.specs.declared.traces.Traced.{Traced}
use Rattle.graph_climbs.specs.Parts.{parts_done, parts_extend}
use Rattle.chain_search.specs.Climbs.{IsAbove, NoneAbove, raised_to}
use Rattle.term_lines.specs.declared.above.Over.{Over}
use Rattle.term_lines.specs.Overs.{IsMost, IsTermOver}
use Rattle.term_lines.specs.Questions.{KeepsTerms}
use Rattle.term_lines.proofs.FoundLines.{at_some, most_found}
use Rattle.term_lines.proofs.Overs.{ended_says, limit_says, line_says}
use Rattle.graph_climbs.proofs.Tops.{found_attained, top_greatest}
use Rattle.term_lines.proofs.question.TermQuestion.over_by_order.Goals as goal

pub returns-then-not-is_settled-clause-over : goal.returns-then-not-is_settled-clause-over
returns-then-not-is_settled-clause-over g c = limit_says _ _ _ _

pub returns-in_default-clause-over : goal.returns-in_default-clause-over
returns-in_default-clause-over g c =
    let range : FitsSigned w64 c.args.sought.now.over = search rules in
    let over : to_z w64 (of_z w64 c.args.sought.now.over) ≡ c.args.sought.now.over = to_z-of_z w64 c.args.sought.now.over range in
    subst (λ (o : Over). IsTermOver c.args.self.now c.args.sought.now o) (sym c.without_chain.ensures.over)
    (ended_says _ _ _ _ c.in_ok-climb.climb.ended
    (λ top. most_found c.requires.stands c.args.sought.now.over
    (subst (λ (z : ℤ). NoneAbove (parts_extend g.B.Resource.extend) (parts_done g.B.Resource.done) c.args.graph.now z) over
    (subst (λ (o : Option Traced). NoneAbove (parts_extend g.B.Resource.extend) (parts_done g.B.Resource.done) c.args.graph.now (raised_to o (to_z w64 (of_z w64 c.args.sought.now.over)))) c.in_default.is (c.in_ok-climb.ensures.climbs.top top)))))

pub line_of-requires-clause-chain : goal.line_of-requires-clause-chain
line_of-requires-clause-chain g c =
    at_some _ _ _ c.in-Some.is (found_attained (parts_extend g.B.Resource.extend) (parts_done g.B.Resource.done) c.args.graph.now _ c.in_ok-climb.climb.best c.in_ok-climb.ensures.climbs.found)

pub returns-clause-over : goal.returns-clause-over
returns-clause-over g c =
    let range : FitsSigned w64 c.args.sought.now.over = search rules in
    let over : to_z w64 (of_z w64 c.args.sought.now.over) ≡ c.args.sought.now.over = to_z-of_z w64 c.args.sought.now.over range in
    let found = at_some (IsAbove (parts_extend g.B.Resource.extend) (parts_done g.B.Resource.done) c.args.graph.now (to_z w64 (of_z w64 c.args.sought.now.over))) c.in_ok-climb.climb.best c.in-Some.traced c.in-Some.is c.in_ok-climb.ensures.climbs.found in
    line_says _ _ _ _ c.in_ok-priced.priced c.in_ok-priced.ensures.line c.in_ok-priced.ensures.weight
    (subst (λ (z : ℤ). c.args.sought.now.over <ℤ z) (sym c.in_ok-priced.ensures.gain) (subst (λ (z : ℤ). z <ℤ c.in-Some.traced.gain) over found.above))
    (λ heaviest. subst (λ (z : ℤ). IsMost (KeepsTerms c.args.self.now) c.args.self.now.weights.now z) (sym c.in_ok-priced.ensures.gain)
    (most_found c.requires.stands c.in-Some.traced.gain
    (at_some _ _ _ c.in-Some.is (top_greatest (parts_extend g.B.Resource.extend) (parts_done g.B.Resource.done) c.args.graph.now _ c.in_ok-climb.climb.best (c.in_ok-climb.ensures.climbs.top (c.is_settled.ensures.top c.if-not-is_settled.false heaviest))))))
