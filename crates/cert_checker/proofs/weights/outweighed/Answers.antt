use Rattle.std.proofs.Common.{FitsSigned, w64, to_z, of_z, rules, ◌∙◌}
use Rattle.std.proofs.lemmas.Int.{to_z-of_z}
use Rattle.cert_checker.proofs.Together.{heavy_from, light_from}
use Rattle.cert_checker.proofs.weights.outweighed.Goals as goal

pub returns-clause-fault : goal.returns-clause-fault
returns-clause-fault c =
    let lines : FitsSigned w64 c.in_ok-lines.lines = search rules in
    let needs : FitsSigned w64 c.needed_weight-needs.result = search rules in
    heavy_from c.args.problem.now c.args.goal.now c.args.node.now c.args.weights.now c.deref-3.result.now c.deref.result.now c.args.lenses.now
    c.in_ok-lines.lines c.needed_weight-needs.result (to_z w64 (of_z w64 c.in_ok-lines.lines)) (to_z w64 (of_z w64 c.needed_weight-needs.result))
    (c.deref-3.ensures.value ∙ c.in_ok-wide.ensures.same) (c.deref.ensures.value ∙ c.in_ok-wide.ensures.same)
    (to_z-of_z w64 c.in_ok-lines.lines lines) (to_z-of_z w64 c.needed_weight-needs.result needs)
    (c.are_wide.ensures.wide.0 c.if-not-are_wide.false) c.in_default.ensures.first c.in_ok-lines.ensures.together c.needed_weight-needs.ensures.value c.if-lines-needs.false

pub returns-then-lines-needs-clause-accepted : goal.returns-then-lines-needs-clause-accepted
returns-then-lines-needs-clause-accepted c =
    let lines : FitsSigned w64 c.in_ok-lines.lines = search rules in
    let needs : FitsSigned w64 c.needed_weight-needs.result = search rules in
    light_from c.args.problem.now c.args.goal.now c.args.node.now c.args.weights.now c.deref-3.result.now c.deref.result.now c.args.lenses.now
    c.in_ok-lines.lines c.needed_weight-needs.result (to_z w64 (of_z w64 c.in_ok-lines.lines)) (to_z w64 (of_z w64 c.needed_weight-needs.result))
    (c.deref-3.ensures.value ∙ c.in_ok-wide.ensures.same) (c.deref.ensures.value ∙ c.in_ok-wide.ensures.same)
    (to_z-of_z w64 c.in_ok-lines.lines lines) (to_z-of_z w64 c.needed_weight-needs.result needs)
    (c.are_wide.ensures.wide.0 c.if-not-are_wide.false) c.in_default.ensures.first c.requires.small
    c.in_ok-lines.ensures.together c.needed_weight-needs.ensures.value c.if-lines-needs.true
