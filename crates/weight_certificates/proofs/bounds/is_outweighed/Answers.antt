use Rattle.std.proofs.Common.{◌≡◌, ◌<ℤ◌, FitsSigned, w64, rules, length, arith}
use Rattle.std.proofs.lemmas.Int.{ints}
use Rattle.std.proofs.lemmas.Result.{IfOk-weaker}
use Rattle.std.specs.Prelude.{IsTrue}
use Rattle.roster_model.specs.Lenses.{IsOutweighed}
use Rattle.roster_model.specs.Weights.{needed_weight, total}
use Rattle.weight_certificates.specs.Pricing.{AreShapedBounds}
use Rattle.weight_certificates.proofs.Bounded.{bounds_outweighed}
use Rattle.weight_certificates.proofs.bounds.is_outweighed.Goals as goal

pub returns : goal.returns
returns c =
    let problem = c.args.problem.now in
    let per_pairing : length c.args.weights.now ≡ length problem.base.pairings = search rules in
    let per_member : length c.args.lenses.now ≡ length problem.base.members = search rules in
    let each : length c.args.bounds.now ≡ length problem.base.members = search rules in
    let test = c.if-branch.false in
    let sum : FitsSigned w64 c.in-Some.sum = search rules in
    let needs : FitsSigned w64 c.in_ok-needed.field-0 = search rules in
    let less : total c.args.bounds.now <ℤ needed_weight problem c.args.weights.now =
    omega (arith, ints, test, sum, needs, c.in-Some.ensures.sum, c.in_ok-needed.ensures.needed) in
    record {
      outweighed =
          IfOk-weaker c.are_bounds.result
          (λ yes. IsTrue yes → AreShapedBounds problem c.args.goal.now c.args.node.now c.args.weights.now c.args.lenses.now c.args.bounds.now (length c.args.lenses.now))
          (λ yes. IsTrue yes → IsOutweighed problem c.args.goal.now c.args.node.now c.args.weights.now c.args.lenses.now)
          (λ yes are is.
          bounds_outweighed problem c.args.goal.now c.args.node.now c.args.weights.now c.args.lenses.now c.args.bounds.now (are is)
          per_pairing per_member each (c.are_small.ensures.small c.if-not-are_small.false) less)
          c.are_bounds.ensures.bounds;
    }
