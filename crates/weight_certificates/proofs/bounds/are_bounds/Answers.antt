use Rattle.std.proofs.Common.{FitsSigned, w64, rules, subst, length, refl, arith, get_or}
use Rattle.std.specs.Prelude.{ℤ, pos}
use Rattle.std.proofs.lemmas.Int.{to_z-of_z}
use Rattle.std.proofs.lemmas.Option.{slice_get_read, slice_get-get_or}
use Rattle.line_bounds.specs.Bounds.{IsShapedBound}
use Rattle.weight_certificates.proofs.Bounded.{bounds_more, bounds_all}
use Rattle.weight_certificates.proofs.bounds.are_bounds.Goals as goal

pub loop-member-preserved : goal.loop-member-preserved
loop-member-preserved c =
    let lenses = c.args.lenses.now in
    let bounds = c.args.bounds.now in
    let k = c.loop-member.member in
    let here = slice_get_read lenses (length lenses) k c.index-lenses-member.result refl c.loop-member-test.true c.index-lenses-member.is in
    let fits : FitsSigned w64 (get_or bounds k (pos 0)) = search rules in
    let is : IsShapedBound c.args.problem.now k c.args.goal.now c.args.node.now c.index-lenses-member.result c.args.weights.now (get_or bounds k (pos 0)) =
    subst (λ (z : ℤ). IsShapedBound c.args.problem.now k c.args.goal.now c.args.node.now c.index-lenses-member.result c.args.weights.now z)
    (to_z-of_z w64 (get_or bounds k (pos 0)) fits) (c.in_ok-is_bound.ensures.bound c.if-not-is_bound.false) in
    bounds_more c.args.problem.now c.args.goal.now c.args.node.now c.args.weights.now lenses bounds k c.index-lenses-member.result (get_or bounds k (pos 0))
    c.loop-member.invariant here (slice_get-get_or bounds k (pos 0) (omega (arith, c.loop-member-test.true, c.requires.each))) is

pub returns : goal.returns
returns c = record {
  bounds = λ yes.
      bounds_all c.args.problem.now c.args.goal.now c.args.node.now c.args.weights.now c.args.lenses.now c.args.bounds.now c.loop-member.member
      (omega (arith, c.loop-member-test.false)) c.loop-member.invariant;
}
