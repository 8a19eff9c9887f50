use Rattle.std.proofs.Common.{ℕ}
use Rattle.weight_certificates.specs.Leaves.{IsFitting}
use Rattle.weight_certificates.proofs.Facts.{one_more}
use Rattle.weight_certificates.proofs.fixed.misfit.Goals as goal

pub loop-member-preserved : goal.loop-member-preserved
loop-member-preserved c =
    one_more (λ (m : ℕ). IsFitting c.args.problem.now c.args.goal.now c.args.node.now m) c.loop-member.member c.loop-member.invariant
    (c.in_ok-is_misfit.ensures.fits c.if-branch.false)
