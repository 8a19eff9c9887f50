use Rattle.weight_certificates.specs.Pricing.{AreShapedBounds}
use Rattle.weight_certificates.proofs.bounds.are_bounds.Given as goal

abbrev pub invariant-loop-member : goal.invariant-loop-member
invariant-loop-member l = AreShapedBounds l.problem l.goal l.node l.weights l.lenses l.bounds l.member
