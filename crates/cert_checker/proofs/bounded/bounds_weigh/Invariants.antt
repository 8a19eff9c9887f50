use Rattle.cert_checker.specs.Bests.{BoundTogether}
use Rattle.cert_checker.proofs.bounded.bounds_weigh.Given as goal

abbrev pub invariant-loop-member : goal.invariant-loop-member
invariant-loop-member l = BoundTogether l.problem l.goal l.node l.weights l.lenses l.member l.sum
