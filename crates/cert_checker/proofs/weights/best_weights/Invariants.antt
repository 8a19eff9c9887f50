use Rattle.std.proofs.Common.{◌*◌}
use Rattle.cert_checker.specs.Bests.{IsWithin, WeighTogether}
use Rattle.cert_checker.specs.Recalls.{IsRight}
use Rattle.cert_checker.proofs.weights.best_weights.Given as goal

abbrev pub invariant-loop-member : goal.invariant-loop-member
invariant-loop-member l = record {
  together : WeighTogether l.problem l.goal l.node l.weights l.lenses l.member l.sum;
  within : IsWithin (l.member * 1288490188200) l.sum;
  right : IsRight l.problem l.recall;
}
