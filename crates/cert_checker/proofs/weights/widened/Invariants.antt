use Rattle.std.proofs.Common.{◌≡◌, take}
use Rattle.cert_checker.proofs.weights.widened.Given as goal

abbrev pub invariant-loop-weight : goal.invariant-loop-weight
invariant-loop-weight l = l.wide.items ≡ take l.weight-index l.weights
