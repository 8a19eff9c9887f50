use Rattle.std.proofs.Common.{◌≡◌, take}
use Rattle.weight_certificates.proofs.bounds.narrowed.Given as goal

abbrev pub invariant-loop-weight : goal.invariant-loop-weight
invariant-loop-weight l = l.list.items ≡ take l.weight-index l.weights
