use Rattle.std.proofs.Common.{◌≡◌, take}
use Rattle.roster_model.specs.Weights.{total}
use Rattle.weight_certificates.proofs.bounds.sum_of.Given as goal

abbrev pub invariant-loop-bound : goal.invariant-loop-bound
invariant-loop-bound l = l.sum ≡ total (take l.bound-index l.bounds)
