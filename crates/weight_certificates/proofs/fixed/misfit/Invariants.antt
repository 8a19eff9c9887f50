use Rattle.std.proofs.Common.{ℕ, ◌<◌}
use Rattle.weight_certificates.specs.Leaves.{IsFitting}
use Rattle.weight_certificates.proofs.fixed.misfit.Given as goal

abbrev pub invariant-loop-member : goal.invariant-loop-member
invariant-loop-member l = (m : ℕ) → m < l.member → IsFitting l.problem l.goal l.node m
