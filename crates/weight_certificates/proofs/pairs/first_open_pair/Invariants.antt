use Rattle.std.proofs.Common.{ℕ, ◌<◌}
use Rattle.roster_model.specs.Closing.{IsDecidedLine}
use Rattle.weight_certificates.proofs.pairs.first_open_pair.Given as goal

abbrev pub invariant-loop-member : goal.invariant-loop-member
invariant-loop-member l = (m : ℕ) → m < l.member → IsDecidedLine l.problem l.node m
