use Rattle.std.proofs.Common.{ℕ, ◌<◌}
use Rattle.roster_model.specs.Weights.{IsSmallWeight, weight_at}
use Rattle.line_generator.proofs.tested.are_small.Given as goal

abbrev pub invariant-loop-weight : goal.invariant-loop-weight
invariant-loop-weight l = (k : ℕ) → k < l.weight-index → IsSmallWeight (weight_at l.weights k)
