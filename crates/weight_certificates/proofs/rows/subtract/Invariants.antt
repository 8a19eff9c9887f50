use Rattle.std.proofs.Common.{◌≡◌, ℕ, ◌<◌, ◌≤◌, ◌-ℤ◌}
use Rattle.roster_model.specs.Weights.{weight_at}
use Rattle.weight_certificates.proofs.rows.subtract.Given as goal

abbrev pub invariant-loop-k : goal.invariant-loop-k
invariant-loop-k l = record {
  done : (j : ℕ) → j < l.k → weight_at l.from j ≡ weight_at l.initial.from j -ℤ weight_at l.row j;
  left : (j : ℕ) → l.k ≤ j → weight_at l.from j ≡ weight_at l.initial.from j;
}
