use Rattle.std.proofs.Common.{◌≡◌, ℕ, ◌<◌, length, take, pos, ◌+ℤ◌, ◌==◌}
use Rattle.std.specs.Prelude.{count_by}
use Rattle.roster_model.specs.Weights.{weight_at}
use Rattle.weight_certificates.proofs.rows.count_line.Given as goal

abbrev pub invariant-loop-p : goal.invariant-loop-p
invariant-loop-p l =
    (j : ℕ) → j < length l.counts → weight_at l.counts j ≡ weight_at l.initial.counts j +ℤ pos (count_by (λ q. q == j) (take l.p-index l.p-items))
