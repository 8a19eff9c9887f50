use Rattle.std.proofs.Common.{◌≡◌, ℕ, ◌<◌, length, pos}
use Rattle.std.specs.Prelude.{neg_ℤ}
use Rattle.roster_model.specs.Rosters.{need_of}
use Rattle.roster_model.specs.Weights.{weight_at}
use Rattle.weight_certificates.proofs.RowSums.{miss_below}
use Rattle.weight_certificates.proofs.rows.set_miss.Given as goal

abbrev pub invariant-loop-p : goal.invariant-loop-p
invariant-loop-p l = (j : ℕ) → j < l.p → weight_at l.row j ≡ neg_ℤ (pos (need_of l.problem j))

abbrev pub invariant-loop-line : goal.invariant-loop-line
invariant-loop-line l = (j : ℕ) → j < length l.problem.base.pairings → weight_at l.row j ≡ miss_below l.problem l.round l.line-index j
