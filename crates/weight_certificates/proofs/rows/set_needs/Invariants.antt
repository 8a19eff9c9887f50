use Rattle.std.proofs.Common.{◌≡◌, ℕ, ◌<◌, pos}
use Rattle.roster_model.specs.Rosters.{need_of}
use Rattle.roster_model.specs.Weights.{weight_at}
use Rattle.weight_certificates.proofs.rows.set_needs.Given as goal

abbrev pub invariant-loop-p : goal.invariant-loop-p
invariant-loop-p l = (j : ℕ) → j < l.p → weight_at l.row j ≡ pos (need_of l.problem j)
