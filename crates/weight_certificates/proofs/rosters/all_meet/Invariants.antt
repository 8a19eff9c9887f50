use Rattle.std.proofs.Common.{ℕ, ◌<◌}
use Rattle.roster_model.specs.Rosters.{line_at}
use Rattle.roster_model.specs.Goals.{MeetsGoal}
use Rattle.weight_certificates.proofs.rosters.all_meet.Given as goal

abbrev pub invariant-loop-member : goal.invariant-loop-member
invariant-loop-member l = (m : ℕ) → m < l.member → MeetsGoal l.problem l.goal m (line_at l.round m)
