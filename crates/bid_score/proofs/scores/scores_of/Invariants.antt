use Rattle.std.proofs.Common.{◌≡◌}
use Rattle.std.specs.Prelude.{map}
use Rattle.std.specs.List.{range_with_len}
use Rattle.roster_model.specs.Scores.{score_of}
use Rattle.roster_model.specs.Rosters.{line_at}
use Rattle.bid_score.proofs.scores.scores_of.Given as goal

abbrev pub invariant-loop-member : goal.invariant-loop-member
invariant-loop-member l = l.scores ≡ map (λ m. score_of l.problem m (line_at l.roster m)) (range_with_len 0 l.member)
