use Rattle.std.proofs.Common.{◌≡◌, ◌↔◌, ◌<◌, ◌≤◌, ◌+◌, ◌-◌, [], length}
use Rattle.roster_model.specs.declared.problem.Problem.{Problem}
use Rattle.roster_model.specs.Closing.{Closes}
use Rattle.roster_model.specs.Awards.{floor_goal}
use Rattle.roster_model.specs.Lawful.{bids_weight}
use Rattle.roster_model.specs.Rosters.{line_at}
use Rattle.roster_model.specs.Scores.{score_of}
use Rattle.roster_model.specs.Splits.{splits_in}
use Rattle.completion_search.specs.Added.{AddsSearches}
use Rattle.completion_search.specs.Found.{HasRoom}
use Rattle.award_loop.specs.Raised.{HasScores, IsSettled, TakesSteps}
use Rattle.award_loop.proofs.raise.raise.Given as goal

abbrev pub invariant-loop-score : goal.invariant-loop-score
invariant-loop-score g l = record {
  fits : (other : Problem) → g.C.Closer.fits l.closer other ↔ g.C.Closer.fits l.fn.closer other;
  same_rounds : g.C.Closer.rounds l.closer ≡ g.C.Closer.rounds l.fn.closer;
  rounds : g.C.Closer.rounds l.closer ≡ l.ledger.rounds;
  has : HasScores l.problem l.before l.best;
  score : l.score ≡ score_of l.problem (length l.before) (line_at l.best (length l.before));
  below : l.score < l.refuted;
  refuted : l.refuted ≤ bids_weight l.problem (length l.before) + 2;
  adds : AddsSearches l.problem (IsSettled l.problem l.before l.score l.refuted) l.fn.ledger l.ledger;
  takes : TakesSteps l.problem (bids_weight l.problem (length l.before)) l.score l.refuted l.fn.ledger l.ledger;
  room : l.refuted ≤ bids_weight l.problem (length l.before) + 1 → HasRoom l.ledger;
  closes : l.refuted ≤ bids_weight l.problem (length l.before) + 1 → Closes l.problem (floor_goal l.before l.refuted) [] l.proof;
  short : splits_in l.proof + length l.fn.ledger.entries ≤ length l.ledger.entries;
}

abbrev pub decreases-loop-score : goal.decreases-loop-score
decreases-loop-score g l = l.refuted - l.score
