use Rattle.std.proofs.Common.{◌≡◌, ◌↔◌, ◌<◌, ◌≤◌, ◌+◌, length}
use Rattle.roster_model.specs.declared.problem.Problem.{Problem}
use Rattle.roster_model.specs.Splits.{all_splits}
use Rattle.completion_search.specs.Added.{AddsSearches}
use Rattle.completion_search.specs.Found.{HasRoom}
use Rattle.award_loop.specs.Raised.{HasClimbed, IsGoalBetween, TakesPlaces}
use Rattle.award_loop.proofs.seniority.climb.Given as goal

abbrev pub invariant-loop-place : goal.invariant-loop-place
invariant-loop-place g l = record {
  fits : (other : Problem) → g.C.Closer.fits l.closer other ↔ g.C.Closer.fits l.fn.closer other;
  same_rounds : g.C.Closer.rounds l.closer ≡ g.C.Closer.rounds l.fn.closer;
  rounds : g.C.Closer.rounds l.closer ≡ l.ledger.rounds;
  climbed : HasClimbed l.problem l.first l._place l.fn.roster l.scores l.best l.proofs;
  adds : AddsSearches l.problem (IsGoalBetween l.problem l.first l._place) l.fn.ledger l.ledger;
  takes : TakesPlaces l.problem l.first l._place l.fn.ledger l.ledger;
  room : l.first < l._place → HasRoom l.ledger;
  short : all_splits l.proofs + length l.fn.ledger.entries ≤ length l.ledger.entries;
}
