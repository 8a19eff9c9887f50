use Rattle.std.proofs.Common.{◌≡◌, None}
use Rattle.std.proofs.lemmas.Result.{IfOk-weaker}
use Rattle.completion_search.proofs.Added.{AddsSearches-none, lawful-first, goals-first}
use Rattle.award_loop.specs.Outcomes.{IsLaterGoal, IsOutcomeFrom, HasGreatestScores}
use Rattle.award_loop.proofs.Climbing.{later-run, later-no_bid, greatest-outcome}
use Rattle.award_loop.proofs.seniority.award_from.Goals as goal

pub returns-in_err-roster-clause-adds : goal.returns-in_err-roster-clause-adds
returns-in_err-roster-clause-adds g c = AddsSearches-none c.args.problem.now (IsLaterGoal c.args.problem.now c.args.place) c.args.ledger.now c.requires.orderly

pub returns-in_err-roster-clause-lawful : goal.returns-in_err-roster-clause-lawful
returns-in_err-roster-clause-lawful g c =
    lawful-first c.args.problem.now (IsLaterGoal c.args.problem.now c.args.place) c.args.ledger.now c.args.ledger.now (later-run c.args.problem.now c.args.place)
    (AddsSearches-none c.args.problem.now (IsLaterGoal c.args.problem.now c.args.place) c.args.ledger.now c.requires.orderly)

pub returns-clause-lawful : goal.returns-clause-lawful
returns-clause-lawful g c =
    lawful-first c.args.problem.now (IsLaterGoal c.args.problem.now c.args.place) c.args.ledger.now c.climb.new.ledger (later-run c.args.problem.now c.args.place) c.climb.ensures.adds

pub returns-clause-no_bid : goal.returns-clause-no_bid
returns-clause-no_bid g c =
    goals-first c.args.problem.now (IsLaterGoal c.args.problem.now c.args.place) (λ goal. goal.grant ≡ None) c.args.ledger.now c.climb.new.ledger (later-no_bid c.args.problem.now c.args.place) c.climb.ensures.adds

pub returns-in_err-roster-clause-no_bid : goal.returns-in_err-roster-clause-no_bid
returns-in_err-roster-clause-no_bid g c =
    goals-first c.args.problem.now (IsLaterGoal c.args.problem.now c.args.place) (λ goal. goal.grant ≡ None) c.args.ledger.now c.args.ledger.now (later-no_bid c.args.problem.now c.args.place)
    (AddsSearches-none c.args.problem.now (IsLaterGoal c.args.problem.now c.args.place) c.args.ledger.now c.requires.orderly)

pub returns-clause-seniority : goal.returns-clause-seniority
returns-clause-seniority g c =
    IfOk-weaker c.climb.result (IsOutcomeFrom c.args.problem.now c.in_ok-roster.roster c.args.place c.climb.new.ledger) (HasGreatestScores c.args.problem.now)
    (greatest-outcome c.args.problem.now c.in_ok-roster.roster c.args.place c.climb.new.ledger) c.climb.ensures.outcome
