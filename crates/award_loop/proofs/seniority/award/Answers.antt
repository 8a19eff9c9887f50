use Rattle.std.proofs.Common.{◌≡◌, ◌+◌, ◌∙◌, length, None}
use Rattle.std.proofs.lemmas.Result.{IfOk-weaker}
use Rattle.roster_model.specs.Awards.{no_goal}
use Rattle.roster_model.specs.Lawful.{total_bids}
use Rattle.roster_model.proofs.Seniority.{greatest-none}
use Rattle.completion_search.proofs.Added.{lawful-first, goals-first, room-left, entries-more_one}
use Rattle.award_loop.specs.Outcomes.{IsOutcome, IsOutcomeFrom, HasGreatestScores, HasFewSplits, IsNotSpent, IsAwardGoal}
use Rattle.award_loop.proofs.Climbing.{whole-outcome, greatest-outcome, not_spent-outcome, short-outcome, asked-award, asked-nothing, award-run, award-no_bid, takes-award, takes-nothing}
use Rattle.award_loop.proofs.seniority.award.Goals as goal

pub climb-requires-clause-greatest : goal.climb-requires-clause-greatest
climb-requires-clause-greatest g c =
    let met = rw c.in-Found.is at c.in_ok-roster.ensures.found in
    greatest-none c.args.problem.now c.in-Found.roster met.complete

pub returns-clause-outcome : goal.returns-clause-outcome
returns-clause-outcome g c =
    IfOk-weaker c.climb.result (IsOutcomeFrom c.args.problem.now c.in-Found.roster 0 c.climb.new.ledger) (IsOutcome c.args.problem.now c.climb.new.ledger)
    (whole-outcome c.args.problem.now c.in-Found.roster c.climb.new.ledger) c.climb.ensures.outcome

pub returns-clause-seniority : goal.returns-clause-seniority
returns-clause-seniority g c =
    IfOk-weaker c.climb.result (IsOutcomeFrom c.args.problem.now c.in-Found.roster 0 c.climb.new.ledger) (HasGreatestScores c.args.problem.now)
    (greatest-outcome c.args.problem.now c.in-Found.roster 0 c.climb.new.ledger) c.climb.ensures.outcome

pub returns-clause-adds : goal.returns-clause-adds
returns-clause-adds g c = asked-award c.args.problem.now c.args.ledger.now c.ask_nothing.new.ledger c.climb.new.ledger c.ask_nothing.ensures.adds c.climb.ensures.adds

pub returns-clause-lawful : goal.returns-clause-lawful
returns-clause-lawful g c =
    lawful-first c.args.problem.now (IsAwardGoal c.args.problem.now) c.args.ledger.now c.climb.new.ledger (award-run c.args.problem.now)
    (asked-award c.args.problem.now c.args.ledger.now c.ask_nothing.new.ledger c.climb.new.ledger c.ask_nothing.ensures.adds c.climb.ensures.adds)

pub returns-clause-no_bid : goal.returns-clause-no_bid
returns-clause-no_bid g c =
    goals-first c.args.problem.now (IsAwardGoal c.args.problem.now) (λ x. x.grant ≡ None) c.args.ledger.now c.climb.new.ledger (award-no_bid c.args.problem.now)
    (asked-award c.args.problem.now c.args.ledger.now c.ask_nothing.new.ledger c.climb.new.ledger c.ask_nothing.ensures.adds c.climb.ensures.adds)

pub returns-clause-takes : goal.returns-clause-takes
returns-clause-takes g c =
    takes-award c.args.problem.now c.args.ledger.now c.ask_nothing.new.ledger c.climb.new.ledger c.ask_nothing.ensures.adds c.ask_nothing.ensures.few c.climb.ensures.takes

pub returns-clause-enough : goal.returns-clause-enough
returns-clause-enough g c room =
    let takes = takes-award c.args.problem.now c.args.ledger.now c.ask_nothing.new.ledger c.climb.new.ledger c.ask_nothing.ensures.adds c.ask_nothing.ensures.few c.climb.ensures.takes in
    let left = room-left c.args.problem.now (1 + length c.args.problem.now.base.members + total_bids c.args.problem.now) c.args.ledger.now c.climb.new.ledger takes (c.climb.ensures.adds.cap ∙ c.ask_nothing.ensures.adds.cap) room in
    IfOk-weaker c.climb.result (IsOutcomeFrom c.args.problem.now c.in-Found.roster 0 c.climb.new.ledger) IsNotSpent
    (λ o h. not_spent-outcome c.args.problem.now c.climb.new.ledger o left (whole-outcome c.args.problem.now c.in-Found.roster c.climb.new.ledger o h)) c.climb.ensures.outcome

pub returns-clause-short : goal.returns-clause-short
returns-clause-short g c =
    IfOk-weaker c.climb.result (HasFewSplits c.ask_nothing.new.ledger c.climb.new.ledger) (HasFewSplits c.args.ledger.now c.climb.new.ledger)
    (λ o h. short-outcome c.args.ledger.now c.ask_nothing.new.ledger c.climb.new.ledger o (entries-more_one c.args.problem.now no_goal c.args.ledger.now c.ask_nothing.new.ledger c.ask_nothing.ensures.adds) h) c.climb.ensures.short

pub returns-in_err-roster-clause-adds : goal.returns-in_err-roster-clause-adds
returns-in_err-roster-clause-adds g c = asked-nothing c.args.problem.now c.args.ledger.now c.ask_nothing.new.ledger c.ask_nothing.ensures.adds

pub returns-in_err-roster-clause-lawful : goal.returns-in_err-roster-clause-lawful
returns-in_err-roster-clause-lawful g c =
    lawful-first c.args.problem.now (IsAwardGoal c.args.problem.now) c.args.ledger.now c.ask_nothing.new.ledger (award-run c.args.problem.now)
    (asked-nothing c.args.problem.now c.args.ledger.now c.ask_nothing.new.ledger c.ask_nothing.ensures.adds)

pub returns-in_err-roster-clause-no_bid : goal.returns-in_err-roster-clause-no_bid
returns-in_err-roster-clause-no_bid g c =
    goals-first c.args.problem.now (IsAwardGoal c.args.problem.now) (λ x. x.grant ≡ None) c.args.ledger.now c.ask_nothing.new.ledger (award-no_bid c.args.problem.now)
    (asked-nothing c.args.problem.now c.args.ledger.now c.ask_nothing.new.ledger c.ask_nothing.ensures.adds)

pub returns-in_err-roster-clause-takes : goal.returns-in_err-roster-clause-takes
returns-in_err-roster-clause-takes g c = takes-nothing c.args.problem.now c.args.ledger.now c.ask_nothing.new.ledger c.ask_nothing.ensures.adds c.ask_nothing.ensures.few

pub returns-in-Refuted-clause-adds : goal.returns-in-Refuted-clause-adds
returns-in-Refuted-clause-adds g c = asked-nothing c.args.problem.now c.args.ledger.now c.ask_nothing.new.ledger c.ask_nothing.ensures.adds

pub returns-in-Refuted-clause-lawful : goal.returns-in-Refuted-clause-lawful
returns-in-Refuted-clause-lawful g c =
    lawful-first c.args.problem.now (IsAwardGoal c.args.problem.now) c.args.ledger.now c.ask_nothing.new.ledger (award-run c.args.problem.now)
    (asked-nothing c.args.problem.now c.args.ledger.now c.ask_nothing.new.ledger c.ask_nothing.ensures.adds)

pub returns-in-Refuted-clause-no_bid : goal.returns-in-Refuted-clause-no_bid
returns-in-Refuted-clause-no_bid g c =
    goals-first c.args.problem.now (IsAwardGoal c.args.problem.now) (λ x. x.grant ≡ None) c.args.ledger.now c.ask_nothing.new.ledger (award-no_bid c.args.problem.now)
    (asked-nothing c.args.problem.now c.args.ledger.now c.ask_nothing.new.ledger c.ask_nothing.ensures.adds)

pub returns-in-Refuted-clause-takes : goal.returns-in-Refuted-clause-takes
returns-in-Refuted-clause-takes g c = takes-nothing c.args.problem.now c.args.ledger.now c.ask_nothing.new.ledger c.ask_nothing.ensures.adds c.ask_nothing.ensures.few

pub returns-in-Spent-clause-adds : goal.returns-in-Spent-clause-adds
returns-in-Spent-clause-adds g c = asked-nothing c.args.problem.now c.args.ledger.now c.ask_nothing.new.ledger c.ask_nothing.ensures.adds

pub returns-in-Spent-clause-lawful : goal.returns-in-Spent-clause-lawful
returns-in-Spent-clause-lawful g c =
    lawful-first c.args.problem.now (IsAwardGoal c.args.problem.now) c.args.ledger.now c.ask_nothing.new.ledger (award-run c.args.problem.now)
    (asked-nothing c.args.problem.now c.args.ledger.now c.ask_nothing.new.ledger c.ask_nothing.ensures.adds)

pub returns-in-Spent-clause-no_bid : goal.returns-in-Spent-clause-no_bid
returns-in-Spent-clause-no_bid g c =
    goals-first c.args.problem.now (IsAwardGoal c.args.problem.now) (λ x. x.grant ≡ None) c.args.ledger.now c.ask_nothing.new.ledger (award-no_bid c.args.problem.now)
    (asked-nothing c.args.problem.now c.args.ledger.now c.ask_nothing.new.ledger c.ask_nothing.ensures.adds)

pub returns-in-Spent-clause-takes : goal.returns-in-Spent-clause-takes
returns-in-Spent-clause-takes g c = takes-nothing c.args.problem.now c.args.ledger.now c.ask_nothing.new.ledger c.ask_nothing.ensures.adds c.ask_nothing.ensures.few

pub returns-in-Spent-clause-enough : goal.returns-in-Spent-clause-enough
returns-in-Spent-clause-enough g c room =
    let full = rw c.in-Spent.is at c.in_ok-roster.ensures.found in
    absurd (room-left c.args.problem.now (1 + length c.args.problem.now.base.members + total_bids c.args.problem.now) c.args.ledger.now c.ask_nothing.new.ledger
    (takes-nothing c.args.problem.now c.args.ledger.now c.ask_nothing.new.ledger c.ask_nothing.ensures.adds c.ask_nothing.ensures.few) c.ask_nothing.ensures.adds.cap room full)
