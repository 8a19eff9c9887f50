use Rattle.std.proofs.Common.{◌<◌, ◌∙◌, length}
use Rattle.std.proofs.lemmas.Result.{IfOk-weaker}
use Rattle.roster_model.specs.Lawful.{IsBidGoal}
use Rattle.roster_model.specs.declared.goal.BidRef.{BidRef}
use Rattle.completion_search.proofs.Added.{AddsSearches-none}
use Rattle.denials.proofs.Rows.{adds-bid_goals, not_full, stays_lawful, complete_in_range}
use Rattle.denials.specs.Explained.{IsExplanation, IsNotSpent}
use Rattle.denials.proofs.Listing.{not_spent}
use Rattle.denials.proofs.members.explain.Goals as goal

pub scores_of-requires-clause-pairings : goal.scores_of-requires-clause-pairings
scores_of-requires-clause-pairings g c = complete_in_range c.args.problem.now c.args.roster.now c.requires.complete

pub returns-then-len-cap-clause-adds : goal.returns-then-len-cap-clause-adds
returns-then-len-cap-clause-adds g c = AddsSearches-none c.args.problem.now (IsBidGoal c.args.problem.now) c.args.ledger.now c.requires.orderly

pub returns-in_err-scores-clause-adds : goal.returns-in_err-scores-clause-adds
returns-in_err-scores-clause-adds g c = AddsSearches-none c.args.problem.now (IsBidGoal c.args.problem.now) c.args.ledger.now c.requires.orderly

pub returns-clause-adds : goal.returns-clause-adds
returns-clause-adds g c =
    adds-bid_goals c.args.problem.now c.args.roster.now c.as_slice.result.now (λ (b : BidRef). b.member < length c.args.problem.now.base.members) c.args.ledger.now c.explain_all.new.ledger
    c.requires.complete c.requires.greatest (c.as_slice.ensures ∙ c.in_ok-scores.ensures.value) c.explain_all.ensures.adds

pub returns-clause-lawful : goal.returns-clause-lawful
returns-clause-lawful g c =
    stays_lawful c.args.problem.now c.args.ledger.now c.explain_all.new.ledger
    (adds-bid_goals c.args.problem.now c.args.roster.now c.as_slice.result.now (λ (b : BidRef). b.member < length c.args.problem.now.base.members) c.args.ledger.now c.explain_all.new.ledger
    c.requires.complete c.requires.greatest (c.as_slice.ensures ∙ c.in_ok-scores.ensures.value) c.explain_all.ensures.adds)

pub returns-clause-enough : goal.returns-clause-enough
returns-clause-enough g c room =
    let left = not_full c.args.problem.now c.args.ledger.now c.explain_all.new.ledger c.explain_all.ensures.takes c.explain_all.ensures.adds.cap room in
    IfOk-weaker c.explain_all.result (IsExplanation c.args.problem.now c.args.roster.now c.explain_all.new.ledger) IsNotSpent
    (λ o. not_spent c.args.problem.now c.args.roster.now c.explain_all.new.ledger o left) c.explain_all.ensures.outcome
