use Rattle.std.proofs.Common.{◌∙◌}
use Rattle.roster_model.proofs.Greatest.{best-greatest}
use Rattle.month_award.proofs.Ends.{best-first, awarded-month, spent-month}
use Rattle.month_award.proofs.month.with_reasons.Goals as goal

pub explain-requires-clause-greatest : goal.explain-requires-clause-greatest
explain-requires-clause-greatest g c = best-greatest c.args.problem.now c.args.roster c.args.proofs c.requires.awarded.best

pub returns-in-All-clause-outcome : goal.returns-in-All-clause-outcome
returns-in-All-clause-outcome g c =
    let awarded = c.requires.awarded in
    let adds = c.explain.ensures.adds in
    awarded-month c.args.problem.now c.args.roster c.args.proofs c.args.ledger c.explain.new.ledger awarded adds (adds.rounds ∙ awarded.run.rounds)
    (c.explain.ensures.lawful awarded.run.lawful awarded.no_bid) c.in-All.reasons c.in-All.shown
    (rw c.in-All.is at c.in_ok-reasons.ensures.outcome) (rw c.in-All.is at c.in_ok-reasons.ensures.short)

pub returns-in-All-clause-seniority : goal.returns-in-All-clause-seniority
returns-in-All-clause-seniority g c = best-first c.args.problem.now c.args.roster c.args.proofs c.requires.awarded.best

pub returns-in-Spent-clause-outcome : goal.returns-in-Spent-clause-outcome
returns-in-Spent-clause-outcome g c =
    let awarded = c.requires.awarded in
    let adds = c.explain.ensures.adds in
    spent-month c.args.problem.now c.args.roster c.args.proofs c.args.ledger c.explain.new.ledger awarded adds (adds.rounds ∙ awarded.run.rounds)
    (c.explain.ensures.lawful awarded.run.lawful awarded.no_bid) (rw c.in-Spent.is at c.in_ok-reasons.ensures.outcome)
