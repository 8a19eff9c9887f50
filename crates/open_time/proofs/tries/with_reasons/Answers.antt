use Rattle.roster_model.proofs.Greatest.{best-greatest}
use Rattle.open_time.proofs.Attempts.{tried_award}
use Rattle.open_time.proofs.tries.with_reasons.Goals as goal

pub explain-requires-clause-greatest : goal.explain-requires-clause-greatest
explain-requires-clause-greatest g c = best-greatest c.args.problem.now c.args.roster c.args.proofs c.requires.awarded.best

pub returns-in-All-clause-tried : goal.returns-in-All-clause-tried
returns-in-All-clause-tried g c =
    tried_award c.args.problem.now c.args.crew c.args.roster c.args.proofs c.args.ledger.now c.explain.new.ledger c.in-All.reasons c.in-All.shown c.requires.awarded c.requires.settled
    (rw c.in-All.is at c.in_ok-reasons.ensures.outcome) (rw c.in-All.is at c.in_ok-reasons.ensures.short)
