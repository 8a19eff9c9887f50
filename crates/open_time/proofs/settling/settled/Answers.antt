use Rattle.open_time.proofs.settling.settled.Goals as goal

pub returns-clause-complete : goal.returns-clause-complete
returns-clause-complete c = c.in_ok-made.ensures.settling.kept.good.complete

pub returns-clause-same : goal.returns-clause-same
returns-clause-same c = c.in_ok-made.ensures.settling.kept.good.same

pub returns-clause-settled : goal.returns-clause-settled
returns-clause-settled c = c.in_ok-made.ensures.settling.settled

pub returns-clause-credit : goal.returns-clause-credit
returns-clause-credit c = c.in_ok-made.ensures.settling.kept.credit
