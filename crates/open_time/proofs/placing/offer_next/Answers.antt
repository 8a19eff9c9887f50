use Rattle.open_time.proofs.Sweeping.{pairing_moved, pairing_stays}
use Rattle.open_time.proofs.placing.offer_next.Goals as goal

pub returns-in-Some-clause-swept : goal.returns-in-Some-clause-swept
returns-in-Some-clause-swept c =
    λ first is.
    pairing_moved c.args.problem.now c.args.crew c.args.giver c.args.pairing first c.args.swept.roster c.args.swept.moves is c.in-Some.roster
    (rw c.in-Some.is at c.in_ok-roster.ensures.found)

pub returns-in-Some-clause-complete : goal.returns-in-Some-clause-complete
returns-in-Some-clause-complete c = (rw c.in-Some.is at c.in_ok-roster.ensures.found).kept.good.complete

pub returns-in-None-clause-swept : goal.returns-in-None-clause-swept
returns-in-None-clause-swept c =
    λ first is.
    pairing_stays c.args.problem.now c.args.crew c.args.giver c.args.pairing first c.args.swept.roster c.args.swept.moves is
    (rw c.in-None.is at c.in_ok-roster.ensures.found)
