use Rattle.open_time.proofs.Moving.{kept_more}
use Rattle.open_time.proofs.settling.improved.Goals as goal

pub exchanged_next-requires-clause-complete : goal.exchanged_next-requires-clause-complete
exchanged_next-requires-clause-complete c = c.loop-round.invariant.kept.good.complete

pub loop-round-init : goal.loop-round-init
loop-round-init c = record { kept = c.in_ok-current.ensures.kept; settled = c.in_ok-current.ensures.settled }

pub loop-round-preserved : goal.loop-round-preserved
loop-round-preserved c =
    let step = c.in_ok-next.ensures.next c.in-Some.next c.in-Some.is in
    record {
      kept = kept_more c.args.problem.now c.args.crew c.args.roster c.loop-round.current c.in-Some.next c.loop-round.invariant.kept step.kept;
      settled = step.settled;
    }

pub returns-in-None : goal.returns-in-None
returns-in-None c = record { settling = c.loop-round.invariant }

pub returns : goal.returns
returns c = record { settling = c.loop-round.invariant }
