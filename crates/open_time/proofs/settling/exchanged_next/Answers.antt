use Rattle.open_time.specs.Moves.{IsSettling}
use Rattle.open_time.proofs.Moving.{kept_more}
use Rattle.open_time.proofs.Sweeping.{for_some}
use Rattle.open_time.proofs.settling.exchanged_next.Goals as goal

pub placed-requires-clause-complete : goal.placed-requires-clause-complete
placed-requires-clause-complete c = (c.in_ok-made.ensures.kept c.in-Some.made c.in-Some.is).good.complete

pub returns-in_ok-next-in-Some : goal.returns-in_ok-next-in-Some
returns-in_ok-next-in-Some c = record {
  next = for_some (IsSettling c.args.problem.now c.args.crew c.args.roster.now) c.in_ok-next-in-Some.next (record {
    kept = kept_more c.args.problem.now c.args.crew c.args.roster.now c.in-Some.made c.in_ok-next-in-Some.next (c.in_ok-made.ensures.kept c.in-Some.made c.in-Some.is) c.in_ok-next-in-Some.ensures.kept;
    settled = c.in_ok-next-in-Some.ensures.settled;
  });
}
