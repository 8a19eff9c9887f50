use Rattle.std.proofs.Common.{arith}
use Rattle.open_time.proofs.Sweeping.{line_done}
use Rattle.open_time.proofs.placing.sweep_line.Goals as goal

pub offer_next-requires-clause-complete : goal.offer_next-requires-clause-complete
offer_next-requires-clause-complete c = c.loop-pairing.invariant.complete

pub loop-pairing-init : goal.loop-pairing-init
loop-pairing-init c = record { complete = c.requires.complete; swept = λ first is. is }

pub loop-pairing-preserved : goal.loop-pairing-preserved
loop-pairing-preserved c = record {
  complete = c.in_ok-current.ensures.complete;
  swept = λ first is. c.in_ok-current.ensures.swept first (c.loop-pairing.invariant.swept first is);
}

pub returns : goal.returns
returns c = record {
  swept = λ first is.
      line_done c.args.problem.now c.args.crew c.args.giver c.loop-pairing.pairing first c.loop-pairing.current.roster c.loop-pairing.current.moves
      (c.loop-pairing.invariant.swept first is) (omega (arith, c.loop-pairing-test.false, c.len-pairing-end.ensures));
}
