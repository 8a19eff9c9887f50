use Rattle.std.proofs.Common.{length, arith}
use Rattle.roster_model.specs.Scores.{bids_of}
use Rattle.roster_text.specs.MonthText.{bid_line}
use Rattle.roster_text.proofs.Months.{ranged}
use Rattle.roster_text.proofs.month.put_bids.Goals as goal

pub loop-bid-preserved : goal.loop-bid-preserved
loop-bid-preserved c =
    ranged (bid_line c.args.problem.now c.args.member c.args.line.now) c.loop-bid.out c.put_bid_line.new.out _ c.loop-bid.bid
    (length (bids_of c.args.problem.now c.args.member))
    (omega (arith, c.loop-bid-test.true, c.bid_count-bid-end.ensures.value)) c.in_ok-put_bid_line.ensures.whole c.loop-bid.invariant
