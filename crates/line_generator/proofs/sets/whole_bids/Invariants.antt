use Rattle.roster_model.specs.Lenses.{is_whole_tracked}
use Rattle.line_generator.proofs.BidSets.{Collects}
use Rattle.line_generator.proofs.sets.whole_bids.Given as goal

abbrev pub invariant-loop-bid : goal.invariant-loop-bid
invariant-loop-bid l = Collects (is_whole_tracked l.problem l.member l.lens) l.bid l.bids
