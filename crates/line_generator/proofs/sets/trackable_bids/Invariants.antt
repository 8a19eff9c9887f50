use Rattle.std.specs.Prelude.{◌&&◌}
use Rattle.roster_model.specs.Lenses.{has_trackable, is_tracked}
use Rattle.line_generator.proofs.BidSets.{Collects}
use Rattle.line_generator.proofs.sets.trackable_bids.Given as goal

abbrev pub invariant-loop-bid : goal.invariant-loop-bid
invariant-loop-bid l = Collects (λ bid. is_tracked l.lens bid && has_trackable l.problem l.member bid) l.bid l.bids
