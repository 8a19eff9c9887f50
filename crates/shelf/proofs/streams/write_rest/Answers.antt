use Rattle.shelf.proofs.Flows.{handed_more}
use Rattle.shelf.proofs.streams.write_rest.Goals as goal

pub loop-preserved : goal.loop-preserved
loop-preserved g c = handed_more _ _ c.in_ok-count.count _ _ _ c.loop.invariant c.in_ok-count.ensures.bytes
