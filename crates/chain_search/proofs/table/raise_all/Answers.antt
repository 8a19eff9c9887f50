use Rattle.chain_search.proofs.Raising.{raised_both}
use Rattle.chain_search.proofs.table.raise_all.Goals as goal

pub returns : goal.returns
returns g c = record { raised = raised_both c.args.down c.args.there.now c.args.arc.now.gain c.args.here.now c.raise_below.new.here c.raise_above.new.here c.raise_below.auto.here c.raise_below.ensures.raised c.raise_above.ensures.raised }
