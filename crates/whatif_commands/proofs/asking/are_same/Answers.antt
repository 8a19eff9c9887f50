use Rattle.whatif_commands.proofs.SameBids.{same_bids}
use Rattle.whatif_commands.proofs.asking.are_same.Goals as goal

pub returns : goal.returns
returns c = record { same = same_bids c.args.bids.now c.args.others.now c.eq.result c.eq.ensures }
