use Rattle.std.proofs.Common.{sym, rules}
use Rattle.line_items.proofs.MaskLoops.{untracked}
use Rattle.line_items.proofs.masks.is_tracked.Goals as goal

pub returns : goal.returns
returns c = record { tracked = sym (untracked c.args.lens.now c.args.bid (search rules) c.if-bid-lt64.false) }
