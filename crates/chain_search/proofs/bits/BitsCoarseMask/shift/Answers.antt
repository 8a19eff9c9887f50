use Rattle.std.proofs.Common.{Some, ◌∙◌, ap, length}
use Rattle.chain_search.proofs.BitLoops.{all_stay}
use Rattle.chain_search.proofs.bits.BitsCoarseMask.shift.Goals as goal

pub returns-then-by-all : goal.returns-then-by-all
returns-then-by-all c =
    record {
      shift = λ state less. ap Some (all_stay (length c.args.self.now.chosen.items) state c.args.by.now.keep c.args.by.now.set less (c.if-by-all.true ∙ c.all.ensures.all) c.if-by-eq0.true);
    }
