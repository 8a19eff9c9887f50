use Rattle.std.proofs.Common.{sym, ◌∙◌, length}
use Rattle.label_lattice.specs.Mask.{unset_weight}
use Rattle.chain_search.proofs.SetWeights.{enough_left}
use Rattle.chain_search.proofs.weighed.Weighed.is_done.Goals as goal

pub returns : goal.returns
returns c = record {
  done = enough_left (unset_weight c.args.bits c.args.self.now.end.weights (length c.args.self.now.end.weights)) c.weight_of_set.result c.from.result c.args.self.now.end.floor c.args.self.now.whole (c.weight_of_set.ensures.weight ∙ sym c.args.self.now.all) c.from.ensures;
}
