use Rattle.std.proofs.Common.{drop}
use Rattle.chain_search.proofs.BitChoice.{IsChosen}
use Rattle.chain_search.proofs.bits.choose.Given as goal

abbrev pub invariant-loop-group : goal.invariant-loop-group
invariant-loop-group l = IsChosen l.used l.groups (drop l.group-index l.groups) l.weights l.chosen.items
