use Rattle.roster_model.specs.Goals.{IsNode}
use Rattle.roster_guesses.proofs.tested.row_node.Given as goal

abbrev pub invariant-loop-pairing : goal.invariant-loop-pairing
invariant-loop-pairing l = IsNode l.problem l.node
