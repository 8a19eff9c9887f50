use Rattle.std.proofs.Common.{◌≡◌, List, length}
use Rattle.roster_model.specs.declared.problem.Problem.{Problem}
use Rattle.roster_model.specs.declared.goal.Goal.{Goal}
use Rattle.roster_model.specs.declared.node.Decision.{Decision}
use Rattle.roster_model.specs.Rounds.{IsRound}
use Rattle.weight_certificates.specs.Columns.{AreColumns}
use Rattle.weight_certificates.proofs.columns.Columns.add.Given as goal

abbrev pub invariant-loop-member : goal.invariant-loop-member
invariant-loop-member l = record {
  count : length l.self ≡ length l.initial.self;
  are :
      (problem : Problem) (goal : Goal) (node : List Decision) → AreColumns problem goal node l.initial.self
      → IsRound problem goal node l.round → AreColumns problem goal node l.self;
}
