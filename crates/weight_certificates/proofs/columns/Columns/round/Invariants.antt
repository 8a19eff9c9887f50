use Rattle.std.proofs.Common.{List}
use Rattle.roster_model.specs.declared.problem.Problem.{Problem}
use Rattle.roster_model.specs.declared.goal.Goal.{Goal}
use Rattle.roster_model.specs.declared.node.Decision.{Decision}
use Rattle.weight_certificates.specs.Columns.{AreColumns}
use Rattle.weight_certificates.proofs.ColumnSteps.{AreFirstLines}
use Rattle.weight_certificates.proofs.columns.Columns.round.Given as goal

abbrev pub invariant-loop-member : goal.invariant-loop-member
invariant-loop-member l =
    (problem : Problem) (goal : Goal) (node : List Decision) → AreColumns problem goal node l.self
    → AreFirstLines problem goal node l.round l.member
