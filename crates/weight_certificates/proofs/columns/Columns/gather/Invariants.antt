use Rattle.weight_certificates.proofs.ColumnSteps.{AreFirst}
use Rattle.weight_certificates.proofs.columns.Columns.gather.Given as goal

abbrev pub invariant-loop-member : goal.invariant-loop-member
invariant-loop-member l = AreFirst l.problem l.goal l.node l.lists l.member
