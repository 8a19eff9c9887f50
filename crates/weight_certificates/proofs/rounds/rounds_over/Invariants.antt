use Rattle.std.proofs.Common.{◌<◌}
use Rattle.roster_model.specs.Rounds.{IsRound}
use Rattle.weight_certificates.specs.Columns.{AreColumns}
use Rattle.weight_certificates.specs.Evidence.{HaveEvened}
use Rattle.weight_certificates.proofs.rounds.rounds_over.Given as goal

abbrev pub invariant-loop : goal.invariant-loop
invariant-loop l = record {
  evened : HaveEvened l.problem l.goal l.node l.counter l.weights;
  columns : AreColumns l.problem l.goal l.node l.columns;
  last_is : 0 < l.counter → IsRound l.problem l.goal l.node l.last;
}
