use Rattle.line_legality.specs.Shortfalls.{AreLegalBefore}
use Rattle.cert_checker.specs.Legals.{AreLegalLines}
use Rattle.cert_checker.proofs.witness.are_legal.Given as goal

abbrev pub invariant-loop-member : goal.invariant-loop-member
invariant-loop-member l = record {
  legal : AreLegalBefore l.problem l.roster l.member;
  right : AreLegalLines l.problem l.legals;
}
