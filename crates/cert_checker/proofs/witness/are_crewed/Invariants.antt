use Rattle.line_legality.specs.Shortfalls.{AreCoveredBefore}
use Rattle.cert_checker.proofs.witness.are_crewed.Given as goal

abbrev pub invariant-loop-pairing : goal.invariant-loop-pairing
invariant-loop-pairing l = AreCoveredBefore l.problem l.roster l.pairing
