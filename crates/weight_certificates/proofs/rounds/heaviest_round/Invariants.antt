use Rattle.weight_certificates.specs.Pricing.{AreHeaviest}
use Rattle.weight_certificates.proofs.rounds.heaviest_round.Given as goal

abbrev pub invariant-loop-member : goal.invariant-loop-member
invariant-loop-member l = AreHeaviest l.problem l.goal l.node l.weights l.lenses l.member l.round
