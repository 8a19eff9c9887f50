use Rattle.std.proofs.Common.{◌≡◌, length}
use Rattle.roster_model.specs.Weights.{AreSmallWeights}
use Rattle.cert_checker.proofs.noline.no_weights.Given as goal

abbrev pub invariant-loop-pairing : goal.invariant-loop-pairing
invariant-loop-pairing l = record { count : length l.weights.items ≡ l._pairing; small : AreSmallWeights l.weights.items }
