use Rattle.std.proofs.Common.{◌≡◌, ◌*◌}
use Rattle.cert_checker.specs.Bests.{IsWithin}
use Rattle.cert_checker.proofs.Together.{needed_below}
use Rattle.cert_checker.proofs.weights.needed_weight.Given as goal

abbrev pub invariant-loop-pairing : goal.invariant-loop-pairing
invariant-loop-pairing l = record {
  sum_is : l.sum ≡ needed_below l.problem l.weights l.pairing;
  within : IsWithin (l.pairing * 19327352823) l.sum;
}
