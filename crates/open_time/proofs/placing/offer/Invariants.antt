use Rattle.open_time.specs.Moves.{IsRefusedBefore}
use Rattle.open_time.proofs.placing.offer.Given as goal

abbrev pub invariant-loop-taker : goal.invariant-loop-taker
invariant-loop-taker l = IsRefusedBefore l.problem l.roster l.giver l.pairing l.taker
