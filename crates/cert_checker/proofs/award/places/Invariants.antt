use Rattle.cert_checker.specs.Awards.{AreClosed}
use Rattle.cert_checker.specs.Recalls.{IsRight}
use Rattle.cert_checker.proofs.award.places.Given as goal

abbrev pub invariant-loop-place : goal.invariant-loop-place
invariant-loop-place l = record {
  closed : AreClosed l.problem l.scores l.proofs l.place;
  right : IsRight l.problem l.recall;
}
