use Rattle.cert_text.proofs.SpareSteps.{IsSpare}
use Rattle.cert_text.proofs.spare.covers.Given as goal

abbrev pub invariant-loop-place : goal.invariant-loop-place
invariant-loop-place l = IsSpare l.items l.lenses l.count l.place l.spare
