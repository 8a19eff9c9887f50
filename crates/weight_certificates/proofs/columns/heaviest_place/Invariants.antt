use Rattle.std.proofs.Common.{◌<◌, length}
use Rattle.std.specs.Option.{ForSome}
use Rattle.weight_certificates.proofs.columns.heaviest_place.Given as goal

abbrev pub invariant-loop-place : goal.invariant-loop-place
invariant-loop-place l = ForSome l.heaviest (λ place. place < length l.lines)
