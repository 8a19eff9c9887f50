use Rattle.std.proofs.Common.{◌<◌}
use Rattle.roster_model.specs.declared.goal.BidRef.{BidRef}
use Rattle.roster_model.specs.Goals.{IsBidOf}
use Rattle.cert_checker.specs.Reasons.{IsMislistedIn}
use Rattle.cert_checker.proofs.reasons.first_mislisted.Given as goal

abbrev pub invariant-loop-member : goal.invariant-loop-member
invariant-loop-member l =
    (bid : BidRef) → IsBidOf l.problem bid → bid.member < l.member → IsMislistedIn l.problem l.roster l.reasons bid → ⊥
