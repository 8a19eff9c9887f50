use Rattle.std.proofs.Common.{◌≡◌, true}
use Rattle.duty_calendar.specs.Minutes.{count_between}
use Rattle.roster_model.specs.Decided.{is_decided_as}
use Rattle.weight_certificates.proofs.crews.decided_crew.Given as goal

abbrev pub invariant-loop-member : goal.invariant-loop-member
invariant-loop-member l = l.count ≡ count_between (λ m. is_decided_as l.node m l.pairing true) 0 l.member
