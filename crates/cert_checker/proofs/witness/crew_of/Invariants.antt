use Rattle.std.proofs.Common.{◌≡◌}
use Rattle.duty_calendar.specs.Minutes.{count_between}
use Rattle.roster_model.specs.Scores.{is_flown}
use Rattle.roster_model.specs.Rosters.{line_at}
use Rattle.cert_checker.proofs.witness.crew_of.Given as goal

abbrev pub invariant-loop-member : goal.invariant-loop-member
invariant-loop-member l = l.crew ≡ count_between (λ m. is_flown (line_at l.roster m) l.pairing) 0 l.member
