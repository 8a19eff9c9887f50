use Rattle.std.proofs.Common.{◌≡◌}
use Rattle.duty_calendar.specs.Minutes.{count_between}
use Rattle.roster_model.specs.Scores.{is_day_off}
use Rattle.bid_score.proofs.free.days_off_of.Given as goal

abbrev pub invariant-loop-day : goal.invariant-loop-day
invariant-loop-day l = l.count ≡ count_between (is_day_off l.problem l.member l.line) 365 l.day
