use Rattle.std.proofs.Common.{◌+◌, ◌≤◌, take, All}
use Rattle.duty_calendar.specs.Calendar.{month_end, horizon_end}
use Rattle.duty_calendar.specs.Checks.{IsMember}
use Rattle.duty_calendar.specs.declared.horizon.Horizon.{Horizon}
use Rattle.next_month.specs.Heirs.{AreHeirs}
use Rattle.next_month.proofs.crew.all_heirs.Given as goal

abbrev pub invariant-loop-place : goal.invariant-loop-place
invariant-loop-place l = record {
  made : AreHeirs l.problem l.roster l.lag (take l.place l.crew) l.heirs;
  each : (next : Horizon) → horizon_end l.problem.base.rules.horizon ≤ l.lag + month_end next → All (IsMember next) l.crew → All (IsMember next) l.heirs;
}
