use Rattle.std.proofs.Common.{◌≡◌, ◌≤◌, length}
use Rattle.duty_calendar.specs.declared.horizon.Horizon.{Horizon}
use Rattle.duty_calendar.specs.Calendar.{month_days}
use Rattle.duty_calendar.specs.Checks.{ArePairings}
use Rattle.june_months.proofs.months.pairings.Given as goal

abbrev pub invariant-loop-number : goal.invariant-loop-number
invariant-loop-number l = record {
  count : length l.list ≡ l.number;
  form : (h : Horizon) → 30 ≤ month_days h → ArePairings h l.list;
}
