-- Which events of this month the next one still needs, and as what. `d` is by how many minutes the next month's count lags
-- behind.
use Rattle.std.specs.Prelude.{ℕ, ◌+◌, ◌-◌, max, Bool, nat_le, nat_lt, List, map, filter, if◌then◌else◌}
use Rattle.duty_calendar.specs.declared.event.Event.{Event}
use Rattle.duty_calendar.specs.declared.event.Flown.{Flown}
use Rattle.duty_calendar.specs.Minutes.{is_duty}

-- A duty that reports on day 0 of the next month or later: years count days 1 to 365 at the earliest, windows reach back
-- 28 days, rests, free hours and rows of nights less, and the files hold no time before day 0. Leave before the month
-- counts for no rule, so of leave what reaches into the next month.
abbrev pub is_carried : ℕ → Event → Bool
is_carried d e = if is_duty e.kind then nat_le d e.report else nat_lt (d + 525600) e.release

-- leave begins with the month where it began before
abbrev pub carried_report : ℕ → Event → ℕ
carried_report d e = if is_duty e.kind then e.report - d else max (e.report - d) 525600

abbrev pub carried_flight : ℕ → Flown → Flown
carried_flight d f = record { out_at = f.out_at - d; in_at = f.in_at - d }

-- the event by the next month's count
abbrev pub carried : ℕ → Event → Event
carried d e = record {
  kind = e.kind;
  report = carried_report d e;
  parked = e.parked - d;
  release = e.release - d;
  flights = map (carried_flight d) e.flights;
  credit = e.credit;
}

-- what of some events is carried
abbrev pub all_carried : ℕ → List Event → List Event
all_carried d events = map (carried d) (filter (is_carried d) events)
