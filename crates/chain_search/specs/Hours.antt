-- When the last free block began and until when work lasts, seen from the time of a place.
use Rattle.std.specs.Prelude.{◌+◌, ◌-◌, ◌*◌, ◌/◌, ◌%◌, ◌==◌, ◌&&◌, ℕ, max, min, Bool, Option, Some, None, nat_le, nat_lt, if◌then◌else◌}
use Rattle.label_lattice.specs.declared.pairs.Pair.{Pair}
use Rattle.label_lattice.specs.declared.pauses.Pause.{Pause}
use Rattle.label_lattice.specs.declared.pauses.PauseStep.{PauseStep}
use Rattle.chain_search.specs.declared.clocks.Clock.{Clock}
use Rattle.chain_search.specs.declared.clocks.ClockStep.{ClockStep}
use Rattle.chain_search.specs.declared.hours.Hours.{Hours}
use Rattle.chain_search.specs.declared.hours.HoursMove.{HoursMove}

abbrev pub hours_count : Hours → ℕ
hours_count view = 128

-- how many quarter days ago the last free block began, this one counted in; 0 where it begins later
abbrev pub age_of : Pair Clock Pause → ℕ
age_of a = a.first.early / 360 + 1 - a.second.latest / 360

-- how many thirds of a day work still lasts
abbrev pub left_of : Pair Clock Pause → ℕ
left_of a = a.second.busy / 480 - a.first.late / 480

abbrev pub hours_state : ℕ → ℕ → ℕ
hours_state age left = min age 31 * 4 + min left 3

abbrev pub hours_shows : Hours → Pair Clock Pause → ℕ
hours_shows view a = hours_state (age_of a) (left_of a)

-- no older than the last free block is, and no longer than work lasts
abbrev pub hours_sees : Hours → Pair Clock Pause → ℕ → Bool
hours_sees view a state = nat_le (state / 4) (age_of a) && nat_le (state % 4) (left_of a)

abbrev pub age_after : HoursMove → ℕ → ℕ
age_after by age = min (if age == 0 then 0 else (age + by.to - by.from)) by.fresh

abbrev pub work_after : HoursMove → ℕ → ℕ
work_after by left = max (if left == 0 then 0 else (left + by.since)) by.busy

-- where work is over by then, a block begins
abbrev pub hours_settled : HoursMove → ℕ → ℕ → ℕ
hours_settled by age ends =
    if nat_le ends by.over then hours_state (min age by.freed) 0 else hours_state age (ends - by.until)

abbrev pub hours_moves : HoursMove → ℕ → Option ℕ
hours_moves by state =
    if nat_lt by.limit (state / 4) then None
    else Some (hours_settled by (age_after by (state / 4)) (work_after by (state % 4)))

abbrev pub hours_move : Hours → ClockStep × PauseStep → HoursMove
hours_move view step = record {
  limit = step.0.from / 360 + 1 - step.1.least / 360;
  from = step.0.from / 360;
  to = step.0.to / 360;
  fresh = step.0.to / 360 + 1 - step.1.renew / 360;
  freed = step.0.to / 360 + 1 - step.1.free / 360;
  since = step.0.from / 480;
  until = step.0.to / 480;
  busy = step.1.busy / 480;
  over = step.1.free / 480;
}
