-- How far the minutes of the next month lie behind those of this one.
use Rattle.std.specs.Prelude.{◌≡◌, ℕ, ℤ, pos, ◌+ℤ◌}
use Rattle.duty_calendar.specs.declared.horizon.Horizon.{Horizon}
use Rattle.duty_calendar.specs.Calendar.{day_zero, month_days, local_minute_on}

-- the next month begins on the day after the last of this one
abbrev pub Follows : Horizon → Horizon → Type 0
Follows this next = day_zero next ≡ day_zero this +ℤ pos (month_days this)

-- each moment, a minute of a day in UTC, is so many minutes later by this month's count than by the next one's
abbrev pub IsLag : Horizon → Horizon → ℕ → Type 0
IsLag this next d =
    (day : ℤ) (minute : ℕ) → local_minute_on this day minute ≡ local_minute_on next day minute +ℤ pos d

-- of the one such number this holds
pub record ForLag (this next : Horizon) (P : ℕ → Type 0) : Type 0 where
  pub lag : ℕ
  pub is_lag : IsLag this next lag
  pub holds : P lag
