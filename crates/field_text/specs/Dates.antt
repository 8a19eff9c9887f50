-- The dates of the calendar, one day after another.
use Rattle.std.specs.Prelude.{ℕ, zero, suc, ◌+◌, nat_lt, pos, if◌then◌else◌}
use Rattle.jiff_core.specs.Calendar.{days_in_month}

pub record Civil : Type 0 where
  pub year : ℕ
  pub month : ℕ
  pub day : ℕ

-- the next day: of the month, else the first of the next month, else of the next year
abbrev pub next_day : Civil → Civil
next_day c =
    if nat_lt c.day (days_in_month (pos c.year) c.month)
    then record { year = c.year; month = c.month; day = c.day + 1 } else
    (if nat_lt c.month 12 then record { year = c.year; month = c.month + 1; day = 1 } else
    record { year = c.year + 1; month = 1; day = 1 })

-- the date so many days after 1 January 1970
unfoldable pub civil : ℕ → Civil
civil zero = record { year = 1970; month = 1; day = 1 }
civil (suc n) = next_day (civil n)
