-- What the way from one item to another, and what taking an item, makes of a label.
use Rattle.std.specs.Option.{option_map_or}
use Rattle.std.specs.Prelude.{ℕ, Bool, false, slice_get, ◌+◌, ◌-◌, not, nat_le, ◌++◌, Some, None, ◌&&◌, ◌/◌, ◌==◌, nat_lt, if◌then◌else◌}
use Rattle.duty_calendar.specs.Calendar.{month_days}
use Rattle.duty_calendar.specs.Minutes.{is_touching}
use Rattle.duty_calendar.specs.declared.interval.Interval.{Interval}
use Rattle.label_lattice.specs.declared.counters.UsageStep.{UsageStep}
use Rattle.label_lattice.specs.declared.dailies.DailyStep.{DailyStep}
use Rattle.label_lattice.specs.declared.masks.MaskStep.{MaskStep}
use Rattle.label_lattice.specs.declared.night_rows.NightStep.{NightStep}
use Rattle.label_lattice.specs.declared.pauses.PauseStep.{PauseStep}
use Rattle.label_lattice.specs.declared.runs.RunStep.{RunStep}
use Rattle.label_lattice.specs.declared.spans.SpanStep.{SpanStep}
use Rattle.label_lattice.specs.declared.values.LatestStep.{LatestStep}
use Rattle.label_lattice.specs.declared.values.LeastStep.{LeastStep}
use Rattle.roster_model.specs.declared.problem.Problem.{Problem}
use Rattle.roster_model.specs.declared.proof.Lens.{Lens}
use Rattle.lens_classes.specs.declared.terms.Terms.{Terms}
use Rattle.line_items.specs.BusyDays.{is_fixed_busy, month_count}
use Rattle.line_items.specs.Clear.{base_of}
use Rattle.line_items.specs.FreeBlocks.{last_block, item_least, base_block, own_block}
use Rattle.line_items.specs.Items.{item_begins, item_events, item_span}
use Rattle.line_items.specs.NightRows.{item_lead, item_reset, item_alone, item_row, night_until}
use Rattle.line_items.specs.WindowMinutes.{spread, window_minutes, kind_limit}

-- the days that an item makes busy, where it comes straight after another
abbrev pub added_days : Problem → ℕ → Interval → Interval → ℕ
added_days problem member before span =
    month_count problem (λ day. is_touching span day && not (is_fixed_busy problem member day) && not (is_touching before day))

-- what the way from one item to another adds to the busy days
abbrev pub day_step : Problem → ℕ → Lens → Terms → (ℕ → ℕ) → ℕ → ℕ → LeastStep
day_step problem member lens terms adds i j =
    if lens.days then record {
      add = added_days problem member (item_span problem member lens (adds i)) (item_span problem member lens (adds j));
      cap = month_days problem.base.rules.horizon - terms.days_off;
    }
    else record { add = 0; cap = 0 }

-- the rounded credit of the pairing that a place adds
abbrev pub credit_at : Problem → (ℕ → ℕ) → (ℕ → ℕ) → ℕ → ℕ
credit_at problem round adds j = option_map_or (λ p. round p.credit) (slice_get problem.base.pairings (adds j)) 0

-- a step that adds what the place has
abbrev pub span_step : (ℕ → ℕ) → (ℕ → ℕ) → ℕ → ℕ → ℕ → SpanStep
span_step down up cap i j = record { down = down j; up = up j; cap = cap }

-- a step that clears and sets what the place does
abbrev pub mask_step : (ℕ → ℕ) → (ℕ → ℕ) → ℕ → ℕ → MaskStep
mask_step clear set i j = record { clear = clear j; set = set j }

-- what the way from one item to another makes of the start of the last free block
abbrev pub free_step : Problem → ℕ → Lens → (ℕ → ℕ) → ℕ → ℕ → LatestStep
free_step problem member lens adds i j =
    if lens.free30 then record {
      renew = last_block (base_of problem member ++ item_events problem member lens (adds i))
          (item_begins problem member lens (adds i)) (item_begins problem member lens (adds j));
      least = item_least problem member lens (adds j);
    }
    else record { renew = None; least = 0 }

-- taking the item of place t, on the way from place i to place j
abbrev pub pause_step : Problem → ℕ → Lens → (ℕ → ℕ) → ℕ → ℕ → ℕ → PauseStep
pause_step problem member lens adds t i j =
    if lens.free30 then record {
      least = item_least problem member lens (adds t);
      renew = own_block problem member lens (adds t);
      busy = (item_span problem member lens (adds t)).stop;
      free = base_block problem member lens (adds j);
    }
    else record { least = 0; renew = 0; busy = 0; free = 0 }

-- the way from one item to another makes a row longer, where the second follows soon, or begins another
abbrev pub night_step : Problem → ℕ → Lens → (ℕ → ℕ) → ℕ → ℕ → RunStep
night_step problem member lens adds i j =
    if lens.free30 then (if nat_lt (item_begins problem member lens (adds j)) (night_until problem member lens (adds i) + 1800)
    then record { lead = item_lead problem member lens (adds j); reset = item_reset problem member lens (adds j); cap = 3 }
    else record { lead = item_alone problem member lens (adds j); reset = Some (item_row problem member lens (adds j)); cap = 3 })
    else record { lead = 0; reset = None; cap = 0 }

-- taking the item of place t, on the way from place i to place j
abbrev pub nights_step : Problem → ℕ → Lens → (ℕ → ℕ) → ℕ → ℕ → ℕ → NightStep
nights_step problem member lens adds t i j =
    if lens.free30 then record {
      lead = item_lead problem member lens (adds t);
      reset = item_reset problem member lens (adds t);
      until = (item_span problem member lens (adds t)).stop;
      free = item_begins problem member lens (adds j) - 1800;
      cap = 3;
    }
    else record { lead = 0; reset = None; until = 0; free = 0; cap = 0 }

-- the day on which an item begins
abbrev pub day_of : Problem → ℕ → Lens → ℕ → ℕ
day_of problem member lens item = item_begins problem member lens item / 1440

-- a day of the month that no fixed event makes busy
abbrev pub is_open_day : Problem → ℕ → ℕ → Bool
is_open_day problem member day =
    nat_le 365 day && (nat_lt day (365 + month_days problem.base.rules.horizon) && not (is_fixed_busy problem member day))

-- whether the item makes the day busy on which the other begins
abbrev pub is_busy_with : Problem → ℕ → Lens → ℕ → ℕ → Bool
is_busy_with problem member lens item other =
    is_touching (item_span problem member lens item) (day_of problem member lens other)
    && is_open_day problem member (day_of problem member lens other)

abbrev pub daily_step : Problem → ℕ → Lens → Terms → (ℕ → ℕ) → ℕ → ℕ → ℕ → DailyStep
daily_step problem member lens terms adds t i j =
    if lens.days then record {
      add = added_days problem member (item_span problem member lens (adds 0)) (item_span problem member lens (adds t));
      again = is_busy_with problem member lens (adds t) (adds t);
      keeps = day_of problem member lens (adds i) == day_of problem member lens (adds j);
      sets = is_busy_with problem member lens (adds t) (adds j);
      cap = month_days problem.base.rules.horizon - terms.days_off;
    }
    else record { add = 0; again = false; keeps = false; sets = false; cap = 0 }

-- what the way to an item adds
abbrev pub usage_step : {N : ℕ} → Problem → ℕ → Lens → (ℕ → ℕ) → ℕ → ℕ → UsageStep N
usage_step {N} problem member lens adds i j = record {
  amounts = spread N (window_minutes (item_events problem member lens (adds j))) lens.windows;
  caps = spread N (λ w. kind_limit w.kind) lens.windows;
}
