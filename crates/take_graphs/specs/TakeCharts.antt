-- What taking the item of a place makes of a label, by a chart.
use Rattle.std.specs.Int.RustNames.{bit_and, count_ones}
use Rattle.std.specs.Int.{bit_at, bit_not, w32}
use Rattle.std.specs.Prelude.{◌==◌, ℕ, ◌+◌, ◌-◌, ◌/◌, Bool, false, not, ◌&&◌, nat_le, nat_lt, [], None, if◌then◌else◌}
use Rattle.duty_calendar.specs.Minutes.{is_touching}
use Rattle.label_lattice.specs.declared.dailies.DailyStep.{DailyStep}
use Rattle.label_lattice.specs.declared.night_rows.NightStep.{NightStep}
use Rattle.label_lattice.specs.declared.pauses.PauseStep.{PauseStep}
use Rattle.line_items.specs.NightRows.{no_marks}
use Rattle.take_graphs.specs.TakeLabels.{TakeStepOf}
use Rattle.line_items.specs.WindowMinutes.{spread}
use Rattle.line_lens.specs.declared.chart.Chart.{Chart}
use Rattle.line_lens.specs.Charts.{of_place, no_bids}

-- what passing and taking make of free blocks and busy days
abbrev pub chart_pause : {N : ℕ} → Chart N → ℕ → ℕ → PauseStep
chart_pause chart t j =
    if chart.free30 then record {
      least = of_place (λ p. p.least) 0 chart t;
      renew = of_place (λ p. p.own) 0 chart t;
      busy = of_place (λ p. p.ends) 0 chart t;
      free = of_place (λ p. p.free) 0 chart j;
    }
    else record { least = 0; renew = 0; busy = 0; free = 0 }

abbrev pub chart_day : {N : ℕ} → Chart N → ℕ → ℕ
chart_day chart j = of_place (λ p. p.begins) 0 chart j / 1440

-- a day of the month that no fixed event makes busy
abbrev pub chart_open : {N : ℕ} → Chart N → ℕ → Bool
chart_open chart day =
    nat_le 365 day && (nat_lt day (365 + chart.month) && not (nat_lt (day - 365) 32 && bit_at chart.fixed (day - 365) == 1))

abbrev pub chart_busy_with : {N : ℕ} → Chart N → ℕ → ℕ → Bool
chart_busy_with chart t j =
    is_touching (record { start = of_place (λ p. p.begins) 0 chart t; stop = of_place (λ p. p.ends) 0 chart t }) (chart_day chart j)
    && chart_open chart (chart_day chart j)

abbrev pub chart_daily : {N : ℕ} → Chart N → ℕ → ℕ → ℕ → DailyStep
chart_daily chart t i j =
    if chart.days then record {
      add = count_ones
          (bit_and (bit_and (of_place (λ p. p.touched) 0 chart t) (bit_not w32 chart.fixed))
          (bit_not w32 (of_place (λ p. p.touched) 0 chart 0)));
      again = chart_busy_with chart t t;
      keeps = chart_day chart i == chart_day chart j;
      sets = chart_busy_with chart t j;
      cap = chart.most_busy;
    }
    else record { add = 0; again = false; keeps = false; sets = false; cap = 0 }

-- what taking makes of a row of nights
abbrev pub chart_nights : {N : ℕ} → Chart N → ℕ → ℕ → NightStep
chart_nights chart t j =
    if chart.free30 then record {
      lead = (of_place (λ p. p.nights) no_marks chart t).lead;
      reset = (of_place (λ p. p.nights) no_marks chart t).reset;
      until = of_place (λ p. p.ends) 0 chart t;
      free = of_place (λ p. p.begins) 0 chart j - 1800;
      cap = 3;
    }
    else record { lead = 0; reset = None; until = 0; free = 0; cap = 0 }

abbrev pub chart_take : {N : ℕ} → Chart N → ℕ → ℕ → ℕ → TakeStepOf N
chart_take {N} chart t i j = (
  record { down = of_place (λ p. p.down) 0 chart t; up = of_place (λ p. p.up) 0 chart t; cap = chart.high },
  (
    of_place (λ p. p.bids) no_bids chart t,
    (
      chart_pause chart t j,
      (
        chart_daily chart t i j,
        (
          chart_nights chart t j,
          record { amounts = of_place (λ p. p.amounts) (spread N (λ w. 0) []) chart t; caps = chart.caps },
        ),
      ),
    ),
  ),
)
