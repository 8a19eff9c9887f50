-- The labels of a graph that passes and takes: credit, bids, free blocks, busy days, nights in a row and windows, side
-- by side.
use Rattle.std.specs.Prelude.{ℕ, Bool, true, false, sum_by, Option}
use Rattle.label_lattice.specs.Daily.{daily_extend, daily_below}
use Rattle.label_lattice.specs.Mask.{mask_extend, mask_below, mask_done}
use Rattle.label_lattice.specs.NightRow.{nights_extend, nights_below}
use Rattle.label_lattice.specs.Pair.{pair_below, pair_extend, pair_done}
use Rattle.label_lattice.specs.Pause.{pause_extend, pause_below}
use Rattle.label_lattice.specs.Span.{span_extend, span_below, span_done}
use Rattle.label_lattice.specs.Usage.{usage_extend, usage_below}
use Rattle.label_lattice.specs.declared.counters.Usage.{Usage}
use Rattle.label_lattice.specs.declared.counters.UsageStep.{UsageStep}
use Rattle.label_lattice.specs.declared.dailies.Daily.{Daily}
use Rattle.label_lattice.specs.declared.dailies.DailyStep.{DailyStep}
use Rattle.label_lattice.specs.declared.masks.Mask.{Mask}
use Rattle.label_lattice.specs.declared.masks.MaskEnd.{MaskEnd}
use Rattle.label_lattice.specs.declared.masks.MaskStep.{MaskStep}
use Rattle.label_lattice.specs.declared.night_rows.Nights.{Nights}
use Rattle.label_lattice.specs.declared.night_rows.NightStep.{NightStep}
use Rattle.label_lattice.specs.declared.pairs.Pair.{Pair}
use Rattle.label_lattice.specs.declared.pauses.Pause.{Pause}
use Rattle.label_lattice.specs.declared.pauses.PauseStep.{PauseStep}
use Rattle.label_lattice.specs.declared.spans.Span.{Span}
use Rattle.label_lattice.specs.declared.spans.SpanEnd.{SpanEnd}
use Rattle.label_lattice.specs.declared.spans.SpanStep.{SpanStep}
use Rattle.roster_model.specs.Timelines.{fixed_of}
use Rattle.roster_model.specs.declared.problem.Problem.{Problem}
use Rattle.roster_model.specs.declared.proof.Lens.{Lens}
use Rattle.line_items.specs.BusyDays.{fixed_busy_days}
use Rattle.line_items.specs.NightRows.{night_start, night_end}
use Rattle.line_items.specs.WindowMinutes.{base_usage}

abbrev pub TakeOf : ℕ → Type 0
TakeOf N = Pair Span (Pair Mask (Pair Pause (Pair Daily (Pair Nights (Usage N)))))

abbrev pub TakeStepOf : ℕ → Type 0
TakeStepOf N = SpanStep × (MaskStep × (PauseStep × (DailyStep × (NightStep × UsageStep N))))

abbrev pub TakeEndOf : Type 0
TakeEndOf = SpanEnd × (MaskEnd × (Unit {0} × (Unit {0} × (Unit {0} × Unit {0}))))

abbrev pub take_below : {N : ℕ} → TakeOf N → TakeOf N → Bool
take_below = pair_below span_below (pair_below mask_below (pair_below pause_below (pair_below daily_below (pair_below nights_below usage_below))))

abbrev pub take_extend : {N : ℕ} → TakeOf N → TakeStepOf N → Option (TakeOf N)
take_extend = pair_extend span_extend (pair_extend mask_extend (pair_extend pause_extend (pair_extend daily_extend (pair_extend nights_extend usage_extend))))

abbrev pub take_done : {N : ℕ} → TakeOf N → TakeEndOf → Bool
take_done = pair_done span_done (pair_done mask_done (pair_done (λ _ _. true) (pair_done (λ _ _. true) (pair_done (λ _ _. true) (λ _ _. true)))))

-- the label at the source
abbrev pub take_start : {N : ℕ} → Problem → ℕ → Lens → ℕ → TakeOf N
take_start {N} problem member lens bits = record {
  first = record {
    down = sum_by (λ e. e.credit) (fixed_of problem member);
    up = sum_by (λ e. e.credit) (fixed_of problem member);
  };
  second = record {
    first = record { bits = bits };
    second = record {
      first = record { latest = 0; busy = 0 };
      second = record {
        first = record { count = fixed_busy_days problem member lens; today = false };
        second = record {
          first = record { count = night_start problem member lens; until = night_end problem member lens };
          second = record { counters = base_usage N problem member lens };
        };
      };
    };
  };
}
