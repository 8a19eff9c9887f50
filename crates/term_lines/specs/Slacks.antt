-- How low sums have to be at a place so that no chain on from there meets a cap, and which labels need not be followed
-- beside others by that.
use Rattle.std.specs.Prelude.{◌≡◌, ◌≤◌, ◌+◌, ◌-◌, ◌^◌, ◌&&◌, ◌||◌, ℕ, zero, suc, min, Bool, true, List, Option, Some, None, get_or, length, nat_le, nat_lt, slice_get}
use Rattle.label_lattice.specs.Daily.{daily_below}
use Rattle.label_lattice.specs.Mask.{mask_below}
use Rattle.label_lattice.specs.NightRow.{nights_below}
use Rattle.label_lattice.specs.Pair.{pair_below}
use Rattle.label_lattice.specs.Pause.{pause_below}
use Rattle.label_lattice.specs.declared.counters.Usage.{Usage}
use Rattle.label_lattice.specs.declared.dailies.Daily.{Daily}
use Rattle.label_lattice.specs.declared.spans.Span.{Span}
use Rattle.label_setter.specs.declared.graph.Arc.{Arc}
use Rattle.take_graphs.specs.TakeLabels.{TakeOf, TakeStepOf, take_below}
use Rattle.term_lines.specs.declared.slacks.Slack.{Slack}
use Rattle.term_lines.specs.declared.slacks.Slacks.{Slacks}

-- a sum below this comes to no more than the cap by what is added, and is below the limit then
abbrev pub free_before : ℕ → ℕ → ℕ → ℕ
free_before limit cap add = min limit (cap + 1) - add

-- the same of each counter
abbrev pub AreBefore : List ℕ → List ℕ → List ℕ → List ℕ → Type 0
AreBefore here next caps amounts =
    (k : ℕ) → get_or here k 0 ≤ free_before (get_or next k 0) (get_or caps k 0) (get_or amounts k 0)

-- by the step no sum below the first is refused, and each is below the second then
pub record IsBefore {N : ℕ} (here next : Slack N) (step : TakeStepOf N) : Type 0 where
  pub down : here.down ≤ free_before next.down step.0.cap step.0.down
  pub days : here.days ≤ free_before next.days step.1.1.1.0.cap step.1.1.1.0.add
  pub counters : AreBefore here.counters next.counters step.1.1.1.1.1.caps step.1.1.1.1.1.amounts

-- the second is before whatever the first is before
abbrev pub Keeps : {N : ℕ} → Slack N → Slack N → Type 0
Keeps {N} here lower = (next : Slack N) (step : TakeStepOf N) → IsBefore here next step → IsBefore lower next step

-- it is before the row of the place that the arc of this number leads to
abbrev pub IsBeforeArc : {N : ℕ} → List (Arc (TakeStepOf N)) → List (Slack N) → ℕ → Slack N → ℕ → Type 0
IsBeforeArc {N} arcs rows sink here number =
    (arc : Arc (TakeStepOf N)) (next : Slack N) → slice_get arcs number ≡ Some arc
    → slice_get rows (sink - arc.to) ≡ Some next → IsBefore here next arc.step

-- the sum is no greater than the other, or below the limit
abbrev pub sum_spares : ℕ → ℕ → ℕ → Bool
sum_spares limit a b = nat_le a b || nat_lt a limit

-- down by its limit; up is no less, or no less than what the end asks for, where steps add up to that
abbrev pub span_spares : ℕ → ℕ → Span → Span → Bool
span_spares limit low a b =
    sum_spares limit a.down b.down && (nat_le b.up a.up || nat_le low a.up && nat_le low (2 ^ 31))

abbrev pub daily_spares : ℕ → Daily → Daily → Bool
daily_spares limit a b = nat_lt a.count limit || daily_below a b

-- so many counters, each with its limit
abbrev pub counters_spare : ℕ → List ℕ → List ℕ → List ℕ → Bool
counters_spare zero limits xs ys = true
counters_spare (suc k) limits xs ys =
    counters_spare k limits xs ys && sum_spares (get_or limits k 0) (get_or xs k 0) (get_or ys k 0)

abbrev pub usage_spares : {N : ℕ} → List ℕ → Usage N → Usage N → Bool
usage_spares limits a b = counters_spare (length a.counters) limits a.counters b.counters

abbrev pub slack_spares : {N : ℕ} → ℕ → Slack N → TakeOf N → TakeOf N → Bool
slack_spares low slack =
    pair_below (span_spares slack.down low)
    (pair_below mask_below (pair_below pause_below
    (pair_below (daily_spares slack.days) (pair_below nights_below (usage_spares slack.counters)))))

-- where no limits are known, what is below
abbrev pub row_spares : {N : ℕ} → ℕ → Option (Slack N) → TakeOf N → TakeOf N → Bool
row_spares low (Some slack) = slack_spares low slack
row_spares low None = take_below

-- at the place the second label need not be followed beside the first
abbrev pub spares : {N : ℕ} → Slacks N → ℕ → TakeOf N → TakeOf N → Bool
spares slacks place = row_spares slacks.low (slice_get slacks.rows.items (slacks.sink - place))
