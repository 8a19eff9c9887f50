-- The times of duty of some events, as a sorted list.
use Rattle.std.specs.List.Sorted.{IsNonDecreasingBy}
use Rattle.std.specs.List.{list_any}
use Rattle.std.specs.Option.{option_map_or}
use Rattle.std.specs.Prelude.{◌≡◌, ℕ, ◌<◌, ◌≤◌, Bool, ◌&&◌, nat_lt, List, [], All, map, filter, slice_get}
use Rattle.duty_calendar.specs.Minutes.{is_in, is_duty, is_duty_minute}
use Rattle.duty_calendar.specs.declared.event.Event.{Event}
use Rattle.duty_calendar.specs.declared.interval.Interval.{Interval}
use Rattle.duty_calendar.specs.declared.pairing.Pairing.{Pairing}
use Rattle.roster_model.specs.Spans.{event_span}
use Rattle.line_items.specs.Clear.{duties_of}

-- from report to release of each event that is duty and ends after the minute `from`
abbrev pub duty_spans : ℕ → List Event → List Interval
duty_spans from events = map event_span (filter (λ e. is_duty e.kind && nat_lt from e.release) events)

-- the duties of a pairing by its number, and none of a number past all
abbrev pub added_duties : List Pairing → ℕ → List Event
added_duties pairings number = option_map_or duties_of (slice_get pairings number) []

-- whether one of the times has the minute
abbrev pub is_timed : List Interval → ℕ → Bool
is_timed times minute = list_any (λ s. is_in s minute) times

-- from the minute `from` on the minutes of the times are the duty minutes of the events
abbrev pub AreTimes : List Event → ℕ → List Interval → Type 0
AreTimes events from times = (m : ℕ) → from ≤ m → is_timed times m ≡ is_duty_minute events m

-- times in the order of their starts, none of them empty
pub record IsTimetable (times : List Interval) : Type 0 where
  pub sorted : IsNonDecreasingBy (λ s. s.start) times
  pub last : All (λ s. s.start < s.stop) times
