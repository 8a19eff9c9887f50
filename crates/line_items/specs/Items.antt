-- What a chain of a line graph visits: pairings by number, and behind them the member's fixed flights, where the lens
-- looks at free blocks. A number behind both is that of the source and of the sink.
use Rattle.std.specs.Option.{option_map_or}
use Rattle.std.specs.Prelude.{ℕ, ◌+◌, ◌-◌, Bool, not, ◌&&◌, ◌||◌, nat_lt, nat_le, List, [], length, filter, slice_get, if◌then◌else◌}
use Rattle.duty_calendar.specs.Calendar.{month_days}
use Rattle.duty_calendar.specs.Minutes.{is_flight}
use Rattle.duty_calendar.specs.declared.event.Event.{Event}
use Rattle.duty_calendar.specs.declared.interval.Interval.{Interval}
use Rattle.duty_calendar.specs.declared.pairing.Pairing.{Pairing}
use Rattle.roster_model.specs.Spans.{first_report, last_release, pairing_span, event_span}
use Rattle.roster_model.specs.Timelines.{fixed_of}
use Rattle.roster_model.specs.declared.node.Decision.{Decision}
use Rattle.roster_model.specs.declared.problem.Problem.{Problem}
use Rattle.roster_model.specs.declared.proof.Lens.{Lens}
use Rattle.lens_classes.specs.declared.terms.Terms.{Terms}
use Rattle.line_items.specs.Clear.{duties_of, is_base_rested, may_fly, must_fly}

-- the fixed flights that each chain visits
abbrev pub visited_flights : Problem → ℕ → Lens → List Event
visited_flights problem member lens =
    if lens.free30 then filter (λ e. is_flight e.kind) (fixed_of problem member) else []

abbrev pub item_count : Problem → ℕ → Lens → ℕ
item_count problem member lens = length problem.base.pairings + length (visited_flights problem member lens)

-- something of an item: of a pairing, or of a fixed flight
abbrev pub by_item : {A : Type 0} → Problem → ℕ → Lens → (Pairing → A) → (Event → A) → A → ℕ → A
by_item problem member lens of_pairing of_flight other item =
    if nat_lt item (length problem.base.pairings) then option_map_or of_pairing (slice_get problem.base.pairings item) other
    else option_map_or of_flight (slice_get (visited_flights problem member lens) (item - length problem.base.pairings)) other

-- when an item begins, and from when on another may begin after it: ten hours after a pairing
abbrev pub item_begins : Problem → ℕ → Lens → ℕ → ℕ
item_begins problem member lens = by_item problem member lens (λ p. first_report p.duties) (λ e. e.report) 0

abbrev pub item_rests : Problem → ℕ → Lens → ℕ → ℕ
item_rests problem member lens = by_item problem member lens (λ p. last_release p.duties + 600) (λ e. e.release) 0

abbrev pub item_span : Problem → ℕ → Lens → ℕ → Interval
item_span problem member lens = by_item problem member lens pairing_span event_span (record { start = 0; stop = 0 })

-- the events that an item adds to history and fixed events
abbrev pub item_events : Problem → ℕ → Lens → ℕ → List Event
item_events problem member lens = by_item problem member lens duties_of (λ e. []) []

-- whether the item may be visited, and must; a fixed flight must
abbrev pub may_visit_item : Problem → ℕ → List Decision → Lens → ℕ → Bool
may_visit_item problem member node lens item =
    if nat_lt item (length problem.base.pairings) then may_fly problem member node item
    else nat_lt item (item_count problem member lens)

abbrev pub must_visit_item : Problem → ℕ → List Decision → Lens → ℕ → Bool
must_visit_item problem member node lens item =
    if nat_lt item (length problem.base.pairings) then must_fly member node item
    else nat_lt item (item_count problem member lens)

-- whether any line can pass: the fixed flights have their rest, and the month has as many days as are to be off
abbrev pub is_base_open : Problem → ℕ → Lens → Terms → Bool
is_base_open problem member lens terms =
    is_base_rested problem member
    && (not lens.days || nat_le terms.days_off (month_days problem.base.rules.horizon))
