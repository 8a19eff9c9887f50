-- How a row of `history.csv` or `fixed.csv` reads: an event of a member.
use Rattle.std.specs.Prelude.{ℕ, zero, suc, Bool, true, not, ◌&&◌, ◌==◌, List, [], ◌∷◌, ◌++◌, length, codes, fold, slice_index_or, nat_le, nat_lt, Result, Ok, Err, if◌then◌else◌}
use Rattle.duty_calendar.specs.Calendar.{month_end}
use Rattle.duty_calendar.specs.Minutes.{is_flight}
use Rattle.duty_calendar.specs.declared.event.Event.{Event}
use Rattle.duty_calendar.specs.declared.event.Flown.{Flown}
use Rattle.duty_calendar.specs.declared.horizon.Horizon.{Horizon}
use Rattle.duty_calendar.specs.declared.member.Member.{Member}
use Rattle.field_text.specs.declared.file_fault.FileCode.{FileCode}
use Rattle.field_text.specs.declared.file_fault.FileCode.TheVariants.{Unknown, Order, OutsideMonth, Limit}
use Rattle.field_text.specs.Fields.{name_field, moment_field, minutes_field, kind_field}
use Rattle.field_text.specs.Rows.{in_column, text_row}
use Rattle.field_text.specs.Steps.{◌>>=◌}
use Rattle.crew_files.specs.declared.part.Part.{Part}
use Rattle.crew_files.specs.declared.part.Part.TheVariants.{History, Fixed}
use Rattle.crew_files.specs.Crew.{has_name}
use Rattle.crew_files.specs.Flights.{flights_field}
use Rattle.crew_files.specs.Limits.{most_flights, flights_limit, most_credit, credit_limit, most_events, events_limit}

abbrev pub event_header : List (List ℕ)
event_header =
    codes "member" ∷ codes "kind" ∷ codes "report" ∷ codes "parked" ∷ codes "release"
    ∷ codes "legs" ∷ codes "credit" ∷ []

-- the name of a member, and an event, of seven fields
abbrev pub event_columns : Horizon → List (List ℕ) → Result (List ℕ × Event) FileCode
event_columns h fields = do
  name ← in_column 1 (name_field (slice_index_or fields 0 []))
  kind ← in_column 2 (kind_field (slice_index_or fields 1 []))
  report ← in_column 3 (moment_field h (slice_index_or fields 2 []))
  parked ← in_column 4 (moment_field h (slice_index_or fields 3 []))
  release ← in_column 5 (moment_field h (slice_index_or fields 4 []))
  flights ← in_column 6 (flights_field h kind (slice_index_or fields 5 []))
  credit ← in_column 7 (minutes_field (slice_index_or fields 6 []))
  Ok (
    name,
    record {
      kind = kind;
      report = report;
      parked = parked;
      release = release;
      flights = flights;
      credit = credit;
    },
  )

-- whether each flight lasts and begins after a time and after the one before it, and none ends
-- after another time
unfoldable pub are_in_row : ℕ → ℕ → List Flown → Bool
are_in_row start stop [] = true
are_in_row start stop (f ∷ fs) =
    nat_le start f.out_at
    && (nat_lt f.out_at f.in_at && (nat_le f.in_at stop && are_in_row f.in_at stop fs))

-- whether the times of an event are in order
abbrev pub times_fit : Event → Bool
times_fit e = nat_le e.report e.parked && (nat_le e.parked e.release && nat_lt e.report e.release)

-- whether the flights of a flight event lie within it, or another event has none and is parked at
-- its release
abbrev pub flights_fit : Event → Bool
flights_fit e =
    if is_flight e.kind then are_in_row e.report e.parked e.flights else
    (e.parked == e.release && length e.flights == 0)

-- when the last of the events ends
unfoldable pub last_release : List Event → ℕ
last_release events = fold (λ before e. e.release) 0 events

abbrev pub is_in_order : Member → Event → Bool
is_in_order m e =
    times_fit e && (flights_fit e && nat_le (last_release (m.history ++ m.fixed)) e.report)

-- whether an event may report then: history before the month, fixed events in it
abbrev pub may_report : Horizon → Part → ℕ → Bool
may_report h History report = nat_lt report 525600
may_report h Fixed report = nat_le 525600 report && nat_lt report (month_end h)

-- the events of a part
abbrev pub part_of : Part → Member → List Event
part_of History m = m.history
part_of Fixed m = m.fixed

-- the member with one more event
abbrev pub with_event : Part → Event → Member → Member
with_event History e m = record m { history = m.history ++ e ∷ [] }
with_event Fixed e m = record m { fixed = m.fixed ++ e ∷ [] }

-- the members, of whom the one at a place has one more event
abbrev pub with_event_at : ℕ → Part → Event → List Member → List Member
with_event_at i part e [] = []
with_event_at zero part e (m ∷ ms) = with_event part e m ∷ ms
with_event_at (suc i) part e (m ∷ ms) = m ∷ with_event_at i part e ms

-- the event after those of the member, within the limits
abbrev pub event_checked : Horizon → Part → Event → Member → Result Member FileCode
event_checked h part e m =
    if not (is_in_order m e) then Err Order
    else if not (may_report h part e.report) then Err OutsideMonth
    else if nat_lt most_flights (length e.flights) then Err (Limit flights_limit)
    else if nat_lt most_credit e.credit then Err (Limit credit_limit)
    else if nat_le (most_events part) (length (part_of part m)) then Err (Limit (events_limit part))
    else Ok (with_event part e m)

-- the members, where the one of this name is changed
unfoldable pub changed : List ℕ → (Member → Result Member FileCode) → List Member
    → Result (List Member) FileCode
changed name change [] = Err Unknown
changed name change (m ∷ ms) =
    if has_name name m then (change m >>= (λ n. Ok (n ∷ ms))) else
    (changed name change ms >>= (λ ns. Ok (m ∷ ns)))

-- a row, after which these members have the events that the rows before it gave
abbrev pub event_row : Horizon → Part → List Member → List (List ℕ) → Result (List Member) FileCode
event_row h part members fields =
    text_row 7 fields
    (event_columns h fields >>= (λ named. changed named.0 (event_checked h part named.1) members))
