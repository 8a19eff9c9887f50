-- Nights in a row: how many flights leave behind, and what an item adds to a row that it follows soon.
use Rattle.std.specs.Prelude.{ℕ, suc, ◌+◌, min, Bool, true, ◌&&◌, nat_lt, List, [], ◌∷◌, Option, Some, None, filter, if◌then◌else◌}
use Rattle.duty_calendar.specs.Minutes.{is_flight}
use Rattle.duty_calendar.specs.Nights.{infringes}
use Rattle.duty_calendar.specs.declared.event.Event.{Event}
use Rattle.roster_model.specs.Spans.{last_release}
use Rattle.roster_model.specs.Timelines.{history_of}
use Rattle.roster_model.specs.declared.problem.Problem.{Problem}
use Rattle.roster_model.specs.declared.proof.Lens.{Lens}
use Rattle.line_items.specs.Clear.{duties_of}
use Rattle.line_items.specs.Items.{by_item, item_begins}
use Rattle.line_items.specs.declared.marks.NightMarks.{NightMarks}

-- a flight that infringes and begins less than 30 hours after the release of another
abbrev pub is_soon_night : ℕ → Event → Bool
is_soon_night released e = infringes e && nat_lt e.report (released + 1800)

-- the nights in a row up to a flight, after so many up to one that was released then
abbrev pub night_after : ℕ → ℕ → Event → ℕ
night_after nights released e =
    if infringes e then (if nat_lt e.report (released + 1800) then nights + 1 else 1) else 0

-- those that a list of flights leaves behind
abbrev pub nights_after : ℕ → ℕ → List Event → ℕ
nights_after nights released [] = nights
nights_after nights released (e ∷ es) = nights_after (night_after nights released e) e.release es

-- when the last of them was released
abbrev pub released_after : ℕ → List Event → ℕ
released_after released [] = released
released_after released (e ∷ es) = released_after e.release es

-- whether none of them is a fourth night
abbrev pub stays_short : ℕ → ℕ → List Event → Bool
stays_short nights released [] = true
stays_short nights released (e ∷ es) =
    nat_lt (night_after nights released e) 4 && stays_short (night_after nights released e) e.release es

-- how many of them follow night on night from the start, and whether all do
abbrev pub lead_after : ℕ → List Event → ℕ
lead_after released [] = 0
lead_after released (e ∷ es) = if is_soon_night released e then suc (lead_after e.release es) else 0

abbrev pub all_after : ℕ → List Event → Bool
all_after released [] = true
all_after released (e ∷ es) = is_soon_night released e && all_after e.release es

-- the flights of an item
abbrev pub item_flights : Problem → ℕ → Lens → ℕ → List Event
item_flights problem member lens = by_item problem member lens duties_of (λ e. e ∷ []) []

-- what flights that begin then add to a row: four, which no row takes, where a fourth night is among them
abbrev pub lead_of : ℕ → List Event → ℕ
lead_of begins flights = if stays_short 0 0 flights then lead_after begins flights else 4

-- the row that they leave behind, unless they are one with the row before
abbrev pub reset_of : ℕ → List Event → Option ℕ
reset_of begins flights = if all_after begins flights then None else Some (nights_after 0 0 flights)

-- the same where they follow no row
abbrev pub alone_of : List Event → ℕ
alone_of flights = if stays_short 0 0 flights then 0 else 4

abbrev pub item_lead : Problem → ℕ → Lens → ℕ → ℕ
item_lead problem member lens item = lead_of (item_begins problem member lens item) (item_flights problem member lens item)

abbrev pub item_reset : Problem → ℕ → Lens → ℕ → Option ℕ
item_reset problem member lens item = reset_of (item_begins problem member lens item) (item_flights problem member lens item)

abbrev pub item_alone : Problem → ℕ → Lens → ℕ → ℕ
item_alone problem member lens item = alone_of (item_flights problem member lens item)

abbrev pub item_row : Problem → ℕ → Lens → ℕ → ℕ
item_row problem member lens item = nights_after 0 0 (item_flights problem member lens item)

-- the flights before the month, the row that they leave behind, of which three are as bad as more, and its end
abbrev pub past_flights : Problem → ℕ → List Event
past_flights problem member = filter (λ e. is_flight e.kind) (history_of problem member)

abbrev pub past_row : Problem → ℕ → ℕ
past_row problem member = min 3 (nights_after 0 0 (past_flights problem member))

abbrev pub past_until : Problem → ℕ → ℕ
past_until problem member = released_after 0 (past_flights problem member)

-- the row of nights at the source, and its end
abbrev pub night_start : Problem → ℕ → Lens → ℕ
night_start problem member lens = if lens.free30 then past_row problem member else 0

abbrev pub night_end : Problem → ℕ → Lens → ℕ
night_end problem member lens = if lens.free30 then past_until problem member else 0

-- when the last flight of an item is released; of no item, that of the last flight before the month
abbrev pub night_until : Problem → ℕ → Lens → ℕ → ℕ
night_until problem member lens =
    by_item problem member lens (λ p. last_release p.duties) (λ e. e.release) (past_until problem member)

-- what an item makes of nights in a row
abbrev pub night_marks : Problem → ℕ → Lens → ℕ → NightMarks
night_marks problem member lens item = record {
  until = night_until problem member lens item;
  lead = item_lead problem member lens item;
  reset = item_reset problem member lens item;
  alone = item_alone problem member lens item;
  row = item_row problem member lens item;
}

-- the marks of no flights
abbrev pub no_marks : NightMarks
no_marks = record { until = 0; lead = 0; reset = None; alone = 0; row = 0 }

-- what a fixed flight makes of them
abbrev pub flight_marks : Event → NightMarks
flight_marks e = record {
  until = e.release;
  lead = lead_of e.report (e ∷ []);
  reset = reset_of e.report (e ∷ []);
  alone = alone_of (e ∷ []);
  row = nights_after 0 0 (e ∷ []);
}
