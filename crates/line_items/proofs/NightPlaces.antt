-- The marks of items, by what they are.
use Rattle.std.proofs.Common.{◌≡◌, ℕ, ◌-◌, ◌<◌, ◌≤◌, true, List, [], ◌∷◌, Option, Some, None, length, get_or, filter, map, refl, ap, sym, ◌∙◌}
use Rattle.std.specs.Prelude.{slice_get}
use Rattle.std.specs.Option.{option_map_or}
use Rattle.std.proofs.lemmas.Option.{slice_get-get_or}
use Rattle.duty_calendar.specs.declared.event.Event.{Event}
use Rattle.duty_calendar.specs.declared.interval.Interval.{Interval}
use Rattle.duty_calendar.specs.declared.pairing.Duty.{Duty}
use Rattle.duty_calendar.specs.declared.pairing.Pairing.{Pairing}
use Rattle.duty_calendar.specs.Minutes.{is_flight}
use Rattle.roster_model.specs.declared.problem.Problem.{Problem}
use Rattle.roster_model.specs.declared.proof.Lens.{Lens}
use Rattle.roster_model.specs.Spans.{duty_event, first_report, last_release, pairing_span, event_span}
use Rattle.roster_model.specs.Timelines.{fixed_of}
use Rattle.line_items.specs.Clear.{duties_of}
use Rattle.line_items.specs.Items.{visited_flights, item_begins, item_span}
use Rattle.line_items.specs.NightRows.{nights_after, item_flights, lead_of, reset_of, alone_of, past_until, night_until, night_marks, flight_marks}
use Rattle.line_items.specs.declared.marks.NightMarks.{NightMarks}
use Rattle.line_items.proofs.FreeMinutes.{picked}
use Rattle.line_items.proofs.FreeMinutes.{at_pairing, at_flight}
use Rattle.line_items.proofs.ItemLines.{at_flight as by_flight}

-- marks by when they end, when they begin and the flights
abbrev marks_from : ℕ → ℕ → List Event → NightMarks
marks_from until begins flights = record {
  until = until;
  lead = lead_of begins flights;
  reset = reset_of begins flights;
  alone = alone_of flights;
  row = nights_after 0 0 flights;
}

same_marks : (u v b c : ℕ) (es fs : List Event) → u ≡ v → b ≡ c → es ≡ fs → marks_from u b es ≡ marks_from v c fs
same_marks u v b c es fs p q r = rw (p, q, r) refl

pub pairing_night : (problem : Problem) (member : ℕ) (lens : Lens) (pairing : ℕ) (x : Pairing) (duties : List Duty) (span : Interval) (marks : NightMarks)
    → pairing < length problem.base.pairings → x ≡ get_or problem.base.pairings pairing x → duties ≡ x.duties
    → span ≡ item_span problem member lens pairing
    → marks ≡ record {
      until = span.stop;
      lead = lead_of span.start (map duty_event duties);
      reset = reset_of span.start (map duty_event duties);
      alone = alone_of (map duty_event duties);
      row = nights_after 0 0 (map duty_event duties);
    }
    → marks ≡ night_marks problem member lens pairing
pairing_night problem member lens pairing x duties span marks known at are spans is =
    is ∙ same_marks span.stop (night_until problem member lens pairing) span.start (item_begins problem member lens pairing) (map duty_event duties) (item_flights problem member lens pairing)
    (ap (λ (s : Interval). s.stop) here ∙ sym (at_pairing problem member lens (λ p. last_release p.duties) (λ e. e.release) (past_until problem member) pairing x known found))
    (ap (λ (s : Interval). s.start) here ∙ sym (at_pairing problem member lens (λ p. first_report p.duties) (λ e. e.report) 0 pairing x known found))
    (ap (λ (ds : List Duty). map duty_event ds) are ∙ sym (at_pairing problem member lens duties_of (λ e. e ∷ []) [] pairing x known found))
  where
    found : slice_get problem.base.pairings pairing ≡ Some x
    found = slice_get-get_or problem.base.pairings pairing x known ∙ ap (λ (p : Pairing). Some p) (sym at)

    here : span ≡ pairing_span x
    here = spans ∙ at_pairing problem member lens pairing_span event_span (record { start = 0; stop = 0 }) pairing x known found

pub flight_night : (problem : Problem) (member : ℕ) (lens : Lens) (item place : ℕ) (marks : NightMarks)
    → lens.free30 ≡ true → length problem.base.pairings ≤ item → place ≡ item - length problem.base.pairings
    → marks ≡ option_map_or flight_marks (slice_get (filter (λ e. is_flight e.kind) (fixed_of problem member)) place)
    (record { until = past_until problem member; lead = 0; reset = None; alone = 0; row = 0 })
    → marks ≡ night_marks problem member lens item
flight_night problem member lens item place marks on le at is =
    is ∙ ap (λ (n : ℕ). option_map_or flight_marks (slice_get (filter (λ e. is_flight e.kind) (fixed_of problem member)) n) none) at
    ∙ ap (λ (es : List Event). option_map_or flight_marks (slice_get es (item - length problem.base.pairings)) none) (sym flights)
    ∙ go (slice_get (visited_flights problem member lens) (item - length problem.base.pairings)) refl
  where
    none : NightMarks
    none = record { until = past_until problem member; lead = 0; reset = None; alone = 0; row = 0 }

    flights : visited_flights problem member lens ≡ filter (λ e. is_flight e.kind) (fixed_of problem member)
    flights = picked lens.free30 (filter (λ e. is_flight e.kind) (fixed_of problem member)) [] on

    go : (o : Option Event) → slice_get (visited_flights problem member lens) (item - length problem.base.pairings) ≡ o
        → option_map_or flight_marks o none ≡ night_marks problem member lens item
    go (Some e) found =
        same_marks e.release (night_until problem member lens item) e.report (item_begins problem member lens item) (e ∷ []) (item_flights problem member lens item)
        (sym (at_flight problem member lens (λ p. last_release p.duties) (λ e. e.release) (past_until problem member) item e le found))
        (sym (at_flight problem member lens (λ p. first_report p.duties) (λ e. e.report) 0 item e le found))
        (sym (at_flight problem member lens duties_of (λ e. e ∷ []) [] item e le found))
    go None found =
        same_marks (past_until problem member) (night_until problem member lens item) 0 (item_begins problem member lens item) [] (item_flights problem member lens item)
        (sym (by_flight problem member lens (λ p. last_release p.duties) (λ e. e.release) (past_until problem member) item le ∙ ap (λ (o : Option Event). option_map_or (λ (e : Event). e.release) o (past_until problem member)) found))
        (sym (by_flight problem member lens (λ p. first_report p.duties) (λ e. e.report) 0 item le ∙ ap (λ (o : Option Event). option_map_or (λ (e : Event). e.report) o 0) found))
        (sym (by_flight problem member lens duties_of (λ e. e ∷ []) [] item le ∙ ap (λ (o : Option Event). option_map_or (λ (e : Event). e ∷ []) o []) found))
