-- What an item's last minute and the minutes after it are.
use Rattle.std.proofs.Common.{◌≡◌, ℕ, ◌-◌, ◌<◌, ◌≤◌, true, false, List, [], ◌∷◌, ◌++◌, length, map, ap, sym, ◌∙◌, subst, arith, inl, inr}
use Rattle.std.specs.List.{AllByRecursion}
use Rattle.std.proofs.lemmas.Bool.{false≢true, cases_lt, and_from}
use Rattle.std.proofs.lemmas.Bool.Decides.{nat_tests}
use Rattle.std.proofs.lemmas.Option.{slice_get_cases}
use Rattle.duty_calendar.specs.declared.event.Event.{Event}
use Rattle.duty_calendar.specs.declared.interval.Interval.{Interval}
use Rattle.duty_calendar.specs.declared.pairing.Duty.{Duty}
use Rattle.duty_calendar.specs.Minutes.{is_between, is_duty, is_flight, has_duty, is_duty_minute}
use Rattle.roster_model.specs.declared.problem.Problem.{Problem}
use Rattle.roster_model.specs.declared.proof.Lens.{Lens}
use Rattle.roster_model.specs.Spans.{duty_event, last_release, pairing_span, event_span}
use Rattle.roster_model.specs.Timelines.{history_of, fixed_of}
use Rattle.line_items.specs.Clear.{base_of, duties_of}
use Rattle.line_items.specs.Items.{visited_flights, item_count, item_begins, item_rests, item_span, item_events}
use Rattle.line_lens.proofs.DayChain.{has_span, flight_at}
use Rattle.line_items.proofs.EventMinutes.{flight_is_duty, all_also}
use Rattle.line_items.proofs.Fitting.{IsSoundMonth}
use Rattle.line_items.proofs.Following.{AreDuties}
use Rattle.line_items.proofs.FreeMinutes.{minutes_split, quiet_outside}
use Rattle.line_items.proofs.FreeMinutes.{at_pairing, at_flight}
use Rattle.line_items.proofs.Resting.{none_parts, or_false_first, or_false_second}
use Rattle.line_items.proofs.SoundMonth.{sound_month}

pub record IsWork (problem : Problem) (member : ℕ) (lens : Lens) (item : ℕ) : Type 0 where
  pub begins : item_begins problem member lens item ≡ (item_span problem member lens item).start
  pub lasts : item_begins problem member lens item < (item_span problem member lens item).stop
  pub rests : (item_span problem member lens item).stop ≤ item_rests problem member lens item
  pub busy : is_duty_minute (base_of problem member ++ item_events problem member lens item) ((item_span problem member lens item).stop - 1) ≡ false → ⊥
  pub quiet : (m : ℕ) → (item_span problem member lens item).stop ≤ m → is_duty_minute (item_events problem member lens item) m ≡ false

inside : (a b : ℕ) → a < b → is_between a b (b - 1) ≡ true
inside a b lt = grind (arith, nat_tests)

-- the last minute of a pairing is on duty
busy_last : (ds : List Duty) → AreDuties ds → is_duty_minute (map duty_event ds) (last_release ds - 1) ≡ false → ⊥
busy_last [] sound none = sound
busy_last (d ∷ []) sound none =
    false≢true (sym (or_false_first (is_between d.report d.release (d.release - 1)) false none) ∙ inside d.report d.release sound.0)
busy_last (d ∷ e ∷ es) sound none =
    busy_last (e ∷ es) sound.2 (or_false_second (is_between d.report d.release (last_release (e ∷ es) - 1)) (is_duty_minute (map duty_event (e ∷ es)) (last_release (e ∷ es) - 1)) none)

busy_flight : (e : Event) → is_flight e.kind ≡ true → e.report < e.release → has_duty e (e.release - 1) ≡ false → ⊥
busy_flight e flight lasts none =
    false≢true (sym none ∙ and_from (is_duty e.kind) (is_between e.report e.release (e.release - 1)) (flight_is_duty e.kind flight) (inside e.report e.release lasts))

module _ (problem : Problem) (member : ℕ) (lens : Lens) where
  sound : IsSoundMonth problem member
  sound = sound_month problem member

  all_kinds : (es : List Event) → AllByRecursion (λ (e : Event). is_flight e.kind ≡ true → is_flight e.kind ≡ true) es
  all_kinds [] = tt
  all_kinds (e ∷ es) = (λ f. f, all_kinds es)

  pub work : (item : ℕ) → item < item_count problem member lens → IsWork problem member lens item
  work item small =
      let span = has_span problem member lens item small in
      let begins = span.begins in
      let lasts = span.lasts in
      elim (cases_lt item (length problem.base.pairings)) [
        | inl lt ↦ elim (slice_get_cases problem.base.pairings item).1 [
          | inl found ↦
              let x = found.0 in
              let own : item_events problem member lens item ≡ duties_of x = at_pairing problem member lens duties_of (λ e. []) [] item x lt found.2 in
              let at : (item_span problem member lens item).stop ≡ last_release x.duties = ap (λ (s : Interval). s.stop) (at_pairing problem member lens pairing_span event_span (record { start = 0; stop = 0 }) item x lt found.2) in
              record {
                begins = begins;
                lasts = omega (arith, begins, lasts);
                rests = span.ends;
                busy = λ none. busy_last x.duties (sound.duties item x found.2)
                    (subst (λ (n : ℕ). is_duty_minute (duties_of x) (n - 1) ≡ false) at
                    (subst (λ (es : List Event). is_duty_minute es ((item_span problem member lens item).stop - 1) ≡ false) own
                    ((minutes_split ((item_span problem member lens item).stop - 1)).second (base_of problem member) (item_events problem member lens item) none)));
                quiet = λ m le. ap (λ (es : List Event). is_duty_minute es m) own ∙ quiet_outside x (sound.duties item x found.2) m (inr (subst (λ (n : ℕ). n ≤ m) at le));
              }
          | inr none ↦ absurd (let le = none.0 in omega arith)
        ]
        | inr le ↦ elim (slice_get_cases (visited_flights problem member lens) (item - length problem.base.pairings)).1 [
          | inl found ↦
              let e = found.0 in
              let own : item_events problem member lens item ≡ [] = at_flight problem member lens duties_of (λ e. []) [] item e le found.2 in
              let at : (item_span problem member lens item).stop ≡ e.release = ap (λ (s : Interval). s.stop) (at_flight problem member lens pairing_span event_span (record { start = 0; stop = 0 }) item e le found.2) in
              let from : (item_span problem member lens item).start ≡ e.report = ap (λ (s : Interval). s.start) (at_flight problem member lens pairing_span event_span (record { start = 0; stop = 0 }) item e le found.2) in
              record {
                begins = begins;
                lasts = omega (arith, begins, lasts);
                rests = span.ends;
                busy = λ none.
                    let m = (item_span problem member lens item).stop - 1 in
                    let fixed = (minutes_split m).second (history_of problem member) (fixed_of problem member) ((minutes_split m).first (base_of problem member) (item_events problem member lens item) none) in
                    let each = none_parts (λ (x : Event). has_duty x m) (fixed_of problem member) fixed in
                    let here : has_duty e m ≡ false =
                    flight_at problem member lens (λ x. has_duty x m ≡ false) (item - length problem.base.pairings) e
                    (all_also (λ x. has_duty x m ≡ false) (λ x. is_flight x.kind ≡ true → has_duty x m ≡ false) (fixed_of problem member) (λ x h f. h) each) found.2 in
                    busy_flight e (flight_at problem member lens (λ x. is_flight x.kind ≡ true) (item - length problem.base.pairings) e (all_kinds (fixed_of problem member)) found.2)
                    (omega (arith, at, from, lasts)) (subst (λ (n : ℕ). has_duty e (n - 1) ≡ false) at here);
                quiet = λ m le. ap (λ (es : List Event). is_duty_minute es m) own;
              }
          | inr none ↦ absurd (let past = none.0 in omega arith)
        ]
      ]
