-- A row of an event reads as the event, and comes after those before it.
use Rattle.std.proofs.Common.{◌≡◌, ℕ, suc, ◌-◌, ◌<◌, ◌≤◌, List, [], ◌∷◌, ◌++◌, length, Bool, true, false, cond, ◌&&◌, nat_le, nat_lt, ◌==◌, Result, Ok, refl, ap, ◌∙◌, arith, All, AllPairs}
use Rattle.std.specs.Prelude.{IsTrue}
use Rattle.std.proofs.lemmas.Bool.Decides.{nat_tests}
use Rattle.std.proofs.lemmas.List.Elements.{All-head, All-tail, All-weaker}
use Rattle.duty_calendar.specs.Calendar.{horizon_end}
use Rattle.duty_calendar.specs.Checks.{IsFiled}
use Rattle.duty_calendar.specs.Forms.{is_name}
use Rattle.duty_calendar.specs.Minutes.{is_flight}
use Rattle.duty_calendar.specs.declared.event.Event.{Event}
use Rattle.duty_calendar.specs.declared.event.Flown.{Flown}
use Rattle.duty_calendar.specs.declared.event.Kind.{Kind}
use Rattle.duty_calendar.specs.declared.event.Kind.TheVariants.{Flight, Ground, Leave}
use Rattle.duty_calendar.specs.declared.horizon.Horizon.{Horizon}
use Rattle.duty_calendar.specs.declared.member.Member.{Member}
use Rattle.field_text.specs.declared.file_fault.FileCode.{FileCode}
use Rattle.field_text.specs.Fields.{name, minutes, minutes_value}
use Rattle.field_text.specs.Rows.{in_column}
use Rattle.field_text.specs.Spelling.{minutes_text, kind_text}
use Rattle.field_text.specs.Steps.{◌>>=◌, or_fault}
use Rattle.field_text.specs.declared.field_fault.FieldFault.TheVariants.{Range}
use Rattle.field_text.proofs.Again.{minutes-again}
use Rattle.field_text.proofs.CleanLines.{are_clean, AreClean, clean-field, all-utf8}
use Rattle.field_text.proofs.FieldsAgain.{name-again, kind-again}
use Rattle.field_text.proofs.MomentAgain.{moment-read}
use Rattle.crew_files.specs.declared.part.Part.{Part}
use Rattle.crew_files.specs.Events.{event_row, event_columns, event_checked, are_in_row, times_fit, flights_fit, last_release, is_in_order, may_report, with_event, part_of, changed}
use Rattle.crew_files.specs.Limits.{most_events}
use Rattle.crew_files.specs.Texts.{event_fields}
use Rattle.crew_files.proofs.Columns.{event-all}
use Rattle.crew_files.proofs.FlightsAgain.{IsWithin, flights-again, flights-clean, moment-clean}
use Rattle.crew_files.proofs.TextRow.{row-fits}

pub pairs-tail : {X : Type 0} (R : X → X → Type 0) (x : X) (xs : List X) → AllPairs R (x ∷ xs) → AllPairs R xs
pairs-tail R x xs p = λ i j d l k. p (suc i) (suc j) d (omega arith) (omega arith)

pub pairs-head : {X : Type 0} (R : X → X → Type 0) (x : X) (xs : List X) → AllPairs R (x ∷ xs) → All (R x) xs
pairs-head R x xs p = λ k d l. p 0 (suc k) d (omega arith) (omega arith)

-- the fields of a member's name and of minutes
pub name-clean : (n : List ℕ) → IsTrue (is_name n) → are_clean n ≡ true
name-clean n k = clean-field name (λ t. Ok t) n n refl (name-again n k)

pub minutes-clean : (n : ℕ) → n < 60000 → are_clean (minutes_text n) ≡ true
minutes-clean n l = clean-field minutes (λ text. or_fault Range (minutes_value text (length text - 3))) (minutes_text n) n refl (minutes-again n l)

kind-clean : (kind : Kind) → are_clean (kind_text kind) ≡ true
kind-clean Flight = refl
kind-clean Ground = refl
kind-clean Leave = refl

-- the times of an event lie in the horizon
record Lies (h : Horizon) (e : Event) : Type 0 where
  report : e.report ≤ horizon_end h
  parked : e.parked ≤ horizon_end h
  flights : All (IsWithin h) e.flights

lies : (h : Horizon) (e : Event) → IsFiled h e → Lies h e
lies h e f =
    let a = f.form.reported in
    let b = f.form.parked in
    let c = f.ends in
    record {
      report = omega (arith, a, b, c);
      parked = omega (arith, b, c);
      flights = All-weaker (λ (g : Flown). (e.report ≤ g.out_at) × (g.out_at < g.in_at) × (g.in_at ≤ e.parked)) (IsWithin h) (λ g w. (omega (arith, w.1, w.2, b, c), omega (arith, w.2, b, c))) e.flights f.form.flights;
    }

some-flights : (h : Horizon) (e : Event) → IsFiled h e → is_flight e.kind ≡ true → 1 ≤ length e.flights
some-flights h e f k = (f.flown k).0

module _ (h : Horizon) (n : List ℕ) (k : IsTrue (is_name n)) (e : Event) (f : IsFiled h e) where
  columns-again : event_columns h (event_fields h n e) ≡ Ok (n, e)
  columns-again =
      let l = lies h e f in
      let c = f.few_credit in
      event-all h (event_fields h n e)
      n (ap (in_column 1) (name-again n k))
      e.kind (ap (in_column 2) (kind-again e.kind))
      e.report (ap (in_column 3) (moment-read h e.report l.report))
      e.parked (ap (in_column 4) (moment-read h e.parked l.parked))
      e.release (ap (in_column 5) (moment-read h e.release f.ends))
      e.flights (flights-again h e.kind e.flights l.flights (some-flights h e f) f.form.flies)
      e.credit (ap (in_column 7) (minutes-again e.credit (omega (arith, c))))

  pub event-clean : AreClean (event_fields h n e)
  event-clean =
      let l = lies h e f in
      let c = f.few_credit in
      (name-clean n k, (kind-clean e.kind, (moment-clean h e.report l.report, (moment-clean h e.parked l.parked, (moment-clean h e.release f.ends, (flights-clean h e.flights l.flights, (minutes-clean e.credit (omega (arith, c)), tt)))))))

  pub row-again : (part : Part) (ms : List Member) → event_row h part ms (event_fields h n e) ≡ changed n (event_checked h part e) ms
  row-again part ms =
      row-fits 7 (event_fields h n e) (event_columns h (event_fields h n e) >>= (λ (named : List ℕ × Event). changed named.0 (event_checked h part named.1) ms)) (all-utf8 (event_fields h n e) event-clean) refl
      ∙ ap (λ (r : Result (List ℕ × Event) FileCode). r >>= (λ (named : List ℕ × Event). changed named.0 (event_checked h part named.1) ms)) columns-again

-- flights in order pass the test of it
in-row : (start stop : ℕ) (fs : List Flown) → All (λ (f : Flown). (start ≤ f.out_at) × (f.out_at < f.in_at) × (f.in_at ≤ stop)) fs → AllPairs (λ (f g : Flown). f.in_at ≤ g.out_at) fs → are_in_row start stop fs ≡ true
unfolding are_in_row
in-row start stop [] a p = refl
in-row start stop (f ∷ fs) a p =
    let first = All-head (λ (f : Flown). (start ≤ f.out_at) × (f.out_at < f.in_at) × (f.in_at ≤ stop)) f fs a in
    let more = All-tail (λ (f : Flown). (start ≤ f.out_at) × (f.out_at < f.in_at) × (f.in_at ≤ stop)) f fs a in
    let behind = pairs-head (λ (f g : Flown). f.in_at ≤ g.out_at) f fs p in
    let one : nat_le start f.out_at ≡ true = grind (arith, nat_tests, first.0) in
    let two : nat_lt f.out_at f.in_at ≡ true = grind (arith, nat_tests, first.1) in
    let three : nat_le f.in_at stop ≡ true = grind (arith, nat_tests, first.2) in
    rw (one, two, three) (in-row f.in_at stop fs (λ k d l. (behind k d l, (more k d l).1, (more k d l).2)) (pairs-tail (λ (f g : Flown). f.in_at ≤ g.out_at) f fs p))

times-again : (h : Horizon) (e : Event) → IsFiled h e → times_fit e ≡ true
times-again h e f =
    let a = f.form.reported in
    let b = f.form.parked in
    let c = f.form.lasts in
    let one : nat_le e.report e.parked ≡ true = grind (arith, nat_tests, a) in
    let two : nat_le e.parked e.release ≡ true = grind (arith, nat_tests, b) in
    let three : nat_lt e.report e.release ≡ true = grind (arith, nat_tests, c) in
    rw (one, two, three) refl

fit-again : (h : Horizon) (e : Event) → IsFiled h e → flights_fit e ≡ true
fit-again h e f = go (is_flight e.kind) refl
  where
    go : (t : Bool) → is_flight e.kind ≡ t → cond t (are_in_row e.report e.parked e.flights) (e.parked == e.release && length e.flights == 0) ≡ true
    go true k = in-row e.report e.parked e.flights f.form.flights f.form.in_order
    go false k =
        let same = f.ground k in
        let none = f.form.flies k in
        let one : (e.parked == e.release) ≡ true = grind (arith, nat_tests, same) in
        let two : (length e.flights == 0) ≡ true = ap (λ (fs : List Flown). length fs == 0) none in
        rw (one, two) refl

few-flights : (h : Horizon) (e : Event) → IsFiled h e → length e.flights ≤ 8
few-flights h e f = go (is_flight e.kind) refl
  where
    go : (t : Bool) → is_flight e.kind ≡ t → length e.flights ≤ 8
    go true k = (f.flown k).1
    go false k = let none = ap (λ (fs : List Flown). length fs) (f.form.flies k) in omega (arith, none)

pub checked-again : (h : Horizon) (part : Part) (e : Event) (m : Member) → IsFiled h e → last_release (m.history ++ m.fixed) ≤ e.report → may_report h part e.report ≡ true → length (part_of part m) < most_events part → event_checked h part e m ≡ Ok (with_event part e m)
checked-again h part e m f after may few =
    let flights = few-flights h e f in
    let credit = f.few_credit in
    let one = times-again h e f in
    let two = fit-again h e f in
    let three : nat_le (last_release (m.history ++ m.fixed)) e.report ≡ true = grind (arith, nat_tests, after) in
    let four : nat_lt 8 (length e.flights) ≡ false = grind (arith, nat_tests, flights) in
    let five : nat_lt 12000 e.credit ≡ false = grind (arith, nat_tests, credit) in
    let six : nat_le (most_events part) (length (part_of part m)) ≡ false = grind (arith, nat_tests, few) in
    let order : is_in_order m e ≡ true = rw (one, two, three) refl in
    rw (order, may, four, five, six) refl
