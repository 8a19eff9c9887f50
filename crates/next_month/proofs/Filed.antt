-- Events that keep the reader's checks keep them by the next month's count.
use Rattle.std.proofs.Common.{◌≡◌, ℕ, ◌+◌, ◌-◌, max, ◌<◌, ◌≤◌, Bool, true, false, List, [], ◌∷◌, ◌++◌, Option, Some, None, length, get_or, map, refl, ap, sym, subst, ◌∙◌, arith, inl, inr}
use Rattle.std.specs.Prelude.{All, AllPairs, filter, slice_get, nat_le, nat_lt}
use Rattle.std.specs.Option.{option_map_or}
use Rattle.std.specs.List.{filter_map}
use Rattle.std.proofs.lemmas.Option.{slice_get_cases}
use Rattle.std.proofs.Math.Nat.{max-le}
use Rattle.std.proofs.lemmas.Bool.{leb-true, ltb-true}
use Rattle.std.proofs.lemmas.List.{get_or-map, length-map}
use Rattle.std.proofs.lemmas.List.Elements.{All-head, All-tail, All-append, All-map, All-filter, All-nil, All-cons, filter_passes}
use Rattle.duty_calendar.specs.declared.event.Event.{Event}
use Rattle.duty_calendar.specs.declared.event.Flown.{Flown}
use Rattle.duty_calendar.specs.declared.event.Kind.{Kind}
use Rattle.duty_calendar.specs.declared.event.Kind.TheVariants.{Flight, Ground, Leave}
use Rattle.duty_calendar.specs.declared.horizon.Horizon.{Horizon}
use Rattle.duty_calendar.specs.declared.member.Member.{Member}
use Rattle.duty_calendar.specs.declared.pairing.Duty.{Duty}
use Rattle.duty_calendar.specs.declared.pairing.Pairing.{Pairing}
use Rattle.duty_calendar.specs.Calendar.{month_end, horizon_end}
use Rattle.duty_calendar.specs.Checks.{IsDuty, IsFiled, IsMember, IsPairing}
use Rattle.duty_calendar.specs.Events.{IsEvent}
use Rattle.duty_calendar.specs.Minutes.{is_duty, is_flight}
use Rattle.roster_model.specs.declared.problem.Problem.{Problem}
use Rattle.roster_model.specs.Rosters.{line_at}
use Rattle.roster_model.specs.Spans.{duty_event, duty_events}
use Rattle.roster_model.specs.Timelines.{pairings_of, events_of, history_of, fixed_of}
use Rattle.next_month.specs.Carrying.{is_carried, carried, carried_flight, carried_report, all_carried}
use Rattle.next_month.specs.Heirs.{place_named, events_by}

pairs_map : {A B : Type 0} (f : A → B) (R : B → B → Type 0) (xs : List A) → AllPairs (λ a b. R (f a) (f b)) xs → AllPairs R (map f xs)
pairs_map f R [] h = λ i j d lt inside. absurd (omega (arith, inside))
pairs_map {A} {B} f R (x ∷ xs) h = go
  where
    go : AllPairs R (map f (x ∷ xs))
    go i j d lt inside =
        let within : j < length (x ∷ xs) = omega (arith, inside, length-map (x ∷ xs) f) in
        let before : i < length (x ∷ xs) = omega (arith, lt, within) in
        let at_i = get_or-map f (x ∷ xs) i x d before in
        let at_j = get_or-map f (x ∷ xs) j x d within in
        subst (λ (b : B). R (get_or (map f (x ∷ xs)) i d) b) (sym at_j)
        (subst (λ (b : B). R b (f (get_or (x ∷ xs) j x))) (sym at_i) (h i j x lt within))

-- a duty as the files can give an event
duty_filed : (h : Horizon) (d : Duty) → IsDuty d → d.release ≤ horizon_end h → IsFiled h (duty_event d)
duty_filed h d form ends =
    let some = form.some_legs in
    let few = form.few_legs in
    let legs : length (map (λ l. l.flown) d.legs) ≡ length d.legs = length-map d.legs (λ l. l.flown) in
    record {
      form = record {
        reported = form.reported;
        parked = form.parked;
        lasts = form.lasts;
        flights = All-map (λ f. (d.report ≤ f.out_at) × (f.out_at < f.in_at) × (f.in_at ≤ d.parked)) (λ l. l.flown) d.legs form.legs;
        in_order = pairs_map (λ l. l.flown) (λ f g. f.in_at ≤ g.out_at) d.legs form.in_order;
        flies = λ ground. absurd cc;
      };
      flown = λ _. (omega (arith, some, legs), omega (arith, few, legs));
      ground = λ idle. absurd cc;
      few_credit = omega arith;
      ends = ends;
    }

line_filed : (h : Horizon) (pairings : List Pairing) → All (IsPairing h) pairings → All (IsFiled h) (duty_events pairings)
line_filed h [] forms = λ k d lt. absurd (omega arith)
line_filed h (p ∷ ps) forms =
    let form = All-head (IsPairing h) p ps forms in
    All-append (IsFiled h) (map duty_event p.duties) (duty_events ps)
    (All-map (IsFiled h) duty_event p.duties (λ k d lt. duty_filed h (get_or p.duties k d) (form.each_duty k d lt) (form.ends k d lt)))
    (line_filed h ps (All-tail (IsPairing h) p ps forms))

-- what all elements have, those of some numbers have
kept_found : {A : Type 0} (P : A → Type 0) (xs : List A) (line : List ℕ) → All P xs → All P (filter_map (slice_get xs) line)
kept_found P xs [] each = All-nil P
kept_found {A} P xs (n ∷ ns) each =
    let rest : All P (filter_map (slice_get xs) ns) = kept_found P xs ns each in
    by_found (slice_get xs n) refl rest
  where
    by_found : (o : Option A) → slice_get xs n ≡ o → All P (filter_map (slice_get xs) ns) → All P (filter_map (slice_get xs) (n ∷ ns))
    by_found None same rest = rw same rest
    by_found (Some x) same rest =
        let here : P x =
        elim (slice_get_cases xs n).1 [
          | inl found ↦
              let one : found.0 ≡ x = some_same (sym found.2 ∙ same) in
              subst P (found.3 ∙ one) (each n found.0 found.1)
          | inr past ↦ absurd (let none : slice_get xs n ≡ None = past.1 in cc)
        ] in
        rw same (All-cons P x (filter_map (slice_get xs) ns) here rest)
      where
        some_same : {y z : A} → Some y ≡ Some z → y ≡ z
        some_same e = cc

-- what is read of a member before the month, and what is fixed in it, are so
abbrev Own : Horizon → Option Member → Type 0
Own h o = All (IsFiled h) (option_map_or (λ m. m.history) o []) × All (IsFiled h) (option_map_or (λ m. m.fixed) o [])

-- all events of a member are as the files can give them
pub events_filed : (problem : Problem) (member : ℕ) (line : List ℕ) → All (IsFiled problem.base.rules.horizon) (events_of problem member line)
events_filed problem member line =
    let h : Horizon = problem.base.rules.horizon in
    let flown = line_filed h (pairings_of problem line) (kept_found (IsPairing h) problem.base.pairings line problem.valid.month.pairings_form.each) in
    let own : All (IsFiled h) (history_of problem member) × All (IsFiled h) (fixed_of problem member) = by_read (slice_get problem.base.members member) refl in
    All-append (IsFiled h) (history_of problem member) (fixed_of problem member ++ duty_events (pairings_of problem line)) own.0
    (All-append (IsFiled h) (fixed_of problem member) (duty_events (pairings_of problem line)) own.1 flown)
  where
    by_read : (o : Option Member) → slice_get problem.base.members member ≡ o → Own problem.base.rules.horizon (slice_get problem.base.members member)
    by_read None none = rw none (All-nil (IsFiled problem.base.rules.horizon), All-nil (IsFiled problem.base.rules.horizon))
    by_read (Some x) there =
        elim (slice_get_cases problem.base.members member).1 [
          | inl found ↦
              let form = subst (IsMember problem.base.rules.horizon) found.3 (problem.valid.month.members_form.each member found.0 found.1) in
              subst (Own problem.base.rules.horizon) (sym found.2) (form.past, form.coming)
          | inr past ↦ absurd (let none : slice_get problem.base.members member ≡ None = past.1 in cc)
        ]

pub all_filed : (problem : Problem) (roster : List (List ℕ)) (name : List ℕ) → All (IsFiled problem.base.rules.horizon) (events_by problem roster name)
all_filed problem roster name = by_place (place_named problem name) refl
  where
    by_place : (o : Option ℕ) → place_named problem name ≡ o → All (IsFiled problem.base.rules.horizon) (events_by problem roster name)
    by_place None none = rw none (All-nil (IsFiled problem.base.rules.horizon))
    by_place (Some m) there = rw there (events_filed problem m (line_at roster m))

module _ (this : Horizon) (d : ℕ) (e : Event) (form : IsFiled this e) (kept : is_carried d e ≡ true) where
  -- where it begins and ends
  record Moved : Type 0 where
    starts : carried_report d e ≤ e.parked - d
    lasts : carried_report d e < e.release - d
    flights : All (λ f. (carried_report d e ≤ f.out_at) × (f.out_at < f.in_at) × (f.in_at ≤ e.parked - d)) (map (carried_flight d) e.flights)

  no_flight : (k : Kind) → is_duty k ≡ false → is_flight k ≡ false
  no_flight Flight idle = absurd cc
  no_flight Ground idle = absurd cc
  no_flight Leave idle = refl

  moved : (b : Bool) → is_duty e.kind ≡ b → Moved
  moved true duty =
      let test : is_carried d e ≡ nat_le d e.report = rw duty refl in
      let from : d ≤ e.report = leb-true d e.report (sym test ∙ kept) in
      let at : carried_report d e ≡ e.report - d = rw duty refl in
      let a = form.form.reported in
      let b = form.form.parked in
      let c = form.form.lasts in
      record {
        starts = omega (arith, at, a);
        lasts = omega (arith, at, c, from);
        flights = All-map (λ f. (carried_report d e ≤ f.out_at) × (f.out_at < f.in_at) × (f.in_at ≤ e.parked - d)) (carried_flight d) e.flights
            (λ k f lt. let w = form.form.flights k f lt in let x = w.0 in let y = w.1 in let z = w.2 in (omega (arith, at, x, from), omega (arith, x, y, from), omega (arith, z)));
      }
  moved false idle =
      let test : is_carried d e ≡ nat_lt (d + 525600) e.release = rw idle refl in
      let ends : d + 525600 < e.release = ltb-true (d + 525600) e.release (sym test ∙ kept) in
      let at : carried_report d e ≡ max (e.report - d) 525600 = rw idle refl in
      let grounded : is_flight e.kind ≡ false = no_flight e.kind idle in
      let c = form.form.lasts in
      let park : e.parked ≡ e.release = form.ground grounded in
      let top : max (e.report - d) 525600 ≤ e.release - d - 1 = max-le (omega (arith, c, ends)) (omega (arith, ends)) in
      let none : map (carried_flight d) e.flights ≡ [] = ap (λ (fs : List Flown). map (carried_flight d) fs) (form.form.flies grounded) in
      record {
        starts = omega (arith, at, top, park);
        lasts = omega (arith, at, top, ends);
        flights = rw none (All-nil (λ (f : Flown). (carried_report d e ≤ f.out_at) × (f.out_at < f.in_at) × (f.in_at ≤ e.parked - d)));
      }

  pub carried_event : IsEvent (carried d e)
  carried_event =
      let m = moved (is_duty e.kind) refl in
      let b = form.form.parked in
      record {
        reported = m.starts;
        parked = omega (arith, b);
        lasts = m.lasts;
        flights = m.flights;
        in_order = pairs_map (carried_flight d) (λ f g. f.in_at ≤ g.out_at) e.flights (λ i j f lt inside. let le = form.form.in_order i j f lt inside in omega (arith, le));
        flies = λ idle. ap (λ (fs : List Flown). map (carried_flight d) fs) (form.form.flies idle);
      }

  pub carried_filed : (next : Horizon) → horizon_end this ≤ d + month_end next → IsFiled next (carried d e) × ((carried d e).release ≤ month_end next)
  carried_filed next ends =
      let last = form.ends in
      let count : length (map (carried_flight d) e.flights) ≡ length e.flights = length-map e.flights (carried_flight d) in (
        record {
          form = carried_event;
          flown = λ flies. let w = form.flown flies in let x = w.0 in let y = w.1 in (omega (arith, x, count), omega (arith, y, count));
          ground = λ idle. ap (λ (n : ℕ). n - d) (form.ground idle);
          few_credit = form.few_credit;
          ends = omega (arith, last, ends);
        },
        omega (arith, last, ends),
      )

module _ (this : Horizon) (d : ℕ) (events : List Event) (forms : All (IsFiled this) events) where
  pub carried_last : All (λ e. e.report < e.release) (all_carried d events)
  carried_last =
      All-map (λ (e : Event). e.report < e.release) (carried d) (filter (is_carried d) events)
      (λ k e lt. (carried_event this d (get_or (filter (is_carried d) events) k e) (All-filter (is_carried d) (IsFiled this) events forms k e lt) (filter_passes (is_carried d) events k e lt)).lasts)

  pub carried_forms : (next : Horizon) → horizon_end this ≤ d + month_end next → All (λ e. IsFiled next e × (e.release ≤ month_end next)) (all_carried d events)
  carried_forms next ends =
      All-map (λ (e : Event). IsFiled next e × (e.release ≤ month_end next)) (carried d) (filter (is_carried d) events)
      (λ k e lt. carried_filed this d (get_or (filter (is_carried d) events) k e) (All-filter (is_carried d) (IsFiled this) events forms k e lt) (filter_passes (is_carried d) events k e lt) next ends)
