-- Steps of the loops that count minutes of windows.
use Rattle.std.proofs.Common.{◌≡◌, ℕ, zero, suc, ◌+◌, ◌-◌, ◌<◌, ◌≤◌, ◌^◌, Bool, true, cond, ◌&&◌, ◌||◌, min, List, [], ◌∷◌, Some, length, get_or, take, refl, ap, sym, ◌∙◌, subst, arith, inl, inr}
use Rattle.std.specs.Prelude.{All, AllPairs, count_by, map, set, replicate, slice_get, nat_lt}
use Rattle.std.specs.List.{list_any, AllByRecursion}
use Rattle.std.specs.Option.{option_map_or}
use Rattle.std.proofs.lemmas.Bool.Decides.{nat_tests}
use Rattle.std.proofs.lemmas.Option.{slice_get_past, slice_get_read}
use Rattle.std.proofs.lemmas.List.{get_or_default}
use Rattle.std.proofs.lemmas.Bool.{and_parts, cases_Bool}
use Rattle.std.proofs.lemmas.List.Sums.{sum_by-append}
use Rattle.std.proofs.lemmas.List.Elements.{All-from_recursion}
use Rattle.duty_calendar.specs.declared.event.Event.{Event}
use Rattle.duty_calendar.specs.declared.event.Flown.{Flown}
use Rattle.duty_calendar.specs.declared.pairing.Duty.{Duty}
use Rattle.duty_calendar.specs.declared.pairing.Leg.{Leg}
use Rattle.duty_calendar.specs.declared.pairing.Pairing.{Pairing}
use Rattle.duty_calendar.specs.Checks.{IsDuty}
use Rattle.duty_calendar.specs.Events.{IsEvent, HasFlightsApart}
use Rattle.duty_calendar.specs.Minutes.{is_between, is_flight, count_between}
use Rattle.duty_calendar.proofs.Counting.{count_between-le, count_between-agree}
use Rattle.part117_limits.specs.declared.peak.Minutes.{Minutes}
use Rattle.part117_limits.specs.declared.peak.Minutes.TheVariants.{Flying, Period}
use Rattle.part117_limits.specs.Peaks.{has_counted, is_counted}
use Rattle.part117_limits.proofs.Overlaps.{SharesNone, between-parts, count_more}
use Rattle.roster_model.specs.declared.problem.Problem.{Problem}
use Rattle.roster_model.specs.declared.proof.Lens.{Lens}
use Rattle.roster_model.specs.declared.proof.Window.{Window}
use Rattle.roster_model.specs.Spans.{duty_event}
use Rattle.roster_model.specs.Timelines.{history_of, fixed_of}
use Rattle.line_items.specs.Clear.{base_of, duties_of}
use Rattle.line_items.specs.Items.{item_events}
use Rattle.line_items.specs.WindowMinutes.{spread, window_minutes}
use Rattle.line_items.proofs.EventMinutes.{minutes_add, base_events, duty_is_event, counted_in, count_le_by}
use Rattle.line_items.proofs.EventMinutes.{base_once}
use Rattle.line_items.proofs.LineParts.{all_first, all_second}
use Rattle.line_items.proofs.WindowChain.{by_pairing}

-- stretches in order share no minute
pub ordered_apart : {A : Type 0} (from to : A → ℕ) (xs : List A) → AllPairs (λ f g. to f ≤ from g) xs → SharesNone (λ x m. is_between (from x) (to x) m) xs
ordered_apart from to xs order i j d lt inside m first =
    elim (cases_Bool (is_between (from (get_or xs j d)) (to (get_or xs j d)) m)) [
      | inl second ↦
          let a = between-parts _ _ m first in
          let b = between-parts _ _ m second in
          absurd (omega (arith, order i j d lt inside, a.1, b.0))
      | inr none ↦ none
    ]

-- so do the counted minutes of duties in order
pub duties_apart : (minutes : Minutes) (ds : List Duty) → All IsDuty ds → AllPairs (λ d e. d.release + 600 ≤ e.report) ds
    → SharesNone (λ d m. has_counted minutes (duty_event d) m) ds
duties_apart minutes ds forms order i j d lt inside m first =
    elim (cases_Bool (has_counted minutes (duty_event (get_or ds j d)) m)) [
      | inl second ↦
          let x = get_or ds i d in
          let y = get_or ds j d in
          let a = between-parts x.report x.release m (counted_in minutes m (duty_event x) (duty_is_event x (forms i d (omega arith))) first) in
          let b = between-parts y.report y.release m (counted_in minutes m (duty_event y) (duty_is_event y (forms j d inside)) second) in
          absurd (omega (arith, order i j d lt inside, a.1, b.0))
      | inr none ↦ none
    ]

-- the minutes of one flight more, and of one leg more
pub flown_more : (flights : List Flown) (k : ℕ) (d : Flown) (start stop total more : ℕ) → start ≤ stop
    → AllPairs (λ f g. f.in_at ≤ g.out_at) flights → k < length flights
    → total ≡ count_between (λ m. list_any (λ f. is_between f.out_at f.in_at m) (take k flights)) start stop
    → more ≡ count_between (is_between (get_or flights k d).out_at (get_or flights k d).in_at) start stop
    → total + more ≡ count_between (λ m. list_any (λ f. is_between f.out_at f.in_at m) (take (k + 1) flights)) start stop
flown_more flights k d start stop total more order apart inside before own =
    count_more (λ (f : Flown) m. is_between f.out_at f.in_at m) flights k (get_or flights k d) start stop total more
    order inside (get_or_default flights k d (get_or flights k d) inside) (ordered_apart (λ (f : Flown). f.out_at) (λ f. f.in_at) flights apart) before own

pub leg_more : (legs : List Leg) (k : ℕ) (x : Leg) (start stop total more : ℕ) → start ≤ stop
    → AllPairs (λ k l. k.flown.in_at ≤ l.flown.out_at) legs → k < length legs → x ≡ get_or legs k x
    → total ≡ count_between (λ m. list_any (λ l. is_between l.flown.out_at l.flown.in_at m) (take k legs)) start stop
    → more ≡ count_between (is_between x.flown.out_at x.flown.in_at) start stop
    → total + more ≡ count_between (λ m. list_any (λ l. is_between l.flown.out_at l.flown.in_at m) (take (k + 1) legs)) start stop
leg_more legs k x start stop total more order apart inside same before own =
    count_more (λ (l : Leg) m. is_between l.flown.out_at l.flown.in_at m) legs k x start stop total more
    order inside same (ordered_apart (λ (l : Leg). l.flown.out_at) (λ l. l.flown.in_at) legs apart) before own

any_mapped : {A B : Type 0} (f : A → B) (p : B → Bool) (xs : List A) → list_any p (map f xs) ≡ list_any (λ x. p (f x)) xs
any_mapped f p [] = refl
any_mapped f p (x ∷ xs) = ap (λ b. p (f x) || b) (any_mapped f p xs)

pub same_minutes : (f g : ℕ → Bool) (start stop : ℕ) → start ≤ stop → ((m : ℕ) → f m ≡ g m) → count_between f start stop ≡ count_between g start stop
same_minutes f g start stop order h =
    let whole : start + (stop - start) ≡ stop = omega arith in
    subst (λ (n : ℕ). count_between f start n ≡ count_between g start n) whole (count_between-agree f g start (stop - start) (λ m a b. h m))

-- a test of mapped elements counts like the test of their images
pub mapped_minutes : {A B : Type 0} (f : A → B) (has : B → ℕ → Bool) (xs : List A) (start stop : ℕ) → start ≤ stop
    → count_between (λ m. list_any (λ x. has (f x) m) xs) start stop ≡ count_between (λ m. list_any (λ y. has y m) (map f xs)) start stop
mapped_minutes f has xs start stop order =
    same_minutes (λ m. list_any (λ x. has (f x) m) xs) (λ m. list_any (λ y. has y m) (map f xs)) start stop order (λ m. sym (any_mapped f (λ y. has y m) xs))

-- at most all minutes of the window
pub few_minutes : (test : ℕ → Bool) (start stop n : ℕ) → n ≡ count_between test start stop → stop ≤ start + 525600 → n < 2 ^ 32
few_minutes test start stop n is width = let few = count_between-le test start stop in omega arith

-- a member's history and fixed events
flights_once : (es : List Event) → ((m : ℕ) → count_by (λ e. is_between e.report e.release m) es ≤ 1) → AllByRecursion IsEvent es → HasFlightsApart es
flights_once es once forms m =
    let few = count_le_by IsEvent (λ e. is_flight e.kind && is_between e.report e.release m) (λ e. is_between e.report e.release m) es forms
    (λ e form h. (and_parts (is_flight e.kind) (is_between e.report e.release m) h).1) in
    omega (arith, few, once m)

pub history_forms : (problem : Problem) (member : ℕ) → All IsEvent (history_of problem member)
history_forms problem member =
    All-from_recursion IsEvent (history_of problem member) (all_first IsEvent (history_of problem member) (fixed_of problem member) (base_events problem member).forms)

pub fixed_forms : (problem : Problem) (member : ℕ) → All IsEvent (fixed_of problem member)
fixed_forms problem member =
    All-from_recursion IsEvent (fixed_of problem member) (all_second IsEvent (history_of problem member) (fixed_of problem member) (base_events problem member).forms)

pub history_apart : (problem : Problem) (member : ℕ) → HasFlightsApart (history_of problem member)
history_apart problem member =
    let base = base_events problem member in
    flights_once (history_of problem member)
    (λ m. let parts = sum_by-append (λ (e : Event). cond {A = ℕ} (is_between e.report e.release m) 1 0) (history_of problem member) (fixed_of problem member) in
    omega (arith, parts, base.once m))
    (all_first IsEvent (history_of problem member) (fixed_of problem member) base.forms)

pub fixed_apart : (problem : Problem) (member : ℕ) → HasFlightsApart (fixed_of problem member)
fixed_apart problem member =
    let base = base_events problem member in
    flights_once (fixed_of problem member)
    (λ m. let parts = sum_by-append (λ (e : Event). cond {A = ℕ} (is_between e.report e.release m) 1 0) (history_of problem member) (fixed_of problem member) in
    omega (arith, parts, base.once m))
    (all_second IsEvent (history_of problem member) (fixed_of problem member) base.forms)

-- their minutes together
pub base_minutes : (problem : Problem) (member : ℕ) (minutes : Minutes) (start stop : ℕ) → start ≤ stop
    → count_between (is_counted minutes (history_of problem member)) start stop + count_between (is_counted minutes (fixed_of problem member)) start stop
    ≡ count_between (is_counted minutes (base_of problem member)) start stop
base_minutes problem member minutes start stop order =
    let p = λ (m : ℕ) (e : Event). cond {A = ℕ} (has_counted minutes e m) 1 0 in
    let split = λ (m : ℕ). sum_by-append (p m) (history_of problem member) (fixed_of problem member) in
    let whole = minutes_add (has_counted minutes) (base_of problem member) start stop order (base_once minutes problem member) in
    let past = minutes_add (has_counted minutes) (history_of problem member) start stop order (λ m. omega (arith, split m, base_once minutes problem member m)) in
    let coming = minutes_add (has_counted minutes) (fixed_of problem member) start stop order (λ m. omega (arith, split m, base_once minutes problem member m)) in
    let parts = sum_by-append (λ (e : Event). count_between (has_counted minutes e) start stop) (history_of problem member) (fixed_of problem member) in
    omega (arith, whole, past, coming, parts)

-- numbers for the first windows, one after another
pub spread_none : (n : ℕ) (of : Window → ℕ) → replicate n 0 ≡ spread n of []
spread_none zero of = refl
spread_none (suc n) of = ap (λ (xs : List ℕ). 0 ∷ xs) (spread_none n of)

pub spread_more : (n k : ℕ) (of : Window → ℕ) (ws : List Window) (d : Window) → k < n → k < length ws
    → set (spread n of (take k ws)) k (of (get_or ws k d)) ≡ spread n of (take (k + 1) ws)
spread_more n k of [] d lt inside = absurd (omega arith)
spread_more zero k of (w ∷ ws) d lt inside = absurd (omega arith)
spread_more (suc n) zero of (w ∷ ws) d lt inside = refl
spread_more (suc n) (suc k) of (w ∷ ws) d lt inside =
    let later : suc k + 1 ≡ suc (k + 1) = omega arith in
    rw later (ap (λ (xs : List ℕ). of w ∷ xs) (spread_more n k of ws d (omega arith) (omega arith)))

pub spread_all : (n k : ℕ) (of : Window → ℕ) (ws : List Window) → min (length ws) n ≤ k → spread n of (take k ws) ≡ spread n of ws
spread_all zero k of ws h = refl
spread_all (suc n) zero of [] h = refl
spread_all (suc n) (suc k) of [] h = refl
spread_all (suc n) zero of (w ∷ ws) h = absurd (omega arith)
spread_all (suc n) (suc k) of (w ∷ ws) h = ap (λ (xs : List ℕ). of w ∷ xs) (spread_all n k of ws (omega arith))

pub spread_step : (n k : ℕ) (of : Window → ℕ) (ws : List Window) (d : Window) (xs : List ℕ) (v : ℕ) → k < min (length ws) n
    → xs ≡ spread n of (take k ws) → v ≡ of (get_or ws k d) → set xs k v ≡ spread n of (take (k + 1) ws)
spread_step n k of ws d xs v inside before here = rw (before, here) (spread_more n k of ws d (omega arith) (omega arith))

pub spread_end : (n k : ℕ) (of : Window → ℕ) (ws : List Window) (xs : List ℕ) → min (length ws) n ≤ k
    → xs ≡ spread n of (take k ws) → xs ≡ spread n of ws
spread_end n k of ws xs done before = before ∙ spread_all n k of ws done

-- what history and fixed events count together fits
pub base_total : (problem : Problem) (member : ℕ) (minutes : Minutes) (start stop past coming : ℕ) (history fixed : List Event)
    → history ≡ history_of problem member → fixed ≡ fixed_of problem member
    → past ≡ count_between (is_counted minutes history) start stop → coming ≡ count_between (is_counted minutes fixed) start stop
    → start ≤ stop → stop ≤ start + 525600
    → (past + coming ≡ count_between (is_counted minutes (base_of problem member)) start stop) × (past + coming ≤ 525600)
base_total problem member minutes start stop past coming history fixed h f p c order width =
    let p_at : past ≡ count_between (is_counted minutes (history_of problem member)) start stop = p ∙ ap (λ (es : List Event). count_between (is_counted minutes es) start stop) h in
    let c_at : coming ≡ count_between (is_counted minutes (fixed_of problem member)) start stop = c ∙ ap (λ (es : List Event). count_between (is_counted minutes es) start stop) f in
    let whole = base_minutes problem member minutes start stop order in
    let few = count_between-le (is_counted minutes (base_of problem member)) start stop in
    (omega (arith, p_at, c_at, whole), omega (arith, p_at, c_at, whole, few))

-- so does what the duties of a pairing count
pub duties_total : (minutes : Minutes) (start stop n : ℕ) (duties ds : List Duty) → duties ≡ ds
    → n ≡ count_between (λ m. list_any (λ d. has_counted minutes (duty_event d) m) duties) start stop
    → start ≤ stop → stop ≤ start + 525600
    → (n ≡ count_between (is_counted minutes (map duty_event ds)) start stop) × (n ≤ 525600)
duties_total minutes start stop n duties ds same is order width =
    let at = is ∙ ap (λ (xs : List Duty). count_between (λ m. list_any (λ d. has_counted minutes (duty_event d) m) xs) start stop) same in
    let few = count_between-le (λ m. list_any (λ d. has_counted minutes (duty_event d) m) ds) start stop in
    (at ∙ mapped_minutes duty_event (has_counted minutes) ds start stop order, omega (arith, at, few))

-- what the legs of a duty count
pub legs_total : (minutes : Minutes) (d : Duty) (legs : List Leg) (start stop n : ℕ) → minutes ≡ Flying → legs ≡ d.legs → start ≤ stop
    → n ≡ count_between (λ m. list_any (λ l. is_between l.flown.out_at l.flown.in_at m) legs) start stop
    → n ≡ count_between (has_counted minutes (duty_event d)) start stop
legs_total Flying d legs start stop n is same order n_is =
    n_is ∙ ap (λ (xs : List Leg). count_between (λ m. list_any (λ l. is_between l.flown.out_at l.flown.in_at m) xs) start stop) same
    ∙ mapped_minutes (λ (l : Leg). l.flown) (λ (f : Flown) m. is_between f.out_at f.in_at m) d.legs start stop order
legs_total Period d legs start stop n is same order n_is = absurd (cc)

-- what is no pairing takes nothing
spread_zero : (n : ℕ) (of : Window → ℕ) (ws : List Window) → ((w : Window) → of w ≡ 0) → replicate n 0 ≡ spread n of ws
spread_zero zero of ws none = refl
spread_zero (suc n) of [] none = ap (λ (xs : List ℕ). 0 ∷ xs) (spread_zero n of [] none)
spread_zero (suc n) of (w ∷ ws) none =
    ap (λ (xs : List ℕ). 0 ∷ xs) (spread_zero n of ws none) ∙ ap (λ (x : ℕ). x ∷ spread n of ws) (sym (none w))

pub item_none : (n : ℕ) (problem : Problem) (member : ℕ) (lens : Lens) (item : ℕ) (pairings : List Pairing) → pairings ≡ problem.base.pairings
    → length pairings ≤ item → replicate n 0 ≡ spread n (window_minutes (item_events problem member lens item)) lens.windows
item_none n problem member lens item pairings same past =
    let none = slice_get_past problem.base.pairings item (subst (λ (ps : List Pairing). length ps ≤ item) same past) in
    spread_zero n (window_minutes (item_events problem member lens item)) lens.windows
    (λ w. by_pairing problem member lens w item ∙ ap (λ o. option_map_or (λ (x : Pairing). window_minutes (duties_of x) w) o 0) none)

pub item_some : (n : ℕ) (problem : Problem) (member : ℕ) (lens : Lens) (item : ℕ) (pairings : List Pairing) (x : Pairing) (windows : List Window) (result : List ℕ)
    → pairings ≡ problem.base.pairings → windows ≡ lens.windows → item < length pairings → x ≡ get_or pairings item x
    → result ≡ spread n (window_minutes (duties_of x)) windows
    → result ≡ spread n (window_minutes (item_events problem member lens item)) lens.windows
item_some n problem member lens item pairings x windows result same at inside read is =
    let found : slice_get problem.base.pairings item ≡ Some x = subst (λ (ps : List Pairing). slice_get ps item ≡ Some x) same (slice_get_read pairings (length pairings) item x refl inside read) in
    let small : item < length problem.base.pairings = subst (λ (ps : List Pairing). item < length ps) same inside in
    is ∙ ap (λ (ws : List Window). spread n (window_minutes (duties_of x)) ws) at
    ∙ ap (λ (es : List Event). spread n (window_minutes es) lens.windows) (events_at x found (less item (length problem.base.pairings) small))
  where
    less : (a b : ℕ) → a < b → nat_lt a b ≡ true
    less a b h = grind (arith, nat_tests)

    events_at : (x : Pairing) → slice_get problem.base.pairings item ≡ Some x → nat_lt item (length problem.base.pairings) ≡ true
        → duties_of x ≡ item_events problem member lens item
    events_at x found small = rw (small, found) refl
