-- Nights counted along flights, flight by flight.
use Rattle.std.proofs.Common.{◌≡◌, ℕ, zero, suc, ◌+◌, ◌-◌, min, ◌<◌, ◌≤◌, Bool, true, false, ◌&&◌, List, [], ◌∷◌, Some, None, length, get_or, drop, filter, map, refl, ap, sym, ◌∙◌, subst, arith}
use Rattle.std.specs.Prelude.{nat_lt, slice_get, if◌then◌else◌}
use Rattle.std.specs.List.{list_any, range_with_len}
use Rattle.std.specs.Option.{option_map_or}
use Rattle.std.proofs.Math.Seq.{drop-cons}
use Rattle.duty_calendar.specs.declared.event.Event.{Event}
use Rattle.duty_calendar.specs.declared.pairing.Duty.{Duty}
use Rattle.duty_calendar.specs.Minutes.{is_flight}
use Rattle.duty_calendar.specs.Nights.{is_low, infringes}
use Rattle.roster_model.specs.Spans.{duty_event}
use Rattle.line_items.specs.declared.marks.NightMarks.{NightMarks}
use Rattle.line_items.specs.NightRows.{is_soon_night, night_after, nights_after, released_after, stays_short, lead_after, all_after, flight_marks}

pub duty_night : (d : Duty) → infringes (duty_event d) ≡ list_any is_low (range_with_len d.report (d.parked - d.report))
unfolding infringes
duty_night d = refl

-- what is counted so far, and what is still to come
pub record CountsOn (begins : ℕ) (all rest : List Event) (row released lead : ℕ) (one short : Bool) : Type 0 where
  pub left : nights_after row released rest ≡ nights_after 0 begins all
  pub shorts : (short && stays_short row released rest) ≡ stays_short 0 begins all
  pub leads : lead + (if one then lead_after released rest else 0) ≡ lead_after begins all
  pub ones : (one && all_after released rest) ≡ all_after begins all

pub counts_from : (begins : ℕ) (all : List Event) → CountsOn begins all all 0 begins 0 true true
counts_from begins all = record { left = refl; shorts = refl; leads = omega arith; ones = refl }

pub counts_more : (begins : ℕ) (all : List Event) (e : Event) (es : List Event) (row released lead : ℕ) (one short : Bool) (row_now released_now lead_now : ℕ) (one_now short_now : Bool)
    → CountsOn begins all (e ∷ es) row released lead one short
    → row_now ≡ night_after row released e → released_now ≡ e.release
    → lead_now ≡ lead + (if one && is_soon_night released e then 1 else 0) → one_now ≡ (one && is_soon_night released e)
    → short_now ≡ (short && nat_lt row_now 4)
    → CountsOn begins all es row_now released_now lead_now one_now short_now
counts_more begins all e es row released lead one short row_now released_now lead_now one_now short_now before rows ends leads ones shorts =
    moved row_now released_now lead_now one_now short_now rows ends leads ones (shorts ∙ ap (λ (n : ℕ). short && nat_lt n 4) rows)
    (record {
      left = before.left;
      shorts = and_move short (nat_lt (night_after row released e) 4) (stays_short (night_after row released e) e.release es) ∙ before.shorts;
      leads = lead_more one (is_soon_night released e) (lead_after e.release es) ∙ before.leads;
      ones = and_move one (is_soon_night released e) (all_after e.release es) ∙ before.ones;
    })
  where
    and_move : (a b c : Bool) → ((a && b) && c) ≡ (a && (b && c))
    and_move true b c = refl
    and_move false b c = refl

    lead_more : (a b : Bool) (n : ℕ) → (lead + (if a && b then 1 else 0)) + (if a && b then n else 0) ≡ lead + (if a then (if b then suc n else 0) else 0)
    lead_more true true n = omega arith
    lead_more true false n = omega arith
    lead_more false b n = omega arith

    moved : (r u l : ℕ) (o s : Bool) → r ≡ night_after row released e → u ≡ e.release → l ≡ lead + (if one && is_soon_night released e then 1 else 0) → o ≡ (one && is_soon_night released e)
        → s ≡ (short && nat_lt (night_after row released e) 4)
        → CountsOn begins all es (night_after row released e) e.release (lead + (if one && is_soon_night released e then 1 else 0)) (one && is_soon_night released e) (short && nat_lt (night_after row released e) 4)
        → CountsOn begins all es r u l o s
    moved r u l o s p q v w x h =
        subst (λ (n : ℕ). CountsOn begins all es n u l o s) (sym p)
        (subst (λ (n : ℕ). CountsOn begins all es (night_after row released e) n l o s) (sym q)
        (subst (λ (n : ℕ). CountsOn begins all es (night_after row released e) e.release n o s) (sym v)
        (subst (λ (b : Bool). CountsOn begins all es (night_after row released e) e.release (lead + (if one && is_soon_night released e then 1 else 0)) b s) (sym w)
        (subst (λ (b : Bool). CountsOn begins all es (night_after row released e) e.release (lead + (if one && is_soon_night released e then 1 else 0)) (one && is_soon_night released e) b) (sym x) h))))

-- the rest of a list, by its first element
pub rest_at : {X : Type 0} (xs : List X) (k : ℕ) (d : X) → k < length xs → drop k xs ≡ get_or xs k d ∷ drop (k + 1) xs
rest_at {X} xs k d lt = let e : suc k ≡ k + 1 = omega arith in drop-cons xs k d lt ∙ ap (λ (n : ℕ). get_or xs k d ∷ drop n xs) e

pub none_left : {X : Type 0} (xs : List X) (k : ℕ) → length xs ≤ k → drop k xs ≡ []
none_left [] zero le = refl
none_left [] (suc k) le = refl
none_left (x ∷ xs) zero le = absurd (omega arith)
none_left (x ∷ xs) (suc k) le = none_left xs k (omega arith)

-- one duty more
pub duties_more : (begins : ℕ) (duties : List Duty) (k : ℕ) (d x : Duty) (row released lead : ℕ) (one short : Bool) (row_now released_now lead_now : ℕ) (one_now short_now : Bool)
    → k < length duties → x ≡ get_or duties k d
    → CountsOn begins (map duty_event duties) (map duty_event (drop k duties)) row released lead one short
    → row_now ≡ night_after row released (duty_event x) → released_now ≡ x.release
    → lead_now ≡ lead + (if one && is_soon_night released (duty_event x) then 1 else 0) → one_now ≡ (one && is_soon_night released (duty_event x))
    → short_now ≡ (short && nat_lt row_now 4)
    → CountsOn begins (map duty_event duties) (map duty_event (drop (k + 1) duties)) row_now released_now lead_now one_now short_now
duties_more begins duties k d x row released lead one short row_now released_now lead_now one_now short_now inside same before rows ends leads ones shorts =
    counts_more begins (map duty_event duties) (duty_event x) (map duty_event (drop (k + 1) duties)) row released lead one short row_now released_now lead_now one_now short_now
    (subst (λ (es : List Event). CountsOn begins (map duty_event duties) es row released lead one short)
    (ap (λ (ds : List Duty). map duty_event ds) (rest_at duties k d inside ∙ ap (λ (y : Duty). y ∷ drop (k + 1) duties) (sym same))) before)
    rows ends leads ones shorts

-- where no row was before, it is no matter when it ended
none_short : (released : ℕ) (es : List Event) → stays_short 0 released es ≡ stays_short 0 0 es
none_short released [] = refl
none_short released (e ∷ es) = ap (λ (m : ℕ). nat_lt m 4 && stays_short m e.release es) (one (infringes e) (nat_lt e.report (released + 1800)) (nat_lt e.report (0 + 1800)))
  where
    one : (a b c : Bool) → (if a then (if b then 0 + 1 else 1) else 0) ≡ (if a then (if c then 0 + 1 else 1) else 0)
    one true true true = refl
    one true true false = refl
    one true false true = refl
    one true false false = refl
    one false b c = refl

none_row : (released : ℕ) (es : List Event) → nights_after 0 released es ≡ nights_after 0 0 es
none_row released [] = refl
none_row released (e ∷ es) = ap (λ (m : ℕ). nights_after m e.release es) (one (infringes e) (nat_lt e.report (released + 1800)) (nat_lt e.report (0 + 1800)))
  where
    one : (a b c : Bool) → (if a then (if b then 0 + 1 else 1) else 0) ≡ (if a then (if c then 0 + 1 else 1) else 0)
    one true true true = refl
    one true true false = refl
    one true false true = refl
    one true false false = refl
    one false b c = refl

-- all are counted
pub marks_counted : (begins until : ℕ) (duties : List Duty) (k row released lead : ℕ) (one short : Bool) (marks : NightMarks) → length duties ≤ k
    → CountsOn begins (map duty_event duties) (map duty_event (drop k duties)) row released lead one short
    → marks ≡ record { until = until; lead = (if short then lead else 4); reset = (if one then None else Some row); alone = (if short then 0 else 4); row = row }
    → marks ≡ record {
      until = until;
      lead = (if stays_short 0 0 (map duty_event duties) then lead_after begins (map duty_event duties) else 4);
      reset = (if all_after begins (map duty_event duties) then None else Some (nights_after 0 0 (map duty_event duties)));
      alone = (if stays_short 0 0 (map duty_event duties) then 0 else 4);
      row = nights_after 0 0 (map duty_event duties);
    }
marks_counted begins until duties k row released lead one short marks past counted is =
    is ∙ build row (nights_after 0 0 (map duty_event duties)) lead (lead_after begins (map duty_event duties)) one (all_after begins (map duty_event duties)) short (stays_short 0 0 (map duty_event duties))
    (now.left ∙ none_row begins (map duty_event duties))
    (leads one lead now.leads) (ones one now.ones) (ones short now.shorts ∙ none_short begins (map duty_event duties))
  where
    now : CountsOn begins (map duty_event duties) [] row released lead one short
    now = subst (λ (ds : List Duty). CountsOn begins (map duty_event duties) (map duty_event ds) row released lead one short) (none_left duties k past) counted

    leads : (b : Bool) (n : ℕ) → n + (if b then 0 else 0) ≡ lead_after begins (map duty_event duties) → n ≡ lead_after begins (map duty_event duties)
    leads true n h = omega arith
    leads false n h = omega arith

    ones : {c : Bool} (b : Bool) → (b && true) ≡ c → b ≡ c
    ones true h = h
    ones false h = h

    build : (a b c d : ℕ) (e f g h : Bool) → a ≡ b → c ≡ d → e ≡ f → g ≡ h
        → ◌≡◌ {A = NightMarks} (record { until = until; lead = (if g then c else 4); reset = (if e then None else Some a); alone = (if g then 0 else 4); row = a })
        (record { until = until; lead = (if h then d else 4); reset = (if f then None else Some b); alone = (if h then 0 else 4); row = b })
    build a b c d e f g h p q r s = rw (p, q, r, s) refl

-- the flights of a list, by its first event
rest_flights : (es : List Event) (k : ℕ) (d x : Event) (b : Bool) → k < length es → x ≡ get_or es k d → is_flight x.kind ≡ b
    → filter (λ e. is_flight e.kind) (drop k es) ≡ (if b then x ∷ filter (λ e. is_flight e.kind) (drop (k + 1) es) else filter (λ e. is_flight e.kind) (drop (k + 1) es))
rest_flights es k d x b inside same is =
    ap (λ (l : List Event). filter (λ e. is_flight e.kind) l) (rest_at es k d inside ∙ ap (λ (y : Event). y ∷ drop (k + 1) es) (sym same))
    ∙ ap (λ (t : Bool). if t then x ∷ filter (λ e. is_flight e.kind) (drop (k + 1) es) else filter (λ e. is_flight e.kind) (drop (k + 1) es)) is

abbrev pub at_flight_of : List Event → ℕ → NightMarks → NightMarks
at_flight_of es n other = option_map_or flight_marks (slice_get (filter (λ e. is_flight e.kind) es) n) other

pub place_passed : (es : List Event) (k : ℕ) (d x : Event) (left : ℕ) (other : NightMarks) → k < length es → x ≡ get_or es k d → is_flight x.kind ≡ false
    → at_flight_of (drop k es) left other ≡ at_flight_of (drop (k + 1) es) left other
place_passed es k d x left other inside same idle =
    ap (λ (l : List Event). option_map_or flight_marks (slice_get l left) other) (rest_flights es k d x false inside same idle)

pub place_more : (es : List Event) (k : ℕ) (d x : Event) (left now : ℕ) (other : NightMarks) → k < length es → x ≡ get_or es k d → is_flight x.kind ≡ true → left ≡ now + 1
    → at_flight_of (drop k es) left other ≡ at_flight_of (drop (k + 1) es) now other
place_more es k d x left now other inside same flies more =
    ap (λ (l : List Event). option_map_or flight_marks (slice_get l left) other) (rest_flights es k d x true inside same flies)
    ∙ ap (λ (n : ℕ). option_map_or flight_marks (slice_get (x ∷ filter (λ e. is_flight e.kind) (drop (k + 1) es)) n) other) (let e : left ≡ suc now = omega arith in e)

pub place_found : (es : List Event) (k : ℕ) (d x : Event) (left : ℕ) (other : NightMarks) → k < length es → x ≡ get_or es k d → is_flight x.kind ≡ true → left ≡ 0
    → at_flight_of (drop k es) left other ≡ flight_marks x
place_found es k d x left other inside same flies none =
    ap (λ (l : List Event). option_map_or flight_marks (slice_get l left) other) (rest_flights es k d x true inside same flies)
    ∙ ap (λ (n : ℕ). option_map_or flight_marks (slice_get (x ∷ filter (λ e. is_flight e.kind) (drop (k + 1) es)) n) other) none

pub place_none : (es : List Event) (k left : ℕ) (other : NightMarks) → length es ≤ k → at_flight_of (drop k es) left other ≡ other
place_none es k left other past = ap (λ (l : List Event). at_flight_of l left other) (none_left es k past)

-- three nights in a row are as bad as more
capped : (n m released : ℕ) (es : List Event) → min 3 n ≡ min 3 m → min 3 (nights_after n released es) ≡ min 3 (nights_after m released es)
capped n m released [] same = same
capped n m released (e ∷ es) same = capped (night_after n released e) (night_after m released e) e.release es (go (infringes e) (nat_lt e.report (released + 1800)))
  where
    go : (a b : Bool) → min 3 (if a then (if b then n + 1 else 1) else 0) ≡ min 3 (if a then (if b then m + 1 else 1) else 0)
    go true true = omega arith
    go true false = refl
    go false b = refl

-- the row before the month, so far
pub record IsPast (events rest : List Event) (row released : ℕ) : Type 0 where
  pub few : row ≤ 3
  pub rows : min 3 (nights_after row released (filter (λ e. is_flight e.kind) rest)) ≡ min 3 (nights_after 0 0 (filter (λ e. is_flight e.kind) events))
  pub ends : released_after released (filter (λ e. is_flight e.kind) rest) ≡ released_after 0 (filter (λ e. is_flight e.kind) events)

pub past_from : (events : List Event) → IsPast events events 0 0
past_from events = record { few = omega arith; rows = refl; ends = refl }

pub past_passed : (events : List Event) (k : ℕ) (d x : Event) (row released : ℕ) → k < length events → x ≡ get_or events k d → is_flight x.kind ≡ false
    → IsPast events (drop k events) row released → IsPast events (drop (k + 1) events) row released
past_passed events k d x row released inside same idle before =
    let rest = rest_flights events k d x false inside same idle in
    record {
      few = before.few;
      rows = sym (ap (λ (l : List Event). min 3 (nights_after row released l)) rest) ∙ before.rows;
      ends = sym (ap (λ (l : List Event). released_after released l) rest) ∙ before.ends;
    }

pub past_more : (events : List Event) (k : ℕ) (d x : Event) (row released now until : ℕ) → k < length events → x ≡ get_or events k d → is_flight x.kind ≡ true
    → now ≡ min (night_after row released x) 3 → until ≡ x.release
    → IsPast events (drop k events) row released → IsPast events (drop (k + 1) events) now until
past_more events k d x row released now until inside same flies is ends before =
    let rest = rest_flights events k d x true inside same flies in
    let flown = filter (λ (e : Event). is_flight e.kind) (drop (k + 1) events) in
    let equal : min 3 now ≡ min 3 (night_after row released x) = omega (arith, is) in
    record {
      few = omega (arith, is);
      rows = ap (λ (u : ℕ). min 3 (nights_after now u flown)) ends ∙ capped now (night_after row released x) x.release flown equal
          ∙ sym (ap (λ (l : List Event). min 3 (nights_after row released l)) rest) ∙ before.rows;
      ends = ap (λ (u : ℕ). released_after u flown) ends ∙ sym (ap (λ (l : List Event). released_after released l) rest) ∙ before.ends;
    }

pub past_whole : (events : List Event) (k row released : ℕ) → length events ≤ k → IsPast events (drop k events) row released
    → (row ≡ min 3 (nights_after 0 0 (filter (λ e. is_flight e.kind) events))) × (released ≡ released_after 0 (filter (λ e. is_flight e.kind) events))
past_whole events k row released past counted =
    let now = subst (λ (es : List Event). IsPast events es row released) (none_left events k past) counted in
    let rows : min 3 row ≡ min 3 (nights_after 0 0 (filter (λ e. is_flight e.kind) events)) = now.rows in
    let few = now.few in
    let same : row ≡ min 3 row = omega arith in
    (same ∙ rows, now.ends)
