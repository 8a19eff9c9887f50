-- Sorted times of duty: which minutes they have, and the latest gap between them.
use Rattle.std.proofs.Common.{◌≡◌, ℕ, zero, suc, ◌+◌, ◌-◌, min, max, ◌<◌, ◌≤◌, Bool, true, false, ◌&&◌, ◌||◌, List, [], ◌∷◌, ◌++◌, Option, Some, None, length, get_or, take, refl, ap, sym, ◌∙◌, subst, arith, inl, inr, ◌⊎◌, append-nil}
use Rattle.std.specs.Prelude.{nat_le, nat_lt, filter, All, map, slice_get, if◌then◌else◌}
use Rattle.std.specs.List.{AllByRecursion}
use Rattle.std.specs.List.Sorted.{IsNonDecreasingBy, IsPermutation}
use Rattle.std.specs.Option.{option_map_or}
use Rattle.std.proofs.lemmas.Bool.{false≢true, true≢false, cases_lt}
use Rattle.std.proofs.lemmas.Bool.Decides.{nat_tests}
use Rattle.std.proofs.lemmas.List.{get_or_default, get_or-take, length-take}
use Rattle.std.proofs.lemmas.Option.{slice_get_past, slice_get_read}
use Rattle.std.proofs.lemmas.List.Elements.{All-more, All-from_recursion}
use Rattle.std.proofs.lemmas.List.Folds.{list_any-append, list_any_none, list_any_at}
use Rattle.std.proofs.lemmas.List.Sorted.{list_any-IsPermutation, All-permutation}
use Rattle.duty_calendar.specs.declared.event.Event.{Event}
use Rattle.duty_calendar.specs.declared.interval.Interval.{Interval}
use Rattle.duty_calendar.specs.declared.pairing.Duty.{Duty}
use Rattle.duty_calendar.specs.declared.pairing.Pairing.{Pairing}
use Rattle.duty_calendar.specs.Minutes.{is_in, is_between, is_duty, has_duty, is_duty_minute}
use Rattle.roster_model.specs.declared.problem.Problem.{Problem}
use Rattle.roster_model.specs.declared.proof.Lens.{Lens}
use Rattle.roster_model.specs.Spans.{duty_event, event_span}
use Rattle.line_items.specs.Clear.{base_of, duties_of}
use Rattle.line_items.specs.DutyTimes.{added_duties, duty_spans, is_timed, AreTimes, IsTimetable}
use Rattle.line_items.specs.FreeBlocks.{last_block, is_served, least_start}
use Rattle.line_items.specs.Items.{item_events, visited_flights}
use Rattle.line_items.proofs.Blocks.{Lies, last_block_some, last_block_none}
use Rattle.line_items.proofs.Following.{AreDuties, InOrder}
use Rattle.line_items.proofs.LineParts.{all_join}
use Rattle.line_items.proofs.Resting.{Lasts}
use Rattle.line_items.proofs.SoundMonth.{sound_month}

not_true : (v : Bool) → (v ≡ true → ⊥) → v ≡ false
not_true true no_way = absurd (no_way refl)
not_true false no_way = refl

between_parts : (a b m : ℕ) → is_between a b m ≡ true → (a ≤ m) × (m < b)
between_parts a b m h = (grind (arith, nat_tests), grind (arith, nat_tests))

between_from : (a b m : ℕ) → a ≤ m → m < b → is_between a b m ≡ true
between_from a b m low high = grind (arith, nat_tests)

-- 1,800 minutes without such a time between two minutes
pub record LiesIn (times : List Interval) (low high t : ℕ) : Type 0 where
  pub after : low ≤ t
  pub before : t + 1800 ≤ high
  pub free : (m : ℕ) → t ≤ m → m < t + 1800 → is_timed times m ≡ false

in_events : (events : List Event) (times : List Interval) (low high t : ℕ) → AreTimes events low times → LiesIn times low high t → Lies events low high t
in_events events times low high t same lies = record {
  after = lies.after;
  before = lies.before;
  free = λ m a b. sym (same m (omega (arith, a, lies.after))) ∙ lies.free m a b;
}

in_times : (events : List Event) (times : List Interval) (low high t : ℕ) → AreTimes events low times → Lies events low high t → LiesIn times low high t
in_times events times low high t same lies = record {
  after = lies.after;
  before = lies.before;
  free = λ m a b. same m (omega (arith, a, lies.after)) ∙ lies.free m a b;
}

-- of all that begin before a bound this is the latest
abbrev pub BestBefore : List Interval → ℕ → ℕ → ℕ → Option ℕ → Type 0
BestBefore times low high bound None = (t : ℕ) → LiesIn times low high t → bound ≤ t
BestBefore times low high bound (Some best) =
    LiesIn times low high best × ((t : ℕ) → LiesIn times low high t → t < bound → t ≤ best)

abbrev pub Ended : List Interval → ℕ → ℕ → Type 0
Ended times bound k = All (λ s. s.stop ≤ bound) (take k times)

pub none_ended : (times : List Interval) (bound : ℕ) → Ended times bound 0
none_ended times bound k d lt = absurd (omega arith)

-- such a block ends before each time or begins after it
beside : (times : List Interval) (k : ℕ) (d : Interval) (low high t : ℕ) → k < length times
    → (get_or times k d).start < (get_or times k d).stop → LiesIn times low high t
    → (t + 1800 ≤ (get_or times k d).start) ⊎ ((get_or times k d).stop ≤ t)
beside times k d low high t inside last lies =
    elim (cases_lt (get_or times k d).start (t + 1800)) [
      | inr before ↦ inl before
      | inl starts ↦ elim (cases_lt t (get_or times k d).stop) [
        | inr after ↦ inr after
        | inl stops ↦
            let m : ℕ = max t (get_or times k d).start in
            let busy : is_timed times m ≡ true =
            list_any_at (λ s. is_in s m) times k d inside (between_from (get_or times k d).start (get_or times k d).stop m (omega arith) (omega arith)) in
            absurd (true≢false (sym busy ∙ lies.free m (omega arith) (omega arith)))
      ]
    ]

-- a gap after the times that have ended and before those that follow
gap : (times : List Interval) (k low high free_from until : ℕ) → Ended times free_from k
    → ((j : ℕ) (d : Interval) → k ≤ j → j < length times → until ≤ (get_or times j d).start)
    → low ≤ free_from → until ≤ high → free_from + 1800 ≤ until → LiesIn times low high (until - 1800)
gap times k low high free_from until ended begins order ends fits = record {
  after = omega arith;
  before = omega arith;
  free = λ m first past. list_any_none (λ s. is_in s m) times (λ j d within.
      not_true (is_in (get_or times j d) m) (λ busy.
      let bounds = between_parts (get_or times j d).start (get_or times j d).stop m busy in
      elim (cases_lt j k) [
        | inl earlier ↦
            let short : j < length (take k times) = omega (arith, length-take k times) in
            let P : Interval → Type 0 = λ s. s.stop ≤ free_from in
            let done : (get_or times j d).stop ≤ free_from = subst P (get_or-take k times j d earlier) (ended j d short) in
            omega (arith, bounds)
        | inr later ↦ omega (arith, bounds, begins j d later within)
      ]));
}

starts_after : (times : List Interval) (k : ℕ) (d : Interval) → IsTimetable times → k < length times
    → (j : ℕ) (e : Interval) → k ≤ j → j < length times → (get_or times k d).start ≤ (get_or times j e).start
starts_after times k d table inside j e order within =
    let up : (get_or times k e).start ≤ (get_or times j e).start = table.sorted k j e order within in
    let same : (get_or times k d).start ≡ (get_or times k e).start = ap (λ (s : Interval). s.start) (get_or_default times k d e inside) in
    omega arith

pub ended_more : (times : List Interval) (k : ℕ) (d : Interval) (old new : ℕ) → k < length times → Ended times old k
    → new ≡ max old (get_or times k d).stop → Ended times new (k + 1)
ended_more times k d old new inside ended is =
    All-more (λ s. s.stop ≤ new) times k (get_or times k d) inside
    (λ j e lt. let done : (get_or (take k times) j e).stop ≤ old = ended j e lt in omega arith)
    (let same : (get_or times k (get_or times k d)).stop ≡ (get_or times k d).stop =
    ap (λ (s : Interval). s.stop) (get_or_default times k (get_or times k d) d inside) in
    omega arith)

-- one time more, with a gap before it
pub best_found : (times : List Interval) (k : ℕ) (d : Interval) (low high old new until : ℕ) (last : Option ℕ) → IsTimetable times
    → k < length times → low ≤ old → Ended times old k → BestBefore times low high old last
    → until ≡ min (get_or times k d).start high → old + 1800 ≤ until → new ≡ max old (get_or times k d).stop
    → BestBefore times low high new (Some (until - 1800))
best_found times k d low high old new until last table inside order ended best is fits next = (
  gap times k low high old until ended
      (λ j e after within. let up = starts_after times k d table inside j e after within in omega arith)
      order (omega arith) fits,
  λ t lies lt. elim (beside times k d low high t inside (table.last k d inside) lies) [
    | inl before ↦ omega (arith, lies.before)
    | inr after ↦ omega arith
  ],
)

-- or with none
pub best_kept : (times : List Interval) (k : ℕ) (d : Interval) (low high old new until : ℕ) (last : Option ℕ) → IsTimetable times
    → k < length times → BestBefore times low high old last
    → until ≡ min (get_or times k d).start high → until < old + 1800 → new ≡ max old (get_or times k d).stop
    → BestBefore times low high new last
best_kept times k d low high old new until None table inside best is short next = λ t lies.
    let old_le = best t lies in
    elim (beside times k d low high t inside (table.last k d inside) lies) [
      | inl before ↦ absurd (omega (arith, lies.before))
      | inr after ↦ omega arith
    ]
best_kept times k d low high old new until (Some b) table inside best is short next = (
  best.0,
  λ t lies lt. elim (beside times k d low high t inside (table.last k d inside) lies) [
    | inl before ↦ best.1 t lies (omega (arith, lies.before))
    | inr after ↦ best.1 t lies (omega arith)
  ],
)

-- and after all of them
pub last_found : (times : List Interval) (k low high free_from : ℕ) → length times ≤ k → Ended times free_from k → low ≤ free_from
    → free_from + 1800 ≤ high → (events : List Event) → AreTimes events low times → Some (high - 1800) ≡ last_block events low high
last_found times k low high free_from all ended order fits events same =
    sym (last_block_some events low high (high - 1800)
    (in_events events times low high (high - 1800) same
    (gap times k low high free_from high ended (λ j d after within. absurd (omega arith)) order (omega arith) fits))
    (λ s lies. omega (arith, lies.before)))

pub last_kept : (times : List Interval) (low high free_from : ℕ) (last : Option ℕ) → high < free_from + 1800
    → BestBefore times low high free_from last → (events : List Event) → AreTimes events low times → last ≡ last_block events low high
last_kept times low high free_from None short best events same =
    sym (last_block_none events low high (λ s lies.
    let le = best s (in_times events times low high s same lies) in
    absurd (omega (arith, lies.before))))
last_kept times low high free_from (Some b) short best events same =
    sym (last_block_some events low high b (in_events events times low high b same best.0)
    (λ s lies. best.1 s (in_times events times low high s same lies) (omega (arith, lies.before))))

-- whether a report is served, by the latest block
pub served_by_last : (events : List Event) (first report : ℕ) (o : Option ℕ) → o ≡ last_block events first report
    → (start : ℕ) → o ≡ Some start → nat_le (report - 10080) start ≡ is_served events first report
served_by_last events first report o is start found =
    sym (ap (λ (p : Option ℕ). option_map_or (λ s. nat_le report (s + 10080)) p false) (sym is ∙ found) ∙ same start)
  where
    same : (s : ℕ) → nat_le report (s + 10080) ≡ nat_le (report - 10080) s
    same s = grind (arith, nat_tests)

pub unserved_by_none : (events : List Event) (first report : ℕ) (o : Option ℕ) → o ≡ last_block events first report
    → o ≡ None → false ≡ is_served events first report
unserved_by_none events first report o is none =
    sym (ap (λ (p : Option ℕ). option_map_or (λ s. nat_le report (s + 10080)) p false) (sym is ∙ none))

-- the times of events
span_of : (from : ℕ) (e : Event) (rest : List Event) → (is_duty e.kind && nat_lt from e.release) ≡ true
    → duty_spans from (e ∷ rest) ≡ event_span e ∷ duty_spans from rest
span_of from e rest late =
    ap (λ (b : Bool). map event_span (if b then e ∷ filter (λ x. is_duty x.kind && nat_lt from x.release) rest else filter (λ x. is_duty x.kind && nat_lt from x.release) rest)) late

no_span : (from : ℕ) (e : Event) (rest : List Event) → (is_duty e.kind && nat_lt from e.release) ≡ false
    → duty_spans from (e ∷ rest) ≡ duty_spans from rest
no_span from e rest none =
    ap (λ (b : Bool). map event_span (if b then e ∷ filter (λ x. is_duty x.kind && nat_lt from x.release) rest else filter (λ x. is_duty x.kind && nat_lt from x.release) rest)) none

-- an event that ends before a minute doesn't have it
with_duty : (d : Bool) (from a b m : ℕ) → (d && nat_lt from b) ≡ true → is_between a b m ≡ (d && is_between a b m)
with_duty true from a b m late = refl
with_duty false from a b m late = absurd (false≢true late)

no_duty : (d : Bool) (from a b m : ℕ) → (d && nat_lt from b) ≡ false → from ≤ m → false ≡ (d && is_between a b m)
no_duty true from a b m none le = grind (arith, nat_tests)
no_duty false from a b m none le = refl

pub spans_timed : (from : ℕ) (events : List Event) → AreTimes events from (duty_spans from events)
spans_timed from [] m le = refl
spans_timed from (e ∷ es) m le = go (is_duty e.kind && nat_lt from e.release) refl (spans_timed from es m le)
  where
    go : (b : Bool) → (is_duty e.kind && nat_lt from e.release) ≡ b → is_timed (duty_spans from es) m ≡ is_duty_minute es m
        → is_timed (duty_spans from (e ∷ es)) m ≡ ((is_duty e.kind && is_between e.report e.release m) || is_duty_minute es m)
    go true late rest =
        ap (λ (l : List Interval). is_timed l m) (span_of from e es late)
        ∙ ap (λ (b : Bool). is_between e.report e.release m || b) rest
        ∙ ap (λ (b : Bool). b || is_duty_minute es m) (with_duty (is_duty e.kind) from e.report e.release m late)
    go false none rest =
        ap (λ (l : List Interval). is_timed l m) (no_span from e es none) ∙ rest
        ∙ ap (λ (b : Bool). b || is_duty_minute es m) (no_duty (is_duty e.kind) from e.report e.release m none le)

abbrev AllLast : List Interval → Type 0
AllLast spans = AllByRecursion (λ (s : Interval). s.start < s.stop) spans

spans_last : (from : ℕ) (events : List Event) → AllByRecursion Lasts events → AllLast (duty_spans from events)
spans_last from [] all = tt
spans_last from (e ∷ es) all = go (is_duty e.kind && nat_lt from e.release) refl (spans_last from es all.1)
  where
    go : (b : Bool) → (is_duty e.kind && nat_lt from e.release) ≡ b → AllLast (duty_spans from es) → AllLast (duty_spans from (e ∷ es))
    go true late rest = subst AllLast (sym (span_of from e es late)) (all.0.lasts, rest)
    go false none rest = subst AllLast (sym (no_span from e es none)) rest

-- and of duties
pub duties_timed : (ds : List Duty) (m : ℕ) → is_timed (map event_span (map duty_event ds)) m ≡ is_duty_minute (map duty_event ds) m
duties_timed [] m = refl
duties_timed (d ∷ ds) m = ap (λ (b : Bool). is_between d.report d.release m || b) (duties_timed ds m)

duties_last : (ds : List Duty) → InOrder ds → AllLast (map event_span (map duty_event ds))
duties_last [] order = tt
duties_last (d ∷ ds) order = (order.0, duties_last ds order.2)

pairing_last : (problem : Problem) (n : ℕ) (x : Pairing) → slice_get problem.base.pairings n ≡ Some x → AllLast (map event_span (duties_of x))
pairing_last problem n x is = go x.duties ((sound_month problem 0).duties n x is)
  where
    go : (ds : List Duty) → AreDuties ds → AllLast (map event_span (map duty_event ds))
    go [] sound = absurd sound
    go (d ∷ ds) sound = duties_last (d ∷ ds) sound

-- the events of an item, whatever the lens
pub item_adds : (problem : Problem) (member : ℕ) (lens : Lens) (item : ℕ) → item_events problem member lens item ≡ added_duties problem.base.pairings item
item_adds problem member lens item = go (nat_lt item (length problem.base.pairings)) refl
  where
    nothing : (o : Option Event) → ◌≡◌ {A = List Event} (option_map_or (λ e. []) o []) []
    nothing None = refl
    nothing (Some e) = refl

    past : nat_lt item (length problem.base.pairings) ≡ false → length problem.base.pairings ≤ item
    past h = above_it item (length problem.base.pairings) h
      where
        above_it : (a b : ℕ) → nat_lt a b ≡ false → b ≤ a
        above_it a b t = grind (arith, nat_tests)

    go : (b : Bool) → nat_lt item (length problem.base.pairings) ≡ b
        → (if b then added_duties problem.base.pairings item
        else option_map_or (λ e. []) (slice_get (visited_flights problem member lens) (item - length problem.base.pairings)) [])
        ≡ added_duties problem.base.pairings item
    go true is = refl
    go false is =
        nothing (slice_get (visited_flights problem member lens) (item - length problem.base.pairings))
        ∙ sym (ap (λ (o : Option Pairing). option_map_or duties_of o []) (slice_get_past problem.base.pairings item (past is)))

-- all times of an item
abbrev item_spans : Problem → ℕ → ℕ → ℕ → List Interval
item_spans problem member item from = duty_spans from (base_of problem member) ++ map event_span (added_duties problem.base.pairings item)

item_spans_timed : (problem : Problem) (member item from m : ℕ) → from ≤ m
    → is_timed (item_spans problem member item from) m ≡ is_duty_minute (base_of problem member ++ added_duties problem.base.pairings item) m
item_spans_timed problem member item from m le =
    list_any-append (λ s. is_in s m) (duty_spans from (base_of problem member)) (map event_span (added_duties problem.base.pairings item))
    ∙ ap (λ (b : Bool). b || is_timed (map event_span (added_duties problem.base.pairings item)) m) (spans_timed from (base_of problem member) m le)
    ∙ ap (λ (b : Bool). is_duty_minute (base_of problem member) m || b) (added (slice_get problem.base.pairings item))
    ∙ sym (list_any-append (λ e. has_duty e m) (base_of problem member) (added_duties problem.base.pairings item))
  where
    added : (o : Option Pairing) → is_timed (map event_span (option_map_or duties_of o [])) m ≡ is_duty_minute (option_map_or duties_of o []) m
    added None = refl
    added (Some x) = duties_timed x.duties m

item_spans_last : (problem : Problem) (member item from : ℕ) → AllLast (item_spans problem member item from)
item_spans_last problem member item from =
    all_join (λ (s : Interval). s.start < s.stop) (duty_spans from (base_of problem member)) (map event_span (added_duties problem.base.pairings item))
    (spans_last from (base_of problem member) (sound_month problem member).events)
    (go (slice_get problem.base.pairings item) refl)
  where
    go : (o : Option Pairing) → slice_get problem.base.pairings item ≡ o → AllLast (map event_span (option_map_or duties_of o []))
    go None is = tt
    go (Some x) is = pairing_last problem item x is

-- what is pushed
pub with_item : (base : List Event) (from : ℕ) (pairings : List Pairing) (item : ℕ) (x : Pairing) (ds : List Duty) (old new : List Interval)
    → item < length pairings → x ≡ get_or pairings item x → ds ≡ x.duties → old ≡ duty_spans from base
    → new ≡ old ++ map event_span (map duty_event ds) → new ≡ duty_spans from base ++ map event_span (added_duties pairings item)
with_item base from pairings item x ds old new inside read are before more =
    more
    ∙ ap (λ (l : List Interval). l ++ map event_span (map duty_event ds)) before
    ∙ ap (λ (l : List Duty). duty_spans from base ++ map event_span (map duty_event l)) are
    ∙ ap (λ (o : Option Pairing). duty_spans from base ++ map event_span (option_map_or duties_of o [])) (sym (slice_get_read pairings (length pairings) item x refl inside read))

pub without_item : (base : List Event) (from : ℕ) (pairings : List Pairing) (item : ℕ) (old : List Interval)
    → length pairings ≤ item → old ≡ duty_spans from base → old ≡ duty_spans from base ++ map event_span (added_duties pairings item)
without_item base from pairings item old past before =
    before
    ∙ sym (append-nil (duty_spans from base))
    ∙ ap (λ (o : Option Pairing). duty_spans from base ++ map event_span (option_map_or duties_of o [])) (sym (slice_get_past pairings item past))

-- the sorted times of an item
pub item_table : (problem : Problem) (member item from : ℕ) (spans times : List Interval)
    → spans ≡ duty_spans from (base_of problem member) ++ map event_span (added_duties problem.base.pairings item) → IsPermutation spans times
    → IsNonDecreasingBy (λ s. s.start) times → IsTimetable times
item_table problem member item from spans times is moved sorted = record {
  sorted = sorted;
  last = All-permutation (λ s. s.start < s.stop) spans times moved
      (subst (λ (l : List Interval). All (λ s. s.start < s.stop) l) (sym is)
      (All-from_recursion (λ (s : Interval). s.start < s.stop) (item_spans problem member item from) (item_spans_last problem member item from)));
}

pub item_times : (problem : Problem) (member item from : ℕ) (spans times : List Interval)
    → spans ≡ duty_spans from (base_of problem member) ++ map event_span (added_duties problem.base.pairings item) → IsPermutation spans times
    → (lens : Lens) → AreTimes (base_of problem member ++ item_events problem member lens item) from times
item_times problem member item from spans times is moved lens =
    subst (λ (es : List Event). AreTimes (base_of problem member ++ es) from times) (sym (item_adds problem member lens item))
    (λ m le. sym (list_any-IsPermutation (λ s. is_in s m) spans times moved) ∙ ap (λ (l : List Interval). is_timed l m) is
    ∙ item_spans_timed problem member item from m le)

-- the sorted times of the member's own events
pub base_table : (problem : Problem) (member from : ℕ) (spans times : List Interval)
    → spans ≡ duty_spans from (base_of problem member) → IsPermutation spans times
    → IsNonDecreasingBy (λ s. s.start) times → IsTimetable times
base_table problem member from spans times is moved sorted = record {
  sorted = sorted;
  last = All-permutation (λ s. s.start < s.stop) spans times moved
      (subst (λ (l : List Interval). All (λ s. s.start < s.stop) l) (sym is)
      (All-from_recursion (λ (s : Interval). s.start < s.stop) (duty_spans from (base_of problem member)) (spans_last from (base_of problem member) (sound_month problem member).events)));
}

pub base_timed : (problem : Problem) (member from : ℕ) (spans times : List Interval)
    → spans ≡ duty_spans from (base_of problem member) → IsPermutation spans times → AreTimes (base_of problem member) from times
base_timed problem member from spans times is moved m le =
    sym (list_any-IsPermutation (λ s. is_in s m) spans times moved) ∙ ap (λ (l : List Interval). is_timed l m) is
    ∙ spans_timed from (base_of problem member) m le

-- the times of a pairing's own duties
after_first : (start : ℕ) (ds : List Duty) → AllByRecursion (λ (e : Duty). start ≤ e.report) ds
    → AllByRecursion (λ (s : Interval). start ≤ s.start) (map event_span (map duty_event ds))
after_first start [] all = tt
after_first start (d ∷ ds) all = (all.0, after_first start ds all.1)

weaker : (low high : ℕ) (ds : List Duty) → low ≤ high → AllByRecursion (λ (e : Duty). high ≤ e.report) ds → AllByRecursion (λ (e : Duty). low ≤ e.report) ds
weaker low high [] le all = tt
weaker low high (d ∷ ds) le all = (let h = all.0 in omega arith, weaker low high ds le all.1)

duties_sorted : (ds : List Duty) → InOrder ds → IsNonDecreasingBy (λ s. s.start) (map event_span (map duty_event ds))
duties_sorted [] order i j d le lt = absurd (omega arith)
duties_sorted (x ∷ ds) order zero zero d le lt = omega arith
duties_sorted (x ∷ ds) order (suc i) zero d le lt = absurd (omega arith)
duties_sorted (x ∷ ds) order zero (suc j) d le lt =
    All-from_recursion (λ (s : Interval). x.report ≤ s.start) (map event_span (map duty_event ds))
    (after_first x.report ds (weaker x.report (x.release + 600) ds (let l = order.0 in omega arith) order.1)) j d (omega arith)
duties_sorted (x ∷ ds) order (suc i) (suc j) d le lt = duties_sorted ds order.2 i j d (omega arith) (omega arith)

pub own_table : (problem : Problem) (n : ℕ) (x : Pairing) (ds : List Duty) (times : List Interval) → n < length problem.base.pairings
    → x ≡ get_or problem.base.pairings n x → ds ≡ x.duties → times ≡ map event_span (map duty_event ds) → IsTimetable times
own_table problem n x ds times inside read are is =
    let found = slice_get_read problem.base.pairings (length problem.base.pairings) n x refl inside read in
    let same : times ≡ map event_span (duties_of x) = is ∙ ap (λ (l : List Duty). map event_span (map duty_event l)) are in
    subst IsTimetable (sym same) record {
      sorted = ordered x.duties ((sound_month problem 0).duties n x found);
      last = All-from_recursion (λ (s : Interval). s.start < s.stop) (map event_span (duties_of x)) (pairing_last problem n x found);
    }
  where
    ordered : (ds : List Duty) → AreDuties ds → IsNonDecreasingBy (λ s. s.start) (map event_span (map duty_event ds))
    ordered [] sound = absurd sound
    ordered (d ∷ ds) sound = duties_sorted (d ∷ ds) sound

pub own_least : (problem : Problem) (n : ℕ) (y : Pairing) (ds : List Duty) (times : List Interval) (first least : ℕ) → n < length problem.base.pairings
    → y ≡ get_or problem.base.pairings n y → ds ≡ y.duties → times ≡ map event_span (map duty_event ds)
    → ((events : List Event) → AreTimes events first times → least ≡ least_start events first (map duty_event ds))
    → (x : Pairing) → slice_get problem.base.pairings n ≡ Some x → least ≡ least_start (duties_of x) first (duties_of x)
own_least problem n y ds times first least inside read are is each x found =
    let same : Some x ≡ Some y = sym found ∙ slice_get_read problem.base.pairings (length problem.base.pairings) n y refl inside read in
    let one : x ≡ y = some_same same in
    let duties : ds ≡ x.duties = are ∙ ap (λ (p : Pairing). p.duties) (sym one) in
    each (map duty_event ds) (λ m le. ap (λ (l : List Interval). is_timed l m) is ∙ duties_timed ds m)
    ∙ ap (λ (l : List Duty). least_start (map duty_event l) first (map duty_event l)) duties
  where
    some_same : {x y : Pairing} → Some x ≡ Some y → x ≡ y
    some_same e = cc
