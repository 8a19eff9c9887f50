-- The duty minutes of a line's events between its stops.
use Rattle.std.proofs.Common.{◌≡◌, ℕ, zero, suc, ◌-◌, ◌<◌, ◌≤◌, Bool, true, false, ◌&&◌, ◌||◌, List, [], ◌∷◌, ◌++◌, Option, Some, None, length, refl, ap, sym, ◌∙◌, subst, arith, inl, inr, ◌⊎◌}
use Rattle.std.specs.Prelude.{nat_lt, filter, AllPairs, map, slice_get, if◌then◌else◌}
use Rattle.std.specs.List.{AllByRecursion, filter_map, flat_map, cons_option}
use Rattle.std.specs.Option.{option_map_or}
use Rattle.std.proofs.lemmas.Bool.{false≢true}
use Rattle.std.proofs.lemmas.Bool.Decides.{nat_tests}
use Rattle.std.proofs.lemmas.List.Folds.{list_any-append}
use Rattle.std.proofs.lemmas.List.Elements.{recursion_from_All}
use Rattle.std.proofs.lemmas.Option.{slice_get_past}
use Rattle.duty_calendar.specs.declared.event.Event.{Event}
use Rattle.duty_calendar.specs.declared.interval.Interval.{Interval}
use Rattle.duty_calendar.specs.declared.member.Member.{Member}
use Rattle.duty_calendar.specs.declared.pairing.Duty.{Duty}
use Rattle.duty_calendar.specs.declared.pairing.Pairing.{Pairing}
use Rattle.duty_calendar.specs.Checks.{IsPairing, IsMember}
use Rattle.duty_calendar.specs.Minutes.{is_between, is_in, is_duty, has_duty, is_duty_minute}
use Rattle.duty_calendar.specs.Limits.{AreDisjoint}
use Rattle.duty_calendar.proofs.Pairs.{pairs_from_count}
use Rattle.roster_model.specs.declared.problem.Problem.{Problem}
use Rattle.roster_model.specs.declared.proof.Lens.{Lens}
use Rattle.roster_model.specs.Scores.{is_flown}
use Rattle.roster_model.specs.Spans.{duty_event, first_report, last_release, pairing_span, event_span}
use Rattle.roster_model.specs.Timelines.{history_of, fixed_of}
use Rattle.line_items.specs.Clear.{duties_of}
use Rattle.line_items.specs.Items.{by_item, visited_flights, item_count}
use Rattle.line_items.proofs.Following.{AreDuties, Within, within}
use Rattle.line_items.proofs.LineParts.{Splits, EachOf, all_first, all_second, pairs_to, pairs_cross, flown_cases}
use Rattle.line_items.proofs.LineParts.{each_of}
use Rattle.line_items.proofs.Resting.{or_false, or_false_first, or_false_second, Disjoint}

-- an element of a list that is read
pub at_read : {X : Type 0} (P : X → Type 0) (xs : List X) → AllByRecursion P xs → (n : ℕ) (x : X) → slice_get xs n ≡ Some x → P x
at_read P [] all n x is = cc
at_read {X} P (y ∷ ys) all zero x is = let same : y ≡ x = cc in subst P same all.0
at_read P (y ∷ ys) all (suc n) x is = at_read P ys all.1 n x is

pub all_two : {X : Type 0} (P Q R : X → Type 0) (xs : List X) → AllByRecursion P xs → AllByRecursion Q xs → ((x : X) → P x → Q x → R x) → AllByRecursion R xs
all_two P Q R [] p q f = tt
all_two P Q R (x ∷ xs) p q f = (f x p.0 q.0, all_two P Q R xs p.1 q.1 f)

-- what holds of the elements that pass
pub of_filter : {X : Type 0} (t : X → Bool) (P : X → Type 0) (xs : List X) → AllByRecursion P (filter t xs) → AllByRecursion (λ x. t x ≡ true → P x) xs
of_filter t P [] all = tt
of_filter {X} t P (x ∷ xs) all = go (t x) refl all (λ rest. of_filter t P xs rest)
  where
    go : (b : Bool) → t x ≡ b → AllByRecursion P (if b then x ∷ filter t xs else filter t xs)
        → (AllByRecursion P (filter t xs) → AllByRecursion (λ x. t x ≡ true → P x) xs) → (t x ≡ true → P x) × AllByRecursion (λ x. t x ≡ true → P x) xs
    go true is all rest = (λ h. all.0, rest all.1)
    go false is all rest = (λ h. absurd (false≢true (sym is ∙ h)), rest all)

-- of all events of the line, pairing by pairing
pub each_flat : (h : ℕ → Option Pairing) (g : Pairing → List Event) (P : Event → Type 0) (line : List ℕ)
    → AllByRecursion P (flat_map g (filter_map h line)) → EachOf h line (λ x. AllByRecursion P (g x))
each_flat h g P [] all k x f is = absurd (false≢true f)
each_flat h g P (n ∷ line) all k x f is = go (h n) refl all (flown_cases n k line f) (λ rest later. each_flat h g P line rest k x later is)
  where
    one : (y : Pairing) → h n ≡ Some y → n ≡ k → y ≡ x
    one y e same = let t : Some y ≡ Some x = sym e ∙ ap h same ∙ is in cc

    go : (o : Option Pairing) → h n ≡ o → AllByRecursion P (flat_map g (cons_option o (filter_map h line))) → (n ≡ k) ⊎ (is_flown line k ≡ true)
        → (AllByRecursion P (flat_map g (filter_map h line)) → is_flown line k ≡ true → AllByRecursion P (g x)) → AllByRecursion P (g x)
    go None e all (inl same) rest = let t : ◌≡◌ {A = Option Pairing} None (Some x) = sym e ∙ ap h same ∙ is in cc
    go None e all (inr later) rest = rest all later
    go (Some y) e all (inl same) rest = subst (λ (z : Pairing). AllByRecursion P (g z)) (one y e same) (all_first P (g y) (flat_map g (filter_map h line)) all)
    go (Some y) e all (inr later) rest = rest (all_second P (g y) (flat_map g (filter_map h line)) all) later

-- a minute without duty
pub minutes_split : (m : ℕ) → Splits (λ events. is_duty_minute events m)
minutes_split m = record {
  none = refl;
  join = λ a b p q. same a b ∙ or_false (is_duty_minute a m) (is_duty_minute b m) p q;
  first = λ a b p. or_false_first (is_duty_minute a m) (is_duty_minute b m) (sym (same a b) ∙ p);
  second = λ a b p. or_false_second (is_duty_minute a m) (is_duty_minute b m) (sym (same a b) ∙ p);
}
  where
    same : (a b : List Event) → is_duty_minute (a ++ b) m ≡ (is_duty_minute a m || is_duty_minute b m)
    same a b = list_any-append (λ (e : Event). has_duty e m) a b

-- none outside a pairing
outside : (start stop m : ℕ) → (m < start) ⊎ (stop ≤ m) → is_between start stop m ≡ false
outside start stop m (inl before) = grind (arith, nat_tests)
outside start stop m (inr after) = grind (arith, nat_tests)

none_within : (low high m : ℕ) (ds : List Duty) → AllByRecursion (Within low high) ds → (m < low) ⊎ (high ≤ m) → is_duty_minute (map duty_event ds) m ≡ false
none_within low high m [] all out = refl
none_within low high m (d ∷ ds) all out =
    or_false (is_between d.report d.release m) (is_duty_minute (map duty_event ds) m)
    (outside d.report d.release m (elim out [
      | inl before ↦ inl (let a = all.0.after in omega arith)
      | inr after ↦ inr (let b = all.0.before in omega arith)
    ]))
    (none_within low high m ds all.1 out)

pub quiet_outside : (x : Pairing) → AreDuties x.duties → (m : ℕ) → (m < first_report x.duties) ⊎ (last_release x.duties ≤ m) → is_duty_minute (duties_of x) m ≡ false
quiet_outside x sound m out = go x.duties sound out
  where
    go : (ds : List Duty) → AreDuties ds → (m < first_report ds) ⊎ (last_release ds ≤ m) → is_duty_minute (map duty_event ds) m ≡ false
    go [] sound out = absurd sound
    go (d ∷ ds) sound out = none_within d.report (last_release (d ∷ ds)) m (d ∷ ds) (within d ds sound) out

-- the first minute of a pairing is on duty
pub busy_first : (x : Pairing) → AreDuties x.duties → is_duty_minute (duties_of x) (first_report x.duties) ≡ false → ⊥
busy_first x sound none = go x.duties sound none
  where
    here : (a b : ℕ) → a < b → is_between a b a ≡ true
    here a b lt = grind (arith, nat_tests)

    go : (ds : List Duty) → AreDuties ds → is_duty_minute (map duty_event ds) (first_report ds) ≡ false → ⊥
    go [] sound none = sound
    go (d ∷ ds) sound none =
        false≢true (sym (or_false_first (is_between d.report d.release d.report) (is_duty_minute (map duty_event ds) d.report) none) ∙ here d.report d.release sound.0)

-- each report of a pairing lies within it
pub record Reports (low high : ℕ) (e : Event) : Type 0 where
  pub after : low ≤ e.report
  pub before : e.report < high

pub reports_within : (ds : List Duty) → AreDuties ds → AllByRecursion (Reports (first_report ds) (last_release ds)) (map duty_event ds)
reports_within [] sound = absurd sound
reports_within (d ∷ ds) sound = each d.report (last_release (d ∷ ds)) (d ∷ ds) (within d ds sound)
  where
    each : (low high : ℕ) (ds : List Duty) → AllByRecursion (Within low high) ds → AllByRecursion (Reports low high) (map duty_event ds)
    each low high [] all = tt
    each low high (d ∷ ds) all =
        (record { after = all.0.after; before = let b = all.0.before in let l = all.0.lasts in omega arith }, each low high ds all.1)

-- a fixed event has no duty within a pairing that shares no minute with it
pub none_in_span : (e : Event) (x : Pairing) → Disjoint (event_span e) (pairing_span x)
    → (m : ℕ) → first_report x.duties ≤ m → m < last_release x.duties → has_duty e m ≡ false
none_in_span e x apart m low high = go (is_duty e.kind) (is_between e.report e.release m) refl
  where
    inside : (a b m : ℕ) → a ≤ m → m < b → is_between a b m ≡ true
    inside a b m low high = grind (arith, nat_tests)

    go : (d b : Bool) → is_between e.report e.release m ≡ b → (d && b) ≡ false
    go false b is = refl
    go true false is = refl
    go true true is = sym (inside (first_report x.duties) (last_release x.duties) m low high) ∙ apart m is

pub fixed_quiet : (h : ℕ → Option Pairing) (line : List ℕ) (fixed : List Event)
    → AreDisjoint (map event_span fixed ++ map pairing_span (filter_map h line))
    → EachOf h line (λ x. (m : ℕ) → first_report x.duties ≤ m → m < last_release x.duties → is_duty_minute fixed m ≡ false)
fixed_quiet h line fixed few n x f is m low high =
    go fixed (pairs_cross Disjoint (map event_span fixed) (map pairing_span (filter_map h line))
    (pairs_to Disjoint (map event_span fixed ++ map pairing_span (filter_map h line)) pairs))
  where
    pairs : AllPairs Disjoint (map event_span fixed ++ map pairing_span (filter_map h line))
    pairs i j d lt inside m here =
        pairs_from_count (λ s. is_in s m) (map event_span fixed ++ map pairing_span (filter_map h line)) (few m) i j d lt inside here

    go : (es : List Event) → AllByRecursion (λ (a : Interval). AllByRecursion (Disjoint a) (map pairing_span (filter_map h line))) (map event_span es)
        → is_duty_minute es m ≡ false
    go [] all = refl
    go (e ∷ es) all =
        or_false (has_duty e m) (is_duty_minute es m)
        (none_in_span e x (each_of h pairing_span (Disjoint (event_span e)) line all.0 n x f is) m low high)
        (go es all.1)

-- events that begin before a rested report have no duty from then on
pub past_quiet : (es : List Event) (report m : ℕ) → AllByRecursion (λ e. e.report < report) es → is_duty_minute es (report - 1) ≡ false
    → report ≤ m → is_duty_minute es m ≡ false
past_quiet [] report m early rested le = refl
past_quiet (e ∷ es) report m early rested le =
    or_false (has_duty e m) (is_duty_minute es m)
    (one (is_duty e.kind) e.report e.release early.0 (or_false_first (has_duty e (report - 1)) (is_duty_minute es (report - 1)) rested))
    (past_quiet es report m early.1 (or_false_second (has_duty e (report - 1)) (is_duty_minute es (report - 1)) rested) le)
  where
    one : (d : Bool) (a b : ℕ) → a < report → (d && is_between a b (report - 1)) ≡ false → (d && is_between a b m) ≡ false
    one true a b lt none = grind (arith, nat_tests)
    one false a b lt none = refl

-- the readers' checks of the times
pub duties_late : (problem : Problem) (n : ℕ) (x : Pairing) → slice_get problem.base.pairings n ≡ Some x → AllByRecursion (λ e. 525600 ≤ e.report) (duties_of x)
duties_late problem n x is =
    let form = at_read (IsPairing problem.base.rules.horizon) problem.base.pairings
    (recursion_from_All (IsPairing problem.base.rules.horizon) problem.base.pairings problem.valid.month.pairings_form.each) n x is in
    go x.duties (recursion_from_All (λ d. 525600 ≤ d.report) x.duties form.coming)
  where
    go : (ds : List Duty) → AllByRecursion (λ (d : Duty). 525600 ≤ d.report) ds → AllByRecursion (λ (e : Event). 525600 ≤ e.report) (map duty_event ds)
    go [] all = tt
    go (d ∷ ds) all = (all.0, go ds all.1)

member_form : (problem : Problem) (member : ℕ) (x : Member) → slice_get problem.base.members member ≡ Some x → IsMember problem.base.rules.horizon x
member_form problem member x is =
    at_read (IsMember problem.base.rules.horizon) problem.base.members
    (recursion_from_All (IsMember problem.base.rules.horizon) problem.base.members problem.valid.month.members_form.each) member x is

pub history_early : (problem : Problem) (member : ℕ) → AllByRecursion (λ e. e.report < 525600) (history_of problem member)
history_early problem member = go (slice_get problem.base.members member) refl
  where
    go : (o : Option Member) → slice_get problem.base.members member ≡ o → AllByRecursion (λ (e : Event). e.report < 525600) (option_map_or (λ m. m.history) o [])
    go None is = tt
    go (Some x) is = recursion_from_All (λ (e : Event). e.report < 525600) x.history (member_form problem member x is).before

pub fixed_late : (problem : Problem) (member : ℕ) → AllByRecursion (λ e. 525600 ≤ e.report) (fixed_of problem member)
fixed_late problem member = go (slice_get problem.base.members member) refl
  where
    go : (o : Option Member) → slice_get problem.base.members member ≡ o → AllByRecursion (λ (e : Event). 525600 ≤ e.report) (option_map_or (λ m. m.fixed) o [])
    go None is = tt
    go (Some x) is = recursion_from_All (λ (e : Event). 525600 ≤ e.report) x.fixed (λ k d lt. ((member_form problem member x is).inside k d lt).0)

-- what an item has
pub picked : {A : Type 0} (b : Bool) (x y : A) → b ≡ true → (if b then x else y) ≡ x
picked true x y e = refl
picked false x y e = absurd (false≢true e)

pub refused : {A : Type 0} (b : Bool) (x y : A) → b ≡ false → (if b then x else y) ≡ y
refused false x y e = refl
refused true x y e = absurd (false≢true (sym e))

lt_true : (a b : ℕ) → a < b → nat_lt a b ≡ true
lt_true a b lt = grind (arith, nat_tests)

lt_false : (a b : ℕ) → b ≤ a → nat_lt a b ≡ false
lt_false a b le = grind (arith, nat_tests)

module _ {A : Type 0} (problem : Problem) (member : ℕ) (lens : Lens) (f : Pairing → A) (g : Event → A) (other : A) (item : ℕ) where
  abbrev as_pairing : A
  as_pairing = option_map_or f (slice_get problem.base.pairings item) other

  abbrev as_flight : A
  as_flight = option_map_or g (slice_get (visited_flights problem member lens) (item - length problem.base.pairings)) other

  pub at_pairing : (x : Pairing) → item < length problem.base.pairings → slice_get problem.base.pairings item ≡ Some x
      → by_item problem member lens f g other item ≡ f x
  at_pairing x lt is =
      picked (nat_lt item (length problem.base.pairings)) as_pairing as_flight (lt_true item (length problem.base.pairings) lt)
      ∙ ap (λ (o : Option Pairing). option_map_or f o other) is

  pub at_flight : (e : Event) → length problem.base.pairings ≤ item
      → slice_get (visited_flights problem member lens) (item - length problem.base.pairings) ≡ Some e
      → by_item problem member lens f g other item ≡ g e
  at_flight e le is =
      refused (nat_lt item (length problem.base.pairings)) as_pairing as_flight (lt_false item (length problem.base.pairings) le)
      ∙ ap (λ (o : Option Event). option_map_or g o other) is

  pub at_none : item ≡ item_count problem member lens → by_item problem member lens f g other item ≡ other
  at_none is =
      refused (nat_lt item (length problem.base.pairings)) as_pairing as_flight (lt_false item (length problem.base.pairings) (omega arith))
      ∙ ap (λ (o : Option Event). option_map_or g o other) (slice_get_past (visited_flights problem member lens) (item - length problem.base.pairings) (omega arith))
