-- Days of a month as bits: setting one, joining two sets, and how many bits are set.
use Rattle.std.proofs.Common.{◌≡◌, ℕ, zero, suc, ◌+◌, ◌-◌, ◌*◌, ◌/◌, ◌%◌, ◌^◌, ◌<◌, ◌≤◌, min, max, Bool, true, false, not, cond, ◌&&◌, ◌||◌, ◌==◌, List, [], ◌∷◌, length, get_or, take, refl, ap, sym, ◌∙◌, subst, arith, inl, inr}
use Rattle.std.specs.Prelude.{map, filter, if◌then◌else◌}
use Rattle.std.specs.List.{list_any}
use Rattle.std.specs.Int.{bit_at, bit_not, w32}
use Rattle.std.specs.Int.RustNames.{bit_and, bit_or, count_ones}
use Rattle.std.proofs.lemmas.Bool.Decides.{nat_tests}
use Rattle.std.proofs.lemmas.Bool.{cases_Bool}
use Rattle.std.proofs.lemmas.Nat.{and_le_l, or_lt, ones_cat, pow-add}
use Rattle.std.proofs.lemmas.Nat.Bits.{bit_at_and, bit_at_or, bit_at_not, bit_at_set_same, bit_at_set_other, bit_at_above, bit_at-suc, bit_at_lowest, bit_at-zero}
use Rattle.std.proofs.lemmas.List.Folds.{list_any_more}
use Rattle.duty_calendar.specs.declared.event.Event.{Event}
use Rattle.duty_calendar.specs.declared.interval.Interval.{Interval}
use Rattle.duty_calendar.specs.Calendar.{month_days}
use Rattle.duty_calendar.specs.Minutes.{count_between, is_duty, is_touching}
use Rattle.jiff_core.proofs.CalendarLemmas.{days_in_month_bounds}
use Rattle.label_lattice.specs.declared.values.LeastStep.{LeastStep}
use Rattle.roster_model.specs.declared.problem.Problem.{Problem}
use Rattle.roster_model.specs.declared.proof.Lens.{Lens}
use Rattle.roster_model.specs.Spans.{event_span}
use Rattle.roster_model.specs.Timelines.{fixed_of}
use Rattle.lens_classes.specs.declared.terms.Terms.{Terms}
use Rattle.line_items.proofs.ItemSteps.{day_step}
use Rattle.line_items.specs.BusyDays.{is_fixed_busy, fixed_busy_days}
use Rattle.line_items.specs.Items.{item_span}
use Rattle.duty_calendar.proofs.Counting.{count_between-append, count_between-none, count_between-one}
use Rattle.line_items.specs.DayMasks.{IsDayMask}

-- no day yet
pub no_days : (test : ℕ → Bool) → IsDayMask 0 test 0
no_days test = record { small = omega arith; bits = λ place lt. absurd (omega arith) }

doubled : (k : ℕ) → 2 ^ (k + 1) ≡ 2 ^ k + 2 ^ k
doubled k = let p = pow-add 2 k 1 in omega (arith, p)

-- one day more, which does not pass
pub day_out : (k : ℕ) (test : ℕ → Bool) (mask : ℕ) → IsDayMask k test mask → test (365 + k) ≡ false → IsDayMask (k + 1) test mask
day_out k test mask m out = record {
  small = let d = doubled k in let s = m.small in omega arith;
  bits = λ place lt. elim (cases_Bool (place == k)) [
    | inl same ↦
        let here : place ≡ k = grind (arith, nat_tests) in
        let none : test (365 + place) ≡ false = ap (λ (n : ℕ). test (365 + n)) here ∙ out in
        rw none (bit_at_above mask k place m.small (omega arith))
    | inr other ↦
        let before : place < k = less place k other lt in
        m.bits place before
  ];
}
  where
    less : (a b : ℕ) → (a == b) ≡ false → a < b + 1 → a < b
    less a b h lt = grind (arith, nat_tests)

-- one day more, which passes
pub day_in : (k : ℕ) (test : ℕ → Bool) (mask : ℕ) → k < 32 → IsDayMask k test mask → test (365 + k) ≡ true
    → IsDayMask (k + 1) test (bit_or mask (1 * 2 ^ k % 2 ^ 32))
day_in k test mask few m pass = record {
  small = or_lt (k + 1) mask (1 * 2 ^ k % 2 ^ 32) (let d = doubled k in let s = m.small in omega arith) (let d = doubled k in let s = m.small in omega arith);
  bits = λ place lt. elim (cases_Bool (place == k)) [
    | inl same ↦
        let here : place ≡ k = grind (arith, nat_tests) in
        let yes_k : test (365 + place) ≡ true = ap (λ (n : ℕ). test (365 + n)) here ∙ pass in
        rw yes_k (ap (bit_at (bit_or mask (1 * 2 ^ k % 2 ^ 32))) here ∙ bit_at_set_same w32 mask k few)
    | inr other ↦
        let before : place < k = less place k other lt in
        bit_at_set_other w32 mask k few place (λ e. absurd (omega arith)) ∙ m.bits place before
  ];
}
  where
    less : (a b : ℕ) → (a == b) ≡ false → a < b + 1 → a < b
    less a b h lt = grind (arith, nat_tests)

pub same_days : (days : ℕ) (f g : ℕ → Bool) (mask : ℕ) → ((day : ℕ) → f day ≡ g day) → IsDayMask days f mask → IsDayMask days g mask
same_days days f g mask same m = record { small = m.small; bits = λ place lt. m.bits place lt ∙ ap (λ (b : Bool). if b then 1 else 0) (same (365 + place)) }

-- the days of one or the other
pub either_day : (days : ℕ) (f g : ℕ → Bool) (a b : ℕ) → IsDayMask days f a → IsDayMask days g b → IsDayMask days (λ day. f day || g day) (bit_or a b)
either_day days f g a b m n = record {
  small = or_lt days a b m.small n.small;
  bits = λ place lt. bit_at_or a b place ∙ most (f (365 + place)) (g (365 + place)) (bit_at a place) (bit_at b place) (m.bits place lt) (n.bits place lt);
}
  where
    most : (f g : Bool) (a b : ℕ) → a ≡ (if f then 1 else 0) → b ≡ (if g then 1 else 0) → max a b ≡ (if f || g then 1 else 0)
    most true true a b p q = omega arith
    most true false a b p q = omega arith
    most false true a b p q = omega arith
    most false false a b p q = omega arith

-- the days of one and not of the other
pub but_not : (days : ℕ) (f g : ℕ → Bool) (a b : ℕ) → days ≤ 32 → b < 2 ^ 32 → IsDayMask days f a → IsDayMask days g b
    → IsDayMask days (λ day. f day && not (g day)) (bit_and a (bit_not w32 b))
but_not days f g a b few small m n = record {
  small = let le = and_le_l a (bit_not w32 b) in let s = m.small in omega arith;
  bits = λ place lt.
      let flipped = bit_at_not w32 b place small (omega arith) in
      bit_at_and a (bit_not w32 b) place ∙ least (f (365 + place)) (g (365 + place)) (bit_at a place) (bit_at b place) (bit_at (bit_not w32 b) place) (m.bits place lt) (n.bits place lt) flipped;
}
  where
    least : (f g : Bool) (a b c : ℕ) → a ≡ (if f then 1 else 0) → b ≡ (if g then 1 else 0) → c ≡ 1 - b → min a c ≡ (if f && not g then 1 else 0)
    least true true a b c p q r = omega arith
    least true false a b c p q r = omega arith
    least false true a b c p q r = omega arith
    least false false a b c p q r = omega arith

-- as many bits are set as days pass
few_ones : (n : ℕ) → n < 2 → count_ones n ≡ n
unfolding count_ones
few_ones zero lt = refl
few_ones (suc zero) lt = refl
few_ones (suc (suc n)) lt = absurd (omega arith)

ones_from : (days first mask : ℕ) (test : ℕ → Bool) → mask < 2 ^ days
    → ((place : ℕ) → place < days → bit_at mask place ≡ (if test (first + place) then 1 else 0))
    → count_ones mask ≡ count_between test first (first + days)
ones_from zero first mask test small bits =
    let none : mask ≡ 0 = omega arith in
    let whole : first + 0 ≡ first = omega arith in
    let empty : count_between test first (first + 0) ≡ 0 = ap (count_between test first) whole ∙ count_between-none test first in
    ap count_ones none ∙ few_ones 0 (omega arith) ∙ sym empty
ones_from (suc k) first mask test small bits =
    let double = doubled k in
    let same : suc k ≡ k + 1 = omega arith in
    let narrow : mask < 2 ^ (k + 1) = rw same at small in
    let half : mask / 2 < 2 ^ k = omega (arith, double, narrow) in
    let rest = ones_from k (first + 1) (mask / 2) test half (λ place lt.
    sym (bit_at-suc mask place) ∙ bits (suc place) (omega arith)
    ∙ ap (λ (n : ℕ). if test n then 1 else 0) (let e : first + suc place ≡ first + 1 + place = omega arith in e)) in
    let cat = ones_cat 1 (mask / 2) (mask % 2) (omega arith) in
    let split : mask / 2 * 2 ^ 1 + mask % 2 ≡ mask = omega arith in
    let whole : count_ones mask ≡ count_ones (mask / 2) + count_ones (mask % 2) = ap count_ones (sym split) ∙ cat in
    let low = few_ones (mask % 2) (omega arith) in
    let bit = bit_at_lowest mask in
    let start : first + 0 ≡ first = omega arith in
    let first_bit : bit_at mask 0 ≡ (if test first then 1 else 0) = bits 0 (omega arith) ∙ ap (λ (n : ℕ). if test n then 1 else 0) start in
    let end : first + 1 + k ≡ first + suc k = omega arith in
    let parts : count_between test first (first + 1 + k) ≡ count_between test first (first + 1) + count_between test (first + 1) (first + 1 + k) =
    count_between-append test first (first + 1) (first + 1 + k) (omega arith) (omega arith) in
    let one = count_between-one test first first (omega arith) in
    let none = count_between-none test first in
    rw (← end) (omega (arith, rest, whole, low, bit, first_bit, parts, one, none))

pub ones_count : (days mask : ℕ) (test : ℕ → Bool) → IsDayMask days test mask → count_ones mask ≡ count_between test 365 (365 + days)
ones_count days mask test m = ones_from days 365 mask test m.small m.bits

-- the days that a step adds
pub added_count : (days : ℕ) (fixed first second : ℕ → Bool) (a b c : ℕ) → days ≤ 32 → a < 2 ^ 32 → b < 2 ^ 32
    → IsDayMask days fixed a → IsDayMask days first b → IsDayMask days second c
    → count_ones (bit_and (bit_and c (bit_not w32 a)) (bit_not w32 b))
    ≡ count_between (λ day. second day && not (fixed day) && not (first day)) 365 (365 + days)
added_count days fixed first second a b c few small_a small_b m n o =
    let whole = but_not days (λ day. second day && not (fixed day)) first (bit_and c (bit_not w32 a)) b few small_b
    (but_not days second fixed c a few small_a o m) n in
    ones_count days (bit_and (bit_and c (bit_not w32 a)) (bit_not w32 b)) (λ day. second day && not (fixed day) && not (first day))
    (same_days days (λ day. (second day && not (fixed day)) && not (first day)) (λ day. second day && not (fixed day) && not (first day))
    (bit_and (bit_and c (bit_not w32 a)) (bit_not w32 b)) (λ day. and_assoc (second day) (not (fixed day)) (not (first day))) whole)
  where
    and_assoc : (a b c : Bool) → ((a && b) && c) ≡ (a && b && c)
    and_assoc true b c = refl
    and_assoc false b c = refl

-- the fixed events, one after another
abbrev pub is_busy_by : List Event → ℕ → Bool
is_busy_by es day = list_any (λ e. is_duty e.kind && is_touching (event_span e) day) es

pub none_busy : (days : ℕ) → IsDayMask days (λ day. false) 0
none_busy days = record { small = positive days; bits = λ place lt. bit_at-zero place }
  where
    positive : (k : ℕ) → 0 < 2 ^ k
    positive zero = omega arith
    positive (suc k) = let h = positive k in let d = doubled k in let e : suc k ≡ k + 1 = omega arith in rw e (omega arith)

pub one_busy : (days : ℕ) (es : List Event) (k : ℕ) (e : Event) (span : Interval) (mask own : ℕ) → k < length es → e ≡ get_or es k e → is_duty e.kind ≡ true
    → span ≡ event_span e → IsDayMask days (is_busy_by (take k es)) mask → IsDayMask days (is_touching span) own
    → IsDayMask days (is_busy_by (take (k + 1) es)) (bit_or mask own)
one_busy days es k e span mask own inside at duty whole before touched =
    let here : IsDayMask days (is_touching (event_span e)) own = subst (λ (s : Interval). IsDayMask days (is_touching s) own) whole touched in
    same_days days (λ day. is_busy_by (take k es) day || is_touching (event_span e) day) (is_busy_by (take (k + 1) es)) (bit_or mask own)
    (λ day. sym (list_any_more (λ x. is_duty x.kind && is_touching (event_span x) day) es k e inside
    ∙ ap (λ (x : Event). is_busy_by (take k es) day || (is_duty x.kind && is_touching (event_span x) day)) (sym at)
    ∙ ap (λ b. is_busy_by (take k es) day || (b && is_touching (event_span e) day)) duty))
    (either_day days (is_busy_by (take k es)) (is_touching (event_span e)) mask own before here)

pub none_more : (days : ℕ) (es : List Event) (k : ℕ) (e : Event) (mask : ℕ) → k < length es → e ≡ get_or es k e → is_duty e.kind ≡ false
    → IsDayMask days (is_busy_by (take k es)) mask → IsDayMask days (is_busy_by (take (k + 1) es)) mask
none_more days es k e mask inside at leave before =
    same_days days (is_busy_by (take k es)) (is_busy_by (take (k + 1) es)) mask
    (λ day. sym (list_any_more (λ x. is_duty x.kind && is_touching (event_span x) day) es k e inside
    ∙ ap (λ (x : Event). is_busy_by (take k es) day || (is_duty x.kind && is_touching (event_span x) day)) (sym at)
    ∙ ap (λ b. is_busy_by (take k es) day || (b && is_touching (event_span e) day)) leave
    ∙ or_none (is_busy_by (take k es) day)))
    before
  where
    or_none : (b : Bool) → (b || false) ≡ b
    or_none true = refl
    or_none false = refl

kept_busy : (day : ℕ) (es : List Event) → is_busy_by es day ≡ list_any (λ s. is_touching s day) (map event_span (filter (λ e. is_duty e.kind) es))
kept_busy day [] = refl
kept_busy day (e ∷ es) = go (is_duty e.kind) (kept_busy day es)
  where
    go : (b : Bool) → is_busy_by es day ≡ list_any (λ s. is_touching s day) (map event_span (filter (λ e. is_duty e.kind) es))
        → ((b && is_touching (event_span e) day) || is_busy_by es day)
        ≡ list_any (λ s. is_touching s day) (map event_span (cond b (e ∷ filter (λ e. is_duty e.kind) es) (filter (λ e. is_duty e.kind) es)))
    go true rest = ap (λ b. is_touching (event_span e) day || b) rest
    go false rest = rest

pub all_busy : (problem : Problem) (member days k : ℕ) (es : List Event) (mask : ℕ) → es ≡ fixed_of problem member → length es ≤ k
    → IsDayMask days (is_busy_by (take k es)) mask → IsDayMask days (is_fixed_busy problem member) mask
all_busy problem member days k es mask same done m =
    same_days days (is_busy_by (take k es)) (is_fixed_busy problem member) mask
    (λ day. ap (λ (xs : List Event). is_busy_by xs day) (take_whole k es done ∙ same) ∙ kept_busy day (fixed_of problem member)) m
  where
    take_whole : (k : ℕ) (es : List Event) → length es ≤ k → take k es ≡ es
    take_whole zero [] h = refl
    take_whole (suc k) [] h = refl
    take_whole zero (e ∷ es) h = absurd (omega arith)
    take_whole (suc k) (e ∷ es) h = ap (λ (xs : List Event). e ∷ xs) (take_whole k es (omega arith))

-- what the label starts with
pub fixed_count : (problem : Problem) (member : ℕ) (lens : Lens) (mask : ℕ) → lens.days ≡ true
    → IsDayMask (month_days problem.base.rules.horizon) (is_fixed_busy problem member) mask → count_ones mask ≡ fixed_busy_days problem member lens
fixed_count problem member lens mask is m = rw is (ones_count (month_days problem.base.rules.horizon) mask (is_fixed_busy problem member) m)

-- what a step adds
pub step_is : (problem : Problem) (member : ℕ) (lens : Lens) (terms : Terms) (adds : ℕ → ℕ) (i j cap fixed before span : ℕ) → lens.days ≡ true
    → fixed < 2 ^ 32 → before < 2 ^ 32
    → cap ≡ month_days problem.base.rules.horizon - terms.days_off
    → IsDayMask (month_days problem.base.rules.horizon) (is_fixed_busy problem member) fixed
    → IsDayMask (month_days problem.base.rules.horizon) (is_touching (item_span problem member lens (adds i))) before
    → IsDayMask (month_days problem.base.rules.horizon) (is_touching (item_span problem member lens (adds j))) span
    → ◌≡◌ {A = LeastStep} (record { add = count_ones (bit_and (bit_and span (bit_not w32 fixed)) (bit_not w32 before)); cap = cap })
    (day_step problem member lens terms adds i j)
step_is problem member lens terms adds i j cap fixed before span is small_fixed small_before cap_is m n o =
    let few = days_in_month_bounds problem.base.rules.horizon.year problem.base.rules.horizon.month in
    rw is (same_step _ _ _ _ (added_count (month_days problem.base.rules.horizon) (is_fixed_busy problem member) (is_touching (item_span problem member lens (adds i)))
    (is_touching (item_span problem member lens (adds j))) fixed before span (omega (arith, few.0)) small_fixed small_before m n o) cap_is)
  where
    same_step : (a b c d : ℕ) → a ≡ b → c ≡ d → ◌≡◌ {A = LeastStep} (record { add = a; cap = c }) (record { add = b; cap = d })
    same_step a b c d p q = rw (p, q) refl
