-- Two pairings fit exactly where one follows the other after a rest.
use Rattle.std.proofs.Common.{◌≡◌, ℕ, ◌+◌, ◌<◌, ◌≤◌, Bool, true, false, ◌&&◌, List, [], ◌∷◌, refl, ap, ◌∙◌, arith, inl, inr, ◌⊎◌}
use Rattle.std.specs.Prelude.{nat_lt, nat_le, map}
use Rattle.std.specs.List.{list_any, AllByRecursion}
use Rattle.std.proofs.lemmas.Bool.{cases_Bool}
use Rattle.std.proofs.lemmas.Bool.Decides.{nat_tests}
use Rattle.duty_calendar.specs.declared.pairing.Duty.{Duty}
use Rattle.duty_calendar.specs.declared.interval.Interval.{Interval}
use Rattle.duty_calendar.specs.Minutes.{is_flight}
use Rattle.roster_model.specs.Spans.{duty_event, first_report, last_release}
use Rattle.line_items.specs.Clear.{is_tiring, is_tired_by, is_crossing}
use Rattle.line_items.proofs.Resting.{or_false, or_false_first, or_false_second}

-- duties that last, in order, each after a rest
abbrev pub InOrder : List Duty → Type 0
InOrder [] = Unit {0}
InOrder (d ∷ ds) = (d.report < d.release) × AllByRecursion (λ e. d.release + 600 ≤ e.report) ds × InOrder ds

-- what a duty of a pairing lies within
pub record Within (low high : ℕ) (d : Duty) : Type 0 where
  pub after : low ≤ d.report
  pub before : d.release ≤ high
  pub lasts : d.report < d.release

lower : (low l high : ℕ) (ds : List Duty) → low ≤ l → AllByRecursion (Within l high) ds → AllByRecursion (Within low high) ds
lower low l high [] le all = tt
lower low l high (d ∷ ds) le all = (record { after = let a = all.0.after in omega arith; before = all.0.before; lasts = all.0.lasts }, lower low l high ds le all.1)

-- the last release is at least the first duty's
pub last_after : (d : Duty) (ds : List Duty) → InOrder (d ∷ ds) → d.release ≤ last_release (d ∷ ds)
last_after d [] order = omega arith
last_after d (e ∷ es) order =
    let rest = last_after e es order.2 in
    let gap = order.1.0 in
    let lasts = order.2.0 in
    omega arith

pub within : (d : Duty) (ds : List Duty) → InOrder (d ∷ ds) → AllByRecursion (Within d.report (last_release (d ∷ ds))) (d ∷ ds)
within d [] order = (record { after = omega arith; before = omega arith; lasts = order.0 }, tt)
within d (e ∷ es) order = (
  record { after = omega arith; before = last_after d (e ∷ es) order; lasts = order.0 },
  lower d.report e.report (last_release (e ∷ es)) (e ∷ es) (let gap = order.1.0 in let lasts = order.0 in omega arith) (within e es order.2),
)

-- one duty list never tires the flights of another that comes after a rest, nor the other way round
untiring : (r : ℕ) (d : Duty) → (r ≤ d.report) ⊎ (d.release + 600 ≤ r) → is_tiring r (duty_event d) ≡ false
untiring r d (inl h) = go d.report d.release h
  where
    go : (a b : ℕ) → r ≤ a → (nat_lt a r && nat_lt r (b + 600)) ≡ false
    go a b h = let t : nat_lt a r ≡ false = grind (arith, nat_tests) in ap (λ x. x && nat_lt r (b + 600)) t
untiring r d (inr h) = go d.report d.release h
  where
    flip : (a : Bool) → (a && false) ≡ false
    flip true = refl
    flip false = refl

    go : (a b : ℕ) → b + 600 ≤ r → (nat_lt a r && nat_lt r (b + 600)) ≡ false
    go a b h = let t : nat_lt r (b + 600) ≡ false = grind (arith, nat_tests) in ap (λ x. nat_lt a r && x) t ∙ flip (nat_lt a r)

none_mapped : {X Y : Type 0} (P : X → Type 0) (g : X → Y) (f : Y → Bool) (xs : List X) → AllByRecursion P xs → ((x : X) → P x → f (g x) ≡ false) → list_any f (map g xs) ≡ false
none_mapped P g f [] all h = refl
none_mapped P g f (x ∷ xs) all h = or_false (f (g x)) (list_any f (map g xs)) (h x all.0) (none_mapped P g f xs all.1 h)

-- the first lies wholly before the second, with a rest between
pub clear_after : (l h low high : ℕ) (ds es : List Duty) → AllByRecursion (Within l h) ds → AllByRecursion (Within low high) es → h + 600 ≤ low
    → is_tired_by (map duty_event es) (map duty_event ds) ≡ false
clear_after l h low high ds es first second gap =
    none_mapped (Within low high) duty_event (λ e. is_flight e.kind && list_any (is_tiring e.report) (map duty_event ds)) es second
    (λ e w. none_mapped (Within l h) duty_event (is_tiring e.report) ds first (λ d v. untiring e.report d (inr (let a = w.after in let b = v.before in omega arith))))

pub clear_before : (l h low high : ℕ) (ds es : List Duty) → AllByRecursion (Within l h) ds → AllByRecursion (Within low high) es → h + 600 ≤ low
    → is_tired_by (map duty_event ds) (map duty_event es) ≡ false
clear_before l h low high ds es first second gap =
    none_mapped (Within l h) duty_event (λ e. is_flight e.kind && list_any (is_tiring e.report) (map duty_event es)) ds first
    (λ d v. none_mapped (Within low high) duty_event (is_tiring d.report) es second (λ e w. untiring d.report e (inl (let a = w.after in let b = v.before in let c = v.lasts in omega arith))))

-- the duties of a pairing: some, in order, each after a rest
abbrev pub AreDuties : List Duty → Type 0
AreDuties [] = ⊥
AreDuties (d ∷ ds) = InOrder (d ∷ ds)

abbrev span : List Duty → Interval
span ds = record { start = first_report ds; stop = last_release ds }

-- if the first of two pairings begins no later and they fit, the second follows it
pub last_tires : (r : ℕ) (d : Duty) (ds : List Duty) → InOrder (d ∷ ds) → list_any (is_tiring r) (map duty_event (d ∷ ds)) ≡ false → last_release (d ∷ ds) ≤ r → last_release (d ∷ ds) + 600 ≤ r
last_tires r d [] order none le = go d.report d.release order.0 le (or_false_first (is_tiring r (duty_event d)) false none)
  where
    go : (a b : ℕ) → a < b → b ≤ r → (nat_lt a r && nat_lt r (b + 600)) ≡ false → b + 600 ≤ r
    go a b lt le h = let t : nat_lt a r ≡ true = grind (arith, nat_tests) in grind (arith, nat_tests)
last_tires r d (e ∷ es) order none le = last_tires r e es order.2 (or_false_second (is_tiring r (duty_event d)) (list_any (is_tiring r) (map duty_event (e ∷ es))) none) le

-- what it takes that two pairings fit
pub record Fit (ds es : List Duty) : Type 0 where
  pub apart : is_crossing (record { start = first_report ds; stop = last_release ds }) (record { start = first_report es; stop = last_release es }) ≡ false
  pub first_clear : is_tired_by (map duty_event es) (map duty_event ds) ≡ false
  pub second_clear : is_tired_by (map duty_event ds) (map duty_event es) ≡ false

pub not_crossing : (a b c d : ℕ) → b ≤ c → (nat_lt a d && nat_lt c b) ≡ false
not_crossing a b c d h = let t : nat_lt c b ≡ false = grind (arith, nat_tests) in ap (λ x. nat_lt a d && x) t ∙ flip (nat_lt a d)
  where
    flip : (a : Bool) → (a && false) ≡ false
    flip true = refl
    flip false = refl

not_crossing_back : (a b c d : ℕ) → d ≤ a → (nat_lt a d && nat_lt c b) ≡ false
not_crossing_back a b c d h = let t : nat_lt a d ≡ false = grind (arith, nat_tests) in ap (λ x. x && nat_lt c b) t

pub fit_from_follows : (ds es : List Duty) → AreDuties ds → AreDuties es → last_release ds + 600 ≤ first_report es → Fit ds es
fit_from_follows [] es a b gap = absurd a
fit_from_follows (d ∷ ds) [] a b gap = absurd b
fit_from_follows (d ∷ ds) (e ∷ es) a b gap = record {
  apart = not_crossing d.report (last_release (d ∷ ds)) e.report (last_release (e ∷ es)) (omega arith);
  first_clear = clear_after d.report (last_release (d ∷ ds)) e.report (last_release (e ∷ es)) (d ∷ ds) (e ∷ es) (within d ds a) (within e es b) gap;
  second_clear = clear_before d.report (last_release (d ∷ ds)) e.report (last_release (e ∷ es)) (d ∷ ds) (e ∷ es) (within d ds a) (within e es b) gap;
}

pub fit_sym : (ds es : List Duty) → Fit ds es → Fit es ds
fit_sym ds es f = record {
  apart = turn (nat_lt (first_report ds) (last_release es)) (nat_lt (first_report es) (last_release ds)) f.apart;
  first_clear = f.second_clear;
  second_clear = f.first_clear;
}
  where
    turn : (a b : Bool) → (a && b) ≡ false → (b && a) ≡ false
    turn true true h = h
    turn true false h = refl
    turn false true h = refl
    turn false false h = refl

-- the one that begins first ends first, with a rest
pub follows_from_fit : (ds es : List Duty) → AreDuties ds → AreDuties es → Fit ds es → first_report ds ≤ first_report es → last_release ds + 600 ≤ first_report es
follows_from_fit [] es a b fit le = absurd a
follows_from_fit (d ∷ ds) [] a b fit le = absurd b
follows_from_fit (d ∷ ds) (e ∷ es) a b fit le =
    let last_e = last_after e es b in
    let lasts_e = b.0 in
    let ends : last_release (d ∷ ds) ≤ e.report = uncrossed d.report (last_release (d ∷ ds)) e.report (last_release (e ∷ es)) (omega arith) fit.apart in
    last_tires e.report d ds a (or_false_first (list_any (is_tiring e.report) (map duty_event (d ∷ ds))) (is_tired_by (map duty_event es) (map duty_event (d ∷ ds))) fit.first_clear) ends
  where
    uncrossed : (a b c d : ℕ) → a < d → (nat_lt a d && nat_lt c b) ≡ false → b ≤ c
    uncrossed a b c d lt h = let t : nat_lt a d ≡ true = grind (arith, nat_tests) in grind (arith, nat_tests)

pub follows_or : (ds es : List Duty) → AreDuties ds → AreDuties es → Fit ds es → (last_release ds + 600 ≤ first_report es) ⊎ (last_release es + 600 ≤ first_report ds)
follows_or ds es a b fit = elim (cases_Bool (nat_le (first_report ds) (first_report es))) [
  | inl le ↦ inl (follows_from_fit ds es a b fit (grind (arith, nat_tests)))
  | inr gt ↦ inr (follows_from_fit es ds b a (fit_sym ds es fit) (grind (arith, nat_tests)))
]

pub fit_from_or : (ds es : List Duty) → AreDuties ds → AreDuties es → (last_release ds + 600 ≤ first_report es) ⊎ (last_release es + 600 ≤ first_report ds) → Fit ds es
fit_from_or ds es a b (inl h) = fit_from_follows ds es a b h
fit_from_or ds es a b (inr h) = fit_sym es ds (fit_from_follows es ds b a h)

-- a pairing's own flights have their rest
pub self_clear : (ds : List Duty) → InOrder ds → is_tired_by (map duty_event ds) (map duty_event ds) ≡ false
self_clear [] order = refl
self_clear (d ∷ ds) order =
    or_false (list_any (is_tiring d.report) (map duty_event (d ∷ ds))) (is_tired_by (map duty_event ds) (map duty_event (d ∷ ds)))
    (or_false (is_tiring d.report (duty_event d)) (list_any (is_tiring d.report) (map duty_event ds)) (untiring d.report d (inl (omega arith)))
    (none_mapped (λ (e : Duty). d.release + 600 ≤ e.report) duty_event (is_tiring d.report) ds order.1 (λ e gap. untiring d.report e (inl (let l = order.0 in omega arith)))))
    (later ds order.1 (self_clear ds order.2))
  where
    later : (es : List Duty) → AllByRecursion (λ (e : Duty). d.release + 600 ≤ e.report) es → is_tired_by (map duty_event es) (map duty_event ds) ≡ false → is_tired_by (map duty_event es) (map duty_event (d ∷ ds)) ≡ false
    later [] all h = refl
    later (e ∷ es) all h =
        or_false (list_any (is_tiring e.report) (map duty_event (d ∷ ds))) (is_tired_by (map duty_event es) (map duty_event (d ∷ ds)))
        (or_false (is_tiring e.report (duty_event d)) (list_any (is_tiring e.report) (map duty_event ds)) (untiring e.report d (inr all.0)) (or_false_first (list_any (is_tiring e.report) (map duty_event ds)) (is_tired_by (map duty_event es) (map duty_event ds)) h))
        (later es all.1 (or_false_second (list_any (is_tiring e.report) (map duty_event ds)) (is_tired_by (map duty_event es) (map duty_event ds)) h))
