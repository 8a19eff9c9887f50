-- The latest free block between two times, and what a pairing's reports ask of it.
use Rattle.std.proofs.Common.{◌≡◌, ℕ, zero, suc, ◌+◌, ◌-◌, max, ◌<◌, ◌≤◌, Bool, true, false, not, List, [], ◌∷◌, Option, Some, None, refl, ap, sym, ◌∙◌, arith, inl, inr, ◌⊎◌}
use Rattle.std.specs.Prelude.{nat_le, if◌then◌else◌, unwrap_or}
use Rattle.std.specs.List.{list_any, range_with_len, AllByRecursion}
use Rattle.std.specs.Option.{option_map_or}
use Rattle.std.proofs.lemmas.Bool.{cases_Bool, false≢true}
use Rattle.std.proofs.lemmas.Bool.Decides.{nat_tests}
use Rattle.duty_calendar.specs.declared.event.Event.{Event}
use Rattle.duty_calendar.specs.Minutes.{is_duty_minute}
use Rattle.duty_calendar.specs.Limits.{IsFree}
use Rattle.line_items.specs.FreeBlocks.{is_free_block, last_passing, last_block, is_served, least_start}
use Rattle.line_items.proofs.Walking.{none_in_range, range_has_none}

-- what passes is the greatest that does
pub last_passing_is : (test : ℕ → Bool) (low count k : ℕ) → last_passing test low count ≡ Some k → (low ≤ k) × (k < low + count) × (test k ≡ true)
unfolding last_passing
last_passing_is test low zero k h = cc
last_passing_is test low (suc count) k h = go (test (low + count)) refl h (λ e. last_passing_is test low count k e)
  where
    go : (b : Bool) → test (low + count) ≡ b → (if b then Some (low + count) else last_passing test low count) ≡ Some k
        → (last_passing test low count ≡ Some k → (low ≤ k) × (k < low + count) × (test k ≡ true))
        → (low ≤ k) × (k < low + suc count) × (test k ≡ true)
    go true passes e rest =
        let same : low + count ≡ k = cc in
        (omega arith, omega arith, ap test (sym same) ∙ passes)
    go false passes e rest =
        let r = rest e in
        (r.0, omega (arith, r.1), r.2)

pub last_passing_most : (test : ℕ → Bool) (low count n : ℕ) → low ≤ n → n < low + count → test n ≡ true
    → (k : ℕ) × (last_passing test low count ≡ Some k) × (n ≤ k)
unfolding last_passing
last_passing_most test low zero n a b h = absurd (omega arith)
last_passing_most test low (suc count) n a b h =
    go (test (low + count)) refl (λ below. last_passing_most test low count n a below h)
  where
    go : (b : Bool) → test (low + count) ≡ b → (n < low + count → (k : ℕ) × (last_passing test low count ≡ Some k) × (n ≤ k))
        → (k : ℕ) × ((if b then Some (low + count) else last_passing test low count) ≡ Some k) × (n ≤ k)
    go true passes rest = (low + count, refl, omega arith)
    go false passes rest =
        let other : n < low + count = elim (cases_Bool (nat_le (low + count) n)) [
          | inl last ↦
              let same : n ≡ low + count = grind (arith, nat_tests) in
              absurd (false≢true (sym passes ∙ ap test (sym same) ∙ h))
          | inr earlier ↦ grind (arith, nat_tests)
        ] in
        rest other

-- a block by its minutes
flip_true : (b : Bool) → not b ≡ true → b ≡ false
flip_true true h = sym h
flip_true false h = refl

free_range : (events : List Event) (start n : ℕ) → not (list_any (is_duty_minute events) (range_with_len start n)) ≡ true
    → IsFree events start (start + n)
free_range events start n h m low high =
    none_in_range (is_duty_minute events) start n (flip_true (list_any (is_duty_minute events) (range_with_len start n)) h) m low high

range_free : (events : List Event) (start n : ℕ) → IsFree events start (start + n)
    → not (list_any (is_duty_minute events) (range_with_len start n)) ≡ true
range_free events start n free = ap not (range_has_none (is_duty_minute events) start n free)

pub block_free : (events : List Event) (start : ℕ) → is_free_block events start ≡ true → IsFree events start (start + 1800)
unfolding is_free_block
block_free events start h = free_range events start 1800 h

pub free_block : (events : List Event) (start : ℕ) → IsFree events start (start + 1800) → is_free_block events start ≡ true
unfolding is_free_block
free_block events start free = range_free events start 1800 free

-- a free block that starts at t and lies between two times
pub record Lies (events : List Event) (low high t : ℕ) : Type 0 where
  pub after : low ≤ t
  pub before : t + 1800 ≤ high
  pub free : IsFree events t (t + 1800)

pub last_block_is : (events : List Event) (low high t : ℕ) → last_block events low high ≡ Some t → Lies events low high t
last_block_is events low high t h =
    let p = last_passing_is (is_free_block events) low ((high + 1) - (low + 1800)) t h in
    record { after = p.0; before = omega (arith, p.1, p.0); free = block_free events t p.2 }

pub last_block_most : (events : List Event) (low high t : ℕ) → Lies events low high t
    → (k : ℕ) × (last_block events low high ≡ Some k) × (t ≤ k)
last_block_most events low high t lies =
    last_passing_most (is_free_block events) low ((high + 1) - (low + 1800)) t lies.after
    (omega (arith, lies.before, lies.after))
    (free_block events t lies.free)

-- what the latest block is, by what lies between the times
pub last_block_some : (events : List Event) (low high t : ℕ) → Lies events low high t → ((s : ℕ) → Lies events low high s → s ≤ t)
    → last_block events low high ≡ Some t
last_block_some events low high t lies most =
    let k = last_block_most events low high t lies in
    let le = most k.0 (last_block_is events low high k.0 k.1) in
    let same : k.0 ≡ t = omega (arith, k.2) in
    k.1 ∙ ap (λ (n : ℕ). Some n) same

pub last_block_none : (events : List Event) (low high : ℕ) → ((s : ℕ) → Lies events low high s → ⊥) → last_block events low high ≡ None
last_block_none events low high none = go (last_block events low high) refl
  where
    go : (o : Option ℕ) → last_block events low high ≡ o → last_block events low high ≡ None
    go None is = is
    go (Some t) is = absurd (none t (last_block_is events low high t is))

-- the latest start of a free block that ends by then, or 0
pub record IsLatest (events : List Event) (to v : ℕ) : Type 0 where
  pub greatest : (t : ℕ) → t + 1800 ≤ to → IsFree events t (t + 1800) → t ≤ v
  pub attained : (v ≡ 0) ⊎ ((v + 1800 ≤ to) × IsFree events v (v + 1800))

pub none_yet : (events : List Event) → IsLatest events 0 0
none_yet events = record { greatest = λ t ends free. absurd (omega arith); attained = inl refl }

-- between two times the events have the same duty minutes as some of them
pub record Agree (events own : List Event) (low high : ℕ) : Type 0 where
  pub own_free : (m : ℕ) → low ≤ m → m < high → is_duty_minute events m ≡ false → is_duty_minute own m ≡ false
  pub all_free : (m : ℕ) → low ≤ m → m < high → is_duty_minute own m ≡ false → is_duty_minute events m ≡ false

own_lies : (events own : List Event) (low high t : ℕ) → Agree events own low high → Lies events low high t → Lies own low high t
own_lies events own low high t agree lies = record {
  after = lies.after;
  before = lies.before;
  free = λ m a b. agree.own_free m (omega (arith, a, lies.after)) (omega (arith, b, lies.before)) (lies.free m a b);
}

all_lies : (events own : List Event) (low high t : ℕ) → Agree events own low high → Lies own low high t → Lies events low high t
all_lies events own low high t agree lies = record {
  after = lies.after;
  before = lies.before;
  free = λ m a b. agree.all_free m (omega (arith, a, lies.after)) (omega (arith, b, lies.before)) (lies.free m a b);
}

-- the start of the time is on duty, or it is 0
abbrev pub IsBusyAt : List Event → ℕ → Type 0
IsBusyAt events from = (from ≡ 0) ⊎ (is_duty_minute events from ≡ false → ⊥)

-- a free block ends by then or begins then
pub split_block : (events : List Event) (from t : ℕ) → IsBusyAt events from → IsFree events t (t + 1800)
    → (t + 1800 ≤ from) ⊎ (from ≤ t)
split_block events from t (inl none) free = inr (omega arith)
split_block events from t (inr busy) free = elim (cases_Bool (nat_le (t + 1800) from)) [
  | inl ends ↦ inl (grind (arith, nat_tests))
  | inr not_ends ↦ elim (cases_Bool (nat_le from t)) [
    | inl begins ↦ inr (grind (arith, nat_tests))
    | inr not_begins ↦
        let a : t ≤ from = grind (arith, nat_tests) in
        let b : from < t + 1800 = grind (arith, nat_tests) in
        absurd (busy (free from a b))
  ]
]

pub latest_step : (events own : List Event) (from to v : ℕ) → IsLatest events from v → from ≤ to → IsBusyAt events from
    → Agree events own from to → IsLatest events to (max v (unwrap_or (last_block own from to) 0))
latest_step events own from to v latest order busy agree = go (last_block own from to) refl
  where
    early : (t : ℕ) → t + 1800 ≤ to → IsFree events t (t + 1800) → (t ≤ v) ⊎ Lies events from to t
    early t ends free = elim (split_block events from t busy free) [
      | inl before ↦ inl (latest.greatest t before free)
      | inr after ↦ inr (record { after = after; before = ends; free = free })
    ]

    old : (w : ℕ) → w ≡ v → (w ≡ 0) ⊎ ((w + 1800 ≤ to) × IsFree events w (w + 1800))
    old w same = elim latest.attained [
      | inl none ↦ inl (same ∙ none)
      | inr there ↦ inr (omega (arith, there.0), rw same there.1)
    ]

    go : (o : Option ℕ) → last_block own from to ≡ o → IsLatest events to (max v (unwrap_or o 0))
    go None is = record {
      greatest = λ t ends free. elim (early t ends free) [
        | inl le ↦ omega arith
        | inr lies ↦
            let k = last_block_most own from to t (own_lies events own from to t agree lies) in
            absurd (some_none k.0 (sym k.1 ∙ is))
      ];
      attained = old (max v 0) (omega arith);
    }
      where
        some_none : (k : ℕ) → ◌≡◌ {A = Option ℕ} (Some k) None → ⊥
        some_none k e = cc
    go (Some s) is = record {
      greatest = λ t ends free. elim (early t ends free) [
        | inl le ↦ omega arith
        | inr lies ↦
            let k = last_block_most own from to t (own_lies events own from to t agree lies) in
            let same : k.0 ≡ s = some_same k.0 s (sym k.1 ∙ is) in
            omega (arith, k.2)
      ];
      attained = elim (cases_Bool (nat_le s v)) [
        | inl le ↦ old (max v s) (grind (arith, nat_tests))
        | inr gt ↦
            let here : max v s ≡ s = grind (arith, nat_tests) in
            let lies = all_lies events own from to s agree (last_block_is own from to s is) in
            inr (rw here lies.before, rw here lies.free)
      ];
    }
      where
        some_same : (k s : ℕ) → Some k ≡ Some s → k ≡ s
        some_same k s e = cc

-- what a report asks of the start v of the latest free block before the pairing
pub is_served_by : (own : List Event) (first report : ℕ) → is_served own first report ≡ true
    → (t : ℕ) × Lies own first report t × (report ≤ t + 10080)
is_served_by own first report h = go (last_block own first report) refl h
  where
    go : (o : Option ℕ) → last_block own first report ≡ o → option_map_or (λ start. nat_le report (start + 10080)) o false ≡ true
        → (t : ℕ) × Lies own first report t × (report ≤ t + 10080)
    go None is h = absurd (false≢true h)
    go (Some t) is h = (t, last_block_is own first report t is, grind (arith, nat_tests))

pub served_from : (own : List Event) (first report t : ℕ) → Lies own first report t → report ≤ t + 10080
    → is_served own first report ≡ true
served_from own first report t lies near =
    let k = last_block_most own first report t lies in
    ap (λ o. option_map_or (λ start. nat_le report (start + 10080)) o false) k.1 ∙ within k.0 (omega (arith, k.2))
  where
    within : (k : ℕ) → report ≤ k + 10080 → nat_le report (k + 10080) ≡ true
    within k le = grind (arith, nat_tests)

abbrev pub Asks : List Event → ℕ → ℕ → Event → Type 0
Asks own first v e = (is_served own first e.report ≡ true) ⊎ (e.report ≤ v + 10080)

pub least_asks : (own : List Event) (first v : ℕ) (es : List Event) → least_start own first es ≤ v → AllByRecursion (Asks own first v) es
least_asks own first v [] le = tt
least_asks own first v (e ∷ es) le =
    (one (is_served own first e.report) refl (omega arith), least_asks own first v es (omega arith))
  where
    one : (b : Bool) → is_served own first e.report ≡ b → (if b then 0 else e.report - 10080) ≤ v → Asks own first v e
    one true is le = inl is
    one false is le = inr (omega arith)

pub asks_least : (own : List Event) (first v : ℕ) (es : List Event) → AllByRecursion (Asks own first v) es → least_start own first es ≤ v
asks_least own first v [] all = omega arith
asks_least own first v (e ∷ es) all =
    let here = one (is_served own first e.report) refl all.0 in
    let rest = asks_least own first v es all.1 in
    omega arith
  where
    one : (b : Bool) → is_served own first e.report ≡ b → Asks own first v e → (if b then 0 else e.report - 10080) ≤ v
    one true is asks = omega arith
    one false is (inl served) = absurd (false≢true (sym is ∙ served))
    one false is (inr near) = omega arith
