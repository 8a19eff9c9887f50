-- Events of which few minutes lie before the end of each window.
use Rattle.std.proofs.Common.{◌≡◌, ℕ, ◌+◌, ◌-◌, ◌*◌, ◌<◌, ◌≤◌, Bool, List, [], length, get_or, take, drop, refl, sym, subst, ◌∙◌, arith, inl, inr}
use Rattle.std.specs.Prelude.{All}
use Rattle.std.proofs.lemmas.Bool.{cases_lt}
use Rattle.std.proofs.lemmas.List.{take_all, drop_all, take_rest}
use Rattle.std.proofs.lemmas.List.Elements.{All-more}
use Rattle.duty_calendar.specs.declared.event.Event.{Event}
use Rattle.duty_calendar.specs.Minutes.{count_between}
use Rattle.duty_calendar.specs.Limits.{KeepsWindows, KeepsYears}
use Rattle.duty_calendar.specs.Events.{IsEvent}
use Rattle.duty_calendar.proofs.Counting.{count_between-append}
use Rattle.part117_limits.specs.declared.peak.Minutes.{Minutes}
use Rattle.part117_limits.specs.Peaks.{is_counted}
use Rattle.part117_limits.proofs.Overlaps.{count_nothing}
use Rattle.part117_limits.proofs.Recent.{same_count}

-- a window has no more minutes than all up to its end
pub count_up_to : (test : ℕ → Bool) (start stop last : ℕ) → start ≤ stop → stop ≤ last
    → count_between test start stop ≤ count_between test 0 last
count_up_to test start stop last order within =
    omega (
      arith,
      count_between-append test 0 start stop (omega arith) order,
      count_between-append test 0 stop last (omega arith) within,
    )

-- a window that is over the limit begins behind the events
abbrev pub IsBehind : Minutes → List Event → ℕ → ℕ → ℕ → Type 0
IsBehind minutes events width limit k =
    (t : ℕ) → limit < count_between (is_counted minutes events) t (t + width) → All (λ e. e.release ≤ t) (take k events)

-- the step of a loop over the events
pub behind_more : (minutes : Minutes) (events : List Event) (width limit k total : ℕ) (x : Event) → All IsEvent events
    → k < length events → x ≡ get_or events k x
    → IsBehind minutes events width limit k
    → total ≡ count_between (is_counted minutes (take (length events - k) (drop k events))) 0 (x.release + width)
    → total ≤ limit
    → IsBehind minutes events width limit (k + 1)
behind_more minutes events width limit k total x forms inside same behind counted few t over =
    All-more (λ e. e.release ≤ t) events k x inside (behind t over)
    (subst (λ (e : Event). e.release ≤ t) same (elim (cases_lt t x.release) [
      | inl early ↦
          let all : count_between (is_counted minutes (drop k events)) t (t + width) ≡ count_between (is_counted minutes events) t (t + width) =
          same_count minutes events k t width forms (omega arith) (behind t over) in
          let later : total ≡ count_between (is_counted minutes (drop k events)) 0 (x.release + width) =
          subst (λ (es : List Event). total ≡ count_between (is_counted minutes es) 0 (x.release + width)) (take_rest events k) counted in
          absurd (omega (arith, all, later, few, over, count_up_to (is_counted minutes (drop k events)) t (t + width) (x.release + width) (omega arith) (omega arith)))
      | inr late ↦ late
    ]))

-- no window behind all events is over the limit
pub behind_all : (minutes : Minutes) (events : List Event) (width limit k : ℕ) → All IsEvent events
    → length events ≤ k → IsBehind minutes events width limit k
    → (t : ℕ) → count_between (is_counted minutes events) t (t + width) ≤ limit
behind_all minutes events width limit k forms whole behind t =
    elim (cases_lt limit (count_between (is_counted minutes events) t (t + width))) [
      | inl over ↦
          let n : ℕ = length events in
          let same : take k events ≡ take n events = take_all k events whole ∙ sym (take_all n events (omega arith)) in
          let past : All (λ e. e.release ≤ t) (take n events) = subst (λ (es : List Event). All (λ e. e.release ≤ t) es) same (behind t over) in
          let none : 0 ≡ count_between (is_counted minutes (drop n events)) t (t + width) =
          subst (λ (es : List Event). 0 ≡ count_between (is_counted minutes es) t (t + width)) (sym (drop_all n events (omega arith)))
          (count_nothing (is_counted minutes []) t (t + width) (omega arith) (λ m. refl)) in
          absurd (omega (arith, over, none, same_count minutes events n t width forms (omega arith) past))
      | inr few ↦ few
    ]

-- light later events keep the windows
pub light_keeps : (minutes : Minutes) (events : List Event) (k width limit stop : ℕ) → All IsEvent events
    → k ≤ length events → All (λ e. e.release ≤ 525601 - width) (take k events)
    → ((t : ℕ) → count_between (is_counted minutes (take (length events - k) (drop k events))) t (t + width) ≤ limit)
    → KeepsWindows (is_counted minutes events) width limit stop
light_keeps minutes events k width limit stop forms within past light t early late =
    let same : count_between (is_counted minutes (drop k events)) t (t + width) ≡ count_between (is_counted minutes events) t (t + width) =
    same_count minutes events k t width forms within (λ i d lt. omega (arith, late, past i d lt)) in
    let few : count_between (is_counted minutes (drop k events)) t (t + width) ≤ limit =
    subst (λ (es : List Event). count_between (is_counted minutes es) t (t + width) ≤ limit) (take_rest events k) (light t) in
    omega (arith, same, few)

-- few minutes before the end of all years keep them
pub light_years : (test : ℕ → Bool) (limit days total : ℕ) → total ≡ count_between test 0 (1440 * (372 + days)) → total ≤ limit
    → KeepsYears test limit days
light_years test limit days total counted few first last whole late early =
    omega (arith, counted, few, count_up_to test (1440 * first) (1440 * (last + 1)) (1440 * (372 + days)) (omega arith) (omega arith))
