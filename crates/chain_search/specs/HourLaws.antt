-- The laws of `Hours`.
use Rattle.std.specs.Prelude.{◌≡◌, ◌<◌, ◌≤◌, ◌+◌, ◌-◌, ◌/◌, ◌%◌, ◌==◌, ◌&&◌, ◌⊎◌, ℕ, max, min, Bool, Some, None, true, false, nat_le, nat_lt, if◌then◌else◌, refl}
use Rattle.std.proofs.Common.{arith, ap, subst, cond, inl, inr}
use Rattle.std.proofs.lemmas.Bool.{and_parts}
use Rattle.std.proofs.lemmas.Bool.Decides.{nat_tests}
use Rattle.std.proofs.lemmas.Nat.{div-mul-add, mod-mul-add}
use Rattle.label_lattice.specs.declared.pairs.Pair.{Pair}
use Rattle.label_lattice.specs.declared.pauses.Pause.{Pause}
use Rattle.label_lattice.specs.declared.pauses.PauseStep.{PauseStep}
use Rattle.label_lattice.specs.Pair.{pair_done, pair_extend}
use Rattle.label_lattice.specs.Pause.{pause_extend, pause_settled}
use Rattle.chain_search.specs.declared.clocks.Clock.{Clock}
use Rattle.chain_search.specs.declared.clocks.ClockStep.{ClockStep}
use Rattle.chain_search.specs.declared.hours.Hours.{Hours}
use Rattle.chain_search.specs.declared.hours.HoursMove.{HoursMove}
use Rattle.chain_search.specs.Clocks.{clock_at, clock_extend}
use Rattle.chain_search.specs.ClockLaws.{ticked}
use Rattle.chain_search.specs.PartLaws.{parts_of}
use Rattle.chain_search.specs.RoomLaws.{div_le}
use Rattle.chain_search.specs.Views.{CoarseLaws, GoesOn}
use Rattle.chain_search.specs.Hours.{age_after, age_of, hours_count, hours_move, hours_moves, hours_sees, hours_settled, hours_shows, hours_state, left_of, work_after}

means_le : (a b : ℕ) → nat_le a b ≡ true → a ≤ b
means_le a b h = grind (arith, nat_tests)

is_le : (a b : ℕ) → a ≤ b → nat_le a b ≡ true
is_le a b h = grind (arith, nat_tests)

means_over : (a b : ℕ) → nat_le a b ≡ false → b < a
means_over a b h = grind (arith, nat_tests)

not_under : (a b : ℕ) → b ≤ a → nat_lt a b ≡ false
not_under a b h = grind (arith, nat_tests)

le_trans : (a b c : ℕ) → a ≤ b → b ≤ c → a ≤ c
le_trans a b c p q = omega (arith, p, q)

both_true : (a b : Bool) → a ≡ true → b ≡ true → (a && b) ≡ true
both_true a b p q = cc

-- what a state says
state_age : (x y : ℕ) → hours_state x y / 4 ≤ x
state_age x y = let e : hours_state x y / 4 ≡ min x 31 = div-mul-add (min x 31) 4 (min y 3) (omega arith) in omega (arith, e)

state_left : (x y : ℕ) → hours_state x y % 4 ≤ y
state_left x y = let e : hours_state x y % 4 ≡ min y 3 = mod-mul-add (min x 31) 4 (min y 3) (omega arith) in omega (arith, e)

state_small : (x y : ℕ) → hours_state x y < 128
state_small x y = omega arith

settled_small : (by : HoursMove) (age ends : ℕ) → hours_settled by age ends < 128
settled_small by age ends = go (nat_le ends by.over)
  where
    go : (t : Bool) → cond t (hours_state (min age by.freed) 0) (hours_state age (ends - by.until)) < 128
    go true = state_small (min age by.freed) 0
    go false = state_small age (ends - by.until)

moves_small : (by : HoursMove) (state next : ℕ) → hours_moves by state ≡ Some next → next < 128
moves_small by state next is = go (nat_lt by.limit (state / 4)) is
  where
    go : (t : Bool) → cond t None (Some (hours_settled by (age_after by (state / 4)) (work_after by (state % 4)))) ≡ Some next → next < 128
    go true h = cc
    go false h =
        let same : hours_settled by (age_after by (state / 4)) (work_after by (state % 4)) ≡ next = cc in
        subst (λ (n : ℕ). n < 128) same (settled_small by (age_after by (state / 4)) (work_after by (state % 4)))

-- the greater of two begins as late as one of them
apart : (a b : ℕ) → (max a b ≡ a) ⊎ (max a b ≡ b)
apart a b = grind arith

div_max : (a b u : ℕ) → max a b / u ≤ max (a / u) (b / u)
div_max a b u = elim (apart a b) [
  | inl e ↦ let same : max a b / u ≡ a / u = ap (λ n. n / u) e in omega (arith, same)
  | inr e ↦ let same : max a b / u ≡ b / u = ap (λ n. n / u) e in omega (arith, same)
]

-- ages that go on are no greater than those of what goes on
kept_age : (age early from to latest : ℕ) → age ≤ early + 1 - latest → early ≤ from → (if age == 0 then 0 else (age + to - from)) ≤ to + 1 - latest
kept_age age early from to latest seen before = go (age == 0) refl
  where
    go : (t : Bool) → (age == 0) ≡ t → cond t 0 (age + to - from) ≤ to + 1 - latest
    go true e = omega arith
    go false e = let some : 0 < age = grind (arith, nat_tests) in omega (arith, some, seen, before)

older : (age fresh to latest renew : ℕ) → age ≤ to + 1 - latest → fresh ≡ to + 1 - renew → min age fresh ≤ to + 1 - max latest renew
older age fresh to latest renew p e = omega (arith, p, e)

ages_fall : (to a b : ℕ) → a ≤ b → to + 1 - b ≤ to + 1 - a
ages_fall to a b p = omega (arith, p)

-- what is left goes on to no more than until when work lasts
kept_work : (left since late busy : ℕ) → left ≤ busy - late → since ≤ late → (if left == 0 then 0 else (left + since)) ≤ busy
kept_work left since late busy seen before = go (left == 0) refl
  where
    go : (t : Bool) → (left == 0) ≡ t → cond t 0 (left + since) ≤ busy
    go true e = omega arith
    go false e = let some : 0 < left = grind (arith, nat_tests) in omega (arith, some, seen, before)

max_le : (a b c : ℕ) → a ≤ c → b ≤ c → max a b ≤ c
max_le a b c p q = omega (arith, p, q)

-- a step that a last free block takes
record Paused (a b : Pause) (step : PauseStep) : Type 0 where
  least : step.least ≤ a.latest
  is : pause_settled (max a.latest step.renew) (max a.busy step.busy) step.free ≡ b

paused : (a b : Pause) (step : PauseStep) → pause_extend a step ≡ Some b → Paused a b step
paused a b step is = by (nat_le step.least a.latest) refl is
  where
    by : (t : Bool) → nat_le step.least a.latest ≡ t → cond t (Some (pause_settled (max a.latest step.renew) (max a.busy step.busy) step.free)) None ≡ Some b → Paused a b step
    by true e h = record { least = means_le step.least a.latest e; is = cc }
    by false e h = cc

-- a block is seen at a time
abbrev SeenAt : ℕ → Pause → ℕ → Bool
SeenAt time b state = nat_le (state / 4) (time / 360 + 1 - b.latest / 360) && nat_le (state % 4) (b.busy / 480 - time / 480)

seen_state : (time : ℕ) (b : Pause) (age left : ℕ) → age ≤ time / 360 + 1 - b.latest / 360 → left ≤ b.busy / 480 - time / 480 → SeenAt time b (hours_state age left) ≡ true
seen_state time b age left p q =
    both_true _ _ (is_le (hours_state age left / 4) (time / 360 + 1 - b.latest / 360) (le_trans (hours_state age left / 4) age (time / 360 + 1 - b.latest / 360) (state_age age left) p))
    (is_le (hours_state age left % 4) (b.busy / 480 - time / 480) (le_trans (hours_state age left % 4) left (b.busy / 480 - time / 480) (state_left age left) q))

-- what is settled is seen
seen_settled : (by : HoursMove) (time latest busy free age ends : ℕ) → by.freed ≡ time / 360 + 1 - free / 360 → by.over ≡ free / 480 → by.until ≡ time / 480
    → age ≤ time / 360 + 1 - latest / 360 → ends ≤ busy / 480 → SeenAt time (pause_settled latest busy free) (hours_settled by age ends) ≡ true
seen_settled by time latest busy free age ends freed over until older_by lasts = go (nat_le busy free) (nat_le ends by.over) refl refl
  where
    freed_age : min age by.freed ≤ time / 360 + 1 - max latest free / 360
    freed_age =
        le_trans (min age by.freed) (time / 360 + 1 - max (latest / 360) (free / 360)) (time / 360 + 1 - max latest free / 360)
        (older age by.freed (time / 360) (latest / 360) (free / 360) older_by freed) (ages_fall (time / 360) (max latest free / 360) (max (latest / 360) (free / 360)) (div_max latest free 360))

    go : (s t : Bool) → nat_le busy free ≡ s → nat_le ends by.over ≡ t
        → SeenAt time (cond s (record { latest = max latest free; busy = 0 }) (record { latest = latest; busy = busy })) (cond t (hours_state (min age by.freed) 0) (hours_state age (ends - by.until))) ≡ true
    go true true e f = seen_state time (record { latest = max latest free; busy = 0 }) (min age by.freed) 0 freed_age (omega arith)
    go true false e f =
        let low : busy / 480 ≤ free / 480 = div_le busy free 480 (means_le busy free e) in
        let high = means_over ends by.over f in
        absurd (omega (arith, low, high, lasts, over))
    go false true e f = seen_state time (record { latest = latest; busy = busy }) (min age by.freed) 0 (omega (arith, older_by)) (omega arith)
    go false false e f = seen_state time (record { latest = latest; busy = busy }) age (ends - by.until) older_by (omega (arith, lasts, until))

goes : (by : HoursMove) (state : ℕ) (sees : ℕ → Bool) → state / 4 ≤ by.limit → sees (hours_settled by (age_after by (state / 4)) (work_after by (state % 4))) ≡ true → GoesOn sees (hours_moves by state)
goes by state sees within seen = record {
  next = hours_settled by (age_after by (state / 4)) (work_after by (state % 4));
  is = ap (λ (t : Bool). if t then None else Some (hours_settled by (age_after by (state / 4)) (work_after by (state % 4)))) (not_under by.limit (state / 4) within);
  passes = seen;
}

hours_along : (a b : Pair Clock Pause) (step : ClockStep × PauseStep) (state : ℕ) (view : Hours) → hours_sees view a state ≡ true → pair_extend clock_extend pause_extend a step ≡ Some b
    → GoesOn (hours_sees view b) (hours_moves (hours_move view step) state)
hours_along a b step state view sees is =
    let parts = parts_of (clock_extend a.first step.0) (pause_extend a.second step.1) b is in
    let t = ticked a.first b.first step.0 parts.first in
    let p = paused a.second b.second step.1 parts.second in
    let seen = and_parts (nat_le (state / 4) (age_of a)) (nat_le (state % 4) (left_of a)) sees in
    let age = means_le (state / 4) (age_of a) seen.0 in
    let left = means_le (state % 4) (left_of a) seen.1 in
    let by = hours_move view step in
    let early : a.first.early / 360 ≤ step.0.from / 360 = div_le a.first.early step.0.from 360 t.early in
    let late : step.0.from / 480 ≤ a.first.late / 480 = div_le step.0.from a.first.late 480 t.late in
    let least : step.1.least / 360 ≤ a.second.latest / 360 = div_le step.1.least a.second.latest 360 p.least in
    let older_by : age_after by (state / 4) ≤ step.0.to / 360 + 1 - max a.second.latest step.1.renew / 360 =
    le_trans (age_after by (state / 4)) (step.0.to / 360 + 1 - max (a.second.latest / 360) (step.1.renew / 360)) (step.0.to / 360 + 1 - max a.second.latest step.1.renew / 360)
    (older (if state / 4 == 0 then 0 else (state / 4 + by.to - by.from)) by.fresh (step.0.to / 360) (a.second.latest / 360) (step.1.renew / 360)
    (kept_age (state / 4) (a.first.early / 360) (step.0.from / 360) (step.0.to / 360) (a.second.latest / 360) age early) refl)
    (ages_fall (step.0.to / 360) (max a.second.latest step.1.renew / 360) (max (a.second.latest / 360) (step.1.renew / 360)) (div_max a.second.latest step.1.renew 360)) in
    let more : a.second.busy / 480 ≤ max a.second.busy step.1.busy / 480 = div_le a.second.busy (max a.second.busy step.1.busy) 480 (omega arith) in
    let added : step.1.busy / 480 ≤ max a.second.busy step.1.busy / 480 = div_le step.1.busy (max a.second.busy step.1.busy) 480 (omega arith) in
    let lasts : work_after by (state % 4) ≤ max a.second.busy step.1.busy / 480 =
    max_le (if state % 4 == 0 then 0 else (state % 4 + by.since)) by.busy (max a.second.busy step.1.busy / 480)
    (le_trans (if state % 4 == 0 then 0 else (state % 4 + by.since)) (a.second.busy / 480) (max a.second.busy step.1.busy / 480)
    (kept_work (state % 4) (step.0.from / 480) (a.first.late / 480) (a.second.busy / 480) left late) more) added in
    let settled = seen_settled by step.0.to (max a.second.latest step.1.renew) (max a.second.busy step.1.busy) step.1.free (age_after by (state / 4)) (work_after by (state % 4)) refl refl refl older_by lasts in
    goes by state (hours_sees view b) (within (state / 4) (a.first.early / 360) (step.0.from / 360) (a.second.latest / 360) (step.1.least / 360) age early least)
    (subst (λ (c : Clock). hours_sees view (record { first = c; second = b.second }) (hours_settled by (age_after by (state / 4)) (work_after by (state % 4))) ≡ true) t.is
    (subst (λ (c : Pause). hours_sees view (record { first = clock_at step.0.to; second = c }) (hours_settled by (age_after by (state / 4)) (work_after by (state % 4))) ≡ true) p.is settled))
  where
    within : (age early from latest least : ℕ) → age ≤ early + 1 - latest → early ≤ from → least ≤ latest → age ≤ from + 1 - least
    within age early from latest least p q r = omega (arith, p, q, r)

pub hours_laws : (view : Hours) → CoarseLaws (pair_extend clock_extend pause_extend) (pair_done {E = Unit {0}} {F = Unit {0}} (λ _ _. true) (λ _ _. true)) (hours_count view) (hours_shows view) (hours_sees view) (λ step. hours_moves (hours_move view step)) (λ state. true) (λ step. true) (λ end. true)
hours_laws view = record {
  shown = λ a. state_small (age_of a) (left_of a);
  seen = λ a. both_true _ _ (is_le (hours_state (age_of a) (left_of a) / 4) (age_of a) (state_age (age_of a) (left_of a))) (is_le (hours_state (age_of a) (left_of a) % 4) (left_of a) (state_left (age_of a) (left_of a)));
  stays = λ step state next less is. moves_small (hours_move view step) state next is;
  along = λ a b step state fits seen is. hours_along a b step state view seen is;
  final = λ a end state fits seen is. refl;
}
