-- The laws of `Room`.
use Rattle.std.specs.Prelude.{◌≡◌, ◌<◌, ◌≤◌, ◌+◌, ◌-◌, ◌*◌, ◌/◌, ◌==◌, ◌^◌, ℕ, min, zero, suc, Bool, Some, None, true, false, nat_le, refl}
use Rattle.std.proofs.Common.{arith, sym, ap, subst, cond}
use Rattle.std.proofs.lemmas.Bool.Decides.{nat_tests}
use Rattle.std.proofs.Math.Nat.{div-zero, div-mul-le_self}
use Rattle.std.proofs.lemmas.Nat.{le-div}
use Rattle.label_lattice.specs.declared.spans.Span.{Span}
use Rattle.label_lattice.specs.declared.spans.SpanStep.{SpanStep}
use Rattle.label_lattice.specs.Span.{span_extend, span_done}
use Rattle.chain_search.specs.declared.rooms.Room.{Room}
use Rattle.chain_search.specs.Views.{CoarseLaws, GoesOn}
use Rattle.chain_search.specs.Rooms.{less_by, room_count, room_fits, room_move, room_sees, room_shows}

pub div_le : (a b u : ℕ) → a ≤ b → a / u ≤ b / u
div_le a b zero p = let x : a / zero ≡ zero = div-zero a in omega (arith, x)
div_le a b (suc u) p = le-div (a / suc u) b (suc u) (omega arith) (let q = div-mul-le_self a (suc u) in omega (arith, q, p))

pub same_number : (a b : ℕ) → (a == b) ≡ true → a ≡ b
same_number a b h = grind (arith, nat_tests)

-- whole units of two amounts are no more than those of both together
add_units : (x y u : ℕ) → x / u + y / u ≤ (x + y) / u
add_units x y zero = let a : x / zero ≡ 0 = div-zero x in let b : y / zero ≡ 0 = div-zero y in omega (arith, a, b)
add_units x y (suc u) =
    le-div (x / suc u + y / suc u) (x + y) (suc u) (omega arith)
    (let p = div-mul-le_self x (suc u) in let q = div-mul-le_self y (suc u) in let both = both_mul (x / suc u) (y / suc u) (suc u) in omega (arith, p, q, both))
  where
    both_mul : (a b n : ℕ) → (a + b) * n ≡ a * n + b * n
    both_mul a b n = omega arith

-- a step that is taken
pub record Taken (a b : Span) (step : SpanStep) : Type 0 where
  pub capped : a.down + step.down ≤ step.cap
  pub down : b.down ≡ a.down + step.down
  pub up : b.up ≡ min (a.up + step.up) (2 ^ 31)

pub taken : (a b : Span) (step : SpanStep) → span_extend a step ≡ Some b → Taken a b step
taken a b step is = by (nat_le (a.down + step.down) step.cap) refl is
  where
    by : (t : Bool) → nat_le (a.down + step.down) step.cap ≡ t → cond t (Some (record { down = a.down + step.down; up = min (a.up + step.up) (2 ^ 31) })) None ≡ Some b → Taken a b step
    by true e h =
        let same : record { down = a.down + step.down; up = min (a.up + step.up) (2 ^ 31) } ≡ b = cc in
        record { capped = grind (arith, nat_tests); down = ap (λ (x : Span). x.down) (sym same); up = ap (λ (x : Span). x.up) (sym same) }
    by false e h = cc

less_some : (by state next : ℕ) → by ≤ state → next ≡ state - by → less_by by state ≡ Some next
less_some by state next p e = subst (λ n. less_by by state ≡ Some n) (sym e) (grind (arith, nat_tests))

less_stays : (by state next count : ℕ) → state < count → less_by by state ≡ Some next → next < count
less_stays by state next count less is = go (nat_le by state) is
  where
    go : (t : Bool) → cond t (Some (state - by)) None ≡ Some next → next < count
    go true h = let same : state - by ≡ next = cc in omega (arith, same, less)
    go false h = cc

means_le : (a b : ℕ) → nat_le a b ≡ true → a ≤ b
means_le a b h = grind (arith, nat_tests)

is_le : (a b : ℕ) → a ≤ b → nat_le a b ≡ true
is_le a b h = grind (arith, nat_tests)

-- less room than a state has leaves no more than the next state has
left_by : (cap down d unit state : ℕ) → down + d ≤ cap → (cap - down) / unit ≤ state → GoesOn (nat_le ((cap - (down + d)) / unit)) (less_by (d / unit) state)
left_by cap down d unit state within seen =
    let parts = add_units (cap - (down + d)) d unit in
    let whole : cap - (down + d) + d ≡ cap - down = omega (arith, within) in
    let less : (cap - (down + d)) / unit + d / unit ≤ (cap - down) / unit = subst (λ n. (cap - (down + d)) / unit + d / unit ≤ n / unit) whole parts in
    record {
      next = state - d / unit;
      is = less_some (d / unit) state (state - d / unit) (omega (arith, less, seen)) refl;
      passes = is_le ((cap - (down + d)) / unit) (state - d / unit) (omega (arith, less, seen));
    }

room_along : (room : Room) (a b : Span) (step : SpanStep) (state : ℕ) → room_fits room step ≡ true → room_sees room a state ≡ true → span_extend a step ≡ Some b
    → GoesOn (room_sees room b) (less_by (room_move room step) state)
room_along room a b step state fits seen is =
    let cap : step.cap ≡ room.cap = same_number step.cap room.cap fits in
    let t = taken a b step is in
    let capped = t.capped in
    subst (λ n. GoesOn (nat_le ((room.cap - n) / room.unit)) (less_by (room_move room step) state)) (sym t.down)
    (left_by room.cap a.down step.down room.unit state (omega (arith, cap, capped)) (means_le (room_shows room a) state seen))

pub room_laws : (room : Room) → CoarseLaws span_extend span_done (room_count room) (room_shows room) (room_sees room) (λ step. less_by (room_move room step)) (λ state. true) (room_fits room) (λ end. true)
room_laws room = record {
  shown = λ a. let less = div_le (room.cap - a.down) room.cap room.unit (omega arith) in omega (arith, less);
  seen = λ a. is_le (room_shows room a) (room_shows room a) (omega arith);
  stays = λ step state next less is. less_stays (room_move room step) state next (room_count room) less is;
  along = room_along room;
  final = λ a end state fits seen is. refl;
}
