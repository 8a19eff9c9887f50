-- Room for one label more, and what is left beside the labels of one place more.
use Rattle.std.proofs.Common.{◌≡◌, ◌≤◌, ◌+◌, ◌-◌, ◌*◌, ℕ, vec_capacity, true, false, Option, Some, None, refl, subst, arith}
use Rattle.std.specs.Prelude.{nat_le, IsErrAnd, IsErrOf, Result, Ok, Err}
use Rattle.std.proofs.lemmas.Bool.Decides.{nat_tests}
use Rattle.label_setter.specs.Rooms.{IsWithin, IsOver, is_full}
use Rattle.label_setter.specs.Spots.{IsReserved, Serves}
use Rattle.label_setter.specs.declared.spots.Spot.{Spot}
use Rattle.label_setter.specs.declared.table.Desk.{Desk}

same_room : (a b : ℕ) → Some a ≡ Some b → a ≡ b
same_room a b e = cc

over_room : (room old count : ℕ) → old ≤ room → count ≤ old → nat_le room count ≡ true → count + 1 ≡ room + 1
over_room room old count p q r = grind (arith, nat_tests)

under_room : (room count : ℕ) → nat_le room count ≡ false → count + 1 ≤ room
under_room room count p = grind (arith, nat_tests)

pub full_over : (old count : ℕ) (left : Option ℕ) → IsWithin old left → count ≤ old → is_full count left ≡ true → IsOver (count + 1) left
full_over old count (Some room) within less e = record { room = room; is = refl; over = over_room room old count (within room refl) less e }
full_over old count None within less e = cc

pub not_full_within : (count : ℕ) (left : Option ℕ) → is_full count left ≡ false → IsWithin (count + 1) left
not_full_within count (Some most) e room is = subst (λ r. count + 1 ≤ r) (same_room most room is) (under_room most count e)
not_full_within count None e room is = cc

pub within_less : (old count : ℕ) (left : Option ℕ) → IsWithin old left → count ≤ old → IsWithin count left
within_less old count left within less room is = let h = within room is in omega arith

-- what is left of the room beside so many labels
abbrev pub IsLeft : Option ℕ → Option ℕ → ℕ → Type 0
IsLeft room left total = (free : ℕ) → left ≡ Some free → room ≡ Some (free + total)

pub left_more : (room left next : Option ℕ) (total count : ℕ) → IsLeft room left total → ((free : ℕ) → next ≡ Some free → left ≡ Some (free + count)) → IsLeft room next (total + count)
left_more room left next total count so_far here free is =
    let same : free + count + total ≡ free + (total + count) = omega arith in
    subst (λ n. room ≡ Some n) same (so_far (free + count) (here free is))

-- the error that a call hands on is the one that it was given
pub same_error : {X E : Type 0} (r : Result X E) (given full : E) → IsErrAnd r (λ e. e ≡ given) → IsErrOf r full → given ≡ full
same_error (Ok x) given full is stops = absurd is
same_error (Err e) given full is stops = cc

-- what is left of the room, and how many labels stand, where the room has an end
abbrev pub IsBounded : Option ℕ → Option ℕ → ℕ → Type 0
IsBounded room left count = (most : ℕ) → room ≡ Some most → (left ≡ Some (most - count)) × (count ≤ most)

pub serves_left : {R : Type 0} (room left : Option ℕ) (count : ℕ) (spot : Spot R) → IsBounded room left count → Serves room spot → Serves left spot
serves_left room left count spot bounded serves =
    let labels = serves.labels in
    let groups = serves.groups in
    record { room = serves.room - count; is = (bounded serves.room serves.is).0; labels = omega arith; groups = omega arith; finds = serves.finds; some = serves.some }

pub bounded_more : (room left next : Option ℕ) (count more total : ℕ) → total ≡ count + more → IsBounded room left count → IsWithin more left → ((most : ℕ) → left ≡ Some most → next ≡ Some (most - more)) → IsBounded room next total
bounded_more room left next count more total sum bounded within is most here =
    let before = bounded most here in
    let few = within (most - count) before.0 in
    let le = before.1 in
    (subst (λ n. next ≡ Some n) (omega (arith, sum)) (is (most - count) before.0), omega (arith, sum, few, le))

pub reserved_by : {R : Type 0} (room : Option ℕ) (places arcs : ℕ) (old new : Desk R) → ((any : Option ℕ) → Serves any old.spot → Serves any new.spot) → vec_capacity old.labels ≤ vec_capacity new.labels → vec_capacity old.rows ≤ vec_capacity new.rows → vec_capacity old.order ≤ vec_capacity new.order → IsReserved room places arcs old → IsReserved room places arcs new
reserved_by room places arcs old new serves labels rows order reserved =
    let r = reserved.rows in
    let o = reserved.order in
    record {
      serves = serves room reserved.serves;
      labels = λ most is. let l = reserved.labels most is in omega arith;
      rows = omega arith;
      order = omega arith;
    }

-- what is reserved, in single bounds
pub reserved_from : {R : Type 0} (room places arcs : ℕ) (desk : Desk R) → room ≤ vec_capacity desk.spot.here → room ≤ vec_capacity desk.spot.buckets * 16 → desk.spot.most ≤ vec_capacity desk.spot.found → 1 ≤ desk.spot.most → room ≤ vec_capacity desk.labels → places ≤ vec_capacity desk.rows → arcs ≤ vec_capacity desk.order
    → IsReserved (Some room) places arcs desk
reserved_from room places arcs desk here buckets found some labels rows order = record {
  serves = record { room = room; is = refl; labels = here; groups = buckets; finds = found; some = some };
  labels = λ most is. let same = same_room room most is in omega arith;
  rows = rows;
  order = order;
}

pub serves_here : {R : Type 0} (room : ℕ) (spot : Spot R) → Serves (Some room) spot → room ≤ vec_capacity spot.here
serves_here room spot s = let same = same_room room s.room s.is in let l = s.labels in omega arith

pub serves_buckets : {R : Type 0} (room : ℕ) (spot : Spot R) → Serves (Some room) spot → room ≤ vec_capacity spot.buckets * 16
serves_buckets room spot s = let same = same_room room s.room s.is in let l = s.groups in omega arith
