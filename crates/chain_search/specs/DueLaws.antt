-- The laws of `Due`.
use Rattle.std.specs.Prelude.{◌≡◌, ◌<◌, ◌≤◌, ◌+◌, ◌-◌, ◌*◌, ◌/◌, ◌==◌, ◌^◌, ◌⊎◌, ℕ, zero, suc, Bool, Some, true, false, nat_le, nat_lt, if◌then◌else◌, refl}
use Rattle.std.proofs.Common.{arith, sym, ◌∙◌, ap, subst, inl, inr}
use Rattle.std.proofs.lemmas.Bool.Decides.{nat_tests}
use Rattle.std.proofs.Math.Nat.{div-zero, lt-div-mul-add, mul-div_cancel, zero-div}
use Rattle.label_lattice.specs.Span.{span_extend, span_done}
use Rattle.chain_search.specs.declared.dues.Due.{Due}
use Rattle.chain_search.specs.Views.{CoarseLaws}
use Rattle.chain_search.specs.Dues.{due_count, due_fits, due_fits_end, due_move, due_sees, due_shows, units_over}
use Rattle.chain_search.specs.RoomLaws.{div_le, taken}

over_zero : (u : ℕ) → units_over 0 u ≡ 0
over_zero u = let z : 0 / u ≡ 0 = zero-div u in grind (arith, nat_tests)

-- as many units as needed reach the amount
more_mul : (a u : ℕ) → (a + 1) * u ≡ a * u + u
more_mul a u = omega arith

over_enough : (x u : ℕ) → 0 < u → x ≤ units_over x u * u
over_enough x u some =
    let high : x < x / u * u + u = lt-div-mul-add some in
    let more : (x / u + 1) * u ≡ x / u * u + u = more_mul (x / u) u in
    go (nat_lt (x / u * u) x) refl
  where
    go : (t : Bool) → nat_lt (x / u * u) x ≡ t → x ≤ (x / u + (if t then 1 else 0)) * u
    go true e = let more = more_mul (x / u) u in let high : x < x / u * u + u = lt-div-mul-add some in omega (arith, more, high)
    go false e = let low : x ≤ x / u * u = grind (arith, nat_tests) in subst (λ n. x ≤ n * u) (omega arith) low

apart : (a b : ℕ) → a ≤ b → (a ≡ b) ⊎ (a < b)
apart a b h = grind arith

-- and no fewer do
over_least : (x u m : ℕ) → 0 < u → x ≤ m * u → units_over x u ≤ m
over_least x u m some p =
    go (nat_lt (x / u * u) x) refl
  where
    most : x / u ≤ m
    most = let a = div_le x (m * u) u p in let b : m * u / u ≡ m = mul-div_cancel m some in omega (arith, a, b)

    go : (t : Bool) → nat_lt (x / u * u) x ≡ t → x / u + (if t then 1 else 0) ≤ m
    go true e =
        let less : x / u * u < x = grind (arith, nat_tests) in
        elim (apart (x / u) m most) [
          | inl same ↦ absurd (let e : x / u * u ≡ m * u = ap (λ n. n * u) same in omega (arith, e, less, p))
          | inr below ↦ omega (arith, below)
        ]
    go false e = let m = most in omega (arith, m)

over_le : (a b u : ℕ) → a ≤ b → units_over a u ≤ units_over b u
over_le a b zero p = let x : a / zero ≡ 0 = div-zero a in let y : b / zero ≡ 0 = div-zero b in grind (arith, nat_tests)
over_le a b (suc u) p = over_least a (suc u) (units_over b (suc u)) (omega arith) (let e = over_enough b (suc u) (omega arith) in omega (arith, e, p))

add_mul : (a q u : ℕ) → (a + q) * u ≡ a * u + q * u
add_mul a q u = omega arith

-- an amount takes no more units than its parts
over_parts : (x d u : ℕ) → units_over x u ≤ units_over (x - d) u + units_over d u
over_parts x d zero = none (x / zero) ((x - d) / zero) (d / zero) x d (div-zero x) (div-zero (x - d)) (div-zero d)
  where
    none : (a b c x d : ℕ) → a ≡ 0 → b ≡ 0 → c ≡ 0 → a + (if nat_lt (a * zero) x then 1 else 0) ≤ b + (if nat_lt (b * zero) (x - d) then 1 else 0) + (c + (if nat_lt (c * zero) d then 1 else 0))
    none a b c x d p q r = grind (arith, nat_tests)
over_parts x d (suc u) =
    let some : 0 < suc u = omega arith in
    over_least x (suc u) (units_over (x - d) (suc u) + units_over d (suc u)) some
    (let p = over_enough (x - d) (suc u) some in let q = over_enough d (suc u) some in let both = add_mul (units_over (x - d) (suc u)) (units_over d (suc u)) (suc u) in omega (arith, p, q, both))

means_le : (a b : ℕ) → nat_le a b ≡ true → a ≤ b
means_le a b h = grind (arith, nat_tests)

is_le : (a b : ℕ) → a ≤ b → nat_le a b ≡ true
is_le a b h = grind (arith, nat_tests)

pub due_laws : (due : Due) → CoarseLaws span_extend span_done (due_count due) (due_shows due) (due_sees due) (λ step state. Some (state - due_move due step)) (λ state. state == 0) (due_fits due) (due_fits_end due)
due_laws due = record {
  shown = λ a. let less = over_le (due.low - a.up) due.low due.unit (omega arith) in omega (arith, less);
  seen = λ a. is_le (due_shows due a) (due_shows due a) (omega arith);
  stays = λ step state next less is. let same : state - due_move due step ≡ next = cc in omega (arith, same, less);
  along = λ a b step state fits seen is.
      let most : due.low ≤ 2 ^ 31 = means_le due.low (2 ^ 31) fits in
      let t = taken a b step is in
      let up = t.up in
      let missing : due.low - b.up ≡ due.low - a.up - step.up = omega (arith, up, most) in
      let parts = over_parts (due.low - a.up) step.up due.unit in
      let before = means_le state (due_shows due a) seen in
      let after : state - due_move due step ≤ units_over (due.low - a.up - step.up) due.unit = omega (arith, parts, before) in
      record {
        next = state - due_move due step;
        is = refl;
        passes = is_le (state - due_move due step) (due_shows due b) (subst (λ n. state - due_move due step ≤ units_over n due.unit) (sym missing) after);
      };
  final = λ a end state fits seen is.
      let least : due.low ≤ end.low = means_le due.low end.low fits in
      let enough : end.low ≤ a.up = means_le end.low a.up is in
      let none : due.low - a.up ≡ 0 = omega (arith, least, enough) in
      let zero_units : units_over (due.low - a.up) due.unit ≡ 0 = ap (λ n. units_over n due.unit) none ∙ over_zero due.unit in
      let before = means_le state (due_shows due a) seen in
      is_zero state (omega (arith, before, zero_units));
} where
  is_zero : (n : ℕ) → n ≡ 0 → (n == 0) ≡ true
  is_zero n e = grind (arith, nat_tests)
