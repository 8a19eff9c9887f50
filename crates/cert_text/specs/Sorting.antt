-- Lines beside their places, sorted.
use Rattle.std.specs.Prelude.{◌≡◌, ◌<◌, ◌≤◌, ◌+◌, ◌*◌, ◌^◌, ◌%◌, ℕ, Bool, true, ◌&&◌, nat_lt, nat_eq, min, if◌then◌else◌, List, [], ◌∷◌, length, slice_index_or}
use Rattle.std.specs.Borrow.{Bor}
use Rattle.std.specs.declared.cmp.Ordering.{Ordering}
use Rattle.std.specs.Cmp.Lexicographic.{slice_cmp, pointwise}
use Rattle.std.specs.Ordering.{nat_cmp, ordering_then}

-- a number that like lines share: sorting compares it first
unfoldable pub digest_from : ℕ → List ℕ → ℕ
digest_from n [] = n
digest_from n (b ∷ bs) = digest_from ((31 * n + b) % 2 ^ 56) bs

-- a line between its number and its place
abbrev pub Placed : Type 0
Placed = ℕ × Bor (List ℕ) × ℕ

-- each line is beside its own place
pub record ArePairs (lines : List (Bor (List ℕ))) (pairs : List Placed) : Type 0 where
  pub long : length pairs ≡ length lines
  pub each : (i : ℕ) (d : Placed) → i < length lines → slice_index_or pairs i d
      ≡ (digest_from 0 (slice_index_or lines i d.1).now, slice_index_or lines i d.1, i)

-- lines that are alike stand by their places
abbrev pub pair_cmp : Placed → Placed → Ordering
pair_cmp x y = ordering_then
    (ordering_then (nat_cmp x.0 y.0) (slice_cmp nat_cmp x.1.now y.1.now)) (nat_cmp x.2 y.2)

abbrev pub is_repeat : Placed → Placed → Bool
is_repeat x y = pointwise nat_eq x.1.now y.1.now && nat_lt x.2 y.2

abbrev pub lower : ℕ → Placed → Placed → ℕ
lower least x y = if is_repeat x y then min least y.2 else least

-- the line behind the one at i repeats it, and has this place
pub record RepeatsAt (pairs : List Placed) (i place : ℕ) : Type 0 where
  pub within : i + 1 < length pairs
  pub repeats : (d : Placed) → is_repeat (slice_index_or pairs i d) (slice_index_or pairs (i + 1) d) ≡ true
  pub at : (d : Placed) → (slice_index_or pairs (i + 1) d).2 ≡ place

-- the least such place, up to a count
pub record IsLeast (pairs : List Placed) (count least : ℕ) : Type 0 where
  pub low : least ≤ count
  pub at : least < count → (i : ℕ) × RepeatsAt pairs i least
  pub first : (i place : ℕ) → RepeatsAt pairs i place → least ≤ place
