-- The places of keys, in a map and in a list.
use Rattle.std.specs.Prelude.{◌≡◌, ◌<◌, ◌≤◌, ℕ, true, false, List, [], length, take, slice_index_or, Option, Some, None, if◌then◌else◌}
use Rattle.std.specs.BTreeMap.{BTreeMap, get}
use Rattle.std.specs.Cmp.Lexicographic.{slice_cmp}
use Rattle.std.specs.Ordering.{nat_cmp}
use Rattle.cert_text.specs.Spelling.{is_kept, place_in}

-- where a key stands, if it is one of these
abbrev pub place_if : List (List ℕ) → List ℕ → Option ℕ
place_if keys key = if is_kept keys key then Some (place_in keys key) else None

-- the map has each of these keys with its place, and no other key
abbrev pub ArePlaced : List (List ℕ) → BTreeMap (List ℕ) ℕ → Type 0
ArePlaced keys places = (key : List ℕ) → get (slice_cmp nat_cmp) places key ≡ place_if keys key

-- no key stands twice
abbrev pub AreFresh : List (List ℕ) → Type 0
AreFresh keys = (i : ℕ) → i < length keys → is_kept (take i keys) (slice_index_or keys i []) ≡ false

-- so many keys are distinct, and the next one, if there is one, repeats one of them
pub record AreFreshTo (keys : List (List ℕ)) (count : ℕ) : Type 0 where
  pub within : count ≤ length keys
  pub fresh : AreFresh (take count keys)
  pub repeats : count < length keys → is_kept (take count keys) (slice_index_or keys count []) ≡ true
