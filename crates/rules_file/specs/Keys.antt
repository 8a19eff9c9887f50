-- The keys of the rules, and those that a table lacks or has beside them.
use Rattle.std.specs.Prelude.{ℕ, List, [], ◌∷◌, Bool, codes, bytes_eq, is_none, find, Option, Some, None, if◌then◌else◌}
use Rattle.std.specs.List.{list_any}
use Rattle.std.specs.Ordering.{nat_cmp, is_lt}
use Rattle.std.specs.Cmp.Lexicographic.{slice_cmp}
use Rattle.toml.specs.Data.{Members, no_members, member, get_member}

-- the keys in the order of the format
abbrev pub keys : List (List ℕ)
keys = codes "base" ∷ codes "seat" ∷ codes "year" ∷ codes "month" ∷ codes "offset"
    ∷ codes "days_off" ∷ []

abbrev pub is_known : List ℕ → Bool
is_known key = list_any (λ k. bytes_eq k key) keys

-- the first of the keys that the table lacks
unfoldable pub missing : Members → Option (List ℕ)
missing table = find (λ k. is_none (get_member k table)) keys

-- the lesser of a key and another, in byte order
abbrev pub lesser : List ℕ → Option (List ℕ) → Option (List ℕ)
lesser k None = Some k
lesser k (Some l) = if is_lt (slice_cmp nat_cmp l k) then Some l else Some k

-- the least key of the table that is none of the keys
unfoldable pub unknown : Members → Option (List ℕ)
unknown no_members = None
unknown (member k d ms) = if is_known k then unknown ms else lesser k (unknown ms)
