-- Counts of labels, and the room for them. No number is room without end.
use Rattle.std.specs.Prelude.{◌≡◌, ◌≤◌, ◌+◌, ℕ, Option, Some, None, Bool, false, nat_le}

-- so many have room
abbrev pub IsWithin : ℕ → Option ℕ → Type 0
IsWithin count left = (room : ℕ) → left ≡ Some room → count ≤ room

-- one of so many has no room
pub record IsOver (count : ℕ) (left : Option ℕ) : Type 0 where
  pub room : ℕ
  pub is : left ≡ Some room
  pub over : count ≡ room + 1

-- no label more has room beside so many
abbrev pub is_full : ℕ → Option ℕ → Bool
is_full count (Some room) = nat_le room count
is_full count None = false
