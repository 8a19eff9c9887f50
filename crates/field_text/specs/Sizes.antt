-- How long a text may be.
use Rattle.std.specs.Prelude.{ℕ, ◌^◌}

-- the most bytes of a text or a field
abbrev pub longest : ℕ
longest = 2 ^ 31
