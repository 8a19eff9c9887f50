-- Which places of a line graph are joined: none that must be flown is passed over, and what is flown in a row fits.
use Rattle.std.specs.List.{list_any, range_with_len}
use Rattle.std.specs.Prelude.{ℕ, ◌+◌, ◌-◌, Bool, not, ◌&&◌, nat_lt}

-- a later place that may be visited, with no place between that must be, and the two fit
abbrev pub joins_by : (ℕ → Bool) → (ℕ → Bool) → (ℕ → ℕ → Bool) → ℕ → ℕ → Bool
joins_by may must near i j =
    nat_lt i j && (may j && (near i j && not (list_any must (range_with_len (i + 1) (j - (i + 1))))))
