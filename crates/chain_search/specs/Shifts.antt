-- What moves do to all states at once.
use Rattle.std.specs.Prelude.{◌≡◌, ◌-◌, ℕ, Option, Some}
use Rattle.chain_search.specs.declared.shifts.Shift.{Shift}
use Rattle.chain_search.specs.declared.shifts.Shift.TheVariants.{Less, Floor, Own}
use Rattle.chain_search.specs.Rooms.{less_by}

-- a state goes where the shift says; where it says nothing, anywhere
abbrev pub IsShifted : Shift → ℕ → Option ℕ → Type 0
IsShifted (Less by) state moved = moved ≡ less_by by state
IsShifted (Floor by) state moved = moved ≡ Some (state - by)
IsShifted Own state moved = Unit {0}
