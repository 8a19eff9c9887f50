-- The time at a place, between an early and a late one. A step goes on from one time within them to another.
use Rattle.std.specs.Prelude.{ℕ, ◌&&◌, max, min, Bool, Option, Some, None, nat_le, if◌then◌else◌}
use Rattle.chain_search.specs.declared.clocks.Clock.{Clock}
use Rattle.chain_search.specs.declared.clocks.ClockStep.{ClockStep}

abbrev pub clock_below : Clock → Clock → Bool
clock_below a b = nat_le a.early b.early && nat_le b.late a.late

abbrev pub clock_meet : Clock → Clock → Clock
clock_meet a b = record { early = min a.early b.early; late = max a.late b.late }

-- just this time
abbrev pub clock_at : ℕ → Clock
clock_at time = record { early = time; late = time }

abbrev pub clock_extend : Clock → ClockStep → Option Clock
clock_extend a step = if nat_le a.early step.from && nat_le step.from a.late then Some (clock_at step.to) else None

abbrev pub clock_rank : Clock → ℕ
clock_rank a = a.early
