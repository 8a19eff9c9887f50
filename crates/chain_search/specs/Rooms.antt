-- How many whole units a sum is below its cap.
use Rattle.std.specs.Prelude.{◌+◌, ◌-◌, ◌/◌, ◌==◌, ℕ, Bool, Option, Some, None, nat_le, if◌then◌else◌}
use Rattle.label_lattice.specs.declared.spans.Span.{Span}
use Rattle.label_lattice.specs.declared.spans.SpanStep.{SpanStep}
use Rattle.chain_search.specs.declared.rooms.Room.{Room}

abbrev pub room_count : Room → ℕ
room_count room = room.cap / room.unit + 1

abbrev pub room_shows : Room → Span → ℕ
room_shows room a = (room.cap - a.down) / room.unit

-- no less room than there is
abbrev pub room_sees : Room → Span → ℕ → Bool
room_sees room a state = nat_le (room_shows room a) state

-- so many units less, where there are as many
abbrev pub less_by : ℕ → ℕ → Option ℕ
less_by by state = if nat_le by state then Some (state - by) else None

abbrev pub room_move : Room → SpanStep → ℕ
room_move room step = step.down / room.unit

-- a step with this cap
abbrev pub room_fits : Room → SpanStep → Bool
room_fits room step = step.cap == room.cap
