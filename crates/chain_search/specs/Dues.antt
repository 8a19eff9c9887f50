-- How many units a sum is below the low end.
use Rattle.std.specs.Prelude.{◌+◌, ◌-◌, ◌*◌, ◌/◌, ◌^◌, ℕ, Bool, nat_le, nat_lt, if◌then◌else◌}
use Rattle.label_lattice.specs.declared.spans.Span.{Span}
use Rattle.label_lattice.specs.declared.spans.SpanStep.{SpanStep}
use Rattle.label_lattice.specs.declared.spans.SpanEnd.{SpanEnd}
use Rattle.chain_search.specs.declared.dues.Due.{Due}

-- whole units, and one more for what is left
abbrev pub units_over : ℕ → ℕ → ℕ
units_over amount unit = amount / unit + (if nat_lt (amount / unit * unit) amount then 1 else 0)

abbrev pub due_count : Due → ℕ
due_count due = units_over due.low due.unit + 1

abbrev pub due_shows : Due → Span → ℕ
due_shows due a = units_over (due.low - a.up) due.unit

-- no more than is due
abbrev pub due_sees : Due → Span → ℕ → Bool
due_sees due a state = nat_le state (due_shows due a)

abbrev pub due_move : Due → SpanStep → ℕ
due_move due step = units_over step.up due.unit

-- the low end is one that sums can reach
abbrev pub due_fits : Due → SpanStep → Bool
due_fits due step = nat_le due.low (2 ^ 31)

-- an end that asks for no less
abbrev pub due_fits_end : Due → SpanEnd → Bool
due_fits_end due end = nat_le due.low end.low
