-- How much the files may hold, and the numbers by which these limits are printed.
use Rattle.std.specs.Prelude.{ℕ}
use Rattle.crew_files.specs.declared.part.Part.{Part}
use Rattle.crew_files.specs.declared.part.Part.TheVariants.{History, Fixed}

abbrev pub most_members : ℕ
most_members = 200

abbrev pub members_limit : ℕ
members_limit = 1

-- flights of an event
abbrev pub most_flights : ℕ
most_flights = 8

abbrev pub flights_limit : ℕ
flights_limit = 4

-- minutes of an event's credit, and of a member's greatest credit
abbrev pub most_credit : ℕ
most_credit = 12000

abbrev pub credit_limit : ℕ
credit_limit = 6

-- events of a part of a member
abbrev pub most_events : Part → ℕ
most_events History = 500
most_events Fixed = 60

abbrev pub events_limit : Part → ℕ
events_limit History = 7
events_limit Fixed = 8
