-- How members are spelt in their three files.
use Rattle.std.specs.Prelude.{ℕ, ◌≤◌, List, [], ◌∷◌, ◌++◌, All, flat_map}
use Rattle.duty_calendar.specs.Calendar.{horizon_end}
use Rattle.duty_calendar.specs.declared.event.Event.{Event}
use Rattle.duty_calendar.specs.declared.event.Flown.{Flown}
use Rattle.duty_calendar.specs.declared.horizon.Horizon.{Horizon}
use Rattle.duty_calendar.specs.declared.member.Member.{Member}
use Rattle.field_text.specs.Rows.{line}
use Rattle.field_text.specs.Spelling.{minutes_text, moment_text, kind_text}
use Rattle.crew_files.specs.declared.part.Part.{Part}
use Rattle.crew_files.specs.Crew.{crew_header}
use Rattle.crew_files.specs.Events.{event_header, part_of}

-- fields, each behind a comma
abbrev pub behind_commas : List (List ℕ) → List ℕ
behind_commas fields = flat_map (λ f. 44 ∷ f) fields

-- the fields of a member
abbrev pub crew_fields : Member → List (List ℕ)
crew_fields m = m.name ∷ minutes_text m.low ∷ minutes_text m.high ∷ []

abbrev pub flight_text : Horizon → Flown → List ℕ
flight_text h f = moment_text h f.out_at ++ 47 ∷ moment_text h f.in_at

-- flights, joined by one blank
abbrev pub flights_text : Horizon → List Flown → List ℕ
flights_text h [] = []
flights_text h (f ∷ fs) = flight_text h f ++ flat_map (λ g. 32 ∷ flight_text h g) fs

abbrev pub times_fields : Horizon → Event → List (List ℕ)
times_fields h e = moment_text h e.report ∷ moment_text h e.parked ∷ moment_text h e.release ∷ []

-- the fields of an event of the member of this name
abbrev pub event_fields : Horizon → List ℕ → Event → List (List ℕ)
event_fields h name e =
    name ∷ kind_text e.kind
    ∷ (times_fields h e ++ flights_text h e.flights ∷ minutes_text e.credit ∷ [])

-- the three files: the header, and a line for each member or each event of each member
abbrev pub crew_text : List Member → List ℕ
crew_text members = line crew_header ++ flat_map (λ m. line (crew_fields m)) members

abbrev pub events_of_member : Horizon → Part → Member → List ℕ
events_of_member h part m = flat_map (λ e. line (event_fields h m.name e)) (part_of part m)

abbrev pub events_text : Horizon → Part → List Member → List ℕ
events_text h part members = line event_header ++ flat_map (events_of_member h part) members

-- no minute of a flight lies behind the horizon
abbrev pub FlightEndsWithin : Horizon → Flown → Type 0
FlightEndsWithin h f = (f.out_at ≤ horizon_end h) × (f.in_at ≤ horizon_end h)

-- nor of an event
pub record EndsWithin (h : Horizon) (e : Event) : Type 0 where
  pub report : e.report ≤ horizon_end h
  pub parked : e.parked ≤ horizon_end h
  pub release : e.release ≤ horizon_end h
  pub flights : All (FlightEndsWithin h) e.flights

-- nor of a member
pub record LiesWithin (h : Horizon) (m : Member) : Type 0 where
  pub history : All (EndsWithin h) m.history
  pub fixed : All (EndsWithin h) m.fixed
